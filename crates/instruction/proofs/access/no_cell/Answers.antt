-- No cell.
use Rattle.instruction.proofs.Sets.{no_span}
use Rattle.instruction.proofs.access.no_cell.Goals as goal

pub returns : goal.returns
returns c = no_span 0
