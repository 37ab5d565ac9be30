-- One cell.
use Rattle.instruction.proofs.Sets.{one_span}
use Rattle.instruction.proofs.access.one_cell.Goals as goal

pub returns : goal.returns
returns c = one_span c.args.d
