-- The cells of a table.
use Rattle.instruction.proofs.Sets.{table-set}
use Rattle.instruction.proofs.access.cells_of.Goals as goal

pub returns : goal.returns
returns c = table-set c.args.base c.args.len c.range.ensures
