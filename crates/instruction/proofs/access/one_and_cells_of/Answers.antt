-- One cell and those of a table.
use Rattle.instruction.proofs.Sets.{one-table-set}
use Rattle.instruction.proofs.access.one_and_cells_of.Goals as goal

pub returns : goal.returns
returns c = one-table-set c.args.a c.args.base c.args.len c.single.ensures c.cells_of.ensures c.union.ensures
