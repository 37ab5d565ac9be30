-- The base and the place of the index.
use Rattle.execution.proofs.Parts.{table-at}
use Rattle.execution.proofs.table_cell.Goals as goal

pub returns : goal.returns
returns c = table-at _ _ _ _ c.requires c.place.ensures
