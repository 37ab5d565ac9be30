-- The cells of the span make the set.
use Rattle.instruction.proofs.Sets.{span_set}
use Rattle.instruction.proofs.access.must_def.Goals as goal

pub returns : goal.returns
returns c = span_set _ _ c.sure_cells-s.ensures c.cells_of.ensures
