-- Cells, marks and registers are stored one behind the other.
-- Assumes nothing.
use Rattle.layout.proofs.Turning.{state-stored}
use Rattle.layout.proofs.store_parts.Goals as goal

pub returns : goal.returns
returns c =
    state-stored _ _ _ _ c.requires.1 c.requires.2 c.requires.0
    c.store_cells.ensures c.store_marks.ensures c.store_regs.ensures
