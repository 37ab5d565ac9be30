-- `step::begin_save`: the save begins where it fits.
-- Assumes nothing.
use mathlib.Core.Path.{sym, ◌∙◌}
use Rattle.step.proofs.Stepping.{begins, passes, fits-same}
use Rattle.step.proofs.begin_save.Goals as goal

pub returns-then-fits : goal.returns-then-fits
returns-then-fits c v ws xs =
    begins _ ws v _ xs _ _ c.requires.1
    (sym (fits-same _ _ xs _ _ c.cell_count.ensures.0 c.stored_cells-s.ensures c.kind_of.ensures c.fits.ensures) ∙ c.if-fits.true)

pub returns : goal.returns
returns c v ws xs =
    passes _ ws v _ xs _ _ c.requires.1 c.requires.2
    (sym (fits-same _ _ xs _ _ c.cell_count.ensures.0 c.stored_cells-s.ensures c.kind_of.ensures c.fits.ensures) ∙ c.if-fits.false)
    c.after.ensures
