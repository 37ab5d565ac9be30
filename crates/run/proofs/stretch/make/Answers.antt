-- `run::stretch::make`: what `image_into` leaves is the present checkpoint.
-- Assumes nothing.
use Rattle.step.proofs.Stepping.{place_fits}
use Rattle.run.proofs.Stretching.{makes}
use Rattle.run.proofs.stretch.make.Goals as goal

pub overflow_cast-commit : goal.overflow_cast-commit
overflow_cast-commit c = place_fits c.requires.0 c.after.ensures

pub returns : goal.returns
returns c =
    let a = c.args in
    makes a.p.now a.r a.cells.now a.marks.now a.buffer.now c.kind_of.ensures c.cell_count-n.ensures.0 c.stored_cells-s.ensures
    c.requires.2 c.requires.3 c.requires.4 c.after.ensures c.image_into.ensures
