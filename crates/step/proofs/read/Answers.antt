-- `step::read`: the count is full, or the reading goes into the cell.
-- Assumes nothing.
use mathlib.Core.Path.{◌∙◌, ap}
use mir.Facts.{to_z-of_z}
use Rattle.word.specs.Word.{bits_of}
use Rattle.step.proofs.Stepping.{read-full, read-takes}
use Rattle.step.proofs.read.Goals as goal

pub returns-then-r-eq-MOST : goal.returns-then-r-eq-MOST
returns-then-r-eq-MOST c ws ms l = let s = c in read-full _ ws _ _ _ ms l s.requires.2 c.if-r-eq-MOST.true c.stop.ensures

pub returns : goal.returns
returns c ws ms l =
    read-takes _ ws _ _ _ ms l c.requires.2 c.requires.3 c.if-r-eq-MOST.false c.after.ensures
    (c.to_bits.ensures ∙ ap bits_of (to_z-of_z c.ranges.v)) c.put_cell.ensures
