-- `step::step`: a page to erase, else a page of a save, else the instruction.
-- Assumes nothing.
use mir.Facts.{to_z-of_z}
use Rattle.step.proofs.Facts.{sound-facts}
use Rattle.step.proofs.Fetching.{ready-accepted}
use Rattle.step.proofs.Stepping.{erasable, erases, stores, executes}
use Rattle.step.proofs.step.Goals as goal

pub erase_one-requires : goal.erase_one-requires
erase_one-requires c =
    (erasable c.requires.1 c.if-r-gt0.true, (sound-facts c.requires.1.sound).fits, c.requires.1.most)

pub returns-then-r-gt0 : goal.returns-then-r-gt0
returns-then-r-gt0 c = erases _ _ _ c.if-r-gt0.true (c.erase_one.ensures _ _)

pub store_one-requires : goal.store_one-requires
store_one-requires c =
    (c.requires.1, (ready-accepted c.requires.0).most, c.if-r-gt0-2.true)

pub returns-then-r-gt0-2 : goal.returns-then-r-gt0-2
returns-then-r-gt0-2 c =
    stores _ _ _ c.if-r-gt0.false c.if-r-gt0-2.true c.store_one.ensures

pub returns : goal.returns
returns c =
    executes _ _ _ c.if-r-gt0.false c.if-r-gt0-2.false (to_z-of_z c.ranges.v) c.execute.ensures
