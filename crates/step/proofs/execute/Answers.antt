-- `step::execute`: what `plain` does is the effect, else the opcode tells it.
-- Assumes nothing.
use mathlib.Core.Path.{refl}
use native.Mathlib.Omega.{arith}
use mir.Facts.{to_z-of_z}
use Rattle.step.proofs.Facts.{sound-facts}
use Rattle.step.proofs.Fetching.{ready-accepted, start-below, start_small, read_whole, fetches}
use Rattle.step.proofs.Stepping.{emits}
use Rattle.step.proofs.Choosing.{moves, unmoved, resumes, divides, ends}
use Rattle.step.proofs.execute.Goals as goal

pub plain-next-requires : goal.plain-next-requires
plain-next-requires c =
    fetches c.requires.0 (omega (arith, c.type_inv.p 0)) _ (sound-facts c.requires.1.sound).stands

pub returns-then-next-ne0 : goal.returns-then-next-ne0
returns-then-next-ne0 c =
    moves _ _ _ _ _ _ _ c.requires.2 c.plain-next.ensures c.if-next-ne0.true

pub bounds-p-at : goal.bounds-p-at
bounds-p-at c =
    start-below _ _ (sound-facts c.requires.1.sound).stands

pub read-requires : goal.read-requires
read-requires c =
    let b = (sound-facts c.requires.1.sound).stands in
    (read_whole c.requires.0 _ b c.in-7.is, (ready-accepted c.requires.0).most, c.in-7.is, c.requires.2)

pub emit-requires : goal.emit-requires
emit-requires c =
    omega (arith, start_small c.requires.0 _ (sound-facts c.requires.1.sound).stands)

pub exclude_all-requires : goal.exclude_all-requires
exclude_all-requires c =
    (c.requires.0, rw ((sound-facts c.requires.1.sound).stands, c.in-13.is), c.requires.2)

pub begin_save-requires : goal.begin_save-requires
begin_save-requires c =
    (omega (arith, start_small c.requires.0 _ (sound-facts c.requires.1.sound).stands), c.in-14.is, c.requires.2, (sound-facts c.requires.1.sound).paged.some, (sound-facts c.requires.1.sound).paged.few)

pub returns-in-6 : goal.returns-in-6
returns-in-6 c =
    divides _ _ _ _ _ _ _ c.plain-next.ensures c.if-next-ne0.false c.in-6.is c.stop.ensures

pub returns-in-7 : goal.returns-in-7
returns-in-7 c =
    resumes _ _ _ _ _ _ (to_z-of_z c.ranges.v) (unmoved _ _ _ c.plain-next.ensures c.if-next-ne0.false) (c.read.ensures _ _ _)

pub returns-in-8 : goal.returns-in-8
returns-in-8 c =
    resumes _ _ _ _ _ _ refl (unmoved _ _ _ c.plain-next.ensures c.if-next-ne0.false)
    (emits _ _ _ _ _ _ _ c.in-8.is c.requires.2 c.emit.ensures)

pub returns-in-13 : goal.returns-in-13
returns-in-13 c =
    resumes _ _ _ _ _ _ refl (unmoved _ _ _ c.plain-next.ensures c.if-next-ne0.false) (c.exclude_all.ensures _ _ _)

pub returns-in-14 : goal.returns-in-14
returns-in-14 c =
    resumes _ _ _ _ _ _ refl (unmoved _ _ _ c.plain-next.ensures c.if-next-ne0.false) (c.begin_save.ensures _ _ _)

pub returns-in_default : goal.returns-in_default
returns-in_default c =
    let n = c.in_default.in_default-own.rest in
    ends _ _ _ _ _ _ _ c.plain-next.ensures c.if-next-ne0.false c.requires.0 (sound-facts c.requires.1.sound).stands
    n.0.0.0.0.1 n.0.0.0.1 n.0.0.1 n.0.1 n.1 c.stop-in_default.ensures
