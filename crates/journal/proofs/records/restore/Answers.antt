-- `journal::records::restore`: record after record gives its cell its value.
-- Assumes nothing.
use Rattle.std.proofs.Common.{◌∙◌, length-set}
use Rattle.journal.proofs.Restoring.{restoring-first, restoring-turn, restoring-done}
use Rattle.journal.proofs.records.restore.Goals as goal

pub loop-i-init : goal.loop-i-init
loop-i-init c = let s = c.args in (c.requires.2, c.requires.3, restoring-first s.l.now s.at s.end s.values.now)

pub loop-i-preserved : goal.loop-i-preserved
loop-i-preserved c =
    let s = c.args in
    let i = c.loop-i.invariant in (
      c.loop-i-test.true,
      length-set c.loop-i.values _ _ ∙ i.1,
      restoring-turn s.l.now s.at s.end s.values.now c.loop-i.values c.loop-i.i c.load32.result i.2 c.requires.0 c.loop-i-test.true i.1 c.load32.ensures,
    )

pub returns : goal.returns
returns c =
    let s = c.args in
    let i = c.loop-i.invariant in
    (i.1, restoring-done s.l.now s.at s.end s.values.now c.loop-i.values c.loop-i.i i.2 c.loop-i-test.false)
