-- `journal::records::records_end`: each record passed is of another cell, and seen has their stamps (`Passing`).
-- Assumes nothing.
use Rattle.journal.proofs.Passing.{passing-first, passing-turn}
use Rattle.journal.proofs.records.records_end.Goals as goal

pub loop-i-init : goal.loop-i-init
loop-i-init c = passing-first _ _ _ _ c.requires.0 c.requires.3 c.requires.4

pub loop-i-preserved : goal.loop-i-preserved
loop-i-preserved c =
    passing-turn c.loop-i.invariant c.requires.2 (λ j. (c.type_inv.l j).fits) c.loop-i-test.true c.if-l-i.false c.if-n-x.false c.if-seen-x.false
