-- The words whose cells are all below the one sought are skipped.
use Rattle.std.proofs.Common.{arith, rules}
use Rattle.cellset.proofs.Members.{nth-below}
use Rattle.cellset.proofs.Ranks.{wanted-first, wanted-here, wanted-turn, wanted-done}
use Rattle.cellset.proofs.nth.Goals as goal

pub loop-i-init : goal.loop-i-init
loop-i-init c = wanted-first c.args.a.words c.args.k

pub returns-then-left-n : goal.returns-then-left-n
returns-then-left-n c =
    wanted-here c.args.a.words (λ i. search rules) c.args.k c.loop-i.i c.loop-i.left c.loop-i.invariant (omega arith) c.nth_bit.result c.if-left-n.true c.nth_bit.ensures

pub overflow_add-result : goal.overflow_add-result
overflow_add-result c = record { fits = omega (arith, returns-then-left-n c, nth-below c.args.a.words c.args.k) }

pub overflow_cast-result-then-left-n : goal.overflow_cast-result-then-left-n
overflow_cast-result-then-left-n c = record { fits = omega (arith, returns-then-left-n c, nth-below c.args.a.words c.args.k) }

pub loop-i-preserved : goal.loop-i-preserved
loop-i-preserved c =
    wanted-turn c.args.a.words (λ i. search rules) c.args.k c.loop-i.i c.loop-i.left c.loop-i.invariant (omega arith) c.if-left-n.false

pub returns : goal.returns
returns c = wanted-done c.args.a.words c.args.k c.loop-i.i c.loop-i.left c.loop-i.invariant (omega arith)
