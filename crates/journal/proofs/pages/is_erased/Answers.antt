-- `journal::pages::is_erased`: a byte that is not FF ends the search.
-- Assumes nothing.
use Rattle.std.proofs.Common.{refl, arith}
use Rattle.journal.proofs.Padding.{erased-first, erased-joined, erased-not, erased-done}
use Rattle.journal.proofs.pages.is_erased.Goals as goal

pub loop-k-init : goal.loop-k-init
loop-k-init c = (omega arith, erased-first _ _)

pub returns-then-some-eq0 : goal.returns-then-some-eq0
returns-then-some-eq0 c = erased-not c.args.l.now refl (c.erased_at-some.ensures.2 c.if-some-eq0.true) c.loop-k.invariant.0 c.loop-k-test.true

pub loop-k-preserved : goal.loop-k-preserved
loop-k-preserved c = let i = c.loop-k.invariant in (omega (arith, i.0), erased-joined i.1 c.erased_at-some.ensures.1)

pub returns : goal.returns
returns c = erased-done c.loop-k.invariant.1 c.loop-k-test.false
