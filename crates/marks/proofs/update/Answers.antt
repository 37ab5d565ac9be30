-- `marks::update` meets its contract: each turn is one of `map-turn`, and what stands behind the first n marks remains.
-- Assumes nothing.
use Rattle.std.proofs.Common.{◌≡◌, ◌++◌, drop, ap, ◌∙◌, arith, length-take}
use Rattle.marks.proofs.Turning.{map-first, map-turn, map-front}
use Rattle.marks.proofs.update.Goals as goal

pub loop-c-init : goal.loop-c-init
loop-c-init g c = λ h p. map-first h _

pub loop-c-preserved : goal.loop-c-preserved
loop-c-preserved g c =
    λ h p. map-turn h c.loop-c.c _ c.loop-c.mark-items (c.loop-c.invariant h p) c.from.ensures
    (p c.loop-c.c _ _ (omega (arith, length-take c.args.n c.args.marks.now)) c.f.ensures) c.from-in-loop-c.ensures

pub returns : goal.returns
returns g c =
    λ h p. let last : c.loop-c.c ≡ c.args.n = omega (arith, length-take c.args.n c.args.marks.now) in
    ap (λ xs. xs ++ drop c.args.n c.args.marks.now) (c.loop-c.invariant h p)
    ∙ rw last (map-front h c.args.n c.args.n c.args.marks.now (omega arith) (omega arith))
