-- `run::quiet::quiet`: each instruction goes along the run.
-- Assumes nothing.
use native.Mathlib.Omega.{arith}
use Rattle.run.proofs.Starting.{legal-within, legal-fetches, read_whole, emit-whole}
use Rattle.run.proofs.Flowing.{quiet-stays, quiet-moved, quiet-took, quiet-gave}
use Rattle.run.proofs.quiet.quiet.Goals as goal

pub bounds-p-at : goal.bounds-p-at
bounds-p-at c =
    legal-within c.requires.0 c.loop-f.f.pc c.loop-f.invariant.stands

pub take-f-requires : goal.take-f-requires
take-f-requires c =
    let w = read_whole c.requires.0 c.loop-f.f.pc c.loop-f.invariant.stands c.if-p-at-eq-READ.true in
    (w.0, w.1, omega (arith, c.loop-f-test.true, c.ranges.left), omega (arith, c.loop-f.invariant.taken, c.if-f-takes.false, c.ranges.takes))

pub loop-f-preserved-then-p-at-eq-READ : goal.loop-f-preserved-then-p-at-eq-READ
loop-f-preserved-then-p-at-eq-READ c =
    quiet-took c.loop-f.invariant c.requires.0 c.loop-f-test.true c.if-p-at-eq-READ.true c.if-f-takes.false
    c.take-f.ensures.0 c.take-f.ensures.1 (record { sfits = c.take-arg-then-p-at-eq-READ-1.given })

pub bounds-p-at-in-loop-f : goal.bounds-p-at-in-loop-f
bounds-p-at-in-loop-f c =
    legal-within c.requires.0 c.loop-f.f.pc c.loop-f.invariant.stands

pub give-f-requires : goal.give-f-requires
give-f-requires c =
    let n = c.if-f-gives.false in
    let w = emit-whole c.requires.0 c.loop-f.f.pc c.loop-f.invariant.stands c.if-p-at-eq-EMIT.true in (
      w.0,
      w.1,
      omega (arith, c.loop-f-test.true, c.ranges.left),
      omega (arith, c.loop-f.invariant.written, n, c.ranges.gives),
      omega (arith, c.requires.3, c.loop-f.invariant.written, n, c.loop-f.invariant.size),
    )

pub loop-f-preserved-then-p-at-eq-EMIT : goal.loop-f-preserved-then-p-at-eq-EMIT
loop-f-preserved-then-p-at-eq-EMIT c =
    let e = c.give-f.ensures in
    quiet-gave c.loop-f.invariant c.requires.0 c.loop-f-test.true c.if-p-at-eq-EMIT.true
    c.if-f-gives.false c.requires.3 e.0 e.1

pub plain-next-requires : goal.plain-next-requires
plain-next-requires c =
    legal-fetches c.requires.0 c.loop-f.f.pc c.loop-f.invariant.stands (omega (arith, c.type_inv.p 0))

pub returns-then-next-eq0 : goal.returns-then-next-eq0
returns-then-next-eq0 c =
    quiet-stays c.loop-f.invariant c.plain-next.ensures c.if-next-eq0.true

pub loop-f-preserved : goal.loop-f-preserved
loop-f-preserved c =
    quiet-moved c.loop-f.invariant c.requires.0 c.loop-f-test.true _ _ c.plain-next.ensures c.if-next-eq0.false
    c.if-p-at-eq-READ.false c.if-p-at-eq-EMIT.false
