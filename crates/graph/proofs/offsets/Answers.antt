-- `graph::offsets` meets its contract: each turn lists the offset of one more instruction.
-- Assumes nothing.
use Rattle.std.proofs.Common.{arith}
use Rattle.program.proofs.Accepted.{accepted}
use Rattle.program.proofs.Left.{left-first, left-turn, left-done}
use Rattle.graph.proofs.Entering.{listing-first, listing-room, listing-long, listing-turn, listing-done}
use Rattle.graph.proofs.offsets.Goals as goal

pub loop-o-init : goal.loop-o-init
loop-o-init c = left-first _ (listing-first _ _ (accepted _ c.requires.0.is).sound)

pub overflow_cast-at : goal.overflow_cast-at
overflow_cast-at c = record { fits = omega (arith, (accepted _ c.requires.0.is).most) }

pub offset_bounds-at-i : goal.offset_bounds-at-i
offset_bounds-at-i c = record { fits = omega (arith, listing-room c.requires.0 c.requires.1 c.loop-o.invariant c.loop-o-test.true) }

pub bounds-at-i : goal.bounds-at-i
bounds-at-i c = (listing-room c.requires.0 c.requires.1 c.loop-o.invariant c.loop-o-test.true).1

pub overflow_add-i : goal.overflow_add-i
overflow_add-i c = record { fits = omega (arith, listing-room c.requires.0 c.requires.1 c.loop-o.invariant c.loop-o-test.true) }

pub overflow_add-o : goal.overflow_add-o
overflow_add-o c = record { fits = omega (arith, listing-long c.loop-o.invariant c.loop-o-test.true c.length_in-o.ensures) }

pub loop-o-smaller : goal.loop-o-smaller
loop-o-smaller c = omega (arith, listing-long c.loop-o.invariant c.loop-o-test.true c.length_in-o.ensures)

pub loop-o-preserved : goal.loop-o-preserved
loop-o-preserved c =
    let room = listing-room c.requires.0 c.requires.1 c.loop-o.invariant c.loop-o-test.true in
    let long = listing-long c.loop-o.invariant c.loop-o-test.true c.length_in-o.ensures in
    left-turn _ c.loop-o.invariant c.loop-o-test.true c.length_in-o.ensures long.0 (λ f q. listing-turn _ _ _ room.1 q)

pub returns : goal.returns
returns c = listing-done _ _ _ (left-done _ c.loop-o.invariant c.loop-o-test.false)
