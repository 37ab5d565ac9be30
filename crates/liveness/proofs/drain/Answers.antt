-- `liveness::drain` meets its contract: each turn meets one node with its equation, and puts back those whose equation it may have touched.
-- Assumes nothing.
use Rattle.std.proofs.Common.{◌-◌, false, ◌∙◌, get_or, length-set, rules}
use Rattle.liveness.proofs.Draining.{
  draining-first,
  draining-same,
  draining-more,
  draining-done,
  popped,
  place,
  node,
  ready,
  measure-more,
}
use Rattle.liveness.proofs.drain.Goals as goal

pub loop-top-init : goal.loop-top-init
loop-top-init c = draining-first _ _ _ _ _ c.requires.0

pub offset_bounds-list-top : goal.offset_bounds-list-top
offset_bounds-list-top c = let p = place c.loop-top-test.true c.loop-top.invariant.queue in search rules

pub bounds-list-top : goal.bounds-list-top
bounds-list-top c = place c.loop-top-test.true c.loop-top.invariant.queue

pub revisit-top-requires : goal.revisit-top-requires
revisit-top-requires c =
    let q = c.loop-top.invariant.queue in
    let t = c.loop-top-test.true in
    ready c.requires.0 (popped t q) (node t q)

pub loop-top-smaller-then-turn : goal.loop-top-smaller-then-turn
loop-top-smaller-then-turn c =
    let l = c.loop-top in
    measure-more _ _ (c.turn.ensures.2 c.if-turn.true) c.revisit-top.ensures.0
    (c.revisit-top.auto.flags ∙ length-set l.flags (get_or l.list (l.top - 1) 0) false ∙ l.auto.flags)

pub loop-top-preserved-then-turn : goal.loop-top-preserved-then-turn
loop-top-preserved-then-turn c =
    let e = c.revisit-top.ensures in
    draining-more _ _ _ _ c.requires.0 (node c.loop-top-test.true c.loop-top.invariant.queue) c.turn.ensures.0 c.loop-top.invariant
    e.0 e.1 e.2 e.3

pub loop-top-preserved : goal.loop-top-preserved
loop-top-preserved c =
    let q = c.loop-top.invariant.queue in
    let t = c.loop-top-test.true in
    draining-same _ _ _ _ c.requires.0 (node t q) c.turn.ensures.0 c.loop-top.invariant (popped t q) (c.turn.ensures.1 c.if-turn.false)

pub returns : goal.returns
returns c = draining-done _ _ _ _ c.requires.0.wired c.loop-top-test.false c.loop-top.invariant
