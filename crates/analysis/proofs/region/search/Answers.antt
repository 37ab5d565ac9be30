-- `analysis::region::search` meets its contract: each turn goes on from one more of those listed, unless it is an EXCLUDE.
-- Assumes nothing.
use Rattle.std.proofs.Common.{arith, rules}
use Rattle.analysis.proofs.Searching.{
  few-of,
  searching-first,
  searching-stop,
  may-both,
  searching-turn,
  searching-done,
  front-place,
  front-start,
  front-inside,
  none-listed,
}
use Rattle.analysis.proofs.region.search.Goals as goal

pub offset_bounds-left-i : goal.offset_bounds-left-i
offset_bounds-left-i c = let few = few-of c.requires.0.passed in search rules

pub bounds-left-i : goal.bounds-left-i
bounds-left-i c = omega (arith, c.requires.1, few-of c.requires.0.passed, c.requires.0.long_left)

pub push-count-requires : goal.push-count-requires
push-count-requires c =
    let none = none-listed c.requires.0 c.requires.3 c.requires.4 c.requires.5 in
    (none.room, omega (arith, (c.requires.0.ways.led _ c.requires.1).left_node, none.whole))

pub loop-done-init : goal.loop-done-init
loop-done-init c =
    searching-first _ c.args.at.now _ _ c.requires.0.ways _ c.requires.1 c.requires.2
    (none-listed c.requires.0 c.requires.3 c.requires.4 c.requires.5) c.push-count.ensures

pub offset_bounds-list-done : goal.offset_bounds-list-done
offset_bounds-list-done c = let place = front-place c.requires.0 c.loop-done.invariant c.loop-done-test.true in search rules

pub bounds-list-done : goal.bounds-list-done
bounds-list-done c = front-place c.requires.0 c.loop-done.invariant c.loop-done-test.true

pub overflow_add-done : goal.overflow_add-done
overflow_add-done c = let place = front-place c.requires.0 c.loop-done.invariant c.loop-done-test.true in search rules

pub bounds-p-at : goal.bounds-p-at
bounds-p-at c = front-inside c.requires.0 c.loop-done.invariant c.loop-done-test.true

pub push_both-count-requires : goal.push_both-count-requires
push_both-count-requires c =
    let m = c.requires.0 in
    let s = c.loop-done.invariant in
    let l = c.loop-done-test.true in
    may-both _ c.args.at.now _ _ m.ways _ c.requires.1 c.requires.2 s l (λ b. c.if-p-at-ne-EXCLUDE.true (rw (front-start m s l) b))

pub loop-done-smaller-then-p-at-ne-EXCLUDE : goal.loop-done-smaller-then-p-at-ne-EXCLUDE
loop-done-smaller-then-p-at-ne-EXCLUDE c =
    omega (arith, front-place c.requires.0 c.loop-done.invariant c.loop-done-test.true)

pub loop-done-preserved-then-p-at-ne-EXCLUDE : goal.loop-done-preserved-then-p-at-ne-EXCLUDE
loop-done-preserved-then-p-at-ne-EXCLUDE c =
    let m = c.requires.0 in
    let s = c.loop-done.invariant in
    let l = c.loop-done-test.true in
    searching-turn _ c.args.at.now _ _ m.ways _ c.requires.1 c.requires.2 s l
    (λ b. c.if-p-at-ne-EXCLUDE.true (rw (front-start m s l) b)) c.push_both-count.ensures

pub loop-done-smaller : goal.loop-done-smaller
loop-done-smaller c = omega (arith, front-place c.requires.0 c.loop-done.invariant c.loop-done-test.true)

pub loop-done-preserved : goal.loop-done-preserved
loop-done-preserved c =
    let m = c.requires.0 in
    let s = c.loop-done.invariant in
    let l = c.loop-done-test.true in
    searching-stop _ c.args.at.now _ _ m.ways _ c.requires.1 c.requires.2 s l (rw (← (front-start m s l)) c.if-p-at-ne-EXCLUDE.false)

pub returns : goal.returns
returns c =
    searching-done _ c.args.at.now _ _ c.requires.0.ways _ c.requires.1 c.requires.2 c.loop-done.invariant c.loop-done-test.false
