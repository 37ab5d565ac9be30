-- `program::walk` meets its contract: each turn counts, fills and notes one instruction more.
-- Assumes nothing.
use Rattle.std.proofs.Common.{arith, sym, ◌∙◌, eqb, get_or}
use Rattle.std.proofs.lemmas.Result.{err_from_is_err_and}
use Rattle.program.proofs.Left.{left-first, left_here, left-turn, left-done}
use Rattle.program.proofs.Refusals.{number-not0}
use Rattle.program.proofs.Walks.{whole_by}
use Rattle.program.proofs.Tests.{one-most, bool-number}
use Rattle.program.proofs.Turns.{turning-first, turning-room, turning-turn, turning-bad, turning-done}
use Rattle.program.proofs.walk.Goals as goal

pub loop-at-init : goal.loop-at-init
loop-at-init c = (left-first _ (rw c.requires.2 (turning-first _ c.requires.1 c.requires.3)), omega arith, omega arith, omega arith, omega arith)

pub length_in-len-requires : goal.length_in-len-requires
length_in-len-requires c = c.length_table-lengths.ensures

pub returns-in_err-refuse_at : goal.returns-in_err-refuse_at
returns-in_err-refuse_at c =
    let p = err_from_is_err_and c.from_residual.result c.from_residual.ensures.1 in
    rw (p.1, p.2)
    (left_here _ c.loop-at.invariant.0 c.loop-at-test.true (λ f q. turning-bad _ _ _ _ _ c.in_err-refuse_at.ensures (number-not0 _) q))

pub overflow_add-excludes : goal.overflow_add-excludes
overflow_add-excludes c = let m = one-most (eqb (get_or c.args.p.now c.loop-at.at 0) 0x0D) in let n = c.from-excludes.ensures ∙ bool-number _ in omega arith

pub loop-at-smaller : goal.loop-at-smaller
loop-at-smaller c = let w = whole_by _ _ c.length_in-len.ensures (sym c.in_ok-refuse_at.ensures) in omega (arith, w)

pub loop-at-preserved : goal.loop-at-preserved
loop-at-preserved c =
    let none = sym c.in_ok-refuse_at.ensures in
    let long = whole_by _ _ c.length_in-len.ensures none in (
      left-turn _ c.loop-at.invariant.0 c.loop-at-test.true c.length_in-len.ensures long.0
          (λ f q. turning-turn _ _ _ _ (omega arith) c.loop-at.invariant.4 none long.0 c.place_from.ensures
          c.instruction_at.ensures c.flow_of.ensures c.note.ensures.count c.note.ensures.offsets (c.from-excludes.ensures ∙ bool-number _) f q),
      omega (arith, long),
      omega (arith, long),
      let m = one-most (eqb (get_or c.args.p.now c.loop-at.at 0) 0x0D) in let n = c.from-excludes.ensures ∙ bool-number _ in omega arith,
      turning-room _ _ _ c.loop-at.invariant.4 c.length_in-len.ensures c.instruction_at.ensures c.flow_of.ensures c.note.ensures.count,
    )

pub returns : goal.returns
returns c =
    let i = c.loop-at.invariant in
    turning-done _ _ _ c.requires.0 i.4 i.1 (left-done _ i.0 c.loop-at-test.false)
