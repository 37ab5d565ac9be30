-- `program::check_into` meets its contract: the size first, then what the walk found.
-- Assumes nothing.
use Rattle.std.proofs.Common.{arith, ◌<◌, ◌≢◌, length, sym, ◌∙◌}
use Rattle.std.proofs.lemmas.Result.{err_from_is_err_and}
use borrow.Author.Tests.{lt-ltb, eqb-false}
use Rattle.program.specs.Check.{check_of}
use Rattle.program.proofs.Deciding.{decided-bad}
use Rattle.program.proofs.Examining.{filled, filled-size}
use Rattle.program.proofs.check_into.Goals as goal
use Rattle.program.proofs.check_into.Goals.{then-is_empty-via-then-is_empty, then-is_empty-via-else-is_empty+then-program-gt2048}

pub returns-then-is_empty : goal.returns-then-is_empty
unfolding check_of
returns-then-is_empty c =
    elim c.then-is_empty.branch [
      | then-is_empty-via-then-is_empty w ↦ filled-size _ _ (rw (sym c.is_empty.ensures ∙ w.if-is_empty.true))
      | then-is_empty-via-else-is_empty+then-program-gt2048 w ↦ filled-size _ _ (rw (sym c.is_empty.ensures ∙ w.if-is_empty.false, lt-ltb _ _ w.if-program-gt2048.true))
    ]

pub returns-in_err-found : goal.returns-in_err-found
returns-in_err-found c =
    let p = err_from_is_err_and c.from_residual.result c.from_residual.ensures.1 in
    let w = c.in_err-found.ensures in
    let some : 0 < length c.args.program.now = let n : length c.args.program.now ≢ 0 = eqb-false _ _ (sym c.is_empty.ensures ∙ c.if-is_empty.false) in omega arith in
    rw (p.1, p.2) (filled _ _ _ w (decided-bad _ c.if-program-gt2048.false some w.is))

pub returns : goal.returns
returns c = filled _ _ _ c.walk.ensures c.conclude.ensures
