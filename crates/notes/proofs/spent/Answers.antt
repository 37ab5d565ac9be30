-- Check's refusal, or what is left for an accepted program.
use Rattle.std.proofs.lemmas.Result.{err_from_is_err_and}
use Rattle.notes.proofs.Asking.{by-program}
use Rattle.notes.proofs.spent.Goals as goal

pub returns-in_err-examine : goal.returns-in_err-examine
returns-in_err-examine c =
    let p = err_from_is_err_and c.from_residual.result c.from_residual.ensures.1 in
    rw (p.1, p.2) (by-program _ c.in_err-examine.ensures.checks)
