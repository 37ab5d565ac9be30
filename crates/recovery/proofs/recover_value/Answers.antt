-- Check's refusal, or what is left for an accepted program.
use Rattle.std.proofs.lemmas.Result.{err_from_is_err_and}
use Rattle.recovery.proofs.Recovering.{refused-program}
use Rattle.recovery.proofs.Ruling.{recover-is}
use Rattle.recovery.proofs.recover_value.Goals as goal

pub returns-in_err-examine : goal.returns-in_err-examine
returns-in_err-examine c =
    let p = err_from_is_err_and c.from_residual.result c.from_residual.ensures.1 in
    rw (p.1, p.2) (recover-is _ _ _ _ _ (refused-program _ _ _ _ _ c.in_err-examine.ensures.checks))

pub returns : goal.returns
returns c = recover-is _ _ _ _ _ c.recover_legal.ensures
