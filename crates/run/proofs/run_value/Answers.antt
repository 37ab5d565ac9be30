-- `run::run_value`: an early refusal, or the run of the accepted program.
-- Assumes nothing.
use Rattle.std.proofs.lemmas.Result.{err_from_is_err_and}
use Rattle.run.proofs.Calls.{refused-early}
use Rattle.run.proofs.Ruling.{call-is}
use Rattle.run.proofs.run_value.Goals as goal

pub returns-in_err-examine : goal.returns-in_err-examine
returns-in_err-examine c =
    let p = err_from_is_err_and c.from_residual.result c.from_residual.ensures.1 in
    rw (p.1, p.2) (call-is _ _ _ _ _ (refused-early _ _ _ _ _ _ c.in_err-examine.ensures.checks))
