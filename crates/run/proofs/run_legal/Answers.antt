-- `run::run_legal`: a refused run has altered nothing.
-- Assumes nothing.
use Rattle.std.proofs.Common.{ap}
use Rattle.std.proofs.lemmas.Result.{err_from_is_err_and}
use Rattle.step.specs.State.{Machine}
use Rattle.run.proofs.Ruling.{call-is, refused-kept}
use Rattle.run.proofs.run_legal.Goals as goal

pub returns-in_err-end : goal.returns-in_err-end
returns-in_err-end c =
    let p = err_from_is_err_and c.from_residual.result c.from_residual.ensures.1 in
    let k = refused-kept _ _ _ _ _ c.in_err-end.ensures.is in
    let j = ap (λ (m : Machine). m.journal) k.0 in
    rw (p.1, p.2) (call-is _ _ _ _ _ (rw j (rw k.0 at c.in_err-end.ensures.is)))
