-- `run::run_in_place`: a late refusal, or the run.
-- Assumes nothing.
use Rattle.std.proofs.Common.{refl}
use Rattle.std.proofs.lemmas.Result.{err_from_is_err_and}
use Rattle.program.proofs.Refusals.{number-not0}
use Rattle.run.proofs.Calls.{refused-late, accepted-run, ready}
use Rattle.run.proofs.Ruling.{call-is}
use Rattle.run.proofs.run_in_place.Goals as goal

pub returns-in_err-refuse_late : goal.returns-in_err-refuse_late
returns-in_err-refuse_late c =
    let p = err_from_is_err_and c.from_residual.result c.from_residual.ensures.1 in
    rw (p.1, p.2) (call-is _ _ _ _ _ (refused-late _ _ _ _ _ _ c.requires.0 (c.in_err-refuse_late.ensures _ refl) (number-not0 _)))

pub run-requires : goal.run-requires
run-requires c = ready _ _ _ c.requires.0 c.requires.1 (c.in_ok-refuse_late.ensures _ refl) refl c.requires.2 c.requires.3

pub returns : goal.returns
returns c = call-is _ _ _ _ _ (accepted-run _ _ _ _ _ _ c.requires.0 (c.in_ok-refuse_late.ensures _ refl) refl c.run.ensures)
