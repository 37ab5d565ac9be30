-- A state of another length is refused at its place in the order, and a plan by its check; else what the run of what the bytes hold leaves is stored.
-- Assumes nothing.
use Rattle.std.proofs.Common.{refl, ap}
use Rattle.std.proofs.lemmas.Result.{err_from_is_err_and}
use Rattle.program.proofs.Refusals.{number-not0}
use Rattle.program.specs.Check.{number_of}
use Rattle.pitskelo.proofs.RunCalls.{exit-number, odd-run, plan_run, refused_run_of, accepted-run}
use Rattle.pitskelo.proofs.run_lent.Goals as goal

pub returns-then-state-ne1312 : goal.returns-then-state-ne1312
returns-then-state-ne1312 c = odd-run _ c.if-state-ne1312.true c.odd_state.ensures

pub returns-in_err-examine : goal.returns-in_err-examine
returns-in_err-examine c =
    let p = err_from_is_err_and c.from_residual.result c.from_residual.ensures.1 in
    rw (p.1, p.2) (plan_run _ c.if-state-ne1312.false (ap number_of c.in_err-examine.ensures.checks.is) (number-not0 _))

pub returns-in_err-ran : goal.returns-in_err-ran
returns-in_err-ran c =
    let p = err_from_is_err_and c.from_residual-in_err-ran.result c.from_residual-in_err-ran.ensures.1 in
    rw (p.1, p.2)
    (refused_run_of _ _ c.if-state-ne1312.false c.word_count-n.ensures c.load_words-words.ensures.1
    c.owner_of.ensures (c.load_regs.ensures, c.load_cells-cells.ensures, c.load_marks-marks.ensures) c.in_err-ran.ensures.0 refl (number-not0 _))

pub returns : goal.returns
returns c =
    accepted-run _ _ c.if-state-ne1312.false c.word_count-n.ensures c.load_words-words.ensures.1
    c.owner_of.ensures (c.load_regs.ensures, c.load_cells-cells.ensures, c.load_marks-marks.ensures) c.in_ok-ran.ensures.0 (exit-number _) refl
    c.store_parts.ensures c.from.ensures
