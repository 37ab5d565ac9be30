-- `analysis::analyse` meets its contract: check's refusal, 9 for a short buffer, or both buffers filled.
-- Assumes nothing.
use Rattle.std.proofs.Common.{arith}
use Rattle.std.proofs.lemmas.Result.{err_from_is_err_and}
use Rattle.program.proofs.Accepted.{accepted}
use Rattle.analysis.proofs.Answering.{passes, refused-by-check, short-dead, short-sets, answered}
use Rattle.analysis.proofs.analyse.Goals as goal
use Rattle.analysis.proofs.analyse.Goals.{then-dead-lt2048-via-then-dead-lt2048, then-dead-lt2048-via-else-dead-lt2048+then-sets-lt512}

pub returns-in_err-sizes : goal.returns-in_err-sizes
returns-in_err-sizes c =
    let p = err_from_is_err_and c.from_residual.result c.from_residual.ensures.1 in
    rw (p.1, p.2) (refused-by-check _ _ _ c.in_err-sizes.ensures.is)

pub returns-then-dead-lt2048 : goal.returns-then-dead-lt2048
returns-then-dead-lt2048 c =
    elim c.then-dead-lt2048.branch [
      | then-dead-lt2048-via-then-dead-lt2048 w ↦ short-dead _ _ _ c.in_ok-sizes.ensures.is w.if-dead-lt2048.true
      | then-dead-lt2048-via-else-dead-lt2048+then-sets-lt512 w ↦ short-sets _ _ _ c.in_ok-sizes.ensures.is w.if-sets-lt512.true
    ]

pub fill-requires : goal.fill-requires
fill-requires c =
    let h = c.in_ok-sizes.ensures.is in
    (passes _ h, (accepted _ h).cells_are, c.if-dead-lt2048.false, c.if-sets-lt512.false)

pub returns : goal.returns
returns c = answered _ _ _ _ _ c.in_ok-sizes.ensures.is c.if-dead-lt2048.false c.if-sets-lt512.false c.fill.ensures
