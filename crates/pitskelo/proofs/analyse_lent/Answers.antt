-- The engine's own buffers are long enough, and of a refusal nothing is stored.
-- Assumes nothing.
use Rattle.std.proofs.Common.{refl, arith}
use Rattle.std.proofs.lemmas.Result.{err_from_is_err_and}
use Rattle.pitskelo.proofs.Analysing.{few_words, refused-analysis, stored-analysis}
use Rattle.pitskelo.proofs.analyse_lent.Goals as goal

pub returns-in_err-sizes : goal.returns-in_err-sizes
returns-in_err-sizes c =
    let p = err_from_is_err_and c.from_residual.result c.from_residual.ensures.1 in
    rw (p.1, p.2) (refused-analysis (omega arith) (omega arith) _ _ c.in_err-sizes.ensures refl)

pub store_both-requires : goal.store_both-requires
store_both-requires c =
    let few = few_words c.in_ok-sizes.ensures in
    (omega (arith, c.analyse.auto), omega arith, omega (arith, c.analyse.auto), omega arith)

pub returns : goal.returns
returns c =
    stored-analysis (omega arith) (omega arith) _ _ _ _ (omega (arith, c.type_inv.plan 0)) c.in_ok-sizes.ensures c.store_both.ensures (omega arith) (omega arith)
