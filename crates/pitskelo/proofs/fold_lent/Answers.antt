-- The answer's numbers are stored, and a refusal stores nothing.
-- Assumes nothing.
use Rattle.std.proofs.lemmas.Result.{err_from_is_err_and}
use Rattle.pitskelo.proofs.FoldCalls.{stored-fold, refused-fold}
use Rattle.pitskelo.proofs.fold_lent.Goals as goal

pub returns-in_err-standing : goal.returns-in_err-standing
returns-in_err-standing c =
    let p = err_from_is_err_and c.from_residual.result c.from_residual.ensures.1 in
    rw (p.1, p.2) (refused-fold _ _ c.word_count-count.ensures c.load_words-words.ensures.1 c.in_err-standing.ensures)

pub returns : goal.returns
returns c = rw c.from.ensures (stored-fold _ _ c.word_count-count.ensures c.load_words-words.ensures.1 c.in_ok-standing.ensures)
