-- A state of another length is refused at its place in the order; else recovery of what the bytes hold is stored.
-- Assumes nothing.
use Rattle.std.proofs.Common.{refl}
use Rattle.std.proofs.lemmas.Result.{err_from_is_err_and}
use Rattle.program.proofs.Refusals.{number-not0}
use Rattle.pitskelo.proofs.Recovering.{odd-recovery, refused_recovery, done-recovery}
use Rattle.pitskelo.proofs.recover_lent.Goals as goal

pub returns-then-state-ne1312 : goal.returns-then-state-ne1312
returns-then-state-ne1312 c = odd-recovery _ _ _ _ _ c.if-state-ne1312.true c.odd_state.ensures

pub returns-in_err-after : goal.returns-in_err-after
returns-in_err-after c =
    let p = err_from_is_err_and c.from_residual.result c.from_residual.ensures.1 in
    rw (p.1, p.2)
    (refused_recovery _ _ _ _ _ _ c.if-state-ne1312.false c.word_count-n.ensures c.load_words-words.ensures.1 c.owner_of-owner.ensures c.load_state.ensures
    c.in_err-after.ensures.recovers refl (number-not0 _))

pub returns : goal.returns
returns c =
    done-recovery _ _ _ _ _ _ c.if-state-ne1312.false c.word_count-n.ensures c.load_words-words.ensures.1 c.owner_of-owner.ensures c.load_state.ensures
    c.in_ok-after.ensures.recovers refl refl c.store_state.ensures
