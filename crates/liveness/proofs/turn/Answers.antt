-- `liveness::turn` meets its contract: the set of the node is the one that is met, and the other words remain.
-- Assumes nothing.
use Rattle.std.proofs.Common.{sym, ◌∙◌}
use Rattle.std.proofs.lemmas.Bool.{false≢true}
use Rattle.liveness.proofs.Turns.{unchanged, changed}
use Rattle.liveness.proofs.turn.Goals as goal

pub returns-then-equal : goal.returns-then-equal
returns-then-equal c = unchanged c.load-old.ensures c.met-new.ensures (c.equal.ensures.0 c.if-equal.true)

pub returns : goal.returns
returns c =
    changed c.load-old.ensures c.met-new.ensures c.requires.0 c.store.ensures
    (λ e. false≢true (sym c.if-equal.false ∙ c.equal.ensures.1 e))
