-- No bytes where there is no whole checkpoint, else those of the checkpoint.
use Rattle.folding.proofs.Holding.{save-none, save-some}
use Rattle.folding.proofs.save_into.Goals as goal

pub returns-then-found-eq0 : goal.returns-then-found-eq0
returns-then-found-eq0 c = let s = c.args in save-none s.owner s.found.now.end s.found.now.values s.buffer.now s.found.now.last c.if-found-eq0.true

pub returns : goal.returns
returns c =
    let s = c.args in
    save-some s.owner s.found.now.end s.found.now.values s.buffer.now _ s.found.now.last c.if-found-eq0.false c.told-buffer c.held.ensures c.kind_of.ensures c.named.ensures
    (c.image_into.ensures s.owner)
