-- `analysis::region::exclude_set` meets its contract: the region listed, and the two sets made from it stored.
-- Assumes nothing.
use Rattle.std.proofs.Common.{false, refl, arith}
use Rattle.liveness.proofs.Settling.{uniform}
use Rattle.analysis.proofs.Looping.{found-listed, found-front}
use Rattle.analysis.proofs.Placing.{placed}
use Rattle.analysis.proofs.region.exclude_set.Goals as goal

pub search-count-requires : goal.search-count-requires
search-count-requires c = (c.requires.0, c.requires.3, c.requires.4, refl, refl, λ k. uniform 512 k false)

pub de_of-de-requires : goal.de_of-de-requires
de_of-de-requires c = (found-listed c.requires.0 (found-front c.search-count.ensures), c.requires.2, c.requires.1.long_dead)

pub ro_of-ro-requires : goal.ro_of-ro-requires
ro_of-ro-requires c =
    (found-listed c.requires.0 (found-front c.search-count.ensures), c.requires.2, c.requires.1.long_writes, c.requires.1.writes_are)

pub returns : goal.returns
returns c =
    placed _ c.args.at.now _ _ _ _ _ (omega (arith, c.type_inv.p 0)) (found-front c.search-count.ensures)
    c.requires.0.ways.at_is c.requires.1 _ _ _ _ _ _ c.requires.5 c.store.auto.ws c.de_of-de.ensures c.ro_of-ro.ensures
    c.store.ensures c.store-2.ensures
