-- A turn stores one word more.
-- Assumes nothing.
use Rattle.std.proofs.Common.{◌≡◌, ◌<◌, arith, refl, length, take, length-take-le}
use Rattle.std.proofs.lemmas.List.{get_or-take}
use Rattle.pitskelo.proofs.Stores.{stored-first, stored-turn, stored-done}
use Rattle.pitskelo.proofs.words.store_words.Goals as goal

pub loop-k-init : goal.loop-k-init
loop-k-init c = stored-first _ _

pub loop-k-preserved : goal.loop-k-preserved
loop-k-preserved c =
    let front : length (take c.args.n c.args.words.now) ≡ c.args.n = length-take-le c.args.n c.args.words.now c.requires.1 in
    let l : c.loop-k.k < c.args.n = omega arith in
    stored-turn c.loop-k.invariant c.store64.ensures refl (get_or-take c.args.n c.args.words.now c.loop-k.k 0 l) (omega arith)
    (omega (arith, c.type_inv.words c.loop-k.k))

pub returns : goal.returns
returns c =
    let front : length (take c.args.n c.args.words.now) ≡ c.args.n = length-take-le c.args.n c.args.words.now c.requires.1 in
    stored-done c.loop-k.invariant (omega arith)
