-- A turn stores one more, and behind the last all are stored.
-- Assumes nothing.
use Rattle.std.proofs.Common.{arith, rules, map, take}
use lib.ListN.{length-map}
use Rattle.word.specs.Word.{bits_of}
use Rattle.layout.proofs.Turning.{stored-none, stored-turn, pattern-at, signed-done}
use Rattle.layout.proofs.store_signed.Goals as goal

pub loop-k-init : goal.loop-k-init
loop-k-init c = stored-none 4 _ _

pub loop-k-preserved : goal.loop-k-preserved
loop-k-preserved c =
    let front = take c.args.n c.args.values.now in
    stored-turn 4 _ _ _ (map bits_of front) _ c.loop-k.invariant (omega (arith, length-map front bits_of)) c.store32.ensures (omega arith)
    (pattern-at front _ c.to_bits.ensures (record { sfits = search rules }))

pub returns : goal.returns
returns c = signed-done _ _ _ _ c.loop-k.invariant (omega arith)
