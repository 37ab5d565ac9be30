-- A turn loads one more.
-- Assumes nothing.
use Rattle.std.proofs.Common.{arith}
use Rattle.layout.proofs.Turning.{numbers-none, loaded-turn}
use Rattle.layout.proofs.load_words.Goals as goal

pub loop-k-init : goal.loop-k-init
loop-k-init c = numbers-none 8 _ 0

pub loop-k-preserved : goal.loop-k-preserved
loop-k-preserved c = loaded-turn 8 0 _ _ _ c.loop-k.invariant (omega arith) c.load64.ensures (omega arith)
