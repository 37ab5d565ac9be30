-- A turn stores one more, and behind the last all are stored.
-- Assumes nothing.
use Rattle.std.proofs.Common.{arith, refl}
use Rattle.layout.proofs.Turning.{stored-none, stored-turn}
use Rattle.layout.proofs.store_cells.Goals as goal

pub loop-k-init : goal.loop-k-init
loop-k-init c = stored-none 4 _ 0

pub loop-k-preserved : goal.loop-k-preserved
loop-k-preserved c = stored-turn 4 0 _ _ _ _ c.loop-k.invariant (omega arith) c.store32.ensures (omega arith) refl
