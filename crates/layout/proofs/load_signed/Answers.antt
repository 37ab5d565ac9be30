-- A turn loads one more.
-- Assumes nothing.
use Rattle.std.proofs.Common.{arith, ◌∙◌, w32}
use mir.Facts.{to_z-of_z}
use Rattle.layout.proofs.Turning.{signed-none, signed-turn}
use Rattle.layout.proofs.load_signed.Goals as goal

pub loop-k-init : goal.loop-k-init
loop-k-init c = signed-none _ _

pub loop-k-preserved : goal.loop-k-preserved
loop-k-preserved c =
    signed-turn _ _ _ _ c.loop-k.invariant (omega arith) c.load32.ensures (omega arith)
    (to_z-of_z {w = w32} (record { sfits = c.from_bits.type_inv }) ∙ c.from_bits.ensures)
