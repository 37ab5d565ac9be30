-- A turn loads one more, and behind the last all are there.
-- Assumes nothing.
use Rattle.std.proofs.Common.{arith}
use Rattle.layout.specs.Layout.{cells_in}
use Rattle.layout.proofs.Turning.{numbers-none, loaded-turn, loaded-done}
use Rattle.layout.proofs.load_cells.Goals as goal

pub loop-k-init : goal.loop-k-init
loop-k-init c = numbers-none 4 _ 0

pub loop-k-preserved : goal.loop-k-preserved
loop-k-preserved c = loaded-turn 4 0 _ _ _ c.loop-k.invariant (omega arith) c.load32.ensures (omega arith)

pub returns : goal.returns
unfolding cells_in
returns c = loaded-done 4 0 _ _ c.loop-k.invariant (omega arith) (omega arith)
