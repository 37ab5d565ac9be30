-- `liveness::fill` meets its contract: it stores one set after the other.
-- Assumes nothing.
use Rattle.std.proofs.Common.{arith}
use Rattle.liveness.proofs.Filling.{filled-turn}
use Rattle.liveness.proofs.fill.Goals as goal

pub loop-i-preserved : goal.loop-i-preserved
loop-i-preserved c =
    filled-turn c.args.n c.args.cells c.args.dead.now (omega arith) (omega arith) c.below-all.ensures c.store.ensures c.loop-i.invariant
