-- `liveness::worklist::thread` meets its contract: each turn is one of `threaded-turn`.
-- Assumes nothing.
use Rattle.std.proofs.Common.{refl, arith}
use Rattle.liveness.proofs.Threads.{threaded-turn}
use Rattle.liveness.proofs.worklist.thread.Goals as goal

pub loop-k-preserved : goal.loop-k-preserved
loop-k-preserved c =
    let t = c.requires.3 c.loop-k.k (omega arith) in
    threaded-turn _ _ _ _ c.loop-k.invariant _ refl (omega arith) (omega arith)
