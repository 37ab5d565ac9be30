-- The numbers below k are on the chains of their targets.
use Rattle.liveness.proofs.Threads.{Threaded}
use Rattle.liveness.proofs.worklist.thread.Given as goal

abbrev pub invariant-loop-k : goal.invariant-loop-k
invariant-loop-k l = Threaded l.targets l.heads l.links l.k
