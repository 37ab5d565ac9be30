-- The numbers below k are pushed.
use Rattle.std.proofs.Common.{length}
use Rattle.liveness.proofs.Waiting.{All}
use Rattle.liveness.proofs.worklist.push_all.Given as goal

abbrev pub invariant-loop-k : goal.invariant-loop-k
invariant-loop-k l = All (length l.left) l.list l.flags l.top l.k
