-- The first number of the path is pushed, or it is that of the turn; the measure is how many flags are unset, for each turn sets one.
use Rattle.std.proofs.Common.{◌-◌, length}
use Rattle.liveness.specs.Queue.{count}
use Rattle.liveness.proofs.Waiting.{Way}
use Rattle.liveness.proofs.worklist.push_path.Given as goal

abbrev pub invariant-loop-flags : goal.invariant-loop-flags
invariant-loop-flags l = Way l.left l.initial.list l.initial.flags l.k l.list l.flags l.top l.i

abbrev pub decreases-loop-flags : goal.decreases-loop-flags
decreases-loop-flags l = length l.flags - count l.flags
