-- The nodes that do not wait obey their equations; with each turn the sum of the words falls, or the list.
use Rattle.std.proofs.Common.{◌+◌, ◌*◌, length}
use Rattle.liveness.specs.Graph.{total}
use Rattle.liveness.proofs.Draining.{Draining}
use Rattle.liveness.proofs.drain.Given as goal

abbrev pub invariant-loop-top : goal.invariant-loop-top
invariant-loop-top l = Draining l.left l.right l.reads l.writes l.initial.dead l.dead l.list l.flags l.top

abbrev pub decreases-loop-top : goal.decreases-loop-top
decreases-loop-top l = total l.dead * (length l.initial.flags + 1) + l.top
