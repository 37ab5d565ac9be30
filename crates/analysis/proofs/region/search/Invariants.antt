-- What is listed lies in the region, and the first `done` have been gone on from; the measure is the list's room behind them.
use Rattle.std.proofs.Common.{◌-◌, length}
use Rattle.analysis.proofs.Searching.{Searching}
use Rattle.analysis.proofs.region.search.Given as goal

abbrev pub invariant-loop-done : goal.invariant-loop-done
invariant-loop-done l = Searching l.p l.left l.right l.i l.list l.seen l.count l.done

abbrev pub decreases-loop-done : goal.decreases-loop-done
decreases-loop-done l = length l.fn.list - l.done
