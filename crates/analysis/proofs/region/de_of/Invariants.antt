-- The cells that are dead at each CHECKPOINT passed, if there was one.
use Rattle.analysis.proofs.Looping.{Saving}
use Rattle.analysis.proofs.region.de_of.Given as goal

abbrev pub invariant-loop-k : goal.invariant-loop-k
invariant-loop-k l = Saving l.p l.at l.list l.dead l.all l.de l.k-index
