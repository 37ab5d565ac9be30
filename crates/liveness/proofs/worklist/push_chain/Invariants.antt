-- The numbers of the chain are pushed or on its rest; the measure is where the rest begins, for links lead to smaller numbers.
use Rattle.liveness.proofs.Threads.{Along}
use Rattle.liveness.proofs.worklist.push_chain.Given as goal

abbrev pub invariant-loop-rest : goal.invariant-loop-rest
invariant-loop-rest l = Along l.links l.initial.list l.initial.flags l.e l.list l.flags l.top l.rest

abbrev pub decreases-loop-rest : goal.decreases-loop-rest
decreases-loop-rest l = l.rest
