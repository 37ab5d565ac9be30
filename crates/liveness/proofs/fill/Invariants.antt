-- The sets of the nodes below i are full.
use Rattle.liveness.proofs.Filling.{Filled}
use Rattle.liveness.proofs.fill.Given as goal

abbrev pub invariant-loop-i : goal.invariant-loop-i
invariant-loop-i l = Filled l.n l.cells l.initial.dead l.dead l.i
