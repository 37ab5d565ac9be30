-- The entries of the instructions below i are made.
use Rattle.graph.proofs.Entering.{Entering}
use Rattle.graph.proofs.enter.Given as goal

abbrev pub invariant-loop-i : goal.invariant-loop-i
invariant-loop-i l = Entering l.p l.numbers l.left l.right l.reads l.writes l.i
