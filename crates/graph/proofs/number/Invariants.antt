-- The numbers below i stand at their places.
use Rattle.graph.specs.Tables.{Numbered}
use Rattle.graph.proofs.number.Given as goal

abbrev pub invariant-loop-i : goal.invariant-loop-i
invariant-loop-i l = Numbered l.at l.i l.numbers
