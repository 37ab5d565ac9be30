-- The sets of the EXCLUDEs before instruction i stand there.
use Rattle.analysis.proofs.Placing.{Placing}
use Rattle.analysis.proofs.region.exclude_sets.Given as goal

abbrev pub invariant-loop-i : goal.invariant-loop-i
invariant-loop-i l = Placing l.p l.initial.sets l.sets l.to l.i
