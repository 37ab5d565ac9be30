-- The offsets of the instructions before the turn's are listed; the measure is what is left of the program.
use Rattle.std.proofs.Common.{◌-◌, length}
use Rattle.program.proofs.Left.{Left}
use Rattle.graph.proofs.Entering.{Listing}
use Rattle.graph.proofs.offsets.Given as goal

abbrev pub invariant-loop-o : goal.invariant-loop-o
invariant-loop-o l = Left l.p (Listing l.p l.initial.at l.at l.i) l.o

abbrev pub decreases-loop-o : goal.decreases-loop-o
decreases-loop-o l = length l.p - l.o
