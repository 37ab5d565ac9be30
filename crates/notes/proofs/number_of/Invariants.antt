-- So many instructions are passed, and the one at o is still to come; the measure is what is left of the way to it.
use Rattle.std.proofs.Common.{◌-◌}
use Rattle.program.proofs.Left.{Left}
use Rattle.notes.proofs.Numbering.{Numbering}
use Rattle.notes.proofs.number_of.Given as goal

abbrev pub invariant-loop-here : goal.invariant-loop-here
invariant-loop-here l = Left l.program (Numbering l.program l.o l.number) l.here

abbrev pub decreases-loop-here : goal.decreases-loop-here
decreases-loop-here l = l.o - l.here
