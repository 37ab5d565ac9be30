-- The lines of the instructions passed are written; the measure is what is left of the program.
-- Assumes nothing.
use Rattle.std.proofs.Common.{◌≡◌, ◌-◌, length}
use Rattle.program.proofs.Left.{Left}
use Rattle.listing.proofs.Going.{Going}
use Rattle.listing.proofs.put_lines.Given as goal

abbrev pub invariant-loop-here : goal.invariant-loop-here
invariant-loop-here l =
    Left l.program (Going l.program l.sets l.fn.text.end l.fn.text.out.now l.text.out.now l.text.end l.number l.here) l.here
    × (l.text.out.ghost_name ≡ l.fn.text.out.ghost_name)

abbrev pub decreases-loop-here : goal.decreases-loop-here
decreases-loop-here l = length l.program - l.here
