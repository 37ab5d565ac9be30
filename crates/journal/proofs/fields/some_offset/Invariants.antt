-- None of the offsets passed is one (`Searched`).
-- Assumes nothing.
use Rattle.std.proofs.Common.{◌-◌}
use Rattle.journal.specs.Format.{format_of}
use Rattle.journal.specs.Answer.{facts_in}
use Rattle.journal.specs.Parts.{offset_in}
use Rattle.journal.proofs.Offsets.{Searched}
use Rattle.journal.proofs.fields.some_offset.Given as goal

abbrev pub invariant-loop-t : goal.invariant-loop-t
invariant-loop-t l = Searched (offset_in (facts_in (format_of 1 0 0) 0 l.table) l.excludes) l.low l.step l.t

abbrev pub decreases-loop-t : goal.decreases-loop-t
decreases-loop-t l = 2048 - l.t
