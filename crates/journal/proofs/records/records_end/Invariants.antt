-- The loop of `journal::records::records_end`: the records up to i, each of another cell that exists, whose stamps seen has (`Passing`).
-- Assumes nothing.
use Rattle.std.proofs.Common.{length, ◌-◌}
use Rattle.journal.proofs.Passing.{Passing}
use Rattle.journal.proofs.records.records_end.Given as goal

abbrev pub invariant-loop-i : goal.invariant-loop-i
invariant-loop-i l = Passing l.n l.l l.at l.seen l.i

abbrev pub decreases-loop-i : goal.decreases-loop-i
decreases-loop-i l = length l.l - l.i
