-- What is left of the records gives the values now what all of them give the first ones.
-- Assumes nothing.
use Rattle.std.proofs.Common.{◌≡◌, ◌-◌, ◌≤◌, length}
use Rattle.journal.proofs.Restoring.{Restoring}
use Rattle.journal.proofs.records.restore.Given as goal

abbrev pub invariant-loop-i : goal.invariant-loop-i
invariant-loop-i l = (l.i ≤ l.end) × (length l.values ≡ 256) × Restoring l.l l.at l.end l.initial.values l.values l.i

abbrev pub decreases-loop-i : goal.decreases-loop-i
decreases-loop-i l = l.end - l.i
