-- The loop of `journal::walk`: the checkpoints up to `at` are whole and sound, and seen and values are as they leave them (`Walking`).
-- Assumes nothing.
use Rattle.std.proofs.Common.{length, ◌-◌}
use Rattle.journal.specs.Format.{format_of, kind_number}
use Rattle.journal.specs.Answer.{facts_in}
use Rattle.journal.proofs.Walking.{Walking}
use Rattle.journal.proofs.walk.Given as goal

abbrev pub invariant-loop-at : goal.invariant-loop-at
invariant-loop-at l = Walking (facts_in (format_of l.page (kind_number l.kind) l.owner) l.n l.table) l.l l.at l.last l.own l.seen l.values

abbrev pub decreases-loop-at : goal.decreases-loop-at
decreases-loop-at l = length l.l - l.at
