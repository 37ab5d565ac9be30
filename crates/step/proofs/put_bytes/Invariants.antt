-- `step::put_bytes`.
-- Assumes nothing.
use Rattle.std.proofs.Common.{ℕ}
use Rattle.journal.specs.Format.{format_of, kind_number, image}
use Rattle.journal.specs.Writing.{checkpoint_of}
use Rattle.step.proofs.Stepping.{Putting}
use Rattle.step.proofs.put_bytes.Given as goal

-- what is still to be stored leaves what all of it leaves
abbrev pub invariant-loop-i : goal.invariant-loop-i
invariant-loop-i l = (page owner : ℕ) → Putting l.from l.n (image (format_of page (kind_number l.kind) owner) (checkpoint_of l.s.words l.cells l.commit)) l.initial.byte-items l.byte-items l.i
