-- What stands ahead of i, for every way to read the chip; the measure is what is left of the whole checkpoints.
use Rattle.std.proofs.Common.{◌≡◌, ℕ, ◌-◌, List, ◌++◌, length}
use Rattle.journal.specs.Format.{format_of, kind_number, Checkpoint, images}
use Rattle.notes.specs.Notes.{ValueAt}
use Rattle.notes.proofs.Finding.{Ahead}
use Rattle.notes.proofs.record_at.Given as goal

abbrev pub invariant-loop-i : goal.invariant-loop-i
invariant-loop-i l =
    (owner : ℕ) (saves : List Checkpoint) (rest : List ℕ) → l.chip ≡ images (format_of l.page (kind_number l.kind) owner) saves ++ rest
    → l.end ≡ length (images (format_of l.page (kind_number l.kind) owner) saves)
    → Ahead (format_of l.page (kind_number l.kind) owner) l.chip l.end l.at (λ x. ValueAt (format_of l.page (kind_number l.kind) owner) x l.at 0 saves) l.i

abbrev pub decreases-loop-i : goal.decreases-loop-i
decreases-loop-i l = l.end - l.i
