-- The marks before index `c` are set, by every g that the closure computes.
use Rattle.std.proofs.Common.{◌≡◌, ℕ, ◌<◌}
use Rattle.marks.specs.Marks.{map_below}
use Rattle.marks.specs.declared.Mark.{Mark}
use Rattle.marks.proofs.update.Given as goal

abbrev pub invariant-loop-c : goal.invariant-loop-c
invariant-loop-c g l =
    (h : ℕ → Mark → Mark) → ((c : ℕ) (m r : Mark) → c < l.n → goal.F-post g l.f c m r → r ≡ h c m)
    → l.mark-items ≡ map_below h l.c l.initial.mark-items
