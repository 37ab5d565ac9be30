-- The refusal of a call that lends a state of another length.
-- Assumes nothing.
use Prim.Native.Nat.{ℕ, ◌/◌, ◌≤◌, ◌<◌}
use mathlib.Core.Path.{◌≡◌}
use mathlib.Core.List.{List}
use native.Mathlib.Omega.{arith}
use borrow.Author.Tests.{lt-ltb, le-ltb, ne_eqb, eqb-false}
use lib.Dec.{eqb, ltb}
use lib.ListN.{length}
use Rattle.program.specs.Check.{check_of, number_of}
use Rattle.program.specs.Check.{Program, Refused}
use Rattle.program.specs.Refusal.{refusal_number}
use Rattle.program.specs.declared.refusal.Refusal.{Refusal}
use Rattle.program.proofs.Refusals.{number-not0}
use Rattle.program.proofs.Tests.{bool_cases}
use Rattle.pitskelo.specs.Runs.{odd_state_of}

-- the plan's
pub plan-refused : (p ws : List ℕ) (r : Refusal) → Refused (refusal_number r) ≡ check_of p → refusal_number r ≡ odd_state_of p ws
unfolding odd_state_of
plan-refused p ws r h = rw (← h, ne_eqb (refusal_number r) 0 (number-not0 r))

-- else 9 where there are too few words
pub words-short : (p ws : List ℕ) {c i e : ℕ} → Program c i e ≡ check_of p → length ws / 8 < 512 → 9 ≡ odd_state_of p ws
unfolding odd_state_of
words-short p ws h l = rw (← h, lt-ltb (length ws / 8) 512 l)

-- else 10
pub state-odd : (p ws : List ℕ) {c i e : ℕ} → Program c i e ≡ check_of p → 512 ≤ length ws / 8 → 10 ≡ odd_state_of p ws
unfolding odd_state_of
state-odd p ws h l = rw (← h, le-ltb (length ws / 8) 512 l)

-- it is a refusal
pub odd_refused : (p ws : List ℕ) → ¬ (odd_state_of p ws ≡ 0)
unfolding odd_state_of
odd_refused p ws h =
    bool_cases (eqb (number_of (check_of p)) 0)
    (λ s. bool_cases (ltb (length ws / 8) 512) (λ t. omega (arith, rw (s, t) at h)) (λ t. omega (arith, rw (s, t) at h)))
    (λ s. eqb-false _ _ s (rw s at h))
