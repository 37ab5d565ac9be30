-- Instructions with no refusal, and what the walk over the instructions counts: a property of the offsets to come, and what one turn makes of it.
-- Assumes nothing.
use mathlib.Core.Path.{◌≡◌, refl}
use mathlib.Core.List.{List, [], ◌∷◌}
use mathlib.Core.Bool.{false, cond}
use Prim.Native.Nat.{ℕ, ◌+◌, ◌≤◌, ◌<◌}
use native.Mathlib.Omega.{arith}
use lib.ListN.{length}
use lib.Dec.{ltb, eqb}
use borrow.Author.Tests.{ltb-false, eqb-true, eqb-false, ne_eqb}
use Rattle.instruction.specs.Bytes.{byte, length_of, instruction_at_of}
use Rattle.instruction.specs.Table.{row_of, targets}
use Rattle.program.specs.Starts.{starts, refusal_at_of, first_refusal, excludes, last_opcode, jump_count}
use Rattle.program.specs.Check.{walk_of}
use Rattle.program.specs.Check.{All}
use Rattle.program.proofs.Tests.{bool_cases}

-- an instruction with no refusal has a length, and ends within the program
pub whole : (p : List ℕ) (o : ℕ) → refusal_at_of p o ≡ 0 → (0 < length_of (byte p o)) × (o + length_of (byte p o) ≤ length p)
unfolding refusal_at_of
whole p o h =
    bool_cases (eqb (length_of (byte p o)) 0)
    (λ e. absurd (let z : ◌≡◌ {A = ℕ} 2 0 = rw e at h in omega arith))
    (λ e. bool_cases (ltb (length p) (o + length_of (byte p o)))
    (λ d. absurd (let z : ◌≡◌ {A = ℕ} 3 0 = rw (e, d) at h in omega arith))
    (λ d. (let ne : length_of (byte p o) ≡ 0 → ⊥ = eqb-false _ _ e in omega arith, ltb-false _ _ d)))

-- the first of instructions with no refusal has none, nor have the others
pub sound-next : (p : List ℕ) (o : ℕ) (os : List ℕ) → first_refusal p (o ∷ os) ≡ 0 → (refusal_at_of p o ≡ 0) × (first_refusal p os ≡ 0)
unfolding first_refusal
sound-next p o os h =
    bool_cases (eqb (refusal_at_of p o) 0) (λ t. (eqb-true _ _ t, rw t at h)) (λ t. let z : refusal_at_of p o ≡ 0 = rw t at h in absurd (eqb-false _ _ t z))

-- a length n that was looked up, of an instruction with no refusal
pub whole_by : (p : List ℕ) (at : ℕ) {n : ℕ} → n ≡ length_of (byte p at) → refusal_at_of p at ≡ 0 → (0 < n) × (at + n ≤ length p)
whole_by p at e h = rw e (whole p at h)

-- `walk`: n instructions passed, e of them EXCLUDE, k the last one's opcode, j their targets
pub record Walking (p : List ℕ) (n e k j : ℕ) (os : List ℕ) : Type 0 where
  pub bad : first_refusal p (starts p) ≡ first_refusal p os
  pub count : length (starts p) ≡ n + length os
  pub exclude_count : excludes p (starts p) ≡ e + excludes p os
  pub final : last_opcode p 0 (starts p) ≡ last_opcode p k os
  pub jumps : jump_count p (starts p) ≡ j + jump_count p os

pub walking-first : (p : List ℕ) → Walking p 0 0 0 0 (starts p)
walking-first p = record { bad = refl; count = omega arith; exclude_count = omega arith; final = refl; jumps = omega arith }

pub walking-turn : (p : List ℕ) (at : ℕ) {n e k j x y : ℕ} (os : List ℕ) → refusal_at_of p at ≡ 0 → x ≡ cond (eqb (byte p at) 0x0D) 1 0
    → y ≡ j + length (targets (row_of (instruction_at_of p at)).flow) → Walking p n e k j (at ∷ os) → Walking p (n + 1) (e + x) (byte p at) y os
unfolding first_refusal excludes last_opcode jump_count
walking-turn p at os r ex ey w =
    let m = w.exclude_count in
    let c = w.count in
    let t = w.jumps in
    rw (ex, ey) (record { bad = rw r at w.bad; count = omega arith; exclude_count = omega arith; final = w.final; jumps = omega arith })

-- the first refusal is met here
pub walking-bad : (p : List ℕ) (at : ℕ) {n e k j no : ℕ} (os : List ℕ) → no ≡ refusal_at_of p at → (no ≡ 0 → ⊥)
    → Walking p n e k j (at ∷ os) → first_refusal p (starts p) ≡ no
unfolding first_refusal
walking-bad p at {n} {e} {k} {j} {no} os er ne w = let q : eqb (refusal_at_of p at) 0 ≡ false = rw (← er) (ne_eqb _ _ ne) in rw (q, ← er) at w.bad

pub walking-done : (p : List ℕ) {n e k j : ℕ} → Walking p n e k j [] → All n e k j ≡ walk_of p
unfolding first_refusal excludes last_opcode jump_count
walking-done p {n} {e} {k} {j} w =
    let c : length (starts p) ≡ n = omega (arith, w.count) in
    let m : excludes p (starts p) ≡ e = omega (arith, w.exclude_count) in
    let t : jump_count p (starts p) ≡ j = omega (arith, w.jumps) in
    rw (w.bad, c, m, w.final, t)
