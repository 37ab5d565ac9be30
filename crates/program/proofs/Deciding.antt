-- From what the walk found to the check's answer.
-- Assumes nothing.
use mathlib.Core.Path.{◌≡◌, sym, ◌∙◌}
use mathlib.Core.List.{List}
use mathlib.Core.Bool.{Bool, cond, not, ◌||◌}
use Prim.Native.Nat.{ℕ, ◌+◌, ◌≤◌, ◌<◌}
use native.Mathlib.Omega.{arith}
use lib.ListN.{length}
use lib.Dec.{ltb, eqb}
use borrow.Author.Tests.{le-ltb, eqb-true, eqb-false, ne_eqb}
use Rattle.instruction.specs.Bytes.{byte}
use Rattle.program.specs.Starts.{starts, first_refusal, excludes, last_opcode, jumps_among, jump_count, all_first_of}
use Rattle.program.specs.Check.{closes, walk_of, check_of, Walks}
use Rattle.program.specs.Places.{is_start, placed, Decodes}
use Rattle.program.specs.Check.{All, Bad}
use Rattle.program.specs.Check.{Program, Refused}
use Rattle.program.proofs.Tests.{bool_cases}
use Rattle.program.proofs.Noting.{first-same}
use Rattle.program.proofs.PlaceLaws.{placed-start}

-- what the walk's answer says: no refusal, and the numbers
record Found (p : List ℕ) (n e k j : ℕ) : Type 0 where
  pub sound : first_refusal p (starts p) ≡ 0
  pub count : length (starts p) ≡ n
  pub exclude_count : excludes p (starts p) ≡ e
  pub final : last_opcode p 0 (starts p) ≡ k
  pub jumps : jump_count p (starts p) ≡ j

found : (p : List ℕ) {n e k j : ℕ} → All n e k j ≡ walk_of p → Found p n e k j
found p h =
    bool_cases (eqb (first_refusal p (starts p)) 0)
    (λ t. let q = rw t at h in record { sound = eqb-true _ _ t; count = cc; exclude_count = cc; final = cc; jumps = cc })
    (λ t. let q = rw t at h in let z : ◌≡◌ {A = ℕ} 0 1 = cc in absurd (omega arith))

-- or a refusal
bad : (p : List ℕ) {no : ℕ} → Bad no ≡ walk_of p → (first_refusal p (starts p) ≡ no) × (first_refusal p (starts p) ≡ 0 → ⊥)
bad p h =
    bool_cases (eqb (first_refusal p (starts p)) 0)
    (λ t. let q = rw t at h in let z : ◌≡◌ {A = ℕ} 0 1 = cc in absurd (omega arith))
    (λ t. let q = rw t at h in (cc, eqb-false _ _ t))

-- few EXCLUDEs: the program's table of places can be filled
decodes : (p : List ℕ) {n e k j : ℕ} → length p ≤ 2048 → All n e k j ≡ walk_of p → e ≤ 64 → Decodes p
decodes p most h few = let f = found p h in record { most = most; sound = f.sound; few = rw f.exclude_count few }

-- what the walk noted: no more targets than there is room for, and with few EXCLUDEs the table tells whether they are starts
module _ (p table ts : List ℕ) {n e k j : ℕ} (w : Walks p (All n e k j) table ts) where
  pub noted-most : j ≤ 683
  noted-most = let f = found p w.is in omega (arith, f.jumps, (w.noted f.sound).0)

  pub noted-starts : {b : Bool} → length p ≤ 2048 → e ≤ 64 → b ≡ all_first_of (placed table) j ts → b ≡ jumps_among p (starts p) (starts p)
  noted-starts most few h =
      let f = found p w.is in
      let t = w.places (decodes p most w.is few) in
      h ∙ first-same (placed table) (is_start p) (placed-start p table t) j ts ∙ sym (rw f.jumps at (w.noted f.sound).1)

module _ (p : List ℕ) (most : length p ≤ 2048) (some : 0 < length p) where
  pub decided-bad : {no : ℕ} → Bad no ≡ walk_of p → Refused no ≡ check_of p
  unfolding check_of
  decided-bad h =
      let b = bad p h in
      let ne : length p ≡ 0 → ⊥ = λ e. omega arith in
      rw (ne_eqb _ _ ne, le-ltb 2048 (length p) most, ne_eqb _ _ b.1, b.0)

  -- s is whether the last opcode closes the program, j whether all jumps go to starts, m the first byte
  pub decided : {n e k i m : ℕ} {s j : Bool} → All n e k i ≡ walk_of p → s ≡ closes k → j ≡ jumps_among p (starts p) (starts p) → m ≡ byte p 0
      → check_of p ≡ cond (ltb 512 n || ltb 64 e) (Refused 6) (cond (not s) (Refused 7) (cond (not j) (Refused 8) (Program (m + 1) n e)))
  unfolding check_of
  decided h es ej em =
      let f = found p h in
      let ne : length p ≡ 0 → ⊥ = λ e. omega arith in
      rw (ne_eqb _ _ ne, le-ltb 2048 (length p) most, f.sound, f.count, f.exclude_count, f.final, ej, es, em)
