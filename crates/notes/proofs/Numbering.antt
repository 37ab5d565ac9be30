-- The number of an instruction, found by a loop over those before it (`number_of`).
-- Assumes nothing.
use Prim.Native.Nat.{ℕ, zero, suc, ◌+◌, ◌≤◌, ◌<◌}
use mathlib.Core.Path.{◌≡◌, refl, sym, ◌∙◌}
use mathlib.Core.Bool.{true, false}
use mathlib.Core.List.{List, ◌∷◌}
use native.Mathlib.Omega.{arith}
use lib.ListN.{length, get_or}
use lib.Dec.{ltb}
use borrow.Author.Tests.{ne_eqb, ltb-true, ltb-false}
use Rattle.program.specs.Starts.{starts_from, starts, among, first_refusal}
use Rattle.program.specs.Places.{is_start}
use Rattle.program.proofs.Tests.{bool_cases, clash}
use Rattle.program.proofs.Walks.{sound-next}
use Rattle.program.proofs.Filling.{none_before}
use Rattle.graph.specs.Tables.{count_of, start_of}

-- `number` instructions are passed, those at the offsets os follow, and the one at o is among them
pub record Numbering (p : List ℕ) (o number : ℕ) (os : List ℕ) : Type 0 where
  pub sound : first_refusal p os ≡ 0
  pub count : count_of p ≡ number + length os
  pub todo : (j : ℕ) → start_of p (number + j) ≡ get_or os j 0
  pub ahead : among o os ≡ true

pub numbering-first : (p : List ℕ) (o : ℕ) → first_refusal p (starts p) ≡ 0 → is_start p o ≡ true → Numbering p o 0 (starts p)
numbering-first p o h s = record { sound = h; count = omega arith; todo = λ j. let e : 0 + j ≡ j = omega arith in rw e; ahead = s }

pub numbering-turn : {p : List ℕ} {o number here : ℕ} {os : List ℕ} → Numbering p o number (here ∷ os) → here < o → Numbering p o (number + 1) os
unfolding among
numbering-turn {p} {o} {number} {here} {os} q l = record {
  sound = (sound-next p here os q.sound).1;
  count = omega (arith, q.count);
  todo = λ j. let e : number + 1 + j ≡ number + suc j = omega arith in rw e (q.todo (suc j));
  ahead = rw (ne_eqb here o (λ e. omega arith)) at q.ahead;
}

-- what is not empty begins where it is read from
begins : (p : List ℕ) (f here o : ℕ) → among o (starts_from f p here) ≡ true → (get_or (starts_from f p here) 0 0 ≡ here) × (0 < length (starts_from f p here))
unfolding starts_from among
begins p zero here o h = clash false h refl
begins p (suc f) here o h = bool_cases (ltb here (length p)) (λ t. rw t (refl, omega arith)) (λ t. clash false (rw t at h) refl)

pub numbering-done : {p : List ℕ} {o number : ℕ} (f here : ℕ) → Numbering p o number (starts_from f p here) → o ≤ here → (number < count_of p) × (start_of p number ≡ o)
numbering-done {p} {o} {number} f here q l =
    let b = begins p f here o q.ahead in
    let e : o ≡ here = bool_cases (ltb o here) (λ t. clash _ q.ahead (none_before p f here o (ltb-true _ _ t))) (λ t. omega (arith, ltb-false o here t)) in
    let z : number ≡ number + 0 = omega arith in
    (omega (arith, q.count, b.1), rw z (q.todo 0 ∙ b.0 ∙ sym e))
