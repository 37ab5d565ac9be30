-- From what `fold` answers to what `pitskelo_fold` leaves, and that its contract decides the result, the new chip and both numbers (`fold-fixed`).
-- Assumes nothing.
use Prim.Native.Nat.{ℕ, ◌/◌, min}
use mathlib.Core.Path.{◌≡◌, refl, sym, ◌∙◌, ap, subst}
use mathlib.Core.Bool.{Bool, true, false, cond}
use mathlib.Core.List.{List, [], ◌∷◌}
use lib.ListN.{length, take}
use mir.Val.{bool_byte}
use borrow.Author.Tests.{ne_eqb}
use Rattle.step.specs.State.{env_of}
use Rattle.layout.specs.Numbers.{numbers_from}
use Rattle.folding.specs.Fold.{Folded}
use Rattle.folding.specs.Fold.{Stored, Refused}
use Rattle.folding.specs.Fold.{Outcome, outcome, FoldIs, answer_of}
use Rattle.folding.proofs.Calls.{one-fold, refused-not-zero}
use Rattle.pitskelo.specs.Calls.{leaves}
use Rattle.pitskelo.specs.Runs.{sets_in}
use Rattle.pitskelo.specs.Folds.{FoldLent, FoldLeft, FoldCall}
use Rattle.pitskelo.proofs.Recovering.{words-in}

module _ (l : FoldLent) (words : List ℕ) {n : ℕ} (few : n ≡ min (length l.sets / 8) 512) (loaded : take n words ≡ numbers_from 8 n l.sets 0) {a : Folded} {chip : List ℕ}
    (f : FoldIs (env_of l.plan (take n words)) l.old l.new l.stored l.budget (outcome a chip)) where
  -- the outcome is that of what the bytes hold
  folded : FoldIs (env_of l.plan (sets_in l.sets)) l.old l.new l.stored l.budget (outcome a chip)
  folded = subst (λ (ws : List ℕ). FoldIs (env_of l.plan ws) l.old l.new l.stored l.budget (outcome a chip)) (words-in l.sets words few loaded) f

pub flag_is : (b : Bool) → bool_byte b ≡ cond b 1 0
flag_is true = refl
flag_is false = refl

-- the new number, and 1 where it is finished
pub stored-fold : (l : FoldLent) (words : List ℕ) {n : ℕ} → n ≡ min (length l.sets / 8) 512 → take n words ≡ numbers_from 8 n l.sets 0 → {chip : List ℕ} {k : ℕ} {all : Bool}
    → FoldIs (env_of l.plan (take n words)) l.old l.new l.stored l.budget (outcome (Stored k all) chip) → FoldCall l (record { result = 0; new = chip; numbers = k ∷ bool_byte all ∷ [] })
stored-fold l words few loaded {chip = chip} {k = k} {all = all} f =
    record { outcome = outcome (Stored k all) chip; folds = folded l words few loaded f; number = refl; chip = refl; numbers_are = ap (λ (i : ℕ). k ∷ i ∷ []) (flag_is all) }

-- a refusal leaves both
pub refused-fold : (l : FoldLent) (words : List ℕ) {n : ℕ} → n ≡ min (length l.sets / 8) 512 → take n words ≡ numbers_from 8 n l.sets 0 → {chip : List ℕ} {k : ℕ}
    → FoldIs (env_of l.plan (take n words)) l.old l.new l.stored l.budget (outcome (Refused k) chip) → FoldCall l (record { result = k; new = chip; numbers = l.numbers })
refused-fold l words few loaded {chip = chip} {k = k} f =
    let g = folded l words few loaded f in
    record { outcome = outcome (Refused k) chip; folds = g; number = refl; chip = refl; numbers_are = rw (ne_eqb k 0 (refused-not-zero g.folds refl)) }

-- ---- one result, one new chip, and one content of the numbers

pub fold-fixed : (l : FoldLent) (o o' : FoldLeft) → FoldCall l o → FoldCall l o' → o ≡ o'
fold-fixed l o o' x y =
    let e = one-fold _ _ _ _ _ _ _ x.folds.folds y.folds.folds in
    let n = x.number ∙ ap (λ (r : Outcome). (answer_of r.answer).number) e ∙ sym y.number in
    let c = x.chip ∙ ap (λ (r : Outcome). r.chip) e ∙ sym y.chip in
    let v = x.numbers_are ∙ ap (λ (r : Outcome). leaves (answer_of r.answer) l.numbers) e ∙ sym y.numbers_are in
    λ i. record { result = n i; new = c i; numbers = v i }
