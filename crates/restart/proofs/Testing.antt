-- Tests that compute, each with the lemma that turns it into the fact: several tests at once, and tests of equality. Lists are compared by a test of their elements;
-- how a run ended, and what an instruction does, by numbers from which it is told again.
-- Assumes nothing.
use Prim.Native.Nat.{ℕ, zero, suc}
use mathlib.Core.Path.{◌≡◌, refl, sym, ◌∙◌, ap, ap₂}
use mathlib.Core.Bool.{Bool, true, false, cond, ◌&&◌}
use mathlib.Core.List.{List, [], ◌∷◌}
use lib.IntN.{ℤ, pos, negsuc}
use lib.ListN.{get_or}
use lib.Dec.{eqb}
use borrow.Author.Tests.{eqb-true}
use Rattle.program.proofs.Tests.{clash, and_both}
use Rattle.execution.specs.Effects.{Effect, stops, on, goes, writes, takes, gives, sets, saves}
use Rattle.run.specs.Run.{Ended}
use Rattle.run.specs.Run.{Refused, Stopped, Spent, NoReading, BufferFull}
use Rattle.restart.specs.Reference.{Numbered}
use Rattle.restart.specs.Claim.{same_value}

-- ---- several tests at once

abbrev pub all_true : List Bool → Bool
all_true [] = true
all_true (b ∷ bs) = b && all_true bs

-- the k-th of them holds
pub true-at : (bs : List Bool) → all_true bs ≡ true → (k : ℕ) → get_or bs k true ≡ true
true-at [] h k = refl
true-at (b ∷ bs) h zero = (and_both b (all_true bs) h).0
true-at (b ∷ bs) h (suc k) = true-at bs (and_both b (all_true bs) h).1 k

-- ---- lists

module _ {A : Type 0} (same : A → A → Bool) where
  -- the lists are as long, and their elements pass the test
  abbrev pub same_list : List A → List A → Bool
  same_list [] [] = true
  same_list [] (y ∷ ys) = false
  same_list (x ∷ xs) [] = false
  same_list (x ∷ xs) (y ∷ ys) = same x y && same_list xs ys

  pub list_same : ((x y : A) → same x y ≡ true → x ≡ y) → (xs ys : List A) → same_list xs ys ≡ true → xs ≡ ys
  list_same h [] [] t = refl
  list_same h [] (y ∷ ys) t = clash false t refl
  list_same h (x ∷ xs) [] t = clash false t refl
  list_same h (x ∷ xs) (y ∷ ys) t =
      let b = and_both (same x y) (same_list xs ys) t in
      ap₂ {A = A} (λ a l. a ∷ l) (h x y b.0) (list_same h xs ys b.1)

-- of numbers
unfoldable pub same_numbers : List ℕ → List ℕ → Bool
same_numbers = same_list eqb

pub numbers-same : (xs ys : List ℕ) → same_numbers xs ys ≡ true → xs ≡ ys
unfolding same_numbers
numbers-same xs ys t = list_same eqb eqb-true xs ys t

-- ---- outputs

value_same : (v w : ℤ) → same_value v w ≡ true → v ≡ w
value_same (pos a) (pos b) t = ap pos (eqb-true a b t)
value_same (negsuc a) (negsuc b) t = ap negsuc (eqb-true a b t)
value_same (pos a) (negsuc b) t = clash false t refl
value_same (negsuc a) (pos b) t = clash false t refl

-- number and value
abbrev same_output : Numbered → Numbered → Bool
same_output o x = eqb o.number x.number && same_value o.value x.value

output-same : (o x : Numbered) → same_output o x ≡ true → o ≡ x
output-same o x t =
    let b = and_both (eqb o.number x.number) (same_value o.value x.value) t in
    let n = eqb-true _ _ b.0 in
    let v = value_same _ _ b.1 in
    λ i. record { number = n i; value = v i }

unfoldable pub same_outputs : List Numbered → List Numbered → Bool
same_outputs = same_list same_output

pub outputs-same : (os xs : List Numbered) → same_outputs os xs ≡ true → os ≡ xs
unfolding same_outputs
outputs-same os xs t = list_same same_output output-same os xs t

-- ---- by numbers

-- what is told again from its numbers is equal where they are
told_same : {A : Type 0} (numbers : A → List ℕ) (told : List ℕ → A) → ((x : A) → told (numbers x) ≡ x) → (x y : A) → same_numbers (numbers x) (numbers y) ≡ true → x ≡ y
told_same numbers told h x y t = sym (h x) ∙ ap told (numbers-same (numbers x) (numbers y) t) ∙ h y

-- how a run ended
abbrev end_numbers : Ended → List ℕ
end_numbers (Refused n) = 0 ∷ n ∷ []
end_numbers (Stopped k) = 1 ∷ k ∷ []
end_numbers Spent = 2 ∷ []
end_numbers NoReading = 3 ∷ []
end_numbers BufferFull = 4 ∷ []

abbrev end_told : List ℕ → Ended
end_told l =
    let k = get_or l 0 0 in
    let n = get_or l 1 0 in
    cond (eqb k 0) (Refused n) (cond (eqb k 1) (Stopped n) (cond (eqb k 2) Spent (cond (eqb k 3) NoReading BufferFull)))

end-told : (x : Ended) → end_told (end_numbers x) ≡ x
end-told (Refused n) = refl
end-told (Stopped k) = refl
end-told Spent = refl
end-told NoReading = refl
end-told BufferFull = refl

unfoldable pub same_end : Ended → Ended → Bool
same_end x y = same_numbers (end_numbers x) (end_numbers y)

pub end_same : (x y : Ended) → same_end x y ≡ true → x ≡ y
unfolding same_end
end_same x y t = told_same end_numbers end_told end-told x y t

-- what an instruction does; a value by its sign and its number
abbrev effect_numbers : Effect → List ℕ
effect_numbers (stops k) = 0 ∷ k ∷ []
effect_numbers on = 1 ∷ []
effect_numbers (goes t) = 2 ∷ t ∷ []
effect_numbers (writes d v) = 3 ∷ d ∷ v ∷ []
effect_numbers (takes d v) = 4 ∷ d ∷ v ∷ []
effect_numbers (gives (pos a)) = 5 ∷ a ∷ []
effect_numbers (gives (negsuc a)) = 6 ∷ a ∷ []
effect_numbers sets = 7 ∷ []
effect_numbers saves = 8 ∷ []

abbrev effect_told : List ℕ → Effect
effect_told l =
    let k = get_or l 0 0 in
    let a = get_or l 1 0 in
    let v = get_or l 2 0 in
    cond (eqb k 0) (stops a)
    (cond (eqb k 1) on
    (cond (eqb k 2) (goes a)
    (cond (eqb k 3) (writes a v)
    (cond (eqb k 4) (takes a v)
    (cond (eqb k 5) (gives (pos a))
    (cond (eqb k 6) (gives (negsuc a))
    (cond (eqb k 7) sets saves)))))))

effect-told : (e : Effect) → effect_told (effect_numbers e) ≡ e
effect-told (stops k) = refl
effect-told on = refl
effect-told (goes t) = refl
effect-told (writes d v) = refl
effect-told (takes d v) = refl
effect-told (gives (pos a)) = refl
effect-told (gives (negsuc a)) = refl
effect-told sets = refl
effect-told saves = refl

unfoldable pub same_effect : Effect → Effect → Bool
same_effect e f = same_numbers (effect_numbers e) (effect_numbers f)

pub effect-same : (e f : Effect) → same_effect e f ≡ true → e ≡ f
unfolding same_effect
effect-same e f t = told_same effect_numbers effect_told effect-told e f t
