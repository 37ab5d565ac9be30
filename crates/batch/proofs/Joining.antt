-- Outputs of lists one after the other: what is repeated within a list and what is repeated across them falls away alike (`distinct-again`), so the outputs of all
-- are the uncut run's (`joined`).
-- Assumes nothing.
use Prim.Native.Nat.{ℕ, ◌≤◌, max}
use mathlib.Core.Path.{◌≡◌, refl, sym, ◌∙◌, ap}
use mathlib.Core.Bool.{true, false, cond, ◌&&◌}
use mathlib.Core.List.{List, [], ◌∷◌, ◌++◌}
use lib.IntN.{ℤ, pos, negsuc}
use lib.Dec.{eqb}
use borrow.Author.Tests.{eqb-true}
use Rattle.program.proofs.Tests.{bool_cases, clash, or_cases, and_both}
use Rattle.restart.specs.Reference.{Frame, Numbered, emitted}
use Rattle.restart.specs.Claim.{same_value, stands, distinct}
use Rattle.restart.proofs.Frames.{stands-append, stands-there, distinct_append, news}

-- ---- repetitions

value_same : (v w : ℤ) → same_value v w ≡ true → v ≡ w
value_same (pos a) (pos b) h = ap pos (eqb-true _ _ h)
value_same (negsuc a) (negsuc b) h = ap negsuc (eqb-true _ _ h)
value_same (pos a) (negsuc b) h = clash false h refl
value_same (negsuc a) (pos b) h = clash false h refl

-- what stands before stands after
stands-kept : (o : Numbered) (seen xs : List Numbered) → stands o seen ≡ true → stands o (distinct seen xs) ≡ true
unfolding distinct
stands-kept o seen [] h = h
stands-kept o seen (x ∷ xs) h =
    stands-kept o (cond (stands x seen) seen (seen ++ x ∷ [])) xs
    (bool_cases (stands x seen) (λ t. rw t h) (λ t. rw t (stands-append o seen (x ∷ []) ∙ rw h)))

-- an output stands behind those seen once it is among them or seen
stands-put : (o : Numbered) (seen : List Numbered) → stands o (cond (stands o seen) seen (seen ++ o ∷ [])) ≡ true
stands-put o seen = bool_cases (stands o seen) (λ t. rw t t) (λ t. rw t (stands-there o seen []))

-- what stands in a list stands among its distinct ones
stands-among : (o : Numbered) (seen xs : List Numbered) → stands o xs ≡ true → stands o (distinct seen xs) ≡ true
unfolding distinct stands
stands-among o seen [] h = clash false h refl
stands-among o seen (x ∷ xs) h =
    or_cases (eqb o.number x.number && same_value o.value x.value) (stands o xs) h
    (λ t.
    let b = and_both (eqb o.number x.number) _ t in
    let n : o.number ≡ x.number = eqb-true _ _ b.0 in
    let v : o.value ≡ x.value = value_same _ _ b.1 in
    let e : o ≡ x = λ i. record { number = n i; value = v i } in
    rw e (stands-kept x (cond (stands x seen) seen (seen ++ x ∷ [])) xs (stands-put x seen)))
    (λ _ t. stands-among o (cond (stands x seen) seen (seen ++ x ∷ [])) xs t)

-- one output more
distinct-put : (seen acc : List Numbered) (o : Numbered)
    → distinct seen (cond (stands o acc) acc (acc ++ o ∷ [])) ≡ cond (stands o (distinct seen acc)) (distinct seen acc) (distinct seen acc ++ o ∷ [])
unfolding distinct
distinct-put seen acc o =
    bool_cases (stands o acc)
    (λ t. rw (t, stands-among o seen acc t))
    (λ t. rw t (distinct_append seen acc (o ∷ [])))

-- REPETITIONS OF REPETITIONS
pub distinct-again : (seen acc xs : List Numbered) → distinct seen (distinct acc xs) ≡ distinct (distinct seen acc) xs
unfolding distinct
distinct-again seen acc [] = refl
distinct-again seen acc (o ∷ os) =
    distinct-again seen (cond (stands o acc) acc (acc ++ o ∷ [])) os ∙ ap (λ (l : List Numbered). distinct l os) (distinct-put seen acc o)

-- ---- two lists

module _ (p : List ℕ) (ρ : List ℤ) (f₀ : Frame) where
  pub joined : (before outs : List Numbered) (a t h k : ℕ) → distinct [] before ≡ emitted p ρ f₀ a h → distinct [] outs ≡ emitted p ρ f₀ t k → a ≤ t → t ≤ h
      → t ≤ k → distinct [] (before ++ outs) ≡ emitted p ρ f₀ a (max h k)
  unfolding distinct
  joined before outs a t h k x y l m n =
      distinct_append [] before outs
      ∙ ap (λ (e : List Numbered). distinct e outs) x
      ∙ sym (distinct-again (emitted p ρ f₀ a h) [] outs)
      ∙ ap (distinct (emitted p ρ f₀ a h)) y
      ∙ news p ρ f₀ a t k h l n m
