-- What `is_blank` and `begun` decide of a new chip, and the steps that `store` has made.
-- Assumes nothing.
use Prim.Native.Nat.{ℕ, zero, suc, ◌+◌, ◌-◌, ◌≤◌, ◌<◌, min}
use mathlib.Core.Path.{◌≡◌, refl, sym, ◌∙◌, ap}
use mathlib.Core.Bool.{Bool, true, false}
use mathlib.Core.List.{List, [], ◌∷◌, ◌++◌}
use native.Mathlib.Omega.{arith}
use lib.ListN.{length, get_or, set, take, drop, replicate, length-drop, length-replicate, get_or-replicate}
use lib.Seq.{length-take-le, drop-cons, drop-drop, ext_get_or, sets, sets-eq}
use lib.Dec.{eqb, ltb}
use borrow.Author.Tests.{eqb-true, eqb-false, ltb-true, ltb-false}
use borrow.Rule.Slice.PartMut.{put_mid}
use Rattle.std.proofs.Common.{fold, add-zero, append_assoc}
use Rattle.std.proofs.lemmas.List.{take_all}
use Rattle.program.proofs.Tests.{bool_cases}
use Rattle.journal.specs.Parts.{Decides}
use Rattle.folding.specs.Fold.{BlankFrom, Begun, progress, fold_steps}
use Rattle.folding.proofs.Beginning.{length-begun, begun-front, begun-rest, begun-by}

-- ---- the rest

least-most : (a : ℕ) (l : List ℕ) → fold min a l ≤ a
least-most a [] = omega arith
least-most a (x ∷ xs) = let ih = least-most (min a x) xs in omega arith

least-below : (a : ℕ) (l : List ℕ) (j : ℕ) → j < length l → fold min a l ≤ get_or l j 0
least-below a [] j h = absurd (omega arith)
least-below a (x ∷ xs) zero h = let m = least-most (min a x) xs in omega arith
least-below a (x ∷ xs) (suc j) h = least-below (min a x) xs j (omega arith)

least-full : (a : ℕ) (l : List ℕ) → a ≡ 0xFF → BlankFrom l 0 → fold min a l ≡ 0xFF
least-full a [] e f = e
least-full a (x ∷ xs) e f =
    let x_is : x ≡ 0xFF = f 0 (omega arith) (omega arith) in
    least-full (min a x) xs (omega arith) (λ j a l. f (suc j) (omega arith) (omega arith))

decide : {P : Type 0} (x : Bool) → (x ≡ true → P) → (x ≡ false → ¬ P) → Decides P x
decide true f g = f refl
decide false f g = g refl

-- the least byte is FF where all are
pub least-blank : (l : List ℕ) (least : ℕ) → ((j : ℕ) → get_or l j 0 < 256) → least ≡ fold min 0xFF l → Decides (BlankFrom l 0) (eqb least 0xFF)
least-blank l least bytes e =
    decide (eqb least 0xFF)
    (λ t. let ff : least ≡ 0xFF = eqb-true _ _ t in λ j a b. omega (arith, least-below 0xFF l j b, bytes j))
    (λ t f. eqb-false _ _ t (e ∙ least-full 0xFF l refl f))

-- ---- the whole chip

module _ (save new : List ℕ) (k : ℕ) where
  -- more bytes than the save has, or than the chip has
  pub not-room : min (length save) (length new) < k → ¬ Begun save k new
  not-room l b = omega (arith, b.most, length-begun b)

  pub not-front : ¬ (take k new ≡ take k save) → ¬ Begun save k new
  not-front h b = h (begun-front b)

  -- the front and the rest decide it, whatever way the start of the rest is written
  pub begun-rests : {start : ℕ} → start ≡ k → k ≤ min (length save) (length new) → take k new ≡ take k save → (x : Bool)
      → Decides (BlankFrom (take (length new - start) (drop start new)) 0) x → Decides (Begun save k new) x
  begun-rests s m d x e = decides x (rw whole at rw s at e)
    where
      whole : take (length new - k) (drop k new) ≡ drop k new
      whole = take_all (length new - k) (drop k new) (omega (arith, length-drop k new))

      decides : (x : Bool) → Decides (BlankFrom (drop k new) 0) x → Decides (Begun save k new) x
      decides true e =
          begun-by save new k (length new - k) (omega arith) d
          (ext_get_or 0 (drop k new) (replicate (length new - k) 0xFF) (length-drop k new ∙ sym (length-replicate {A = ℕ} (length new - k) 0xFF))
          (λ j l. e j (omega arith) l ∙ sym (get_or-replicate (length new - k) j 0xFF 0 (omega (arith, length-drop k new)))))
      decides false e =
          λ b. e (λ j a l. ap (λ (x : List ℕ). get_or x j 0) (begun-rest b) ∙ get_or-replicate b.free j 0xFF 0 (omega (arith, length-begun b, length-drop k new)))

-- ---- the steps

-- they store what is left of the save, as far as the budget reaches
steps_sets : (save : List ℕ) (b n k : ℕ) (l : List ℕ) → n ≡ min b (length save - k) → fold_steps save b (progress l k) ≡ progress (sets l k (take n (drop k save))) (k + n)
unfolding fold_steps
steps_sets save zero n k l e = let z : n ≡ 0 = omega arith in rw (z, add-zero) refl
steps_sets save (suc b) n k l e =
    bool_cases (ltb k (length save))
    (λ t.
    let lt : k < length save = ltb-true _ _ t in
    let z : n ≡ suc (n - 1) = omega arith in
    let s : k + suc (n - 1) ≡ suc k + (n - 1) = omega arith in
    rw (t, z, drop-cons save k 0 lt, s) (steps_sets save b (n - 1) (suc k) (set l k (get_or save k 0)) (omega arith)))
    (λ t.
    let ge : length save ≤ k = ltb-false _ _ t in
    let z : n ≡ 0 = omega arith in
    rw (t, z, add-zero) refl)

-- as one copy of a part
pub steps_copied : (save new part : List ℕ) (k b n m : ℕ) → k ≤ length save → length save ≤ length new → n ≡ min b (length save - k) → m ≡ n → part ≡ take m (drop k save)
    → progress (put_mid k m new part) (k + n) ≡ fold_steps save b (progress new k)
steps_copied save new part k b n m l h e z p =
    let long : length part ≡ n = ap length p ∙ length-take-le m (drop k save) (omega (arith, length-drop k save)) ∙ z in
    let same : part ≡ take n (drop k save) = p ∙ ap (λ (i : ℕ). take i (drop k save)) z in
    let rest : drop (k + length part) new ≡ drop m (drop k new) = rw (long, z) (sym (drop-drop n k new)) in
    sym
    (steps_sets save b n k new e
    ∙ ap (λ (x : List ℕ). progress (sets new k x) (k + n)) (sym same)
    ∙ ap (λ (x : List ℕ). progress x (k + n)) (sets-eq part new k (omega arith) ∙ append_assoc (take k new) part (drop (k + length part) new) ∙ ap (λ (x : List ℕ). take k new ++ (part ++ x)) rest))
