-- Bytes of a save and then FF: what decides them (`begun-by`), the number that is found on them (`begun-found`), and what the steps of folding leave (`advance`). A call that is cut ends on the way of its steps (`steps-join`).
-- Assumes nothing.
use Prim.Native.Nat.{ℕ, zero, suc, ◌+◌, ◌-◌, ◌≤◌, ◌<◌, min}
use mathlib.Core.Path.{◌≡◌, refl, sym, ◌∙◌, ap}
use mathlib.Core.List.{List, [], ◌∷◌, ◌++◌}
use mathlib.Core.Logic.{⊎_elim}
use native.Mathlib.Omega.{arith}
use lib.ListN.{length, get_or, set, take, drop, replicate, take-append-drop, length-append, length-replicate, length-set, get_or-replicate}
use lib.Seq.{length-take-le, take-suc, take-take, take_at, drop_at, get_or-drop, set_at, append_snoc}
use lib.Dec.{ltb}
use borrow.Author.Tests.{ltb-true, ltb-false, le-ltb}
use Rattle.cellset.proofs.Bits.{le-or-lt}
use Rattle.program.proofs.Tests.{bool_cases}
use Rattle.journal.specs.Parts.{Content}
use Rattle.folding.specs.Fold.{Begun, Progress, progress, fold_steps}

-- ---- a beginning

module _ {save chip : List ℕ} {k : ℕ} (b : Begun save k chip) where
  pub length-begun : length chip ≡ k + b.free
  length-begun =
      let f : length (replicate {A = ℕ} b.free 0xFF) ≡ b.free = length-replicate b.free 0xFF in
      omega (arith, ap length b.bytes, length-append (take k save) (replicate b.free 0xFF), length-take-le k save b.most)

  -- the save's bytes stand at the front
  pub begun-front : take k chip ≡ take k save
  begun-front = ap (take k) b.bytes ∙ take_at (take k save) (replicate b.free 0xFF) k (length-take-le k save b.most)

  -- and FF behind them
  pub begun-rest : drop k chip ≡ replicate b.free 0xFF
  begun-rest = ap (drop k) b.bytes ∙ drop_at (take k save) (replicate b.free 0xFF) k (length-take-le k save b.most)

-- so it is where both are so
pub begun-by : (save chip : List ℕ) (k free : ℕ) → k ≤ length save → take k chip ≡ take k save → drop k chip ≡ replicate free 0xFF → Begun save k chip
begun-by save chip k free h f r =
    record { most = h; free = free; bytes = sym (take-append-drop k chip) ∙ ap (λ (l : List ℕ). l ++ drop k chip) f ∙ ap (λ (l : List ℕ). take k save ++ l) r }

-- no byte FF stands at the end of such bytes without their FF, so they are no more than those stored
found-most : {save chip : List ℕ} {s : ℕ} → Begun save s chip → (k : ℕ) → Content chip k → k ≤ s
found-most {save} {chip} {s} b k c =
    ⊎_elim
    (λ (l : k ≤ s). l)
    (λ (l : s < k).
    let j = k - 1 in
    let z : k ≡ suc j = omega arith in
    let i : s + (j - s) ≡ j = omega arith in
    let ff : get_or chip j 0 ≡ 0xFF =
    sym (get_or-drop s chip (j - s) 0 ∙ ap (λ (x : ℕ). get_or chip x 0) i)
    ∙ ap (λ (x : List ℕ). get_or x (j - s) 0) (begun-rest b)
    ∙ get_or-replicate b.free (j - s) 0xFF 0 (omega (arith, length-begun b, c.most)) in
    absurd (c.trimmed (take j chip)
    (ap (λ (x : ℕ). take x chip) z ∙ take-suc chip j 0 (omega (arith, c.most)) ∙ ap (λ (x : ℕ). take j chip ++ (x ∷ [])) ff)))
    (le-or-lt k s)

-- THE NUMBER FOUND ON THE CHIP IS RIGHT
pub begun-found : {save chip : List ℕ} {s : ℕ} → Begun save s chip → (k : ℕ) → Content chip k → Begun save k chip
begun-found {save} {chip} {s} b k c =
    let l = found-most b k c in
    begun-by save chip k c.erased (omega (arith, b.most)) (sym (take-take k s chip l) ∙ ap (take k) (begun-front b) ∙ take-take k s save l)
    (ap (drop k) c.bytes ∙ drop_at (take k chip) (replicate c.erased 0xFF) k (length-take-le k chip c.most))

-- ---- steps

module _ (save : List ℕ) where
  -- where all stands
  pub steps_all : (b : ℕ) (l : List ℕ) (k : ℕ) → length save ≤ k → fold_steps save b (progress l k) ≡ progress l k
  unfolding fold_steps
  steps_all zero l k h = refl
  steps_all (suc b) l k h = rw (le-ltb k (length save) h) refl

  -- A CALL PASSES WHAT CALLS OF A SMALLER BUDGET LEAVE
  pub steps-join : (a b : ℕ) (s : Progress) → fold_steps save (a + b) s ≡ fold_steps save b (fold_steps save a s)
  unfolding fold_steps
  steps-join zero b s = ap (λ (i : ℕ). fold_steps save i s) (let z : 0 + b ≡ b = omega arith in z)
  steps-join (suc a) b s =
      let z : suc a + b ≡ suc (a + b) = omega arith in
      ap (λ (i : ℕ). fold_steps save i s) z
      ∙ bool_cases (ltb s.stored (length save))
      (λ t. rw t (steps-join a b (progress (set s.chip s.stored (get_or save s.stored 0)) (suc s.stored))))
      (λ t. rw t (sym (steps_all b s.chip s.stored (ltb-false _ _ t))))

-- the next byte
put-bytes : (save : List ℕ) (k free : ℕ) → k < length save → 0 < free
    → set (take k save ++ replicate free 0xFF) k (get_or save k 0) ≡ take (suc k) save ++ replicate (free - 1) 0xFF
put-bytes save k zero l h = absurd (omega arith)
put-bytes save k (suc n) l h =
    let v = get_or save k 0 in
    let r : List ℕ = replicate n 0xFF in
    set_at (take k save) 0xFF r v k (length-take-le k save (omega arith))
    ∙ sym (append_snoc (take k save) v r)
    ∙ ap (λ (x : List ℕ). x ++ r) (sym (take-suc save k 0 l))
    ∙ (let z : n ≡ suc n - 1 = omega arith in ap (λ (i : ℕ). take (suc k) save ++ replicate i 0xFF) z)

put-begun : {save chip : List ℕ} {k : ℕ} → Begun save k chip → k < length save → length save ≤ length chip → Begun save (suc k) (set chip k (get_or save k 0))
put-begun {save} {chip} {k} b l h =
    record {
      most = l;
      free = b.free - 1;
      bytes = ap (λ (x : List ℕ). set x k (get_or save k 0)) b.bytes ∙ put-bytes save k b.free l (omega (arith, length-begun b));
    }

-- what steps leave
pub record Advanced (save chip : List ℕ) (k budget : ℕ) (s : Progress) : Type 0 where
  pub stored_is : s.stored ≡ min (k + budget) (length save)
  pub begun : Begun save s.stored s.chip
  pub size : length s.chip ≡ length chip

pub advance : (save : List ℕ) (b k : ℕ) (chip : List ℕ) → Begun save k chip → length save ≤ length chip → Advanced save chip k b (fold_steps save b (progress chip k))
unfolding fold_steps
advance save zero k chip h l = record { stored_is = omega (arith, h.most); begun = h; size = refl }
advance save (suc b) k chip h l =
    bool_cases (ltb k (length save))
    (λ t.
    let lt : k < length save = ltb-true _ _ t in
    let next = set chip k (get_or save k 0) in
    let n : length next ≡ length chip = length-set chip k (get_or save k 0) in
    let r = advance save b (suc k) next (put-begun h lt l) (omega arith) in
    let z : min (suc k + b) (length save) ≡ min (k + suc b) (length save) = omega arith in
    rw t (record { stored_is = r.stored_is ∙ z; begun = r.begun; size = r.size ∙ n }))
    (λ t.
    let ge : length save ≤ k = ltb-false _ _ t in
    rw t (record { stored_is = omega (arith, h.most); begun = h; size = refl }))
