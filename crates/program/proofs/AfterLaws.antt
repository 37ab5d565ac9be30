-- The offset after a CHECKPOINT, and the numbers of EXCLUDEs, in an accepted program: `after_checkpoint` holds at the offset after any CHECKPOINT, and at no other;
-- an EXCLUDE's number is below their count.
-- Assumes nothing.
use mathlib.Core.Path.{◌≡◌, refl, sym, ◌∙◌}
use mathlib.Core.List.{List, [], ◌∷◌}
use mathlib.Core.Bool.{true, false, or-true}
use Prim.Native.Nat.{ℕ, zero, suc, ◌+◌, ◌≤◌, ◌<◌}
use native.Mathlib.Omega.{arith}
use lib.ListN.{length}
use lib.Dec.{ltb, eqb}
use borrow.Author.Tests.{ltb-true, ltb-false, eqb-true, eqb-false, eq-eqb, ne_eqb}
use Rattle.instruction.specs.Bytes.{byte, length_of}
use Rattle.program.specs.Starts.{starts_from, starts, first_refusal, excludes, among}
use Rattle.program.specs.Places.{opcode_before, excludes_before, is_start, after_checkpoint, is_exclude, exclude_number}
use Rattle.program.proofs.Tests.{bool_cases, clash, or_cases, and_both}
use Rattle.program.proofs.Walks.{whole, sound-next}
use Rattle.program.proofs.Filling.{none_before}
use Rattle.program.proofs.Accepted.{Accepted, start-within, start-whole, start-next}

-- before the first offset stands k
before-first : (p : List ℕ) (f a k t : ℕ) → among t (starts_from f p a) ≡ true → t ≡ a → opcode_before p k (starts_from f p a) t ≡ k
unfolding among opcode_before starts_from
before-first p zero a k t m e = clash false m refl
before-first p (suc f) a k t m e = bool_cases (ltb a (length p)) (λ b. rw (b, eq-eqb a t (sym e))) (λ b. let m' : false ≡ true = rw b at m in clash false m' refl)

-- before a later offset stands an instruction that ends there
pub record Before (p os : List ℕ) (k t : ℕ) : Type 0 where
  pub at : ℕ
  pub start : among at os ≡ true
  pub opcode : byte p at ≡ opcode_before p k os t
  pub ends : t ≡ at + length_of (byte p at)

before : (p : List ℕ) (f a k t : ℕ) → length p ≤ f + a → first_refusal p (starts_from f p a) ≡ 0 → among t (starts_from f p a) ≡ true → (t ≡ a → ⊥)
    → Before p (starts_from f p a) k t
unfolding among opcode_before starts_from
before p zero a k t e s m n = clash false m refl
before p (suc f) a k t e s m n =
    bool_cases (ltb a (length p))
    (λ b.
    let c = a + length_of (byte p a) in
    let r = starts_from f p c in
    let q = sound-next p a r (rw b at s) in
    let z = (whole p a q.0).0 in
    let ne : eqb a t ≡ false = ne_eqb a t (λ d. n (sym d)) in
    let m' : among t r ≡ true = rw (b, ne) at m in
    bool_cases (eqb t c)
    (λ d.
    let d' : t ≡ c = eqb-true _ _ d in
    record { at = a; start = rw (b, eq-eqb a a refl); opcode = rw (b, ne) (sym (before-first p f c (byte p a) t m' d')); ends = d' })
    (λ d.
    let i = before p f c (byte p a) t (omega arith) q.1 m' (eqb-false _ _ d) in
    record { at = i.at; start = rw (b, i.start, or-true); opcode = rw (b, ne) i.opcode; ends = i.ends }))
    (λ b. let m' : false ≡ true = rw b at m in clash false m' refl)

-- of two instructions the first ends before the second starts
apart : (p : List ℕ) (f a x y : ℕ) → first_refusal p (starts_from f p a) ≡ 0 → among x (starts_from f p a) ≡ true → among y (starts_from f p a) ≡ true → x < y
    → x + length_of (byte p x) ≤ y
unfolding among starts_from
apart p zero a x y s m n l = clash false m refl
apart p (suc f) a x y s m n l =
    bool_cases (ltb a (length p))
    (λ b.
    let c = a + length_of (byte p a) in
    let r = starts_from f p c in
    let q = sound-next p a r (rw b at s) in
    let from-c : (t : ℕ) → among t r ≡ true → c ≤ t =
    λ t h. bool_cases (ltb t c) (λ d. clash (among t r) h (none_before p f c t (ltb-true _ _ d))) (λ d. ltb-false _ _ d) in
    or_cases (eqb a x) (among x r) (rw b at m)
    (λ d.
    let d' : a ≡ x = eqb-true _ _ d in
    let ne : eqb a y ≡ false = ne_eqb a y (λ w. omega arith) in
    let n' : among y r ≡ true = rw (b, ne) at n in
    rw (← d') (from-c y n'))
    (λ _ h.
    let ge = from-c x h in
    let ne : eqb a y ≡ false = ne_eqb a y (λ w. omega arith) in
    apart p f c x y q.1 h (rw (b, ne) at n) l))
    (λ b. let m' : false ≡ true = rw b at m in clash false m' refl)

-- ---- an accepted program
module _ (p : List ℕ) {c n e : ℕ} (a : Accepted p c n e) where
  -- the instruction before a start that is not the first
  pub start-before : (t : ℕ) → is_start p t ≡ true → (t ≡ 1 → ⊥) → Before p (starts p) 0 t
  unfolding starts
  start-before t m n = before p (length p) 1 0 t (omega arith) a.sound m n

  pub starts_apart : (x y : ℕ) → is_start p x ≡ true → is_start p y ≡ true → x < y → x + length_of (byte p x) ≤ y
  unfolding starts
  starts_apart x y m n l = apart p (length p) 1 x y a.sound m n l

  -- no opcode stands before the first
  zero-first : (t : ℕ) → is_start p t ≡ true → t ≡ 1 → opcode_before p 0 (starts p) t ≡ 0
  unfolding starts
  zero-first t m d = before-first p (length p) 1 0 t m d

  -- a CHECKPOINT is the instruction before the offset after it
  only : (o : ℕ) → is_start p o ≡ true → (i : Before p (starts p) 0 (o + 1)) → i.at ≡ o
  only o m i =
      bool_cases (ltb i.at o)
      (λ d. let l = starts_apart i.at o i.start m (ltb-true _ _ d) in let z = i.ends in absurd (omega arith))
      (λ d. let l : o ≤ i.at = ltb-false _ _ d in let z = i.ends in let w = (start-whole p a i.at i.start).0 in omega arith)

  -- `after_checkpoint` holds after every CHECKPOINT
  pub after-checkpoint : (o : ℕ) → is_start p o ≡ true → byte p o ≡ 0x0E → after_checkpoint p (o + 1) ≡ true
  unfolding length_of
  after-checkpoint o m k =
      let s : is_start p (o + 1) ≡ true = rw k at (start-next p a o m (rw k)) in
      let w = start-within p a o m in
      let i = start-before (o + 1) s (λ d. omega arith) in
      rw (s, ← i.opcode, only o m i, k)

  -- and nowhere else
  pub checkpoint-before : (t : ℕ) → after_checkpoint p t ≡ true → (o : ℕ) × (is_start p o ≡ true) × (byte p o ≡ 0x0E) × (t ≡ o + 1)
  unfolding length_of
  checkpoint-before t h =
      let b = and_both (is_start p t) (eqb (opcode_before p 0 (starts p) t) 0x0E) h in
      let k : opcode_before p 0 (starts p) t ≡ 0x0E = eqb-true _ _ b.1 in
      let i = start-before t b.0 (λ d. omega (arith, zero-first t b.0 d)) in
      let x : byte p i.at ≡ 0x0E = i.opcode ∙ k in
      (i.at, i.start, x, rw x at i.ends)

-- an EXCLUDE among the offsets has a number below their count of EXCLUDEs
number-below : (p os : List ℕ) (t : ℕ) → among t os ≡ true → byte p t ≡ 0x0D → excludes_before p os t < excludes p os
unfolding among excludes excludes_before
number-below p [] t m k = clash false m refl
number-below p (o ∷ os) t m k =
    bool_cases (eqb o t)
    (λ d. let d' : o ≡ t = eqb-true _ _ d in let x : byte p o ≡ 0x0D = rw d' k in rw (d, x) (omega arith))
    (λ d. let m' : among t os ≡ true = rw d at m in rw d (omega (arith, number-below p os t m' k)))

pub exclude-below : (p : List ℕ) (t : ℕ) → is_exclude p t ≡ true → exclude_number p t < excludes p (starts p)
exclude-below p t h =
    let b = and_both (is_start p t) (eqb (byte p t) 0x0D) h in
    number-below p (starts p) t b.0 (eqb-true _ _ b.1)
