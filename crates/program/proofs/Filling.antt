-- The table of places, filled from the front: below the offset of the turn it is done, from there on it is clear.
-- Assumes nothing.
use mathlib.Core.Path.{◌≡◌, refl, sym, ◌∙◌}
use mathlib.Core.List.{List, [], ◌∷◌}
use mathlib.Core.Bool.{false, cond}
use Prim.Native.Nat.{ℕ, zero, suc, ◌+◌, ◌≤◌, ◌<◌, min}
use native.Mathlib.Omega.{arith}
use lib.ListN.{length, get_or, set, length-set, replicate, length-replicate}
use lib.Seq.{get_or-set_same, get_or-set_other}
use lib.Dec.{ltb, eqb}
use borrow.Author.Tests.{ltb-true, ltb-false, eqb-true, eqb-false, ne_eqb, eq-eqb}
use Rattle.instruction.specs.Bytes.{byte, length_of}
use Rattle.program.specs.Starts.{starts_from, starts, among}
use Rattle.program.specs.Places.{opcode_before, excludes_before, place_from_of, place_of, entry_at, Places, Blank}
use Rattle.program.proofs.Tests.{bool_cases}

-- no instruction starts past the end, nor before the offset where the list begins
pub none-past : (p : List ℕ) (f o t : ℕ) → length p ≤ t → among t (starts_from f p o) ≡ false
unfolding among starts_from
none-past p zero o t h = refl
none-past p (suc f) o t h =
    let ih = none-past p f (o + length_of (byte p o)) t h in
    bool_cases (ltb o (length p))
    (λ b. let lt : o < length p = ltb-true _ _ b in let ne : o ≡ t → ⊥ = λ e. omega arith in rw (b, ne_eqb _ _ ne) ih)
    (λ b. rw b)

pub none_before : (p : List ℕ) (f o t : ℕ) → t < o → among t (starts_from f p o) ≡ false
unfolding among starts_from
none_before p zero o t h = refl
none_before p (suc f) o t h =
    let ih = none_before p f (o + length_of (byte p o)) t (omega arith) in
    bool_cases (ltb o (length p)) (λ b. let ne : o ≡ t → ⊥ = λ e. omega arith in rw (b, ne_eqb _ _ ne) ih) (λ b. rw b)

-- the byte of offset t from the offsets to come, k the opcode before them and e the EXCLUDEs before them
unfoldable pub place_in : List ℕ → ℕ → ℕ → List ℕ → ℕ → ℕ
place_in p k e os t = cond (among t os) (place_from_of (opcode_before p k os t) (byte p t) (e + excludes_before p os t)) 0

-- at the first of them; at another; at none
place_here : (p : List ℕ) (k e o : ℕ) (os : List ℕ) → place_in p k e (o ∷ os) o ≡ place_from_of k (byte p o) e
unfolding place_in among opcode_before excludes_before
place_here p k e o os = let z : e + 0 ≡ e = omega arith in rw (eq-eqb o o refl, z)

place-later : (p : List ℕ) (k e o : ℕ) (os : List ℕ) (t : ℕ) → (o ≡ t → ⊥)
    → place_in p k e (o ∷ os) t ≡ place_in p (byte p o) (e + cond (eqb (byte p o) 0x0D) 1 0) os t
unfolding place_in among opcode_before excludes_before
place-later p k e o os t ne =
    let z : e + (cond (eqb (byte p o) 0x0D) 1 0 + excludes_before p os t) ≡ e + cond (eqb (byte p o) 0x0D) 1 0 + excludes_before p os t = omega arith in
    rw (ne_eqb o t ne, z)

place_none : (p : List ℕ) (k e : ℕ) (os : List ℕ) (t : ℕ) → among t os ≡ false → place_in p k e os t ≡ 0
unfolding place_in
place_none p k e os t h = rw h

-- `walk`: at the turn's offset; k is the opcode before it and e the number of EXCLUDEs before it
pub record Filling (p m : List ℕ) (k e at : ℕ) (os : List ℕ) : Type 0 where
  pub size : length m ≡ 2048
  pub done : (t : ℕ) → t < at → get_or m t 0 ≡ place_of p t
  pub clear : (t : ℕ) → at ≤ t → get_or m t 0 ≡ 0
  pub todo : (t : ℕ) → at ≤ t → place_of p t ≡ place_in p k e os t

place-first : (p : List ℕ) (t : ℕ) → place_of p t ≡ place_in p 0 0 (starts p) t
unfolding place_of place_in
place-first p t = let z : 0 + excludes_before p (starts p) t ≡ excludes_before p (starts p) t = omega arith in rw z

zeros : (n t : ℕ) → ◌≡◌ {A = ℕ} (get_or (replicate n 0) t 0) 0
zeros zero t = refl
zeros (suc n) zero = refl
zeros (suc n) (suc t) = zeros n t

-- 2,048 zeros are a table with no place in it
pub blank-zeros : Blank (replicate 2048 0)
blank-zeros = record { size = length-replicate {A = ℕ} 2048 0; clear = zeros 2048 }

pub filling-first : (p : List ℕ) {m : List ℕ} → Blank m → Filling p m 0 0 1 (starts p)
unfolding starts
filling-first p b = record {
  size = b.size;
  done = λ t l. b.clear t ∙ sym (place-first p t ∙ place_none p 0 0 (starts p) t (none_before p (length p) 1 t l));
  clear = λ t l. b.clear t;
  todo = λ t l. place-first p t;
}

-- a turn: v goes to the offset, x is 1 for an EXCLUDE, and os are the offsets from `at + n` on
module _ (p m : List ℕ) (k e at n v x : ℕ) (os : List ℕ) (q : Filling p m k e at (at ∷ os)) (low : at < 2048) (some : 0 < n)
    (ev : v ≡ place_from_of k (byte p at) e) (ex : x ≡ cond (eqb (byte p at) 0x0D) 1 0) (none : (t : ℕ) → t < at + n → among t os ≡ false) where
  later : (t : ℕ) → at < t → place_of p t ≡ place_in p (byte p at) (e + x) os t
  later t l = q.todo t (omega arith) ∙ rw ex (place-later p k e at os t (λ d. omega arith))

  filled : (t : ℕ) → t < at + n → get_or (set m at v) t 0 ≡ place_of p t
  filled t l =
      bool_cases (eqb at t)
      (λ b.
      let d : at ≡ t = eqb-true _ _ b in
      rw (← d) (get_or-set_same m at v 0 (omega (arith, q.size)) ∙ ev ∙ sym (q.todo at (omega arith) ∙ place_here p k e at os)))
      (λ b.
      let ne : at ≡ t → ⊥ = eqb-false _ _ b in
      get_or-set_other m at t v 0 (λ d. ne (sym d))
      ∙ bool_cases (ltb t at)
      (λ c. q.done t (ltb-true _ _ c))
      (λ c. let ge : at ≤ t = ltb-false _ _ c in q.clear t ge ∙ sym (later t (omega arith) ∙ place_none p (byte p at) (e + x) os t (none t l))))

  filled-turn : Filling p (set m at v) (byte p at) (e + x) (at + n) os
  filled-turn = record {
    size = rw length-set q.size;
    done = filled;
    clear = λ t l. get_or-set_other m at t v 0 (λ d. omega arith) ∙ q.clear t (omega arith);
    todo = λ t l. later t (omega arith);
  }

pub filling-turn : (p m : List ℕ) (f : ℕ) {k e at n v x : ℕ} → at < 2048 → 0 < n → e ≤ 64 → v ≡ place_from_of k (byte p at) (min e 64)
    → x ≡ cond (eqb (byte p at) 0x0D) 1 0 → Filling p m k e at (at ∷ starts_from f p (at + n)) → Filling p (set m at v) (byte p at) (e + x) (at + n) (starts_from f p (at + n))
filling-turn p m f {k} {e} {at} {n} {v} {x} low some few ev ex q =
    let z : min e 64 ≡ e = omega arith in
    filled-turn p m k e at n v x (starts_from f p (at + n)) q low some (rw z at ev) ex (none_before p f (at + n))

-- the loop is left: every offset has its byte, those past the end too
pub filling-done : (p m : List ℕ) {k e at : ℕ} → length p ≤ 2048 → Filling p m k e at [] → Places p m
unfolding entry_at among place_of starts
filling-done p m {k} {e} {at} most q t =
    bool_cases (ltb t 2048)
    (λ b. rw b
    (bool_cases (ltb t at)
    (λ c. q.done t (ltb-true _ _ c))
    (λ c. let ge : at ≤ t = ltb-false _ _ c in q.clear t ge ∙ sym (q.todo t ge ∙ place_none p k e [] t refl))))
    (λ b. let ge : 2048 ≤ t = ltb-false _ _ b in rw (b, none-past p (length p) 1 t (omega arith)))
