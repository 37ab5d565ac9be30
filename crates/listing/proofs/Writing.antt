-- Texts that are written one after the other: what stands in the buffer, and that there is room for each.
-- Assumes nothing.
use mathlib.Core.Path.{◌≡◌, refl, sym, ap, ◌∙◌}
use mathlib.Core.List.{List, [], ◌∷◌, ◌++◌}
use Prim.Native.Nat.{ℕ, suc, ◌+◌, ◌≤◌, ◌<◌}
use native.Mathlib.Nat.{add-zero}
use native.Mathlib.Numerals.{add-one}
use native.Mathlib.Omega.{arith}
use lib.ListN.{length, get_or, take, set, length-append}
use lib.Seq.{sets, take-suc}
use Rattle.listing.specs.Text.{Wrote, Room}

-- to store two texts one after the other is to store both
sets-append : (l : List ℕ) (at : ℕ) (a b : List ℕ) → sets l at (a ++ b) ≡ sets (sets l at a) (at + length a) b
sets-append l at [] b = rw (add-zero at)
sets-append l at (x ∷ a) b =
    let e : suc at + length a ≡ at + suc (length a) = omega arith in
    sets-append (set l at x) (suc at) a b ∙ rw e

-- no text
pub wrote_none : {at : ℕ} {out : List ℕ} → Wrote [] at out out at
wrote_none = record { stored = refl; end = omega arith }

-- a text of two parts
pub record Parts (text a b : List ℕ) : Type 0 where
  pub is : text ≡ a ++ b

pub joined : (a b : List ℕ) → Parts (a ++ b) a b
joined a b = record { is = refl }

-- it is written when its parts are, one after the other
pub wrote_then : {text a b : List ℕ} {at r s : ℕ} {o₀ o₁ o₂ : List ℕ} → Parts text a b → Wrote a at o₀ o₁ r → Wrote b r o₁ o₂ s → Wrote text at o₀ o₂ s
wrote_then {text} {a} {b} {at} {o₀ = o₀} p v w = rw p.is record {
  stored = w.stored ∙ rw (v.end, v.stored) (sym (sets-append o₀ at a b));
  end = w.end ∙ rw (v.end, length-append a b) (omega arith);
}

-- room for it is room for the first, and for the second where the first ends
pub room-first : {text a b : List ℕ} {at : ℕ} → Parts text a b → Room at text → Room at a
room-first {text} {a} {b} p h = record { fits = omega (arith, ap length p.is, length-append a b, h.fits) }

pub room-then : {text a b : List ℕ} {at r : ℕ} {o₀ o₁ : List ℕ} → Parts text a b → Room at text → Wrote a at o₀ o₁ r → Room r b
room-then {text} {a} {b} p h w = record { fits = omega (arith, ap length p.is, length-append a b, h.fits, w.end) }

-- `put_word`: the first i bytes of the word are written
pub record Spelling (word : List ℕ) (at : ℕ) (before after : List ℕ) (end i : ℕ) : Type 0 where
  pub room : Room at word
  pub most : i ≤ length word
  pub wrote : Wrote (take i word) at before after end

pub spelling-turn : {word : List ℕ} {at end end' i : ℕ} {before after after' : List ℕ} → Spelling word at before after end i → i < length word
    → Wrote (get_or word i 0 ∷ []) end after after' end' → Spelling word at before after' end' (i + 1)
spelling-turn {word} {i = i} s l w = record {
  room = s.room;
  most = omega arith;
  wrote = wrote_then (record { is = rw (add-one i) (take-suc word i 0 l) }) s.wrote w;
}
