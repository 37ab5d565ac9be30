-- What the code of this crate computes, on plain words and lists: its tests and masks by their bits, a set from its four words, a set's words in a slice.
-- Assumes nothing.
use mathlib.Core.Path.{◌≡◌, refl, sym, ap, ap₂, ◌∙◌}
use mathlib.Core.Logic.{⊎_elim}
use mathlib.Core.List.{List, [], ◌∷◌}
use Prim.Native.Nat.{ℕ, zero, suc, ◌+◌, ◌-◌, ◌*◌, ◌/◌, ◌%◌, ◌^◌, ◌≤◌, ◌<◌, min, zero-le}
use native.Mathlib.Nat.{one-mul, mod-eq_of_lt}
use native.Mathlib.Omega.{arith}
use lib.Bits.{bit_and, and_mask}
use lib.Pow.{pow_pos, pow-lt}
use lib.Dec.{eqb}
use lib.ListN.{length, get_or, get_or-eq_default}
use mir.Syntax.{w64}
use mir.Val.{Fits}
use Rattle.cellset.specs.Bits.{bit, has, within}
use Rattle.cellset.specs.Sets.{SetIs}
use Rattle.cellset.proofs.Bits.{bit-ones, bit-past-ones, within_in, within-high, le-or-lt}

-- `(x >> k) & 1 == 1` tests bit k
pub test_bit : (x k : ℕ) → eqb (bit_and (x / 2 ^ k) 1) 1 ≡ eqb (bit x k) 1
unfolding bit
test_bit x k = ap (λ (n : ℕ). eqb n 1) (and_mask (x / 2 ^ k) 1)

-- `1 << k` does not wrap below 64
pub shifted : (k : ℕ) → k < 64 → 1 * 2 ^ k % 2 ^ 64 ≡ 2 ^ k
shifted k l = rw one-mul (mod-eq_of_lt (pow-lt l))

-- the m low bits are the cells below n in the word whose first cell is `first`, where m of its 64 cells lie below n
pub low_bits : (m n first k : ℕ) → m ≡ min 64 (n - first) → k < 64 → bit (2 ^ m - 1) k ≡ within 0 n (first + k)
low_bits m n first k e l =
    ⊎_elim
    (λ (p : m ≤ k). bit-past-ones m k p ∙ sym (within-high 0 n (first + k) (omega arith)))
    (λ (q : k < m). bit-ones m k q ∙ sym (within_in 0 n (first + k) zero-le (omega arith)))
    (le-or-lt m k)

-- cell 64 × i + k is bit k of word i
pub has-at : (s : List ℕ) (i k : ℕ) → k < 64 → has s (64 * i + k) ≡ bit (get_or s i 0) k
has-at s i k l =
    let q : (64 * i + k) / 64 ≡ i = omega arith in
    let r : (64 * i + k) % 64 ≡ k = omega arith in
    rw (q, r)

-- past the four words `get_or` gives 0, which fits
pub fits-four : (s : List ℕ) → length s ≡ 4 → ((i : ℕ) → i < 4 → get_or s i 0 < 2 ^ 64) → (i : ℕ) → get_or s i 0 < 2 ^ 64
fits-four s e h i = ⊎_elim (λ (p : 4 ≤ i). rw (get_or-eq_default s 0 {n = i} (omega arith)) (pow_pos 64)) (h i) (le-or-lt 4 i)

-- x is word i of the set of the cells at which f is 1
pub record Word (f : ℕ → ℕ) (i x : ℕ) : Type 0 where
  pub fits : x < 2 ^ 64
  pub cells : (k : ℕ) → k < 64 → bit x k ≡ f (64 * i + k)

-- a set from its words
words-set : (f : ℕ → ℕ) (s : List ℕ) → length s ≡ 4 → ((i : ℕ) → i < 4 → Word f i (get_or s i 0)) → SetIs s f
words-set f s e w = record {
  four = e;
  fits = fits-four s e (λ i l. (w i l).fits);
  members = λ c l. (w (c / 64) (omega arith)).cells (c % 64) (omega arith) ∙ ap f (omega arith);
}

-- from four of them
module _ {f : ℕ → ℕ} {p q r s : ℕ} (w₀ : Word f 0 p) (w₁ : Word f 1 q) (w₂ : Word f 2 r) (w₃ : Word f 3 s) where
  word : (i : ℕ) → i < 4 → Word f i (get_or (p ∷ q ∷ r ∷ s ∷ []) i 0)
  word zero l = w₀
  word (suc zero) l = w₁
  word (suc (suc zero)) l = w₂
  word (suc (suc (suc zero))) l = w₃
  word (suc (suc (suc (suc n)))) l = absurd (omega arith)

  pub four-words : SetIs (p ∷ q ∷ r ∷ s ∷ []) f
  four-words = words-set f (p ∷ q ∷ r ∷ s ∷ []) refl word

-- an operation on words that is `g` at each bit is `g` at each cell of two sets
module _ (op g : ℕ → ℕ → ℕ) (fits : (u v : ℕ) → u < 2 ^ 64 → v < 2 ^ 64 → op u v < 2 ^ 64)
    (bits : (k u v : ℕ) → v < 2 ^ 64 → k < 64 → bit (op u v) k ≡ g (bit u k) (bit v k))
    (a b : List ℕ) (fits-a : (i : ℕ) → Fits w64 (get_or a i 0)) (fits-b : (i : ℕ) → Fits w64 (get_or b i 0)) where
  op-word : (i : ℕ) → Word (λ c. g (has a c) (has b c)) i (op (get_or a i 0) (get_or b i 0))
  op-word i = record {
    fits = fits (get_or a i 0) (get_or b i 0) (fits-a i).fits (fits-b i).fits;
    cells = λ k l. bits k (get_or a i 0) (get_or b i 0) (fits-b i).fits l ∙ sym (ap₂ g (has-at a i k l) (has-at b i k l));
  }

  pub wordwise : (r : List ℕ) → length r ≡ 4 → ((i : ℕ) → i < 4 → get_or r i 0 ≡ op (get_or a i 0) (get_or b i 0)) → SetIs r (λ c. g (has a c) (has b c))
  wordwise r e w = words-set (λ c. g (has a c) (has b c)) r e (λ i l. rw (w i l) (op-word i))
