-- The set of cells to store, on plain numbers: one bit of it, more bits from fewer, a word made from its highest eight bits down, and the set from
-- its four words, cut at n.
-- Assumes nothing.
use mathlib.Core.Path.{◌≡◌, refl, sym, ap, ◌∙◌}
use mathlib.Core.Logic.{⊎_elim}
use mathlib.Core.List.{List, [], ◌∷◌}
use mathlib.Core.Bool.{Bool, true, false, cond, ◌&&◌}
use Prim.Native.Nat.{ℕ, zero, suc, ◌+◌, ◌-◌, ◌*◌, ◌/◌, ◌%◌, ◌^◌, ◌≤◌, ◌<◌, min, zero-le}
use native.Mathlib.Nat.{lt_of_lt_of_le, mul-le-mul_right, suc-mul}
use native.Mathlib.Omega.{arith}
use lib.Bits.{block_half, block_odd}
use lib.Dec.{ltb, leb}
use lib.Pow.{pow_pos, pow_mono, pow-add, shr-shr, high}
use lib.ListN.{get_or}
use borrow.Author.Tests.{lt-ltb, le-ltb, le-leb, lt-leb}
use Rattle.cellset.specs.Bits.{bit, within}
use Rattle.cellset.specs.Sets.{SetIs}
use Rattle.cellset.proofs.Bits.{bit-zero, bit-suc, le-or-lt}
use Rattle.marks.specs.Marks.{mark_of, is_stored_of, to_store}

-- those of the 256 that lie below n are those of n
pub store-cut : (n : ℕ) (ms : List ℕ) (c : ℕ) → c < 256 → min (to_store 256 ms c) (within 0 n c) ≡ to_store n ms c
store-cut n ms c h = rw (lt-ltb c 256 h, le-leb 0 c zero-le) (both (is_stored_of (mark_of (get_or ms c 0))) (ltb c n))
  where
    both : (s b : Bool) → min (cond s 1 0) (cond b 1 0) ≡ cond (b && s) 1 0
    both true true = refl
    both true false = refl
    both false true = refl
    both false false = refl

-- ---- words of few cells

-- a word whose first cell is none of n holds 0
abbrev pub nearby : ℕ → List ℕ → ℕ → ℕ
nearby n ms c = cond (leb n (64 * (c / 64))) 0 (to_store 256 ms c)

-- cut at n, nothing is lost by it
pub near-cut : (n : ℕ) (ms : List ℕ) (c : ℕ) → c < 256 → min (nearby n ms c) (within 0 n c) ≡ to_store n ms c
near-cut n ms c h =
    ⊎_elim
    (λ (p : n ≤ 64 * (c / 64)). rw (le-leb n (64 * (c / 64)) p, le-ltb c n (omega arith)) (omega arith))
    (λ (p : 64 * (c / 64) < n). rw (lt-leb n (64 * (c / 64)) p) (store-cut n ms c h))
    (le-or-lt n (64 * (c / 64)))

-- ---- bits from fewer bits

-- w has m bits, those that f gives from c on
abbrev pub Made : (ℕ → ℕ) → (c m w : ℕ) → Type 0
Made f c m w = (w < 2 ^ m) × ((k : ℕ) → k < m → bit w k ≡ f (c + k))

-- a bit by itself
pub made_one : (f : ℕ → ℕ) (c : ℕ) {b : ℕ} → (b < 2) × (b ≡ f c) → Made f c 1 b
made_one f c {b} (h, e) = (h, one)
  where
    one : (k : ℕ) → k < 1 → bit b k ≡ f (c + k)
    one zero l =
        let last : b % 2 ≡ b = omega arith in
        bit-zero b ∙ last ∙ e ∙ ap f (omega arith)
    one (suc k) l = absurd (omega arith)

-- the m low bits of a sum are those of its low part
bit-low : (m lo hi k : ℕ) → k < m → bit (hi * 2 ^ m + lo) k ≡ bit lo k
bit-low zero lo hi k l = absurd (omega arith)
bit-low (suc m) lo hi zero l = bit-zero (hi * 2 ^ suc m + lo) ∙ block_odd hi m lo ∙ sym (bit-zero lo)
bit-low (suc m) lo hi (suc k) l =
    bit-suc (hi * 2 ^ suc m + lo) k ∙ ap (λ (x : ℕ). bit x k) (block_half hi m lo) ∙ bit-low m (lo / 2) hi k (omega arith) ∙ sym (bit-suc lo k)

-- the others are those of its high part
bit_high : (m lo hi k : ℕ) → lo < 2 ^ m → bit (hi * 2 ^ m + lo) (m + k) ≡ bit hi k
unfolding bit
bit_high m lo hi k h = ap (λ (x : ℕ). x % 2) (sym (shr-shr (hi * 2 ^ m + lo) m k) ∙ ap (λ (x : ℕ). x / 2 ^ k) (high hi m h))

-- so n bits above m bits are m + n
module _ (f : ℕ → ℕ) (c m n : ℕ) {lo hi : ℕ} (l : Made f c m lo) (h : Made f (c + m) n hi) where
  join-bits : (k : ℕ) → k < m + n → bit (lo + hi * 2 ^ m) k ≡ f (c + k)
  join-bits k lt =
      let swap : lo + hi * 2 ^ m ≡ hi * 2 ^ m + lo = omega arith in
      ap (λ (x : ℕ). bit x k) swap
      ∙ ⊎_elim
      (λ (p : m ≤ k).
      let up : k ≡ m + (k - m) = omega arith in
      ap (bit (hi * 2 ^ m + lo)) up ∙ bit_high m lo hi (k - m) l.0 ∙ h.1 (k - m) (omega arith) ∙ ap f (omega arith))
      (λ (p : k < m). bit-low m lo hi k p ∙ l.1 k p)
      (le-or-lt m k)

  pub made-join : Made f c (m + n) (lo + hi * 2 ^ m)
  made-join = (rw (pow-add 2 m n) (omega (arith, l.0, mul-le-mul_right (2 ^ m) h.0, suc-mul hi (2 ^ m))), join-bits)

-- ---- the loop of `stored_word`

-- w holds the bits from eight number e to the last one of the word whose first cell is `first`
pub record Filled (f : ℕ → ℕ) (first w e : ℕ) : Type 0 where
  pub low : e ≤ 8
  pub made : Made f (first + 8 * e) (64 - 8 * e) w

-- no bit yet
pub filled-first : (f : ℕ → ℕ) (first : ℕ) → Filled f first 0 8
filled-first f first = record { low = omega arith; made = (omega arith, (λ k l. absurd (omega arith))) }

module _ {f : ℕ → ℕ} {first w e : ℕ} (q : Filled f first w e) where
  module _ {v : ℕ} (h : 0 < e) (m : Made f (first + 8 * (e - 1)) 8 v) where
    -- eight bits more are made
    pub filled-turn : Filled f first (v + w * 256) (e - 1)
    filled-turn =
        let up : 64 - 8 * (e - 1) ≡ 8 + (64 - 8 * e) = omega (arith, q.low) in
        let at : first + 8 * e ≡ first + 8 * (e - 1) + 8 = omega arith in
        record {
          low = omega (arith, q.low);
          made = rw up (made-join f (first + 8 * (e - 1)) 8 (64 - 8 * e) m (rw at at q.made));
        }

    -- and what is made is a word still
    pub filled-room : v + w * 256 < 2 ^ 64
    filled-room = lt_of_lt_of_le filled-turn.made.0 (pow_mono {j = 64} (omega arith))

  -- at the end all 64 are there
  pub filled-done : e ≤ 0 → (j : ℕ) → j < 64 → bit w j ≡ f (first + j)
  filled-done h j l = q.made.1 j (omega arith) ∙ ap f (omega arith)

-- the bits of `word_below` are such a word's
pub made-near : (n : ℕ) (ms : List ℕ) (first : ℕ) {w : ℕ} → 64 * (first / 64) ≡ first → w < 2 ^ 64
    → ((k : ℕ) → k < 64 → bit w k ≡ cond (leb n first) 0 (to_store 256 ms (first + k))) → Made (nearby n ms) first 64 w
made-near n ms first e h b =
    (h, λ k l. let at : first ≡ 64 * ((first + k) / 64) = omega arith in b k l ∙ ap (λ (x : ℕ). cond (leb n x) 0 (to_store 256 ms (first + k))) at)

-- ---- a set from its four words
module _ (f : ℕ → ℕ) {p q r s : ℕ} (w₀ : Made f 0 64 p) (w₁ : Made f 64 64 q) (w₂ : Made f 128 64 r) (w₃ : Made f 192 64 s) where
  word : (i : ℕ) → (get_or (p ∷ q ∷ r ∷ s ∷ []) i 0 < 2 ^ 64) × (i < 4 → (k : ℕ) → k < 64 → bit (get_or (p ∷ q ∷ r ∷ s ∷ []) i 0) k ≡ f (64 * i + k))
  word zero = (w₀.0, (λ l. w₀.1))
  word (suc zero) = (w₁.0, (λ l. w₁.1))
  word (suc (suc zero)) = (w₂.0, (λ l. w₂.1))
  word (suc (suc (suc zero))) = (w₃.0, (λ l. w₃.1))
  word (suc (suc (suc (suc n)))) = (pow_pos 64, (λ l. absurd (omega arith)))

  pub made-set : SetIs (p ∷ q ∷ r ∷ s ∷ []) f
  made-set = record {
    four = refl;
    fits = λ i. (word i).0;
    members = λ c l. (word (c / 64)).1 (omega arith) (c % 64) (omega arith) ∙ ap f (omega arith);
  }
