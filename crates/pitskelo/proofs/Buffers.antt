-- The words in a buffer of bytes, one by one, and what they are after words were stored there.
-- Assumes nothing.
use mathlib.Core.Path.{◌≡◌, sym, ◌∙◌, ap}
use mathlib.Core.Logic.{⊎_elim}
use mathlib.Core.List.{List}
use Prim.Native.Nat.{ℕ, zero, suc, ◌+◌, ◌*◌, ◌/◌, ◌≤◌, ◌<◌}
use native.Mathlib.Omega.{arith}
use lib.ListN.{length, get_or, get_or-eq_default}
use Rattle.word.specs.Bytes.{load_of}
use Rattle.word.proofs.Bytes.{load_same}
use Rattle.cellset.proofs.Bits.{le-or-lt}
use Rattle.layout.specs.Numbers.{numbers_from}
use Rattle.layout.proofs.Numbering.{numbers-length}
use Rattle.pitskelo.specs.Calls.{words_of}
use Rattle.pitskelo.specs.Storing.{Stored}

-- ---- the words one by one

from_at : (n : ℕ) (b : List ℕ) (at k : ℕ) → k < n → get_or (numbers_from 8 n b at) k 0 ≡ load_of 8 b (at + 8 * k)
unfolding numbers_from
from_at zero b at k h = absurd (omega arith)
from_at (suc n) b at zero h = ap (load_of 8 b) (omega arith)
from_at (suc n) b at (suc k) h = from_at n b (at + 8) k (omega arith) ∙ ap (load_of 8 b) (omega arith)

-- so many whole words, and word k from byte 8 × k on
pub length-words : (b : List ℕ) → length (words_of b) ≡ length b / 8
unfolding words_of
length-words b = numbers-length 8 (length b / 8) b 0

pub word_at : (b : List ℕ) (k : ℕ) → k < length b / 8 → get_or (words_of b) k 0 ≡ load_of 8 b (8 * k)
unfolding words_of
word_at b k h = from_at (length b / 8) b 0 k h ∙ ap (load_of 8 b) (omega arith)

-- there is no other
pub word-past : (b : List ℕ) (k : ℕ) → length b / 8 ≤ k → get_or (words_of b) k 0 ≡ 0
word-past b k h = get_or-eq_default (words_of b) 0 {n = k} (omega (arith, length-words b))

-- ---- stored words

-- the first n words of xs are those of `words`, the others are those of xs₀
pub record Moved (n : ℕ) (words xs₀ xs : List ℕ) : Type 0 where
  pub size : length xs ≡ length xs₀
  pub there : (k : ℕ) → k < n → get_or xs k 0 ≡ get_or words k 0
  pub rest : (k : ℕ) → n ≤ k → get_or xs k 0 ≡ get_or xs₀ k 0

module _ {b₀ words b : List ℕ} {n : ℕ} (q : Stored b₀ words n b) where
  words-rest : (k : ℕ) → n ≤ k → get_or (words_of b) k 0 ≡ get_or (words_of b₀) k 0
  words-rest k h =
      ⊎_elim
      (λ (l : length b₀ / 8 ≤ k). word-past b k (omega (arith, q.size)) ∙ sym (word-past b₀ k l))
      (λ (l : k < length b₀ / 8).
      word_at b k (omega (arith, q.size)) ∙ load_same 8 b b₀ (8 * k) (λ j f t. q.rest j (omega arith)) ∙ sym (word_at b₀ k l))
      (le-or-lt (length b₀ / 8) k)

  pub stored_moved : 8 * n ≤ length b₀ → Moved n words (words_of b₀) (words_of b)
  stored_moved room = record {
    size = omega (arith, length-words b, length-words b₀, q.size);
    there = λ k l. word_at b k (omega (arith, q.size)) ∙ q.there k l;
    rest = words-rest;
  }
