-- The four words of a set, given by its members. Two lists of words for which this holds are equal (`same-words` of proofs/Sets.antt),
-- so a contract by it decides every word.
-- Assumes nothing.
use Rattle.std.specs.Prelude.{ℕ, ◌^◌, ◌<◌, ◌≡◌, List, length, get_or}
use Rattle.cellset.specs.Bits.{has}

-- s is four words of 64 bits, and cell c is in it where f c is 1
pub record SetIs (s : List ℕ) (f : ℕ → ℕ) : Type 0 where
  pub four : length s ≡ 4
  pub fits : (i : ℕ) → get_or s i 0 < 2 ^ 64
  pub members : (c : ℕ) → c < 256 → has s c ≡ f c
