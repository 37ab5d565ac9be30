-- Text as bytes, and what it is to write a text into a buffer that may be too short for it.
-- Assumes nothing.
use Rattle.std.specs.Prelude.{ℕ, zero, suc, ◌+◌, ◌/◌, ◌%◌, ◌^◌, ◌<◌, ◌≡◌, List, [], ◌∷◌, ◌++◌, cond, length, ltb}
use Prim.Native.Char.{code}
use Prim.Native.String.{String, len, char_at}
use Rattle.std.proofs.lemmas.List.Edits.{sets}

-- n characters of a text of ASCII characters, from character i on
abbrev characters_from : ℕ → String → ℕ → List ℕ
characters_from zero s i = []
characters_from (suc n) s i = code (char_at s i) ∷ characters_from n s (suc i)

-- the bytes of a text of ASCII characters
unfoldable pub bytes : String → List ℕ
bytes s = characters_from (len s) s 0

-- the last f decimal digits of n, or all of them where it has fewer, with no zero in front
unfoldable pub digits : ℕ → ℕ → List ℕ
digits zero n = []
digits (suc f) n = let front = digits f (n / 10) in cond (ltb n 10) [] front ++ ((48 + n % 10) ∷ [])

-- a number in decimal: it has no more than n + 1 digits
unfoldable pub decimal : ℕ → List ℕ
decimal n = digits (suc n) n

-- the text stands in the buffer from index `at` on, as far as the buffer reaches, the other bytes remain, and r is the index after the text:
-- `sets` stores byte by byte, and to store past the end changes nothing
pub record Wrote (text : List ℕ) (at : ℕ) (before after : List ℕ) (r : ℕ) : Type 0 where
  pub stored : after ≡ sets before at text
  pub end : r ≡ at + length text

-- the index after the text is a number that the machine can hold
pub record Room (at : ℕ) (text : List ℕ) : Type 0 where
  pub fits : at + length text < 2 ^ 64
