-- The text that the program plan-sets writes: document 01, "A small plan".
-- Assumes nothing.
use Rattle.std.specs.Prelude.{ℕ, zero, suc, ◌+◌, ◌-◌, ◌*◌, ◌≤◌, max, ◌≡◌, List, [], ◌∷◌, ◌++◌, cond, eqb}
use Rattle.cellset.specs.Bits.{member}
use Rattle.instruction.specs.Bytes.{byte, cells_of}
use Rattle.program.specs.Starts.{starts}
use Rattle.program.specs.Places.{exclude_number}
use Rattle.analysis.specs.Analyse.{analyse_of, ExcludeSets}
use Rattle.analysis.specs.Analyse.{Analysed}
use Rattle.analysis.specs.Analyse.{Sets, Refused}
use Rattle.listing.specs.Text.{bytes, decimal, Wrote}

-- a space and a cell's number where the cell is in the set: b is 1 where it is
unfoldable pub number_if : ℕ → ℕ → List ℕ
number_if b c = cond (eqb b 1) (bytes " " ++ decimal c) []

-- "rising": the cells below n that are in the set; "an empty set leaves its word without numbers"
unfoldable pub numbers : (ℕ → ℕ) → ℕ → List ℕ
numbers f zero = []
numbers f (suc c) = numbers f c ++ number_if (f c) c

-- a word and the numbers of its set
unfoldable pub set_of : List ℕ → (ℕ → ℕ) → ℕ → List ℕ
set_of word f n = word ++ numbers f n

-- "its offset, DE, RO, the cells in neither"; "Every line ends with a line feed"
unfoldable pub line_from : ℕ → (de ro neither : ℕ → ℕ) → ℕ → List ℕ
line_from offset de ro neither n =
    decimal offset ++ set_of (bytes " dead") de n ++ set_of (bytes " fixed") ro n ++ set_of (bytes " saved") neither n ++ bytes "\n"

-- 1 where the cell is in neither
abbrev pub in_neither : (de ro : ℕ → ℕ) → ℕ → ℕ
in_neither de ro c = 1 - max (de c) (ro c)

-- the line of an EXCLUDE whose sets stand in the words s by its number
unfoldable pub line_at : List ℕ → (number offset n : ℕ) → List ℕ
line_at s number offset n =
    let de = member s (8 * number) in
    let ro = member s (8 * number + 4) in
    line_from offset de ro (in_neither de ro) n

-- that of the EXCLUDE at offset e
abbrev pub line_of : (p s : List ℕ) → ℕ → List ℕ
line_of p s e = line_at s (exclude_number p e) e (cells_of p)

-- "one line per EXCLUDE by offset": of those among the offsets os
unfoldable pub lines_of : (p s os : List ℕ) → List ℕ
lines_of p s [] = []
lines_of p s (o ∷ os) = cond (eqb (byte p o) 0x0D) (line_of p s o) [] ++ lines_of p s os

-- a line of a word and a number
unfoldable pub head_of : List ℕ → ℕ → List ℕ
head_of word n = word ++ decimal n ++ bytes "\n"

-- "The header has the cell count"; "After the header, one line per EXCLUDE"
unfoldable pub accepted_of : (p s : List ℕ) → List ℕ
accepted_of p s = head_of (bytes "cells ") (cells_of p) ++ lines_of p s (starts p)

-- the text for an answer, a program and the words of its sets; "A refused plan gives one line only, as `refused 2`"
abbrev pub listing_of : Analysed → (p s : List ℕ) → List ℕ
listing_of (Sets cells instructions excludes) p s = accepted_of p s
listing_of (Refused n) p s = head_of (bytes "refused ") n

-- the whole text, which has at most 140,000 bytes, stands in the buffer from its start on
pub record Listed (answer : Analysed) (p s before after : List ℕ) (r : ℕ) : Type 0 where
  pub wrote : Wrote (listing_of answer p s) 0 before after r
  pub short : r ≤ 140000

-- what `list` promises: the text is that of analyse's answer for buffers of 2,048 and 512 words, and of an accepted program's sets
pub record Lists (p before after : List ℕ) (r : ℕ) : Type 0 where
  pub sets : List ℕ
  pub lent : List ℕ
  pub filled : (cells instructions excludes : ℕ) → analyse_of p 2048 512 ≡ Sets cells instructions excludes → ExcludeSets p lent sets
  pub listed : Listed (analyse_of p 2048 512) p sets before after r
