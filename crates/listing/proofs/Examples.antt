-- Document 01's listings: the small plan's two lines, those of `00 0D 01`, and a refused plan's, by computation.
-- Assumes nothing.
use mathlib.Core.Path.{◌≡◌, refl}
use mathlib.Core.List.{List, [], ◌∷◌}
use Prim.Native.Nat.{ℕ}
use Rattle.cellset.specs.Bits.{bit}
use Rattle.instruction.specs.Bytes.{length_of}
use Rattle.program.specs.Starts.{starts_from, starts}
use Rattle.program.specs.Places.{excludes_before}
use Rattle.program.proofs.Examples.{small}
use Rattle.analysis.specs.Analyse.{Analysed}
use Rattle.analysis.specs.Analyse.{Sets, Refused}
use Rattle.listing.specs.Text.{bytes, digits, decimal}
use Rattle.listing.specs.Listing.{number_if, numbers, set_of, line_from, line_at, lines_of, head_of, accepted_of, listing_of}

-- an answer, a program, the words of its sets, and the text that they are to give
record Row : Type 0 where
  answer : Analysed
  program : List ℕ
  sets : List ℕ
  want : List ℕ

abbrev rows : List Row
rows =
    record { answer = Sets 3 7 1; program = small; sets = 6 ∷ 0 ∷ 0 ∷ 0 ∷ 4 ∷ 0 ∷ 0 ∷ 0 ∷ []; want = bytes "cells 3\n15 dead 1 2 fixed 2 saved 0\n" }
    ∷ record { answer = Sets 1 2 1; program = 0x00 ∷ 0x0D ∷ 0x01 ∷ []; sets = 0 ∷ 0 ∷ 0 ∷ 0 ∷ 1 ∷ 0 ∷ 0 ∷ 0 ∷ []; want = bytes "cells 1\n1 dead fixed 0 saved\n" }
    ∷ record { answer = Refused 2; program = 0x00 ∷ 0x7F ∷ []; sets = []; want = bytes "refused 2\n" }
    ∷ []

abbrev given : List Row → List (List ℕ)
given [] = []
given (r ∷ rs) = listing_of r.answer r.program r.sets ∷ given rs

abbrev wanted : List Row → List (List ℕ)
wanted [] = []
wanted (r ∷ rs) = r.want ∷ wanted rs

-- all rows at once
pub rows_right : given rows ≡ wanted rows
unfolding bit length_of starts_from starts excludes_before bytes digits decimal number_if numbers set_of line_from line_at lines_of head_of accepted_of
rows_right = refl
