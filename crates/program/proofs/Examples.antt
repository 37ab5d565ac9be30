-- Document 01's rows about the check, each a program with the answer's number and values: one fact over all of them, computed.
-- Assumes nothing.
use mathlib.Core.Path.{◌≡◌, refl}
use mathlib.Core.List.{List, [], ◌∷◌, ◌++◌, map}
use Prim.Native.Nat.{ℕ}
use lib.ListN.{replicate}
use Rattle.word.specs.Bytes.{number_of}
use Rattle.instruction.specs.Bytes.{length_of, instruction_at_of}
use Rattle.program.specs.Starts.{starts_from, starts, refusal_at_of, first_refusal, excludes, last_opcode, among, jumps_among}
use Rattle.program.specs.Check.{Answer, answer_of, check_of}

pub record Row : Type 0 where
  pub program : List ℕ
  pub answer : Answer

-- a row of the table "Refused inputs": the number alone
abbrev refused : List ℕ → ℕ → Row
refused p n = record { program = p; answer = record { number = n; values = [] } }

-- a program that passes, with its numbers of cells, instructions and EXCLUDEs
abbrev passed : List ℕ → ℕ → ℕ → ℕ → Row
passed p c n e = record { program = p; answer = record { number = 0; values = c ∷ n ∷ e ∷ [] } }

-- 01's small plan
abbrev pub small : List ℕ
small = 2 ∷ 2 ∷ 0 ∷ 0 ∷ 0 ∷ 0 ∷ 0 ∷ 7 ∷ 1 ∷ 4 ∷ 0 ∷ 0 ∷ 1 ∷ 8 ∷ 0 ∷ 0x0D ∷ 0x0E ∷ 9 ∷ 7 ∷ 0 ∷ []

abbrev pub rows : List Row
rows =
    refused [] 1
    ∷ refused (0 ∷ 0x7F ∷ []) 2
    ∷ refused (0 ∷ 8 ∷ []) 3
    ∷ refused (0 ∷ 8 ∷ 1 ∷ []) 4
    ∷ refused (0 ∷ 0x0B ∷ 0 ∷ 0 ∷ 2 ∷ 0 ∷ []) 5
    ∷ refused (0 ∷ (replicate 65 0x0D ++ (1 ∷ []))) 6
    ∷ passed (0 ∷ (replicate 64 0x0D ++ (1 ∷ []))) 1 65 64
    ∷ refused (0 ∷ []) 7
    ∷ refused (0 ∷ 9 ∷ 2 ∷ 0 ∷ []) 8
    -- a missing cell before a later bad table, and the other way round
    ∷ refused (0 ∷ 8 ∷ 1 ∷ 0x0B ∷ 0 ∷ 0 ∷ 2 ∷ 0 ∷ []) 4
    ∷ refused (0 ∷ 0x0B ∷ 0 ∷ 0 ∷ 2 ∷ 0 ∷ 8 ∷ 1 ∷ []) 5
    ∷ passed small 3 7 1
    ∷ []

pub rows_right : map (λ (r : Row). answer_of (check_of r.program)) rows ≡ map (λ (r : Row). r.answer) rows
unfolding check_of length_of instruction_at_of number_of starts_from starts refusal_at_of first_refusal excludes last_opcode among jumps_among
rows_right = refl
