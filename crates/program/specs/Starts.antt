-- The offsets of a program's instructions, one after the other, and what stands there.
-- Assumes nothing.
use Rattle.std.specs.Prelude.{ℕ, zero, suc, ◌+◌, List, [], ◌∷◌, Bool, true, false, cond, ◌&&◌, ◌||◌, not, length, get_or, set, ltb, eqb}
use Rattle.instruction.specs.Bytes.{byte, cells_of, length_of, instruction_at_of}
use Rattle.instruction.specs.Table.{row_of, targets, named, all_below, table_fits_of}
use Rattle.instruction.specs.declared.Flow.{Flow}
use Rattle.instruction.specs.declared.Flow.TheVariants.{Halt, Next, Goto, Branch}

-- the offsets of at most f instructions, from o to the program's end
unfoldable pub starts_from : ℕ → List ℕ → ℕ → List ℕ
starts_from zero p o = []
starts_from (suc f) p o = let rest = starts_from f p (o + length_of (byte p o)) in cond (ltb o (length p)) (o ∷ rest) []

-- "Commands follow from offset 1"; each has a byte at least, so there are no more than bytes
unfoldable pub starts : List ℕ → List ℕ
starts p = starts_from (length p) p 1

-- t is one of the numbers
unfoldable pub among : ℕ → List ℕ → Bool
among t [] = false
among t (o ∷ os) = eqb o t || among t os

-- each of the ts is one of the numbers
abbrev pub all_among_of : List ℕ → List ℕ → Bool
all_among_of [] os = true
all_among_of (t ∷ ts) os = among t os && all_among_of ts os

-- the first of the refusals 2 to 5 that the instruction at o meets, 0 if none
unfoldable pub refusal_at_of : List ℕ → ℕ → ℕ
refusal_at_of p o =
    cond (eqb (length_of (byte p o)) 0) 2
    (cond (ltb (length p) (o + length_of (byte p o))) 3
    (cond (not (all_below (cells_of p) (named (instruction_at_of p o)))) 4
    (cond (not (table_fits_of (cells_of p) (instruction_at_of p o))) 5
    0)))

-- the refusal of the first instruction at these offsets that has one, 0 if none has
unfoldable pub first_refusal : List ℕ → List ℕ → ℕ
first_refusal p [] = 0
first_refusal p (o ∷ os) = cond (eqb (refusal_at_of p o) 0) (first_refusal p os) (refusal_at_of p o)

-- how many of the instructions at these offsets are EXCLUDE
unfoldable pub excludes : List ℕ → List ℕ → ℕ
excludes p [] = 0
excludes p (o ∷ os) = cond (eqb (byte p o) 0x0D) 1 0 + excludes p os

-- the opcode of the last of them, k if there is none
unfoldable pub last_opcode : List ℕ → ℕ → List ℕ → ℕ
last_opcode p k [] = k
last_opcode p k (o ∷ os) = last_opcode p (byte p o) os

-- the instructions at the offsets os jump only to offsets among xs
unfoldable pub jumps_among : List ℕ → List ℕ → List ℕ → Bool
jumps_among p xs [] = true
jumps_among p xs (o ∷ os) = all_among_of (targets (row_of (instruction_at_of p o)).flow) xs && jumps_among p xs os

-- how many targets the instructions at these offsets have
unfoldable pub jump_count : List ℕ → List ℕ → ℕ
jump_count p [] = 0
jump_count p (o ∷ os) = length (targets (row_of (instruction_at_of p o)).flow) + jump_count p os

-- the first n targets are in ts: those of one more instruction stand behind them
abbrev pub note_of : Flow → ℕ → List ℕ → List ℕ
note_of Halt n ts = ts
note_of Next n ts = ts
note_of (Goto t) n ts = set ts n t
note_of (Branch t) n ts = set ts n t

-- the first n of the numbers ts meet a test
unfoldable pub all_first_of : (ℕ → Bool) → ℕ → List ℕ → Bool
all_first_of f zero ts = true
all_first_of f (suc n) ts = all_first_of f n ts && f (get_or ts n 0)
