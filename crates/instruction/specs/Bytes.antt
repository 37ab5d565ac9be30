-- The bytes of a program (document 01: a plan), the one table of lengths, and the instruction (document 01: a command) at an offset.
-- Assumes nothing.
use Rattle.std.specs.Prelude.{ℕ, ◌+◌, ◌<◌, ◌≡◌, List, [], ◌∷◌, cond, get_or, eqb}
use Rattle.word.specs.Bytes.{number_of}
use Rattle.instruction.specs.declared.Instruction.{Instruction}
use Rattle.instruction.specs.declared.Instruction.TheVariants.{End, Set, Copy, Add, Sub, Div, Read, Emit, Jump, Less, Get, Put, Exclude, Checkpoint}

-- the byte at offset o, 0 past the end
abbrev pub byte : List ℕ → ℕ → ℕ
byte p o = get_or p o 0

-- "Byte 0 is the cell count less 1"
abbrev pub cells_of : List ℕ → ℕ
cells_of p = byte p 0 + 1

-- "Command lengths stand in one fixed table": those of the bytes 00 to 0E
abbrev pub lengths : List ℕ
lengths = 0 ∷ 1 ∷ 6 ∷ 3 ∷ 4 ∷ 4 ∷ 4 ∷ 2 ∷ 2 ∷ 3 ∷ 5 ∷ 5 ∷ 5 ∷ 1 ∷ 1 ∷ []

-- the length of an instruction by its opcode, 0 where the opcode is unknown
unfoldable pub length_of : ℕ → ℕ
length_of k = get_or lengths k 0

-- t gives the length for every opcode
abbrev pub Lengths : List ℕ → Type 0
Lengths t = (k : ℕ) → k < 256 → get_or t k 0 ≡ length_of k

-- the instruction with opcode k and the operand bytes x y z w u; 01, and what is no opcode, is END
abbrev pub instruction_from : (k x y z w u : ℕ) → Instruction
instruction_from k x y z w u =
    cond (eqb k 0x02) (Set x (number_of (y ∷ z ∷ w ∷ u ∷ [])))
    (cond (eqb k 0x03) (Copy x y)
    (cond (eqb k 0x04) (Add x y z)
    (cond (eqb k 0x05) (Sub x y z)
    (cond (eqb k 0x06) (Div x y z)
    (cond (eqb k 0x07) (Read x)
    (cond (eqb k 0x08) (Emit x)
    (cond (eqb k 0x09) (Jump (number_of (x ∷ y ∷ [])))
    (cond (eqb k 0x0A) (Less x y (number_of (z ∷ w ∷ [])))
    (cond (eqb k 0x0B) (Get x y z w)
    (cond (eqb k 0x0C) (Put x y z w)
    (cond (eqb k 0x0D) Exclude
    (cond (eqb k 0x0E) Checkpoint
    End))))))))))))

-- the instruction at offset o
unfoldable pub instruction_at_of : List ℕ → ℕ → Instruction
instruction_at_of p o =
    instruction_from (byte p o) (byte p (o + 1)) (byte p (o + 2)) (byte p (o + 3)) (byte p (o + 4)) (byte p (o + 5))
