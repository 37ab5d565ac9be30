-- What stands at an offset of a program: a start, the offset after a CHECKPOINT, an EXCLUDE and its number in order;
-- and the table of it, a byte to an offset.
-- Assumes nothing.
use Rattle.std.specs.Prelude.{ℕ, ◌+◌, ◌-◌, ◌*◌, ◌/◌, ◌%◌, ◌≤◌, ◌≡◌, List, [], ◌∷◌, Bool, cond, ◌&&◌, not, length, get_or, ltb, eqb, Option, Some, None}
use Rattle.instruction.specs.Bytes.{byte}
use Rattle.program.specs.Starts.{starts, among, first_refusal, excludes}
use Rattle.program.specs.declared.places.Place as code

-- the opcode of the instruction before offset t among those at os, k before the first
unfoldable pub opcode_before : List ℕ → ℕ → List ℕ → ℕ → ℕ
opcode_before p k [] t = 0
opcode_before p k (o ∷ os) t = cond (eqb o t) k (opcode_before p (byte p o) os t)

-- how many EXCLUDEs stand before offset t among the instructions at os
unfoldable pub excludes_before : List ℕ → List ℕ → ℕ → ℕ
excludes_before p [] t = 0
excludes_before p (o ∷ os) t = cond (eqb o t) 0 (cond (eqb (byte p o) 0x0D) 1 0 + excludes_before p os t)

-- an instruction starts at t
abbrev pub is_start : List ℕ → ℕ → Bool
is_start p t = among t (starts p)

-- t is the offset after a CHECKPOINT
abbrev pub after_checkpoint : List ℕ → ℕ → Bool
after_checkpoint p t = is_start p t && eqb (opcode_before p 0 (starts p) t) 0x0E

-- an EXCLUDE stands at t; 0 is its number if it is the first
abbrev pub is_exclude : List ℕ → ℕ → Bool
is_exclude p t = is_start p t && eqb (byte p t) 0x0D

abbrev pub exclude_number : List ℕ → ℕ → ℕ
exclude_number p t = excludes_before p (starts p) t

-- the table's byte at a start: 2, 1 more after a CHECKPOINT, so that one bit tells it, and for an EXCLUDE twice its number and 2; j is the opcode before it,
-- k its own, n the number of EXCLUDEs before it
abbrev pub place_from_of : (j k n : ℕ) → ℕ
place_from_of j k n = 2 + cond (eqb j 0x0E) 1 0 + 2 * cond (eqb k 0x0D) (n + 1) 0

-- the byte of offset t, 0 where no instruction starts
unfoldable pub place_of : List ℕ → ℕ → ℕ
place_of p t = cond (is_start p t) (place_from_of (opcode_before p 0 (starts p) t) (byte p t) (exclude_number p t)) 0

-- the byte of offset t in a table of 2,048 bytes
unfoldable pub entry_at : List ℕ → ℕ → ℕ
entry_at table t = cond (ltb t 2048) (get_or table t 0) 0

-- the table is the program's
abbrev pub Places : List ℕ → List ℕ → Type 0
Places p table = (t : ℕ) → entry_at table t ≡ place_of p t

-- what a byte of the table says
abbrev pub start_here : ℕ → Bool
start_here b = not (eqb b 0)

abbrev pub after_here : ℕ → Bool
after_here b = eqb (b % 2) 1

-- 0 where no EXCLUDE stands there, else its number and 1
abbrev pub exclude_here : ℕ → ℕ
exclude_here b = b / 2 - 1

-- what the table has of an offset
pub record Place : Type 0 where
  pub start : Bool
  pub after : Bool
  pub exclude : ℕ

unfoldable pub read_place : ℕ → Place
read_place b = record { start = start_here b; after = after_here b; exclude = exclude_here b }

-- the number of an EXCLUDE and 1, 0 of none
abbrev pub one_more : Option ℕ → ℕ
one_more None = 0
one_more (Some n) = n + 1

-- what the code has of an offset, so
abbrev pub numbered : code.Place → Place
numbered q = record { start = q.start; after = q.after; exclude = one_more q.exclude }

-- the table has an instruction at offset t
abbrev pub placed : List ℕ → ℕ → Bool
placed table t = start_here (entry_at table t)

-- a table of 2,048 bytes with no place in it
pub record Blank (table : List ℕ) : Type 0 where
  pub size : length table ≡ 2048
  pub clear : (t : ℕ) → get_or table t 0 ≡ 0

-- the program's instructions are whole, and few enough that the bytes of the table hold their numbers
pub record Decodes (p : List ℕ) : Type 0 where
  pub most : length p ≤ 2048
  pub sound : first_refusal p (starts p) ≡ 0
  pub few : excludes p (starts p) ≤ 64
