-- The refusal of an instruction from its parts.
-- Assumes nothing.
use mathlib.Core.Path.{◌≡◌}
use mathlib.Core.List.{List}
use mathlib.Core.Bool.{Bool, cond, not}
use Prim.Native.Nat.{ℕ, ◌+◌}
use lib.ListN.{length}
use lib.Dec.{ltb, eqb}
use Rattle.instruction.specs.Bytes.{byte, length_of, instruction_at_of}
use Rattle.instruction.specs.Table.{named, all_below, table_fits_of}
use Rattle.instruction.specs.declared.Instruction.{Instruction}
use Rattle.program.specs.Starts.{refusal_at_of}

-- the refusal at o from its length n, the count m less 1, the instruction, and the two tests of it
pub judged : (p : List ℕ) (o : ℕ) {n m : ℕ} {i : Instruction} {b t : Bool} → n ≡ length_of (byte p o) → m ≡ byte p 0 → i ≡ instruction_at_of p o
    → b ≡ all_below (m + 1) (named i) → t ≡ table_fits_of (m + 1) i
    → refusal_at_of p o ≡ cond (eqb n 0) 2 (cond (ltb (length p) (o + n)) 3 (cond (not b) 4 (cond (not t) 5 0)))
unfolding refusal_at_of
judged p o en em ei eb et = rw (et, eb, ei, em, en)
