-- Document 01's command table, its column "effect", a line for each row. Where an instruction goes and what it leaves is said over its effect, for the engine and
-- for the reference run alike (01: the uncut run).
-- Assumes nothing.
use Rattle.std.specs.Prelude.{ℕ, suc, ◌+◌, Bool, cond, List, ℤ, get_or, set, eqb}
use Rattle.word.specs.Word.{val, bits_of, add_of, sub_of, div_of, less_of, place_of}
use Rattle.instruction.specs.Bytes.{byte, length_of}
use Rattle.instruction.specs.declared.Instruction.{Instruction}
use Rattle.instruction.specs.declared.Instruction.TheVariants.{End, Set, Copy, Add, Sub, Div, Read, Emit, Jump, Less, Get, Put, Exclude, Checkpoint}

-- kinds of stop; 0 is not stopped
abbrev pub ended : ℕ
ended = 1

abbrev pub divisor : ℕ
divisor = 2

abbrev pub count_full : ℕ
count_full = 3

-- "Counts of readings and outputs run to 4,294,967,295"
abbrev pub is_full : ℕ → Bool
is_full n = eqb n 4294967295

-- what an instruction does: it stops; goes on; goes to t; writes a cell; takes the next reading into a cell; gives an output; sets marks; saves
pub data Effect : Type 0 where
  stops : (kind : ℕ) → Effect
  on : Effect
  goes : (t : ℕ) → Effect
  writes : (d v : ℕ) → Effect
  takes : (d v : ℕ) → Effect
  gives : (v : ℤ) → Effect
  sets : Effect
  saves : Effect

-- "A table is the cells from base to base + len − 1; its cell is base plus (value of i modulo len, never negative)"
abbrev pub table_cell_of : (base len i : ℕ) → ℕ
table_cell_of base len i = base + place_of i len

-- the rows: v is the next reading, n and m count the readings taken and the outputs given, x has the cells' patterns
unfoldable pub effect_of : Instruction → (v : ℤ) → (n m : ℕ) → (x : ℕ → ℕ) → Effect
effect_of End v n m x = stops ended
effect_of (Set d w) v n m x = writes d w
effect_of (Copy d a) v n m x = writes d (x a)
effect_of (Add d a b) v n m x = writes d (add_of (x a) (x b))
effect_of (Sub d a b) v n m x = writes d (sub_of (x a) (x b))
effect_of (Div d a b) v n m x = cond (eqb (x b) 0) (stops divisor) (writes d (div_of (x a) (x b)))
effect_of (Read d) v n m x = cond (is_full n) (stops count_full) (takes d (bits_of v))
effect_of (Emit a) v n m x = cond (is_full m) (stops count_full) (gives (val (x a)))
effect_of (Jump t) v n m x = goes t
effect_of (Less a b t) v n m x = cond (less_of (x a) (x b)) (goes t) on
effect_of (Get d base len i) v n m x = writes d (x (table_cell_of base len (x i)))
effect_of (Put base len i a) v n m x = writes (table_cell_of base len (x i)) (x a)
effect_of Exclude v n m x = sets
effect_of Checkpoint v n m x = saves

-- the place after an effect, from `at`, n being the offset after the instruction: "A stop is a step too and changes only the kind of stop"
abbrev pub target : Effect → (at n : ℕ) → ℕ
target (stops k) at n = at
target on at n = n
target (goes t) at n = t
target (writes d v) at n = n
target (takes d v) at n = n
target (gives v) at n = n
target sets at n = n
target saves at n = n

-- the counts of readings and of outputs after it
abbrev pub readings_after : Effect → ℕ → ℕ
readings_after (stops k) n = n
readings_after on n = n
readings_after (goes t) n = n
readings_after (writes d v) n = n
readings_after (takes d v) n = suc n
readings_after (gives v) n = n
readings_after sets n = n
readings_after saves n = n

abbrev pub outputs_after : Effect → ℕ → ℕ
outputs_after (stops k) m = m
outputs_after on m = m
outputs_after (goes t) m = m
outputs_after (writes d v) m = m
outputs_after (takes d v) m = m
outputs_after (gives v) m = suc m
outputs_after sets m = m
outputs_after saves m = m

-- the kind of stop after it
abbrev pub stop_after : Effect → ℕ
stop_after (stops k) = k
stop_after on = 0
stop_after (goes t) = 0
stop_after (writes d v) = 0
stop_after (takes d v) = 0
stop_after (gives v) = 0
stop_after sets = 0
stop_after saves = 0

-- the cells after it
abbrev pub cells_after : Effect → List ℕ → List ℕ
cells_after (stops k) xs = xs
cells_after on xs = xs
cells_after (goes t) xs = xs
cells_after (writes d v) xs = set xs d v
cells_after (takes d v) xs = set xs d v
cells_after (gives v) xs = xs
cells_after sets xs = xs
cells_after saves xs = xs

-- the patterns of a list of cells
abbrev pub cells_in : List ℕ → ℕ → ℕ
cells_in xs c = get_or xs c 0

-- the offset after the instruction at offset o
abbrev pub next_of : List ℕ → ℕ → ℕ
next_of p o = o + length_of (byte p o)
