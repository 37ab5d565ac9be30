-- Document 01's command table, a line for each row: which cells an instruction may read and may write, and where it may go.
-- What it computes is the machine's.
-- Assumes nothing.
use Rattle.std.specs.Prelude.{ℕ, ◌+◌, max, ◌≡◌, List, [], ◌∷◌, ◌++◌, Bool, true, cond, ◌&&◌, eqb, leb, ltb}
use Rattle.cellset.specs.Bits.{is, within}
use Rattle.instruction.specs.Bytes.{byte, length_of, instruction_at_of}
use Rattle.instruction.specs.declared.Instruction.{Instruction}
use Rattle.instruction.specs.declared.Instruction.TheVariants.{End, Set, Copy, Add, Sub, Div, Read, Emit, Jump, Less, Get, Put, Exclude, Checkpoint}
use Rattle.instruction.specs.declared.Flow.{Flow}
use Rattle.instruction.specs.declared.Flow.TheVariants.{Halt, Next, Goto, Branch}

-- "A table is the cells from base to base + len − 1"
pub data Table : Type 0 where
  no_table_of : Table
  table_at : (base len : ℕ) → Table

-- the cells that an instruction may read and the table of which it may read a cell, the cells that it must write and the table of which it
-- may write a cell, and where it may go
pub record Row : Type 0 where
  pub refs : List ℕ
  pub ref_table : Table
  pub defs : List ℕ
  pub def_table : Table
  pub flow : Flow

abbrev row : List ℕ → Table → List ℕ → Table → Flow → Row
row r s d t f = record { refs = r; ref_table = s; defs = d; def_table = t; flow = f }

-- the rows: "may read", "may write" and where the effect goes
abbrev pub row_of : Instruction → Row
row_of End = row [] no_table_of [] no_table_of Halt
row_of (Set d v) = row [] no_table_of (d ∷ []) no_table_of Next
row_of (Copy d a) = row (a ∷ []) no_table_of (d ∷ []) no_table_of Next
row_of (Add d a b) = row (a ∷ b ∷ []) no_table_of (d ∷ []) no_table_of Next
row_of (Sub d a b) = row (a ∷ b ∷ []) no_table_of (d ∷ []) no_table_of Next
row_of (Div d a b) = row (a ∷ b ∷ []) no_table_of (d ∷ []) no_table_of Next
row_of (Read d) = row [] no_table_of (d ∷ []) no_table_of Next
row_of (Emit a) = row (a ∷ []) no_table_of [] no_table_of Next
row_of (Jump t) = row [] no_table_of [] no_table_of (Goto t)
row_of (Less a b t) = row (a ∷ b ∷ []) no_table_of [] no_table_of (Branch t)
row_of (Get d base len i) = row (i ∷ []) (table_at base len) (d ∷ []) no_table_of Next
row_of (Put base len i a) = row (i ∷ a ∷ []) no_table_of [] (table_at base len) Next
row_of Exclude = row [] no_table_of [] no_table_of Next
row_of Checkpoint = row [] no_table_of [] no_table_of Next

-- 1 where c is one of the cells
abbrev pub one_of : List ℕ → ℕ → ℕ
one_of [] c = 0
one_of (a ∷ cs) c = max (is a c) (one_of cs c)

-- 1 where c is a cell of the table
abbrev pub in_table : Table → ℕ → ℕ
in_table no_table_of c = 0
in_table (table_at base len) c = within base (base + len) c

-- 1 where c is one of the cells or in the table
unfoldable pub access : List ℕ → Table → ℕ → ℕ
access cs t c = max (one_of cs c) (in_table t c)

-- 1 where the instruction may read cell c (01: may read), and where it may write it (may write)
abbrev pub may_ref_of : Instruction → ℕ → ℕ
may_ref_of i = access (row_of i).refs (row_of i).ref_table

abbrev pub may_def_of : Instruction → ℕ → ℕ
may_def_of i = access (row_of i).defs (row_of i).def_table

-- what of the table of which it may write a cell it must write. 02, Q-3: "A PUT with len 1 must write its base; longer tables remain as 01 has them"
abbrev pub sure_table : Table → Table
sure_table no_table_of = no_table_of
sure_table (table_at base len) = cond (eqb len 1) (table_at base len) no_table_of

-- 1 where it must write cell c: "What a command may write it must write, except that PUT must write nothing", but for a table of one cell
abbrev pub must_def_of : Instruction → ℕ → ℕ
must_def_of i = access (row_of i).defs (sure_table (row_of i).def_table)

-- the cells from base on, len of them, are those where f is 1
abbrev pub SpanIs : (base len : ℕ) → (ℕ → ℕ) → Type 0
SpanIs base len f = (c : ℕ) → within base (base + len) c ≡ f c

-- where an instruction may go besides on
abbrev pub targets : Flow → List ℕ
targets Halt = []
targets Next = []
targets (Goto t) = t ∷ []
targets (Branch t) = t ∷ []

-- where it may go, n being the offset after it
abbrev pub successors_of : Flow → ℕ → List ℕ
successors_of Halt n = []
successors_of Next n = n ∷ []
successors_of (Goto t) n = t ∷ []
successors_of (Branch t) n = t ∷ n ∷ []

-- the offsets that may follow offset o
unfoldable pub successors : List ℕ → ℕ → List ℕ
successors p o = successors_of (row_of (instruction_at_of p o)).flow (o + length_of (byte p o))

-- the cells that an instruction names, its table's aside
abbrev pub named : Instruction → List ℕ
named i = (row_of i).defs ++ (row_of i).refs

-- each number of the list is below n
abbrev pub all_below : ℕ → List ℕ → Bool
all_below n [] = true
all_below n (a ∷ cs) = ltb a n && all_below n cs

-- the table has a cell and ends within n cells
abbrev pub fits_in_of : ℕ → Table → Bool
fits_in_of n no_table_of = true
fits_in_of n (table_at base len) = ltb 0 len && leb (base + len) n

-- the instruction's table, if it has one, does
abbrev pub table_fits_of : ℕ → Instruction → Bool
table_fits_of n i = fits_in_of n (row_of i).ref_table && fits_in_of n (row_of i).def_table
