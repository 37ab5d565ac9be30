-- The instructions of a program that check passes, numbered from 0 in offset order, as tables: where each starts, where it may go on to, and the cells that
-- it may read and must write.
-- Assumes nothing.
use Rattle.std.specs.Prelude.{ℕ, ◌+◌, ◌*◌, ◌≤◌, ◌<◌, ◌≡◌, ◌⊎◌, List, true, length, get_or}
use Rattle.std.proofs.lemmas.List.Edits.{sets}
use Rattle.cellset.specs.Bits.{member}
use Rattle.cellset.specs.Sets.{SetIs}
use Rattle.instruction.specs.Bytes.{instruction_at_of}
use Rattle.instruction.specs.Table.{may_ref_of, must_def_of, successors}
use Rattle.instruction.specs.declared.Flow.{Flow}
use Rattle.instruction.specs.declared.Flow.TheVariants.{Halt, Next, Goto, Branch}
use Rattle.program.specs.Starts.{starts, among}
use Rattle.program.specs.Check.{check_of}
use Rattle.program.specs.Check.{Program}

-- how many instructions there are, and the offset of instruction i
abbrev pub count_of : List ℕ → ℕ
count_of p = length (starts p)

abbrev pub start_of : List ℕ → ℕ → ℕ
start_of p i = get_or (starts p) i 0

-- check passes the program, with these numbers
pub record Passed (p : List ℕ) : Type 0 where
  pub cells : ℕ
  pub instructions : ℕ
  pub excludes : ℕ
  pub is : Program cells instructions excludes ≡ check_of p

-- the offset of each instruction
abbrev pub Offsets : List ℕ → List ℕ → Type 0
Offsets p at = (i : ℕ) → i < count_of p → get_or at i 0 ≡ start_of p i

-- the numbers below n stand in a table at the places that `at` has for them
abbrev pub Numbered : List ℕ → ℕ → List ℕ → Type 0
Numbered at n numbers = (i : ℕ) → i < n → get_or numbers (get_or at i 0) 0 ≡ i

-- the instructions that instruction i goes on to, by the numbers of the instructions at their offsets: one that stops goes to itself, and only one that
-- branches has two
abbrev pub left_of : Flow → ℕ → List ℕ → ℕ
left_of Halt i numbers = i
left_of Next i numbers = i + 1
left_of (Goto t) i numbers = get_or numbers t 0
left_of (Branch t) i numbers = i + 1

abbrev pub right_of_flow : Flow → ℕ → List ℕ → ℕ
right_of_flow Halt i numbers = i
right_of_flow Next i numbers = i + 1
right_of_flow (Goto t) i numbers = get_or numbers t 0
right_of_flow (Branch t) i numbers = get_or numbers t 0

-- room in the tables for 512 instructions
pub record Space (at left right reads writes : List ℕ) : Type 0 where
  pub for_at : 512 ≤ length at
  pub for_left : 512 ≤ length left
  pub for_right : 512 ≤ length right
  pub for_reads : 2048 ≤ length reads
  pub for_writes : 2048 ≤ length writes

-- instruction x goes on from instruction i, or they are the same
abbrev pub Goes : List ℕ → ℕ → ℕ → Type 0
Goes p i x = (x ≡ i) ⊎ (among (start_of p x) (successors p (start_of p i)) ≡ true)

-- instruction i goes on to x and y: each way leads to an instruction that may follow or stays, and every offset that may follow is at the end of a way
pub record Led (p : List ℕ) (i x y : ℕ) : Type 0 where
  pub left_node : x < count_of p
  pub right_node : y < count_of p
  pub left_goes : Goes p i x
  pub right_goes : Goes p i y
  pub all : (q : ℕ) → among q (successors p (start_of p i)) ≡ true → (q ≡ start_of p x) ⊎ (q ≡ start_of p y)
  pub beside : (x ≡ y) ⊎ (x ≡ i + 1)

-- the offsets and the ways on are the program's
pub record Ways (p at left right : List ℕ) : Type 0 where
  pub at_is : Offsets p at
  pub led : (i : ℕ) → i < count_of p → Led p i (get_or left i 0) (get_or right i 0)

-- the ways and the cells are the program's
pub record Tables (p at left right reads writes : List ℕ) : Type 0 where
  pub ways : Ways p at left right
  pub reads_are : (i c : ℕ) → i < count_of p → c < 256 → member reads (4 * i) c ≡ may_ref_of (instruction_at_of p (start_of p i)) c
  pub writes_are : (i c : ℕ) → i < count_of p → c < 256 → member writes (4 * i) c ≡ must_def_of (instruction_at_of p (start_of p i)) c

-- a set is stored as number i of a table of sets
pub record Stored (f : ℕ → ℕ) (i : ℕ) (table table' : List ℕ) : Type 0 where
  pub words : List ℕ
  pub is : SetIs words f
  pub stored : table' ≡ sets table (4 * i) words
