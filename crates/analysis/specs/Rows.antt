-- Rows about the sets of a program: a row asks for a set and lists its cells. Document 01's rows and others are such rows.
-- Assumes nothing.
use Rattle.std.specs.Prelude.{ℕ, ◌≡◌, true, false, List}
use Rattle.program.specs.Starts.{among}
use Rattle.analysis.specs.Paths.{Dead, DE, RO}

-- the cells that are dead before offset o, and DE and RO of the EXCLUDE at e
pub data Question : Type 0 where
  dead_before : (o : ℕ) → Question
  de_of_set : (e : ℕ) → Question
  ro_of_set : (e : ℕ) → Question

pub record Row : Type 0 where
  pub program : List ℕ
  pub asks : Question
  pub cells : List ℕ

abbrev pub row : List ℕ → Question → List ℕ → Row
row p q cs = record { program = p; asks = q; cells = cs }

-- cell c is in the set that is asked for
abbrev pub In : List ℕ → Question → ℕ → Type 0
In p (dead_before o) c = Dead p c o
In p (de_of_set e) c = DE p e c
In p (ro_of_set e) c = RO p e c

-- the row's cells are those of the set, and no others
abbrev pub Holds : Row → Type 0
Holds r = (c : ℕ) → (among c r.cells ≡ true → In r.program r.asks c) × (among c r.cells ≡ false → ¬ In r.program r.asks c)
