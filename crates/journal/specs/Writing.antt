-- The checkpoint that is stored for a set of cells. Document 01 leaves the order of the records free ("in any order"); here they stand by rising cell
-- number. `written_once`, `written_all` and `written-only` of proofs/Written.antt have what every order has in common: each cell of the set once, with its
-- value, and no other.
-- Assumes nothing.
use Rattle.std.specs.Prelude.{ℕ, List, [], ◌∷◌, slice_index}
use Rattle.cellset.specs.Members.{members}
use Rattle.journal.specs.declared.Commit.{Commit}
use Rattle.journal.specs.Format.{Saved, Checkpoint}

-- a record for each of the cells, with its value
unfoldable pub records_of : List ℕ → List ℕ → List Saved
records_of [] values = []
records_of (c ∷ cs) values = record { cell = c; value = slice_index values c } ∷ records_of cs values

-- for the cells of the set whose words are s
unfoldable pub checkpoint_of : (s values : List ℕ) → Commit → Checkpoint
checkpoint_of s values c = record { records = records_of (members s) values; commit = c }
