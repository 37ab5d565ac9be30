-- What `scan` answers, in one type: the two grounds on which a journal is refused, or what stands on it; and that answer and the values of what `scan` returns.
-- Assumes nothing.
use Rattle.std.specs.Prelude.{ℕ, Bool, List, replicate, Result, Ok, Err}
use Rattle.journal.specs.declared.Commit.{Commit}
use Rattle.journal.specs.declared.Contents.{Contents}
use Rattle.journal.specs.declared.Unreadable.{Unreadable}
use Rattle.journal.specs.declared.Unreadable.TheVariants as unreadable

-- of a length that no chip has; damaged; or where its whole checkpoints end, how many bytes are to be erased behind them, the last commit, and whether every
-- whole commit has the owner asked for
pub data Scanned : Type 0 where
  BadLength : Scanned
  Damaged : Scanned
  Found : (end torn : ℕ) → (last : Commit) → (own : Bool) → Scanned

abbrev pub scanned_of : Result Contents Unreadable → Scanned
scanned_of (Ok c) = Found c.end c.torn c.last c.own
scanned_of (Err unreadable.BadLength) = BadLength
scanned_of (Err unreadable.Damaged) = Damaged

-- all 0 where the journal is refused
abbrev pub values_of : Result Contents Unreadable → List ℕ
values_of (Ok c) = c.values
values_of (Err e) = replicate 256 0
