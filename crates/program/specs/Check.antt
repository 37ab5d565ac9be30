-- The check of a program: document 01, "Refused inputs". "Rising order, but 2 to 5 are tried command by command."
-- Assumes nothing.
use Rattle.std.specs.Prelude.{ℕ, ◌≤◌, ◌≡◌, List, [], ◌∷◌, Bool, cond, ◌||◌, not, length, ltb, eqb, Result, Ok, Err}
use Rattle.instruction.specs.Bytes.{cells_of}
use Rattle.program.specs.Starts.{starts, first_refusal, excludes, last_opcode, jumps_among, jump_count, all_first_of}
use Rattle.program.specs.Places.{is_start, Decodes, Places}
use Rattle.program.specs.Refusal.{refusal_number}
use Rattle.program.specs.declared.Sizes.{Sizes}
use Rattle.program.specs.declared.Survey.{Survey}
use Rattle.program.specs.declared.refusal.Refusal.{Refusal}

-- an answer in 01's terms: its number, 0 where the call is accepted, and its values; "A refusal is the number alone"
pub record Answer : Type 0 where
  pub number : ℕ
  pub values : List ℕ

-- what the check of a program gives: its sizes, or the number of a refusal
pub data Checked : Type 0 where
  Program : (cells instructions excludes : ℕ) → Checked
  Refused : ℕ → Checked

abbrev pub checked_of : Result Sizes Refusal → Checked
checked_of (Ok s) = Program s.cells s.instructions s.excludes
checked_of (Err r) = Refused (refusal_number r)

-- what the walk over all instructions finds: their numbers, the last opcode and the number of targets, or the number of a refusal
pub data Walked : Type 0 where
  All : (instructions excludes last jumps : ℕ) → Walked
  Bad : ℕ → Walked

abbrev pub walked_of : (targets : ℕ) → Result Survey Refusal → Walked
walked_of n (Ok w) = All w.instructions w.excludes w.last n
walked_of n (Err r) = Bad (refusal_number r)

-- "Check answers the numbers of cells, commands and EXCLUDEs"
abbrev pub answer_of : Checked → Answer
answer_of (Program cells instructions excludes) = record { number = 0; values = cells ∷ instructions ∷ excludes ∷ [] }
answer_of (Refused n) = record { number = n; values = [] }

-- the number alone
abbrev pub number_of : Checked → ℕ
number_of (Program cells instructions excludes) = 0
number_of (Refused n) = n

-- END or JUMP
abbrev pub closes : ℕ → Bool
closes k = eqb k 0x01 || eqb k 0x09

unfoldable pub check_of : List ℕ → Checked
check_of p =
    cond (eqb (length p) 0 || ltb 2048 (length p)) (Refused 1)
    (cond (not (eqb (first_refusal p (starts p)) 0)) (Refused (first_refusal p (starts p)))
    (cond (ltb 512 (length (starts p)) || ltb 64 (excludes p (starts p))) (Refused 6)
    (cond (not (closes (last_opcode p 0 (starts p)))) (Refused 7)
    (cond (not (jumps_among p (starts p) (starts p))) (Refused 8)
    (Program (cells_of p) (length (starts p)) (excludes p (starts p)))))))

-- what the walk over all instructions finds
abbrev pub walk_of : List ℕ → Walked
walk_of p =
    cond (eqb (first_refusal p (starts p)) 0)
    (All (length (starts p)) (excludes p (starts p)) (last_opcode p 0 (starts p)) (jump_count p (starts p)))
    (Bad (first_refusal p (starts p)))

-- what it finds and leaves: of a program with no refusal so far the targets, first in ts, and its places in the table where the table's bytes hold them
pub record Walks (p : List ℕ) (r : Walked) (table ts : List ℕ) : Type 0 where
  pub is : r ≡ walk_of p
  pub noted : first_refusal p (starts p) ≡ 0
      → (jump_count p (starts p) ≤ 683) × (jumps_among p (starts p) (starts p) ≡ all_first_of (is_start p) (jump_count p (starts p)) ts)
  pub places : Decodes p → Places p table

-- what the check answers and leaves in a table, blank before: of an accepted program its places
pub record Fills (p : List ℕ) (r : Checked) (table : List ℕ) : Type 0 where
  pub is : r ≡ check_of p
  pub places : (cells instructions excludes : ℕ) → r ≡ Program cells instructions excludes → Places p table
