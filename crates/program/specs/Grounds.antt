-- The ground of each refusal, from the rows of document 01's table "Refused inputs", and what an answer promises:
-- "A refusal is the number alone, given on that number's ground and on no other."
-- Assumes nothing.
use Rattle.std.specs.Prelude.{ℕ, ◌+◌, ◌<◌, ◌≡◌, ◌⊎◌, List, [], ◌∷◌, false, length}
use Rattle.instruction.specs.Bytes.{byte, cells_of, length_of, instruction_at_of}
use Rattle.instruction.specs.Table.{named, all_below, table_fits_of}
use Rattle.program.specs.Starts.{starts, excludes, last_opcode, jumps_among}
use Rattle.program.specs.Check.{Answer, answer_of, closes, check_of}
use Rattle.program.specs.Places.{Places}
use Rattle.program.specs.Check.{Checked}
use Rattle.program.specs.Check.{Program, Refused}

-- of the instruction at o: 2 "unknown command byte", 3 "operands pass the end", 4 "a cell doesn't exist (base aside)",
-- 5 "len 0, or table passes the last cell"
pub data BadAt (p : List ℕ) (o : ℕ) : ℕ → Type 0 where
  unknown : length_of (byte p o) ≡ 0 → BadAt p o 2
  cut : length p < o + length_of (byte p o) → BadAt p o 3
  missing : all_below (cells_of p) (named (instruction_at_of p o)) ≡ false → BadAt p o 4
  table : table_fits_of (cells_of p) (instruction_at_of p o) ≡ false → BadAt p o 5

-- "2 to 5 are tried command by command": n is the first ground of the first instruction at these offsets that has one
pub data FirstBad (p : List ℕ) (n : ℕ) : List ℕ → Type 0 where
  here : {o : ℕ} {os : List ℕ} → BadAt p o n → ((m : ℕ) → m < n → ¬ BadAt p o m) → FirstBad p n (o ∷ os)
  later : {o : ℕ} {os : List ℕ} → ((m : ℕ) → ¬ BadAt p o m) → FirstBad p n os → FirstBad p n (o ∷ os)

-- 1 "plan empty or over 2,048 bytes", 6 "over 512 commands or 64 EXCLUDEs", 7 "no command, or the last is neither END nor JUMP",
-- 8 "t isn't a command's offset"
pub data Ground (p : List ℕ) : ℕ → Type 0 where
  size : (length p ≡ 0) ⊎ (2048 < length p) → Ground p 1
  command : {n : ℕ} → FirstBad p n (starts p) → Ground p n
  many : (512 < length (starts p)) ⊎ (64 < excludes p (starts p)) → Ground p 6
  last : closes (last_opcode p 0 (starts p)) ≡ false → Ground p 7
  jump : jumps_among p (starts p) (starts p) ≡ false → Ground p 8

-- the answer that the grounds G of a call allow, where an accepted call answers values that `Values` holds of: "given on that number's ground and on no other", "Rising order"
pub data Allowed (G : ℕ → Type 0) (Values : List ℕ → Type 0) : Answer → Type 0 where
  granted : {vs : List ℕ} → ((m : ℕ) → ¬ G m) → Values vs → Allowed G Values (record { number = 0; values = vs })
  denied : {n : ℕ} → G n → ((m : ℕ) → m < n → ¬ G m) → Allowed G Values (record { number = n; values = [] })

-- "Check answers the numbers of cells, commands and EXCLUDEs"
abbrev pub Counts : List ℕ → List ℕ → Type 0
Counts p vs = vs ≡ cells_of p ∷ length (starts p) ∷ excludes p (starts p) ∷ []

-- check's answer: there is exactly one that its grounds allow
abbrev pub Ruled : List ℕ → Answer → Type 0
Ruled p = Allowed (Ground p) (Counts p)

-- the grounds of a call that checks a plan too: check's; 9 "a word buffer too short"; and its own, which come later
pub data CallGround (p : List ℕ) (Short : Type 0) (Own : ℕ → Type 0) : ℕ → Type 0 where
  plan : {n : ℕ} → Ground p n → CallGround p Short Own n
  words : Short → CallGround p Short Own 9
  own : {n : ℕ} → Own n → CallGround p Short Own n

-- what check promises of its answer: it is the defined one, and in 01's terms the one that the grounds allow
pub record Checks (p : List ℕ) (r : Checked) : Type 0 where
  pub is : r ≡ check_of p
  pub ruled : Ruled p (answer_of r)

-- what examine promises of its answer and of the table, from that before it: an accepted program's places, and "a refusal alters nothing lent"
pub record Examines (p : List ℕ) (r : Checked) (before after : List ℕ) : Type 0 where
  pub checks : Checks p r
  pub places : (cells instructions excludes : ℕ) → r ≡ Program cells instructions excludes → Places p after
  pub kept : (n : ℕ) → r ≡ Refused n → after ≡ before
