-- What `scan` answers: document 01, "Recovery reads saves from byte 0."
-- Assumes nothing.
use Rattle.std.specs.Prelude.{◌≡◌, ℕ, ◌<◌, Bool, true, false, cond, List, [], ◌∷◌, length, nat_lt, slice_index}
use Rattle.program.specs.Check.{Answer}
use Rattle.program.specs.Grounds.{Allowed}
use Rattle.program.specs.Places.{entry_at, read_place}
use Rattle.journal.specs.declared.Commit.{Commit}
use Rattle.journal.specs.Scanned.{Scanned}
use Rattle.journal.specs.Scanned.{BadLength, Damaged, Found}
use Rattle.journal.specs.Format.{Format, Checkpoint, filled_of, chip_length, images}
use Rattle.journal.specs.Reading
use Rattle.journal.specs.Reading.{Facts, first, Reading, Torn, last_of, own_all, saved_value}

-- the facts that a table of places holds, for a program of n cells; of a program's own table they are `facts_of` it (`facts-same` of proofs/Fixed.antt)
abbrev pub facts_in : Format → ℕ → List ℕ → Facts
facts_in G n table = record { format = G; cells = n; place = λ t. (read_place (entry_at table t)).after; exclude = λ t. nat_lt 0 (read_place (entry_at table t)).exclude }

-- the chip's reading has a remainder that recovery accepts: where its whole checkpoints end, how many torn bytes follow ("a page with any torn byte counts whole"), the last commit ("or offset 1 and
-- zeros"), whether every whole mark names the owner asked for, and "each cell's last saved value in whole saves, or 0"
pub record Taken (F : Facts) (chip : List ℕ) (end torn : ℕ) (last : Commit) (own : Bool) (values : List ℕ) : Type 0 where
  pub saves : List Checkpoint
  pub rest : List ℕ
  pub reading : Reading F chip saves rest
  pub accepted : Torn F (last_of first saves) rest
  pub end_is : end ≡ length (images F.format saves)
  pub torn_is : torn ≡ filled_of F.format.page (length rest)
  pub last_is : last ≡ last_of first saves
  pub own_is : own ≡ own_all F.format.owner saves
  pub cells : length values ≡ 256
  pub values_are : (c : ℕ) → c < 256 → slice_index values c ≡ saved_value c saves 0

-- all 0: what a chip of a length that no chip has, or damaged, gives
pub record Blank (values : List ℕ) : Type 0 where
  pub cells : length values ≡ 256
  pub values_are : (c : ℕ) → slice_index values c ≡ 0

-- the answer and the values are the chip's
abbrev pub Scans : Facts → List ℕ → Scanned → List ℕ → Type 0
Scans F chip BadLength values = (chip_length F.format.page (length chip) ≡ false) × Blank values
Scans F chip Damaged values = (chip_length F.format.page (length chip) ≡ true) × Reading.Damaged F chip × Blank values
Scans F chip (Found end torn last own) values = (chip_length F.format.page (length chip) ≡ true) × Taken F chip end torn last own values

-- 01's number for an answer, 0 where it is accepted, and its values
abbrev pub answer_of : Scanned → Answer
answer_of BadLength = record { number = 11; values = [] }
answer_of Damaged = record { number = 12; values = [] }
answer_of (Found end torn last own) =
    record { number = 0; values = end ∷ torn ∷ last.place ∷ last.exclude ∷ last.readings ∷ last.outputs ∷ last.owner ∷ cond own 1 0 ∷ [] }

-- the grounds of scan's refusals, from document 01's table: 11 "chip over 65,536 bytes" and Q-4's "length not divisible", 12 "chip damaged"
pub data Ground (F : Facts) (chip : List ℕ) : ℕ → Type 0 where
  size : chip_length F.format.page (length chip) ≡ false → Ground F chip 11
  damaged : Reading.Damaged F chip → Ground F chip 12

-- the values of an accepted chip: where its whole saves end, how many bytes are to be erased behind them, the last mark's offsets,
-- counts and owner, "or offset 1 and zeros", and 1 where every whole mark names the owner asked for, else 0
pub data Read (F : Facts) (chip : List ℕ) : List ℕ → Type 0 where
  reads : (saves : List Checkpoint) (rest : List ℕ) → Reading F chip saves rest → Torn F (last_of first saves) rest
      → Read F chip (length (images F.format saves) ∷ filled_of F.format.page (length rest) ∷ (last_of first saves).place ∷ (last_of first saves).exclude ∷ (last_of first saves).readings ∷ (last_of first saves).outputs ∷ (last_of first saves).owner
      ∷ cond (own_all F.format.owner saves) 1 0 ∷ [])

-- what scan promises of its answer and of the values: they are the chip's, and in 01's terms the answer is the one that the grounds allow, in rising order
pub record ScanIs (F : Facts) (chip : List ℕ) (a : Scanned) (values : List ℕ) : Type 0 where
  pub scans : Scans F chip a values
  pub ruled : Allowed (Ground F chip) (Read F chip) (answer_of a)
