-- Notes in spent cells: document 02, Q-14, "Spent cells may hold anything." Where on a chip one may stand, a chip with one, and what `spent` answers. That a batch goes on with such
-- a chip is crate `batch`'s.
-- Assumes nothing.
use Rattle.std.specs.Prelude.{ℕ, ◌+◌, ◌-◌, ◌<◌, ◌≡◌, Bool, true, cond, Option, None, Some, Result, Ok, Err, List, [], ◌∷◌, length, get_or}
use Rattle.std.proofs.lemmas.List.Edits.{sets}
use Rattle.program.specs.Check.{Answer}
use Rattle.program.specs.Grounds.{Allowed, CallGround}
use Rattle.analysis.specs.Paths.{Dead}
use Rattle.journal.specs.declared.Commit.{Commit}
use Rattle.journal.specs.Format.{Format, format_for, chip_length, Saved, Checkpoint, padded}
use Rattle.journal.specs.Reading.{facts_of, first, last_of, Reading}
use Rattle.journal.specs.Answer.{Taken}
use Rattle.recovery.specs.Recover.{ChipGround}
use Rattle.program.specs.Refusal.{refusal_number}
use Rattle.program.specs.declared.refusal.Refusal.{Refusal}

-- ---- where a note may stand

-- the four bytes from `at` on are the value of a record of the cell c, of records that stand from `from` on: a record has 6 bytes, of which two stand before the value
pub data RecordAt (c at : ℕ) : (from : ℕ) → List Saved → Type 0 where
  here : {from : ℕ} {r : Saved} {rs : List Saved} → c ≡ r.cell → at ≡ from + 2 → RecordAt c at from (r ∷ rs)
  later : {from : ℕ} {r : Saved} {rs : List Saved} → RecordAt c at (from + 6) rs → RecordAt c at from (r ∷ rs)

-- of a record in checkpoints that stand from `from` on
pub data ValueAt (G : Format) (c at : ℕ) : (from : ℕ) → List Checkpoint → Type 0 where
  within : {from : ℕ} {s : Checkpoint} {js : List Checkpoint} → RecordAt c at from s.records → ValueAt G c at from (s ∷ js)
  behind : {from : ℕ} {s : Checkpoint} {js : List Checkpoint} → ValueAt G c at (from + length (padded G s)) js → ValueAt G c at from (s ∷ js)

-- "the CHECKPOINT of the last whole save": a MARK has the offset after it, and a CHECKPOINT has one byte
abbrev pub last_checkpoint : List Checkpoint → ℕ
last_checkpoint js = (last_of first js).place - 1

-- a note may stand at the four bytes from `at` on, of a chip with such pages whose marks name the owner: they are the value "of any record, in a whole save", of those that
-- recovery reads, "whose cell is dead at the CHECKPOINT of the last whole save"
pub record NotePlace (page owner : ℕ) (p chip : List ℕ) (at : ℕ) : Type 0 where
  pub saves : List Checkpoint
  pub rest : List ℕ
  pub reading : Reading (facts_of (format_for page owner) p) chip saves rest
  pub cell : ℕ
  pub stands : ValueAt (format_for page owner) cell at 0 saves
  pub dead : Dead p cell (last_checkpoint saves)

-- the chip l is `chip` with a note: "change the four value bytes", and "no other byte differs". Several notes are put there one after the other
pub record Noted (page owner : ℕ) (p chip l : List ℕ) : Type 0 where
  pub at : ℕ
  pub place : NotePlace page owner p chip at
  pub note : List ℕ
  pub four : length note ≡ 4
  pub bytes : (k : ℕ) → get_or note k 0 < 256
  pub is : l ≡ sets chip at note

-- ---- what `spent` answers

-- whether a note may stand there, or the number of a refusal
pub data Told : Type 0 where
  May : Bool → Told
  Refused : ℕ → Told

abbrev pub told_of : Result Bool Refusal → Told
told_of (Ok b) = May b
told_of (Err r) = Refused (refusal_number r)

-- in document 01's terms: a number, 0 where it is accepted, and then 1 where a note may stand there, else 0
abbrev pub answer_of : Told → Answer
answer_of (May b) = record { number = 0; values = cond b 1 0 ∷ [] }
answer_of (Refused n) = record { number = n; values = [] }

pub data Tells (page owner : ℕ) (p chip : List ℕ) (at : ℕ) : List ℕ → Type 0 where
  may : NotePlace page owner p chip at → Tells page owner p chip at (1 ∷ [])
  may_not : ¬ NotePlace page owner p chip at → Tells page owner p chip at (0 ∷ [])

-- the grounds of its refusals are recovery's: 1 to 8 check's, and the chip's, 11, 12, 15 and 16; but for 9, since no words are lent
abbrev pub Ground : (p : List ℕ) → (page owner : ℕ) → (chip : List ℕ) → ℕ → Type 0
Ground p page owner chip = CallGround p ⊥ (ChipGround p page owner chip)

-- THE CONTRACT OF A CALL: the answer is the one that the grounds allow, in rising order, and an accepted one tells whether a note may stand there. There is one (`one_answer` of
-- proofs/Laws.antt), and it is refused as a recovery with words enough is (`as-recovery`)
abbrev pub SpentIs : (p : List ℕ) → (page owner : ℕ) → (chip : List ℕ) → (at : ℕ) → Told → Type 0
SpentIs p page owner chip at r = Allowed (Ground p page owner chip) (Tells page owner p chip at) (answer_of r)

-- ---- parts of the code

-- r is the cell of the record whose value stands at `at`, none where none does
abbrev pub CellAt : (G : Format) → (saves : List Checkpoint) → (at : ℕ) → Option ℕ → Type 0
CellAt G saves at (Some c) = ValueAt G c at 0 saves
CellAt G saves at None = (c : ℕ) → ¬ ValueAt G c at 0 saves

-- recovery reads the chip: its whole saves end at `end`, and the last has the offset `place`
pub record ReadTo (page owner : ℕ) (p chip : List ℕ) (end place : ℕ) : Type 0 where
  pub size : chip_length page (length chip) ≡ true
  pub torn : ℕ
  pub last : Commit
  pub own : Bool
  pub values : List ℕ
  pub taken : Taken (facts_of (format_for page owner) p) chip end torn last own values
  pub place_is : place ≡ last.place
