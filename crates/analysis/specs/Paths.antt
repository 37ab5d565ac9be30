-- Live cells, regions, DE and RO by paths through a program: document 01, "The sets".
-- Assumes nothing.
use Rattle.std.specs.Prelude.{ℕ, ◌<◌, ◌≡◌, true, List}
use Rattle.instruction.specs.Bytes.{byte, cells_of, instruction_at_of}
use Rattle.instruction.specs.Table.{may_ref_of, may_def_of, must_def_of, successors}
use Rattle.instruction.specs.declared.Instruction.{Instruction}
use Rattle.program.specs.Starts.{among}

-- the instruction at q may follow the one at o
abbrev pub Follows : List ℕ → ℕ → ℕ → Type 0
Follows p o q = among q (successors p o) ≡ true

-- "A cell is live before a command if some path from it reaches a command that may read the cell, and no earlier command on the path must
-- write it"; "The reading command reads before it writes". What a command must write is a parameter, so that the sets of lists until request Q-3 can be spoken of
pub data LiveBy (must : Instruction → ℕ → ℕ) (p : List ℕ) (c : ℕ) : ℕ → Type 0 where
  reads : {o : ℕ} → may_ref_of (instruction_at_of p o) c ≡ 1 → LiveBy must p c o
  later : {o q : ℕ} → must (instruction_at_of p o) c ≡ 0 → Follows p o q → LiveBy must p c q → LiveBy must p c o

-- by the command table. 02, Q-3: "The path statement about dead cells now uses this table"
abbrev pub Live : List ℕ → ℕ → ℕ → Type 0
Live = LiveBy must_def_of

-- "otherwise dead": of the cells that exist
pub record Dead (p : List ℕ) (c o : ℕ) : Type 0 where
  pub exists : c < cells_of p
  pub unread : ¬ Live p c o

-- "The region of an EXCLUDE is its successor and all commands reachable from that without passing an EXCLUDE": e is the EXCLUDE's offset
pub data Region (p : List ℕ) (e : ℕ) : ℕ → Type 0 where
  first : {q : ℕ} → Follows p e q → Region p e q
  onward : {o q : ℕ} → Region p e o → ¬ (byte p o ≡ 0x0D) → Follows p o q → Region p e q

-- "DE: the cells dead at every CHECKPOINT of the region; empty if it has none"
pub record DEBy (must : Instruction → ℕ → ℕ) (p : List ℕ) (e c : ℕ) : Type 0 where
  pub exists : c < cells_of p
  pub place : ℕ
  pub within : Region p e place
  pub saves : byte p place ≡ 0x0E
  pub dead : (o : ℕ) → Region p e o → byte p o ≡ 0x0E → ¬ LiveBy must p c o

abbrev pub DE : List ℕ → ℕ → ℕ → Type 0
DE = DEBy must_def_of

-- "RO: the cells that no command of the region may write"
pub record RO (p : List ℕ) (e c : ℕ) : Type 0 where
  pub exists : c < cells_of p
  pub kept : (o : ℕ) → Region p e o → may_def_of (instruction_at_of p o) c ≡ 0

-- what keeps a cell that exists out of DE: the region has no CHECKPOINT, or the cell is live at one
pub data LiveSaveBy (must : Instruction → ℕ → ℕ) (p : List ℕ) (e c : ℕ) : Type 0 where
  unsaved : ((o : ℕ) → Region p e o → ¬ (byte p o ≡ 0x0E)) → LiveSaveBy must p e c
  live_at : (o : ℕ) → Region p e o → byte p o ≡ 0x0E → LiveBy must p c o → LiveSaveBy must p e c

abbrev pub LiveSave : List ℕ → ℕ → ℕ → Type 0
LiveSave = LiveSaveBy must_def_of

-- what keeps it out of RO: an instruction of the region may write it
pub record Written (p : List ℕ) (e c : ℕ) : Type 0 where
  pub place : ℕ
  pub within : Region p e place
  pub writes : may_def_of (instruction_at_of p place) c ≡ 1
