-- What every step of the engine keeps, in two layers: which cells a save may leave out (`Held`, no bytes), and what stands on the journal (`Phase`, no cell's
-- meaning); and the two together with the tally (`Inv`).
-- Assumes nothing.
use Prim.Native.Nat.{ℕ, suc, ◌+◌, ◌^◌, ◌≤◌, ◌<◌}
use mathlib.Core.Path.{◌≡◌}
use mathlib.Core.Bool.{cond}
use mathlib.Core.List.{List}
use lib.IntN.{ℤ}
use lib.ListN.{length, get_or, take}
use lib.Dec.{ltb}
use Rattle.instruction.specs.Bytes.{byte, cells_of, instruction_at_of}
use Rattle.instruction.specs.Table.{may_def_of}
use Rattle.marks.specs.Marks.{mark_of}
use Rattle.marks.specs.declared.Mark.{Mark}
use Rattle.marks.specs.declared.Mark.TheVariants.{Include, Pending, Kept, Dead}
use Rattle.analysis.specs.Paths.{Live, Region}
use Rattle.analysis.proofs.Safety.{Inside}
use Rattle.journal.specs.Format.{Checkpoint, image, images}
use Rattle.journal.specs.Reading.{facts_of, first, last_of, saved_value, Sound}
use Rattle.journal.specs.Shape.{Shape}
use Rattle.step.specs.State.{Machine, format_at, checkpoint_at}
use Rattle.step.specs.Ready.{Good}
use Rattle.restart.specs.Reference.{Frame, frame_of, ref_at}
use Rattle.restart.specs.History.{Tally}
use Rattle.restart.specs.Claim.{Resumes, Owned}

-- ---- layer A

-- frames of as many cells that stand at one place with equal counts, and agree on the cells that are live there
pub record Agree (p : List ℕ) (f g : Frame) : Type 0 where
  pub pc : f.pc ≡ g.pc
  pub readings : f.readings ≡ g.readings
  pub outputs : f.outputs ≡ g.outputs
  pub stop : f.stop ≡ g.stop
  pub size : length f.cells ≡ length g.cells
  pub cells : (c : ℕ) → Live p c f.pc → get_or f.cells c 0 ≡ get_or g.cells c 0

-- a cell that saves in the region of the EXCLUDE at e may leave out: dead at each CHECKPOINT; and one that nothing there may write
pub record Spent (p : List ℕ) (e c : ℕ) : Type 0 where
  pub some : ¬ (e ≡ 0)
  pub dead : (o : ℕ) → Region p e o → byte p o ≡ 0x0E → ¬ Live p c o

pub record Fixed (p : List ℕ) (e c : ℕ) : Type 0 where
  pub some : ¬ (e ≡ 0)
  pub unwritten : (o : ℕ) → Region p e o → may_def_of (instruction_at_of p o) c ≡ 0

-- the mark of cell c is one that the last EXCLUDE, at e, allows
abbrev pub Allows : List ℕ → (e c : ℕ) → Mark → Type 0
Allows p e c Include = Unit
Allows p e c Pending = Fixed p e c
Allows p e c Kept = Fixed p e c
Allows p e c Dead = Spent p e c

abbrev pub mark_at : List ℕ → ℕ → Mark
mark_at ms c = mark_of (get_or ms c 0)

-- at the tally t, with the checkpoints js whole, the last of them at the tally b: the engine follows the reference run; it is in the region of its last
-- EXCLUDE, whose marks are allowed; a Kept cell has its last saved value; and the checkpoints take the run up at b
pub record Held (p : List ℕ) (ρ : List ℤ) (f₀ : Frame) (m : Machine) (js : List Checkpoint) (t b : ℕ) : Type 0 where
  pub follows : Agree p (frame_of m) (ref_at p ρ f₀ t)
  pub inside : Inside p m.regs.exclude m.regs.pc
  pub allows : (c : ℕ) → c < cells_of p → Allows p m.regs.exclude c (mark_at m.marks c)
  pub kept : (c : ℕ) → c < cells_of p → mark_at m.marks c ≡ Kept → saved_value c js 0 ≡ get_or m.cells c 0
  pub resumes : Resumes p js (ref_at p ρ f₀ b)

-- ---- layer B

-- the journal has the checkpoints js, and behind them torn bytes that are to be erased, or the first k bytes of the checkpoint that is being stored
pub data Phase (p : List ℕ) (m : Machine) (js : List Checkpoint) : Type 0 where
  idle : (q : List ℕ) → Shape (facts_of (format_at m.regs) p) m.journal js q → m.regs.saving ≡ 0
      → m.regs.write ≡ length (images (format_at m.regs) js) → length q ≤ m.regs.erase
      → Phase p m js
  saving : (k : ℕ) → Shape (facts_of (format_at m.regs) p) m.journal js (take k (image (format_at m.regs) (checkpoint_at p m)))
      → Sound (facts_of (format_at m.regs) p) (last_of first js) (checkpoint_at p m)
      → m.regs.saving ≡ suc k → m.regs.write ≡ length (images (format_at m.regs) js) + k → m.regs.erase ≡ 0 → Phase p m js

-- ---- both

-- values are patterns of 32 bits, and counts fit
pub record Small (m : Machine) : Type 0 where
  pub values : (c : ℕ) → get_or m.cells c 0 < 2 ^ 32
  pub readings : m.regs.readings < 2 ^ 32
  pub outputs : m.regs.outputs < 2 ^ 32

-- a good system's machine, at the tally t and k steps after the recovery, on a journal of n bytes
pub record Inv (p : List ℕ) (ρ : List ℤ) (f₀ : Frame) (n : ℕ) (m : Machine) (t : Tally) (k : ℕ) : Type 0 where
  pub saves : List Checkpoint
  pub held : Held p ρ f₀ m saves t.retired t.committed
  pub phase : Phase p m saves
  pub owned : Owned m.regs.owner saves
  pub good : Good p m
  pub small : Small m
  pub size : length m.journal ≡ n
  pub order : t.committed ≤ t.retired
  pub high : t.retired ≤ t.highest
  -- each step erased a page, which has a byte at least, stored one, retired an instruction or began the save at work
  pub paid : k + m.regs.erase ≤ t.retired + m.regs.write + n + cond (ltb 0 m.regs.saving) 1 0
