-- The engine's state, what it works on, and when a state is sound.
-- Assumes nothing.
use Rattle.std.specs.Prelude.{ℕ, zero, suc, ◌+◌, ◌-◌, Bool, true, ◌&&◌, ◌||◌, List, length, get_or, eqb, ltb, leb}
use Rattle.instruction.specs.Bytes.{byte, cells_of}
use Rattle.program.specs.Places.{is_start, is_exclude}
use Rattle.execution.specs.Effects.{next_of}
use Rattle.marks.specs.Marks.{stored_cells_of}
use Rattle.journal.specs.declared.Commit.{Commit}
use Rattle.journal.specs.Format.{Format, Checkpoint, format_for, pages_in, padded}
use Rattle.journal.specs.Writing.{records_of}
use Rattle.step.specs.declared.Regs.{Regs}

-- what a call is lent and does not change: the program, and the words of DE and RO
pub record Env : Type 0 where
  pub program : List ℕ
  pub sets : List ℕ

abbrev pub env_of : List ℕ → List ℕ → Env
env_of p ws = record { program = p; sets = ws }

-- what it changes: the state (registers, the cells' patterns, their marks' bytes) and the journal
pub record Machine : Type 0 where
  pub regs : Regs
  pub cells : List ℕ
  pub marks : List ℕ
  pub journal : List ℕ

abbrev pub machine_of : Regs → (cells marks journal : List ℕ) → Machine
machine_of r xs ms l = record { regs = r; cells = xs; marks = ms; journal = l }

-- the checkpoint of the present state: "for each Include or Pending cell that exists", and "offset after the CHECKPOINT, offset of the last EXCLUDE executed
-- or 0, readings taken, outputs given", and the owner, "plan length, sum of all plan bytes", where MARKs name one
abbrev pub commit_at_of : List ℕ → Machine → Commit
commit_at_of p m =
    record {
      place = next_of p m.regs.pc;
      exclude = m.regs.exclude;
      readings = m.regs.readings;
      outputs = m.regs.outputs;
      owner = m.regs.owner;
    }

unfoldable pub checkpoint_at : List ℕ → Machine → Checkpoint
checkpoint_at p m = record { records = records_of (stored_cells_of (cells_of p) m.marks) m.cells; commit = commit_at_of p m }

-- how the chip is written
abbrev pub format_at : Regs → Format
format_at r = format_for r.page r.owner

-- its bytes as they are stored, the last page filled, and how many
unfoldable pub image_at : List ℕ → Machine → List ℕ
image_at p m = padded (format_at m.regs) (checkpoint_at p m)

unfoldable pub size_at : List ℕ → Machine → ℕ
size_at p m = length (image_at p m)

-- "whether the save fits between the write position and the chip's end"
abbrev pub fits_at : List ℕ → Machine → Bool
fits_at p m = leb (m.regs.write + size_at p m) (length m.journal)

-- ---- sound states

-- the k numbers from index c on are 0
unfoldable pub zero_from : List ℕ → (c k : ℕ) → Bool
zero_from l c zero = true
zero_from l c (suc k) = eqb (get_or l c 0) 0 && zero_from l (suc c) k

-- "cells that don't exist are 0 and Include"
abbrev pub rest_clear : ℕ → Machine → Bool
rest_clear n m = zero_from m.cells n (256 - n) && zero_from m.marks n (256 - n)

-- the k numbers from index c on are at most 3
unfoldable pub marks_from : List ℕ → (c k : ℕ) → Bool
marks_from l c zero = true
marks_from l c (suc k) = leb (get_or l c 0) 3 && marks_from l (suc c) k

-- "a write position, a count of bytes to erase or a save's count of bytes stored not divisible by 16 gives 10", with pages of 1 to 16 bytes
abbrev pub pages_sound_of : Regs → Bool
pages_sound_of r = ltb 0 r.page && leb r.page 16 && pages_in r.page r.write && pages_in r.page r.erase

-- "while saving, it stands at a CHECKPOINT, has nothing to erase, has stored fewer bytes than its save has, and the remaining bytes fit"; saving is 0, or one
-- more than the bytes stored
abbrev pub saving_sound_of : List ℕ → Machine → Bool
saving_sound_of p m =
    eqb m.regs.saving 0
    || (eqb (byte p m.regs.pc) 0x0E && eqb m.regs.erase 0 && ltb (m.regs.saving - 1) (size_at p m)
    && pages_in m.regs.page (m.regs.saving - 1) && leb (m.regs.write + (size_at p m - (m.regs.saving - 1))) (length m.journal))

-- "a mark or kind of stop that is none, gives 10"
abbrev pub kinds_sound : Machine → Bool
kinds_sound m = leb m.regs.stop 3 && marks_from m.marks 0 256

-- "A state is sound if it stands at a command, its last EXCLUDE is one or 0, cells that don't exist are 0 and Include, and its write position plus its bytes to
-- erase is at most the chip's length"
unfoldable pub sound_of : List ℕ → Machine → Bool
sound_of p m =
    kinds_sound m
    && is_start p m.regs.pc
    && (eqb m.regs.exclude 0 || is_exclude p m.regs.exclude)
    && rest_clear (cells_of p) m
    && leb (m.regs.write + m.regs.erase) (length m.journal)
    && pages_sound_of m.regs
    && saving_sound_of p m
