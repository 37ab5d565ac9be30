-- The state's bytes: document 01, "docs/ fixes the state's layout" (docs/C-API.md). 256 cells of 4 bytes, 256 marks of one, eight numbers of 4.
-- Assumes nothing.
use Rattle.std.specs.Prelude.{ℕ, List, [], ◌∷◌, ◌++◌}
use Rattle.word.specs.Bytes.{load_of}
use Rattle.step.specs.declared.Regs.{Regs}
use Rattle.step.specs.State.{Machine, machine_of}
use Rattle.layout.specs.Numbers.{numbers_from, bytes_of_all}

-- how many they are
abbrev pub state_size : ℕ
state_size = 1312

-- the state that bytes hold, in a call for a kind of chip and for an owner, which are no part of them
unfoldable pub regs_in : (page owner : ℕ) → List ℕ → Regs
regs_in page owner b =
    record {
      pc = load_of 4 b 1280;
      exclude = load_of 4 b 1284;
      readings = load_of 4 b 1288;
      outputs = load_of 4 b 1292;
      stop = load_of 4 b 1296;
      write = load_of 4 b 1300;
      erase = load_of 4 b 1304;
      saving = load_of 4 b 1308;
      page = page;
      owner = owner;
    }

unfoldable pub cells_in : List ℕ → List ℕ
cells_in b = numbers_from 4 256 b 0

unfoldable pub marks_in : List ℕ → List ℕ
marks_in b = numbers_from 1 256 b 1024

-- with a journal
abbrev pub machine_in : (page owner : ℕ) → (state journal : List ℕ) → Machine
machine_in page owner b l = machine_of (regs_in page owner b) (cells_in b) (marks_in b) l

-- the bytes that hold a state
abbrev pub regs_list : Regs → List ℕ
regs_list r = r.pc ∷ r.exclude ∷ r.readings ∷ r.outputs ∷ r.stop ∷ r.write ∷ r.erase ∷ r.saving ∷ []

unfoldable pub state_bytes : Regs → (cells marks : List ℕ) → List ℕ
state_bytes r cells marks = bytes_of_all 4 cells ++ bytes_of_all 1 marks ++ bytes_of_all 4 (regs_list r)

abbrev pub bytes_of_state : Machine → List ℕ
bytes_of_state m = state_bytes m.regs m.cells m.marks
