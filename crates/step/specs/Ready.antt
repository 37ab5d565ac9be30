-- What the functions of a step rely on, once a call is accepted, and what they leave in the registers.
-- Assumes nothing.
use Rattle.std.specs.Prelude.{ℕ, ◌+◌, ◌%◌, ◌≤◌, ◌≡◌, true, cond, List, length}
use Rattle.instruction.specs.Bytes.{length_of}
use Rattle.execution.specs.Effects.{is_full, count_full}
use Rattle.program.specs.Check.{check_of}
use Rattle.program.specs.Places.{Places}
use Rattle.program.specs.Check.{Program}
use Rattle.step.specs.State.{Env, Machine, sound_of}
use Rattle.step.specs.declared.Regs.{Regs}

-- the program is accepted
pub record Legal (p : List ℕ) : Type 0 where
  pub cells : ℕ
  pub instructions : ℕ
  pub excludes : ℕ
  pub accepted : check_of p ≡ Program cells instructions excludes

-- the program is accepted, the table is its own, and the words are enough
pub record Ready (e : Env) (table : List ℕ) : Type 0 where
  pub cells : ℕ
  pub instructions : ℕ
  pub excludes : ℕ
  pub accepted : check_of e.program ≡ Program cells instructions excludes
  pub places : Places e.program table
  pub words : 512 ≤ length e.sets

-- the machine's state is sound, and its journal has a length that a chip of its pages may have
pub record Good (p : List ℕ) (m : Machine) : Type 0 where
  pub sound : sound_of p m ≡ true
  pub most : length m.journal ≤ 65536
  pub whole : length m.journal % m.regs.page ≡ 0
  pub cells : length m.cells ≡ 256
  pub marks : length m.marks ≡ 256

-- registers after a stop, and after EMIT
abbrev pub halted : Regs → ℕ → Regs
halted r k =
    record {
      pc = r.pc;
      exclude = r.exclude;
      readings = r.readings;
      outputs = r.outputs;
      stop = k;
      write = r.write;
      erase = r.erase;
      saving = r.saving;
      page = r.page;
      owner = r.owner;
    }

abbrev pub emitted : Regs → Regs
emitted r =
    cond (is_full r.outputs) (halted r count_full)
    (record {
      pc = r.pc + length_of 0x08;
      exclude = r.exclude;
      readings = r.readings;
      outputs = r.outputs + 1;
      stop = r.stop;
      write = r.write;
      erase = r.erase;
      saving = r.saving;
      page = r.page;
      owner = r.owner;
    })
