-- A step: "A step executes one command or stores one byte", on a page chip "one page"; "the first steps erase the torn bytes, highest address first, one a
-- step". A page of one byte is the byte chip.
-- Assumes nothing.
use Rattle.std.specs.Prelude.{ℕ, ◌+◌, ◌-◌, ◌*◌, Bool, true, false, cond, ◌&&◌, List, [], ◌∷◌, ℤ, take, drop, replicate, eqb, ltb}
use Rattle.std.proofs.Math.Seq as seq
use Rattle.instruction.specs.Bytes.{byte, cells_of, instruction_at_of}
use Rattle.program.specs.Places.{exclude_number}
use Rattle.execution.specs.Effects.{Effect, stops, on, goes, writes, takes, gives, sets, saves, effect_of, target, readings_after, outputs_after, stop_after, cells_after, cells_in, next_of}
use Rattle.marks.specs.Marks.{excluded_marks, saved_marks}
use Rattle.step.specs.declared.Regs.{Regs}
use Rattle.step.specs.State.{Env, Machine, machine_of, image_at, size_at, fits_at}

-- the effect of the instruction at the place; v is the next reading
unfoldable pub effect_at : List ℕ → ℤ → Machine → Effect
effect_at p v m = effect_of (instruction_at_of p m.regs.pc) v m.regs.readings m.regs.outputs (cells_in m.cells)

abbrev pub is_saves : Effect → Bool
is_saves (stops k) = false
is_saves on = false
is_saves (goes t) = false
is_saves (writes d v) = false
is_saves (takes d v) = false
is_saves (gives v) = false
is_saves sets = false
is_saves saves = true

-- the last EXCLUDE and the marks after an effect, at the place `at`
abbrev pub exclude_after : Effect → (at e : ℕ) → ℕ
exclude_after (stops k) at e = e
exclude_after on at e = e
exclude_after (goes t) at e = e
exclude_after (writes d v) at e = e
exclude_after (takes d v) at e = e
exclude_after (gives v) at e = e
exclude_after sets at e = at
exclude_after saves at e = e

abbrev pub marks_after : Env → Effect → (at : ℕ) → List ℕ → List ℕ
marks_after e (stops k) at ms = ms
marks_after e on at ms = ms
marks_after e (goes t) at ms = ms
marks_after e (writes d v) at ms = ms
marks_after e (takes d v) at ms = ms
marks_after e (gives v) at ms = ms
marks_after e sets at ms = excluded_marks e.sets (8 * exclude_number e.program at) (cells_of e.program) ms
marks_after e saves at ms = ms

-- the instruction is executed; a CHECKPOINT whose save does not fit goes on
unfoldable pub performed : Env → Effect → Machine → Machine
performed e f m =
    let r = m.regs in
    record {
      regs =
          record {
            pc = target f r.pc (next_of e.program r.pc);
            exclude = exclude_after f r.pc r.exclude;
            readings = readings_after f r.readings;
            outputs = outputs_after f r.outputs;
            stop = stop_after f;
            write = r.write;
            erase = r.erase;
            saving = r.saving;
            page = r.page;
            owner = r.owner;
          };
      cells = cells_after f m.cells;
      marks = marks_after e f r.pc m.marks;
      journal = m.journal;
    }

-- the registers that the journal concerns
abbrev pub on_journal : Regs → (pc write erase saving : ℕ) → Regs
on_journal r t w x k =
    record {
      pc = t;
      exclude = r.exclude;
      readings = r.readings;
      outputs = r.outputs;
      stop = r.stop;
      write = w;
      erase = x;
      saving = k;
      page = r.page;
      owner = r.owner;
    }

-- "CHECKPOINT's step finds whether the save fits"; if so, "each following step stores its next byte"
unfoldable pub begun : Machine → Machine
begun m = let r = m.regs in machine_of (on_journal r r.pc r.write r.erase 1) m.cells m.marks m.journal

unfoldable pub executed_of : Env → ℤ → Machine → Machine
executed_of e v m =
    let f = effect_at e.program v m in
    cond (is_saves f && fits_at e.program m) (begun m) (performed e f m)

-- the highest torn page is erased
unfoldable pub erased_of : Machine → Machine
erased_of m =
    let r = m.regs in
    machine_of (on_journal r r.pc r.write (r.erase - r.page) r.saving) m.cells m.marks
    (seq.sets m.journal (r.write + (r.erase - r.page)) (replicate r.page 0xFF))

-- the save's next page is stored; "With the last byte, Pending becomes Kept and the plan goes on"
unfoldable pub stored_of : List ℕ → Machine → Machine
stored_of p m =
    let r = m.regs in
    let l = seq.sets m.journal r.write (take r.page (drop (r.saving - 1) (image_at p m))) in
    cond (eqb (r.saving - 1 + r.page) (size_at p m))
    (machine_of (on_journal r (next_of p r.pc) (r.write + r.page) r.erase 0) m.cells (saved_marks (cells_of p) m.marks) l)
    (machine_of (on_journal r r.pc (r.write + r.page) r.erase (r.saving + r.page)) m.cells m.marks l)

-- what is due: a page to erase, else the next page of a save, else the instruction
unfoldable pub step_of : Env → ℤ → Machine → Machine
step_of e v m =
    cond (ltb 0 m.regs.erase) (erased_of m)
    (cond (ltb 0 m.regs.saving) (stored_of e.program m)
    (executed_of e v m))

-- the opcode of the instruction that is due, 0 where a byte is erased or stored
unfoldable pub due_opcode_of : List ℕ → Machine → ℕ
due_opcode_of p m = cond (ltb 0 m.regs.erase) 0 (cond (ltb 0 m.regs.saving) 0 (byte p m.regs.pc))

-- the outputs of an effect, and how many readings it takes
abbrev pub given_by : Effect → List ℤ
given_by (stops k) = []
given_by on = []
given_by (goes t) = []
given_by (writes d v) = []
given_by (takes d v) = []
given_by (gives v) = v ∷ []
given_by sets = []
given_by saves = []

abbrev pub taken_by : Effect → ℕ
taken_by (stops k) = 0
taken_by on = 0
taken_by (goes t) = 0
taken_by (writes d v) = 0
taken_by (takes d v) = 1
taken_by (gives v) = 0
taken_by sets = 0
taken_by saves = 0

-- of the step that is due
unfoldable pub given_of : List ℕ → ℤ → Machine → List ℤ
given_of p v m = cond (ltb 0 m.regs.erase) [] (cond (ltb 0 m.regs.saving) [] (given_by (effect_at p v m)))

unfoldable pub taken_of : List ℕ → ℤ → Machine → ℕ
taken_of p v m = cond (ltb 0 m.regs.erase) 0 (cond (ltb 0 m.regs.saving) 0 (taken_by (effect_at p v m)))
