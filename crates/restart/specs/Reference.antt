-- The reference run (document 01: the uncut run): "a plain machine, fed an accepted plan and one list of readings". "It knows no chip, set, mark or budget."
-- Assumes nothing.
use Rattle.std.specs.Prelude.{ℕ, zero, suc, ◌-◌, Bool, cond, ◌&&◌, ◌||◌, not, List, [], ◌∷◌, ◌++◌, ℤ, pos, length, get_or, take, replicate, eqb, ltb}
use Rattle.instruction.specs.Bytes.{byte, instruction_at_of}
use Rattle.execution.specs.Effects.{Effect, effect_of, target, readings_after, outputs_after, stop_after, cells_after, cells_in, next_of}
use Rattle.step.specs.State.{Machine}
use Rattle.step.specs.Step.{given_by, taken_by}

-- where a machine stands: its cells, its place, both counts, the kind of stop
pub record Frame : Type 0 where
  pub cells : List ℕ
  pub pc : ℕ
  pub readings : ℕ
  pub outputs : ℕ
  pub stop : ℕ

-- "It starts with all cells and both counts 0, at offset 1, not stopped."
unfoldable pub zeros : Frame
zeros = record { cells = replicate 256 0; pc = 1; readings = 0; outputs = 0; stop = 0 }

-- the engine's
abbrev pub frame_of : Machine → Frame
frame_of m =
    record {
      cells = m.cells;
      pc = m.regs.pc;
      readings = m.regs.readings;
      outputs = m.regs.outputs;
      stop = m.regs.stop;
    }

-- a reading or an output with its number
pub record Numbered : Type 0 where
  pub number : ℕ
  pub value : ℤ

-- numbered from m on: "An output's number is the count of outputs before it."
unfoldable pub numbered_from : ℕ → List ℤ → List Numbered
numbered_from m [] = []
numbered_from m (v ∷ vs) = record { number = m; value = v } ∷ numbered_from (suc m) vs

-- the frame after an effect
unfoldable pub frame_after : List ℕ → Effect → Frame → Frame
frame_after p e f =
    record {
      cells = cells_after e f.cells;
      pc = target e f.pc (next_of p f.pc);
      readings = readings_after e f.readings;
      outputs = outputs_after e f.outputs;
      stop = stop_after e;
    }

module _ (p : List ℕ) (ρ : List ℤ) where
  -- "READ takes the reading numbered, from 0, by its count"
  abbrev pub reading_at : Frame → ℤ
  reading_at f = get_or ρ f.readings (pos 0)

  -- "It executes commands by the table"; EXCLUDE (`sets`) and CHECKPOINT (`saves`) "only go on", as their effects say
  unfoldable pub effect_in : Frame → Effect
  effect_in f = effect_of (instruction_at_of p f.pc) (reading_at f) f.readings f.outputs (cells_in f.cells)

  -- "Stopped, or at a READ whose reading is missing, it stays."
  unfoldable pub stays : Frame → Bool
  stays f = not (eqb f.stop 0) || (eqb (byte p f.pc) 0x07 && not (ltb f.readings (length ρ)))

  unfoldable pub next_frame : Frame → Frame
  next_frame f = cond (stays f) f (frame_after p (effect_in f) f)

  -- the outputs that the next command gives ("EMIT gives an output so numbered"), and the readings that it takes
  unfoldable pub output_at : Frame → List Numbered
  output_at f = cond (stays f) [] (numbered_from f.outputs (given_by (effect_in f)))

  unfoldable pub taken_at : Frame → List Numbered
  taken_at f = cond (stays f) [] (numbered_from f.readings (take (taken_by (effect_in f)) (reading_at f ∷ [])))

  -- over k commands from a frame on
  unfoldable pub gathered : (Frame → List Numbered) → Frame → ℕ → List Numbered
  gathered g f zero = []
  gathered g f (suc k) = g f ++ gathered g (next_frame f) k

  module _ (f₀ : Frame) where
    -- the frame after k commands from the first one: "A stop counts as a command."
    unfoldable pub ref_at : ℕ → Frame
    ref_at zero = f₀
    ref_at (suc k) = next_frame (ref_at k)

    -- what the uncut run gives and takes between a and b commands
    unfoldable pub emitted : (a b : ℕ) → List Numbered
    emitted a b = gathered output_at (ref_at a) (b - a)

    unfoldable pub taken : (a b : ℕ) → List Numbered
    taken a b = gathered taken_at (ref_at a) (b - a)
