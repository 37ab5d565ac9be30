-- What the inner loop of a run does: it goes along a run, whatever the registers that it does not touch.
-- Assumes nothing.
use Rattle.std.specs.Prelude.{ℕ, ◌+◌, ◌-◌, ◌≤◌, ◌≡◌, true, List, ℤ, length, take, drop}
use Rattle.program.specs.Places.{is_start}
use Rattle.step.specs.declared.Regs.{Regs}
use Rattle.run.specs.declared.quiet.Flow.{Flow}
use Rattle.step.specs.State.{Env, machine_of}
use Rattle.run.specs.Run.{Call, run_of}
use Rattle.step.specs.Ready.{Ready, Good}

-- one step further, to t, with so many readings and outputs more
abbrev pub flowed : Flow → (t n m : ℕ) → Flow
flowed f t n m = record { pc = t; steps = f.steps + 1; taken = f.taken + n; written = f.written + m }

-- what the loop does not see: the words, the registers at its beginning, marks and journal, all the readings lent, the places for outputs, and the call's steps and
-- readings taken before
pub record Base : Type 0 where
  pub env : Env
  pub regs : Regs
  pub marks : List ℕ
  pub journal : List ℕ
  pub readings : List ℤ
  pub room : ℕ
  pub steps : ℕ
  pub taken : ℕ

abbrev pub regs_at : Regs → Flow → Regs
regs_at r f =
    record {
      pc = f.pc;
      exclude = r.exclude;
      readings = r.readings + f.taken;
      outputs = r.outputs + f.written;
      stop = r.stop;
      write = r.write;
      erase = r.erase;
      saving = r.saving;
      page = r.page;
      owner = r.owner;
    }

-- where the run stands; the outputs given are the first of the buffer
abbrev pub call_in : Base → (first : ℕ) → Flow → (cells : List ℕ) (outs : List ℤ) → Call
call_in b first f xs outs =
    record {
      machine = machine_of (regs_at b.regs f) xs b.marks b.journal;
      steps = b.steps + f.steps;
      taken = b.taken + f.taken;
      given = take (first + f.written) outs;
    }

-- nothing is stopped, to erase or to store; the counts can take so many readings and outputs; the loop has the readings from the next untaken one on
pub record Idle (b : Base) (p : List ℕ) (readings : List ℤ) (first takes gives : ℕ) : Type 0 where
  pub table : List ℕ
  pub ready : Ready b.env table
  pub program : b.env.program ≡ p
  pub stop : b.regs.stop ≡ 0
  pub erase : b.regs.erase ≡ 0
  pub saving : b.regs.saving ≡ 0
  pub readings_fit : b.regs.readings + takes ≤ 4294967295
  pub outputs_fit : b.regs.outputs + gives ≤ 4294967295
  pub rest : drop b.taken b.readings ≡ readings
  pub lent : b.taken + takes ≤ length b.readings
  pub room_fits : first + gives ≤ b.room

-- the run from here is the run from the beginning, and a sound state stays sound
pub record Along (b : Base) (p : List ℕ) (first left : ℕ) (f₀ : Flow) (xs₀ : List ℕ) (outs₀ : List ℤ) (f : Flow) (xs : List ℕ) (outs : List ℤ) : Type 0 where
  pub same : run_of b.env b.readings b.room (left - f.steps) (call_in b first f xs outs)
      ≡ run_of b.env b.readings b.room (left - f₀.steps) (call_in b first f₀ xs₀ outs₀)
  pub good : Good p (call_in b first f₀ xs₀ outs₀).machine → Good p (call_in b first f xs outs).machine

abbrev pub flow_at : ℕ → Flow
flow_at pc = record { pc = pc; steps = 0; taken = 0; written = 0 }

pub record QuietIs (p : List ℕ) (readings : List ℤ) (first pc left takes gives : ℕ) (xs₀ : List ℕ) (outs₀ : List ℤ) (f : Flow) (xs : List ℕ) (outs : List ℤ) : Type 0 where
  pub stands : is_start p f.pc ≡ true
  pub steps : f.steps ≤ left
  pub taken : f.taken ≤ takes
  pub written : f.written ≤ gives
  pub size : length outs ≡ length outs₀
  pub later : drop (first + f.written) outs ≡ drop (first + f.written) outs₀
  pub along : (b : Base) → b.regs.pc ≡ pc → Idle b p readings first takes gives → Along b p first left (flow_at pc) xs₀ outs₀ f xs outs
