-- Where a run stands, and what the functions of a run promise.
-- Assumes nothing.
use Rattle.std.specs.Prelude.{ℕ, ◌-◌, ◌≤◌, ◌≡◌, List, ℤ, length, take, drop}
use Rattle.step.specs.State.{Env, Machine, machine_of}
use Rattle.step.specs.Ready.{Ready, Good}
use Rattle.run.specs.Run.{Call, stepped, run_of, started}
use Rattle.run.specs.Run.{Ended}
use Rattle.run.specs.declared.Pass.{Pass}

-- where a run stands, from its registers and numbers and the buffers: the outputs given are the first of the buffer
abbrev pub standing : Pass → (cells marks journal : List ℕ) → List ℤ → Call
standing b xs ms l outs =
    record {
      machine = machine_of b.regs xs ms l;
      steps = b.steps;
      taken = b.taken;
      given = take b.written outs;
    }

-- the numbers are within the budget, the readings lent and the outputs' places
pub record Within (b : Pass) (budget n room : ℕ) : Type 0 where
  pub steps : b.steps ≤ budget
  pub taken : b.taken ≤ n
  pub written : b.written ≤ room

-- what the inner loop leaves of a run: the same run, from further on
pub record RushIs (p : List ℕ) (ρ : List ℤ) (budget : ℕ) (b₀ : Pass) (xs₀ : List ℕ) (outs₀ : List ℤ) (b : Pass) (xs : List ℕ) (outs : List ℤ) : Type 0 where
  pub within : Within b budget (length ρ) (length outs₀)
  pub more : b₀.steps ≤ b.steps
  pub ahead : b₀.written ≤ b.written
  pub size : length outs ≡ length outs₀
  pub later : drop b.written outs ≡ drop b.written outs₀
  pub same : (e : Env) (table ms l : List ℕ) → e.program ≡ p → Ready e table → Good p (machine_of b₀.regs xs₀ ms l)
      → run_of e ρ (length outs₀) (budget - b.steps) (standing b xs ms l outs) ≡ run_of e ρ (length outs₀) (budget - b₀.steps) (standing b₀ xs₀ ms l outs₀)
  pub good : (e : Env) (table ms l : List ℕ) → e.program ≡ p → Ready e table → Good p (machine_of b₀.regs xs₀ ms l) → Good p (machine_of b.regs xs ms l)

-- what one step leaves of the outputs, and of the run
pub record TurnIs (e : Env) (ρ : List ℤ) (c₀ : Call) (outs₀ : List ℤ) (b : Pass) (c : Call) (outs : List ℤ) : Type 0 where
  pub call : c ≡ stepped e ρ c₀
  pub size : length outs ≡ length outs₀
  pub later : drop b.written outs ≡ drop b.written outs₀
  pub written : b.written ≤ length outs₀
  pub taken : b.taken ≤ length ρ

-- what a run leaves: how it ended and where it stands, by `run_of`; later places of the outputs remain
pub record RunIs (e : Env) (ρ : List ℤ) (budget : ℕ) (m₀ : Machine) (outs₀ : List ℤ) (x : Ended) (b : Pass) (c : Call) (outs : List ℤ) : Type 0 where
  pub finish : record { ended = x; call = c } ≡ run_of e ρ (length outs₀) budget (started m₀)
  pub size : length outs ≡ length outs₀
  pub later : drop b.written outs ≡ drop b.written outs₀
  pub written : b.written ≤ length outs₀
