-- What storing many bytes of a save at once leaves of a run: the same run, from further on.
-- Assumes nothing.
use Rattle.std.specs.Prelude.{ℕ, ◌+◌, ◌-◌, ◌≤◌, ◌≡◌, cond, List, ℤ, length, eqb}
use Rattle.instruction.specs.Bytes.{length_of}
use Rattle.step.specs.declared.Regs.{Regs}
use Rattle.run.specs.declared.Pass.{Pass}
use Rattle.step.specs.State.{Env, machine_of}
use Rattle.step.specs.Step.{on_journal}
use Rattle.run.specs.Run.{run_of}
use Rattle.step.specs.Ready.{Ready, Good}
use Rattle.run.specs.Standing.{standing}

-- the registers after m more bytes of a save of so many
abbrev pub stored_regs : Regs → (m total : ℕ) → Regs
stored_regs r m total =
    cond (eqb (r.saving - 1 + m) total) (on_journal r (r.pc + length_of 0x0E) (r.write + m) r.erase 0)
    (on_journal r r.pc (r.write + m) r.erase (r.saving + m))

pub record StoreIs (p : List ℕ) (budget : ℕ) (xs : List ℕ) (b₀ : Pass) (ms₀ l₀ : List ℕ) (b : Pass) (ms l : List ℕ) : Type 0 where
  pub more : b₀.steps ≤ b.steps
  pub steps : b.steps ≤ budget
  pub taken : b.taken ≡ b₀.taken
  pub written : b.written ≡ b₀.written
  pub size : length l ≡ length l₀
  pub same : (e : Env) (ρ : List ℤ) (room : ℕ) (outs : List ℤ) → e.program ≡ p
      → run_of e ρ room (budget - b.steps) (standing b xs ms l outs) ≡ run_of e ρ room (budget - b₀.steps) (standing b₀ xs ms₀ l₀ outs)
  pub good : (e : Env) (table : List ℕ) → e.program ≡ p → Ready e table → Good p (machine_of b.regs xs ms l)
