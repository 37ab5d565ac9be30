-- A power-up on a byte chip whose MARKs name the owner: the three calls on one state, each from where the one before left state, journal and outputs.
-- Assumes nothing.
use Rattle.std.specs.Prelude.{ℕ, List, ℤ}
use Rattle.step.specs.State.{Env, Machine, machine_of}
use Rattle.step.specs.declared.State.{State}
use Rattle.run.specs.Run.{CallIs}
use Rattle.recovery.specs.Recover.{RecoverIs}
use Rattle.machine.specs.Lent.{passed, restored}
use Rattle.lent_run.specs.declared.Powered.{Powered}

-- the machine of a state and a journal
abbrev pub machine : State → List ℕ → Machine
machine s chip = machine_of s.regs s.cells s.marks chip

-- from the state s, the journal before and the outputs outs, to the journal after and the outputs left; the step leaves the journal between and the outputs given
pub record PowersUp (e : Env) (ρ : List ℤ) (budget owner : ℕ) (s : State) (before : List ℕ) (outs : List ℤ) (r : Powered) (after : List ℕ) (left : List ℤ) : Type 0 where
  pub between : List ℕ
  pub given : List ℤ
  pub recovers : RecoverIs e 1 owner (machine s before) (restored r.recovered (machine r.found before))
  pub steps : CallIs e ρ 1 (machine r.found before) outs (passed r.first (machine r.stepped between) given)
  pub runs : CallIs e ρ budget (machine r.stepped between) given (passed r.rest (machine r.state after) left)
