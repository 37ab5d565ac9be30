-- A run as its steps, one after the other, and the exit that ends it.
-- Assumes nothing.
use Prim.Native.Nat.{ℕ, suc, ◌+◌, ◌-◌, ◌≤◌}
use mathlib.Core.Path.{◌≡◌}
use mathlib.Core.List.{List}
use native.Mathlib.Omega.{arith}
use lib.IntN.{ℤ}
use lib.ListN.{length}
use Rattle.step.specs.State.{Env}
use Rattle.run.specs.Run.{Call, Finish, stepped, run_of}
use Rattle.run.proofs.Laws.{Exits, Goes, exit-none, run_ends, makes-step, run-ind, steps-within, run-exit}

module _ (e : Env) (ρ : List ℤ) (room : ℕ) where
  -- k steps lead from a call to another, with no exit before any of them
  pub data Trace : Call → ℕ → Call → Type 0 where
    none : {c : Call} → Trace c 0 c
    more : {c d : Call} {left k : ℕ} → Goes e.program (suc left) (length ρ) room c → Trace (stepped e ρ c) k d → Trace c (suc k) d

  -- the steps of a run with the budget `left` that ends as r does
  pub record Traced (left : ℕ) (c : Call) (r : Finish) : Type 0 where
    pub steps : ℕ
    pub within : steps ≤ left
    pub trace : Trace c steps r.call
    pub count : r.call.steps ≡ c.steps + steps
    pub exit : Exits e.program (left - steps) (length ρ) room r.call r.ended

  -- its steps, one after the other
  trace-of : (left : ℕ) (c : Call) → Trace c ((run_of e ρ room left c).call.steps - c.steps) (run_of e ρ room left c).call
  unfolding stepped
  trace-of =
      run-ind e ρ room (λ left c. Trace c ((run_of e ρ room left c).call.steps - c.steps) (run_of e ρ room left c).call)
      (λ left c x h. let z : c.steps - c.steps ≡ 0 = omega arith in rw (run_ends e ρ room left c h, z) none)
      (λ left c g h.
      let last = (run_of e ρ room left (stepped e ρ c)).call in
      let z : last.steps - c.steps ≡ suc (last.steps - suc c.steps) = omega (arith, (steps-within e ρ room left (stepped e ρ c)).0) in
      rw (makes-step e ρ room left c (exit-none g), z) (more g h))

  pub traced : (left : ℕ) (c : Call) → Traced left c (run_of e ρ room left c)
  traced left c =
      let w = steps-within e ρ room left c in
      record {
        steps = (run_of e ρ room left c).call.steps - c.steps;
        within = omega (arith, w.1);
        trace = trace-of left c;
        count = omega (arith, w.0);
        exit = run-exit e ρ room left c;
      }
