-- A run of a good system: it is accepted, and what it leaves is a good system at its tally.
-- Assumes nothing.
use Prim.Native.Nat.{ℕ, ◌+◌, ◌≤◌}
use mathlib.Core.Path.{◌≡◌, sym, ◌∙◌, ap, subst}
use mathlib.Core.List.{List}
use native.Mathlib.Omega.{arith}
use lib.IntN.{ℤ}
use lib.ListN.{length}
use Rattle.step.specs.State.{Env, env_of, Machine}
use Rattle.run.specs.Run as run
use Rattle.run.specs.Run.{Finish, Outcome, started, run_of, refusal_of, call_of}
use Rattle.run.proofs.Accepting.{not-refused}
use Rattle.restart.specs.Reference.{Frame, ref_at}
use Rattle.restart.specs.History.{tallied_over, System, Request, lent, outcome_of, tally_after}
use Rattle.restart.specs.Claim.{Plan, Safe}
use Rattle.restart.proofs.Invariant.{Inv}
use Rattle.restart.proofs.Traces.{Traced, traced}
use Rattle.restart.proofs.Along.{Standing, standing-first, standing-over}

-- ---- it is accepted

-- a call that is not refused is the run
call-runs : (e : Env) (ρ : List ℤ) (b : ℕ) (m : Machine) (outs : List ℤ) → refusal_of e m ≡ 0
    → call_of e ρ b m outs ≡ run.outcome_of (run_of e ρ (length outs) b (started m)) outs
unfolding call_of
call-runs e ρ b m outs h = rw h

-- what a run of s is, from its steps
pub record Ran (p : List ℕ) (ρ : List ℤ) (f₀ : Frame) (n : ℕ) (s : System) (r : Request) : Type 0 where
  pub finish : Finish
  pub is : outcome_of p ρ s.machine r ≡ run.outcome_of finish r.places
  pub traced : Traced (env_of p r.words) (lent p ρ s.machine r) (length r.places) r.budget (started s.machine) finish
  pub standing : Standing p ρ f₀ n s.machine s.tally r.readings (length r.places) finish.call (tally_after p ρ s r) (s.steps + traced.steps)

pub run_is : (p : List ℕ) (ρ : List ℤ) (f₀ : Frame) → Plan p → (n : ℕ) (s : System) (r : Request) → Safe p r.words
    → Inv p ρ f₀ n s.machine s.tally s.steps → ((j : ℕ) → ¬ ((ref_at p ρ f₀ j).stop ≡ 0) → s.tally.retired ≤ j) → Ran p ρ f₀ n s r
unfolding outcome_of tally_after
run_is p ρ f₀ plan n s r safe i w =
    let e = env_of p r.words in
    let l = lent p ρ s.machine r in
    let x = length r.places in
    let f = run_of e l x r.budget (started s.machine) in
    let t = traced e l x r.budget (started s.machine) in
    let c = call-runs e l r.budget s.machine r.places (not-refused (record { legal = plan.legal; words = safe.enough; good = i.good })) in
    let z : 0 + t.steps ≡ t.steps = omega arith in
    let k : (call_of e l r.budget s.machine r.places).steps ≡ t.steps = ap (λ (o : Outcome). o.steps) c ∙ t.count ∙ z in
    let first = standing-first p ρ f₀ plan r.words safe n s.machine s.tally r.readings x s.steps i w in
    record {
      finish = f;
      is = c;
      traced = t;
      standing =
          subst (λ (j : ℕ). Standing p ρ f₀ n s.machine s.tally r.readings x f.call (tallied_over e l j (started s.machine) s.tally) (s.steps + t.steps))
          (sym k) (standing-over p ρ f₀ plan r.words safe n s.machine s.tally r.readings x s.tally s.steps first t.trace);
    }
