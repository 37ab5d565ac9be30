-- A refused call, with any arguments, leaves the system as it was.
-- Assumes nothing.
use Prim.Native.Nat.{ℕ, ◌+◌}
use mathlib.Core.Path.{◌≡◌, refl, ◌∙◌, ap}
use mathlib.Core.Bool.{Bool, true, false, cond}
use mathlib.Core.List.{List, append-nil}
use native.Mathlib.Omega.{arith}
use lib.IntN.{ℤ}
use lib.ListN.{length}
use lib.Dec.{eqb}
use Rattle.program.proofs.Tests.{bool_cases}
use Rattle.step.specs.State.{Env, Machine}
use Rattle.run.specs.Run.{Call, started, refusal_of, refused_with, call_of}
use Rattle.run.specs.Run.{Ended}
use Rattle.run.proofs.Laws.{Exits, stopped, spent, no_reading, buffer_full, run-exit}
use Rattle.recovery.specs.Recover as recovery
use Rattle.recovery.specs.Recover.{Recovers}
use Rattle.recovery.proofs.Laws.{refusal-alters-nothing}
use Rattle.restart.specs.Reference.{numbered_from}
use Rattle.restart.specs.History.{System, Lent, given, back, refused, refused_run, Accepted}

-- what was lent and comes back as it was is as it was
cond_same : {A : Type 0} (b : Bool) (x y : A) → cond b (cond b x y) x ≡ x
cond_same true x y = refl
cond_same false x y = refl

back-same : (l : Lent) (m : Machine) → back l m (given l m) ≡ m
back-same l m = λ i. record {
  regs = cond_same l.state m.regs l.other.regs i;
  cells = cond_same l.state m.cells l.other.cells i;
  marks = cond_same l.state m.marks l.other.marks i;
  journal = cond_same l.journal m.journal l.other.journal i;
}

-- a run that ends at an exit is accepted
pub exit-accepted : {p : List ℕ} {left n room : ℕ} {c : Call} {x : Ended} → Exits p left n room c x → Accepted x
exit-accepted (stopped h) = tt
exit-accepted (spent h l) = tt
exit-accepted (no_reading h l d t) = tt
exit-accepted (buffer_full h l d t) = tt

-- so a call that is not is refused by its tests
refused-with : (e : Env) (ρ : List ℤ) (budget : ℕ) (m : Machine) (outs : List ℤ) → ¬ Accepted (call_of e ρ budget m outs).ended
    → call_of e ρ budget m outs ≡ refused_with (refusal_of e m) m outs
unfolding call_of
refused-with e ρ budget m outs h =
    bool_cases (eqb (refusal_of e m) 0)
    (λ b. absurd ((rw b at h) (exit-accepted (run-exit e ρ (length outs) budget (started m)))))
    (λ b. rw b)

-- A REFUSED RECOVERY
pub recovery-refused : (s : System) (e : Env) (other whose : ℕ) (l : Lent) (r : recovery.Outcome) → Recovers e other whose (given l s.machine) r → ¬ (r.answer ≡ recovery.Restored)
    → refused s l r ≡ s
recovery-refused s e other whose l r x z =
    let m : back l s.machine r.machine ≡ s.machine =
    ap (back l s.machine) (refusal-alters-nothing e other whose (given l s.machine) r x z) ∙ back-same l s.machine in
    λ i. record { machine = m i; good = s.good; tally = s.tally; outputs = s.outputs; steps = s.steps }

-- A REFUSED RUN
pub run-refused : (s : System) (e : Env) (l : Lent) (ρ : List ℤ) (budget : ℕ) (outs : List ℤ)
    → ¬ Accepted (call_of e ρ budget (given l s.machine) outs).ended → refused_run s l (call_of e ρ budget (given l s.machine) outs) ≡ s
unfolding numbered_from
run-refused s e l ρ budget outs z =
    let o = refused-with e ρ budget (given l s.machine) outs z in
    let k : s.steps + 0 ≡ s.steps = omega arith in
    ap (refused_run s l) o
    ∙ λ i. record {
      machine = back-same l s.machine i;
      good = s.good;
      tally = s.tally;
      outputs = append-nil s.outputs i;
      steps = k i;
    }
