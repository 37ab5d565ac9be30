-- A run: what the inner loop leaves of it (`rush`), and what its own loop keeps, `Running`, at the first turn, over `rush` and over `turn`, and at an exit.
-- Assumes nothing.
use mathlib.Core.Path.{◌≡◌, refl, sym, ◌∙◌, ap, subst}
use mathlib.Core.List.{List, ◌++◌}
use Rattle.std.proofs.Common.{None, Some}
use Prim.Native.Nat.{ℕ, zero, suc, ◌+◌, ◌-◌, ◌≤◌, ◌<◌}
use native.Mathlib.Nat.{add-zero}
use native.Mathlib.Omega.{arith}
use lib.IntN.{ℤ, pos}
use lib.ListN.{length, get_or, take, drop, length-drop, length-append}
use lib.Seq.{take_all, drop-drop, length-take-le}
use Rattle.run.specs.Run.{Ended}
use Rattle.run.specs.declared.Pass.{Pass}
use Rattle.run.specs.declared.quiet.Flow.{Flow}
use Rattle.step.specs.State.{Env, Machine, machine_of}
use Rattle.step.specs.Step.{given_of}
use Rattle.run.specs.Run.{Call, exit_before_of, stepped, run_of, started}
use Rattle.run.specs.Stretch.{StoreIs}
use Rattle.step.specs.Ready.{Ready, Good}
use Rattle.run.specs.Standing.{standing, Within, RushIs, TurnIs, RunIs}
use Rattle.run.specs.Quiet.{Base, regs_at, call_in, Along, flow_at, QuietIs}
use Rattle.step.proofs.Keeping.{good-step}
use Rattle.run.proofs.Turns.{Open, open_none, none_open}

-- ---- `rush`

-- the run after the inner loop
abbrev pub moved_by : Pass → Flow → Pass
moved_by b f =
    record { regs = regs_at b.regs f; steps = b.steps + f.steps; taken = b.taken + f.taken; written = b.written + f.written }

-- the readings from the next untaken one on, as the code takes them
pub rest_is : (n : ℕ) (ρ : List ℤ) → drop n ρ ≡ take (length ρ - n) (drop n ρ)
rest_is n ρ = sym (take_all (length ρ - n) (drop n ρ) (omega (arith, length-drop n ρ)))

pub rest-length : (n : ℕ) (ρ : List ℤ) → length (take (length ρ - n) (drop n ρ)) ≡ length ρ - n
rest-length n ρ = sym (ap length (rest_is n ρ)) ∙ length-drop n ρ

-- what the calls before the inner loop promise: the counts can take so many readings and outputs, and so many are there
pub record Lends (b : Pass) (n room takes gives : ℕ) : Type 0 where
  pub stop : b.regs.stop ≡ 0
  pub erase : b.regs.erase ≡ 0
  pub saving : b.regs.saving ≡ 0
  pub takes_lent : takes ≤ n - b.taken
  pub takes_fit : b.regs.readings + takes ≤ 4294967295
  pub gives_lent : gives ≤ room - b.written
  pub gives_fit : b.regs.outputs + gives ≤ 4294967295

-- so the sums of `moved` fit
pub moved-fits : (f : Flow) {b : Pass} {budget n room takes gives : ℕ} → Within b budget n room → Lends b n room takes gives
    → f.steps ≤ budget - b.steps → f.taken ≤ takes → f.written ≤ gives
    → budget ≤ 18446744073709551615 → n ≤ 18446744073709551615 → room ≤ 18446744073709551615
    → (b.steps + f.steps ≤ 18446744073709551615) × (b.taken + f.taken ≤ 18446744073709551615) × (b.written + f.written ≤ 18446744073709551615)
    × (b.regs.readings + f.taken ≤ 4294967295) × (b.regs.outputs + f.written ≤ 4294967295)
moved-fits f w n s t g x y z = (
  omega (arith, w.steps),
  omega (arith, w.taken, n.takes_lent),
  omega (arith, w.written, n.gives_lent),
  omega (arith, n.takes_fit),
  omega (arith, n.gives_fit),
)

module _ (p : List ℕ) (ρ : List ℤ) (budget : ℕ) (b : Pass) (xs : List ℕ) (outs : List ℤ) (w : Within b budget (length ρ) (length outs))
    (takes gives : ℕ) (n : Lends b (length ρ) (length outs) takes gives) where
  -- the inner loop begins where the run stands
  abbrev base : Env → (ms l : List ℕ) → Base
  base e ms l =
      record { env = e; regs = b.regs; marks = ms; journal = l; readings = ρ; room = length outs; steps = b.steps; taken = b.taken }

  begins : (e : Env) (ms l : List ℕ) → call_in (base e ms l) b.written (flow_at b.regs.pc) xs outs ≡ standing b xs ms l outs
  begins e ms l = simp add-zero

  module _ (readings : List ℤ) (rest : drop b.taken ρ ≡ readings) (f : Flow) (xs' : List ℕ) (outs' : List ℤ)
      (q : QuietIs p readings b.written b.regs.pc (budget - b.steps) takes gives xs outs f xs' outs') where
    along : (e : Env) (table ms l : List ℕ) → e.program ≡ p → Ready e table
        → Along (base e ms l) p b.written (budget - b.steps) (flow_at b.regs.pc) xs outs f xs' outs'
    along e table ms l h r =
        q.along (base e ms l) refl (record {
          table = table;
          ready = r;
          program = h;
          stop = n.stop;
          erase = n.erase;
          saving = n.saving;
          readings_fit = n.takes_fit;
          outputs_fit = n.gives_fit;
          rest = rest;
          lent = omega (arith, n.takes_lent, w.taken);
          room_fits = omega (arith, n.gives_lent, w.written);
        })

    pub rush-is : RushIs p ρ budget b xs outs (moved_by b f) xs' outs'
    rush-is =
        record {
          within =
              record {
                steps = omega (arith, q.steps, w.steps);
                taken = omega (arith, q.taken, n.takes_lent, w.taken);
                written = omega (arith, q.written, n.gives_lent, w.written);
              };
          more = omega arith;
          ahead = omega arith;
          size = q.size;
          later = q.later;
          same = λ e table ms l h r g.
              let x : budget - (b.steps + f.steps) ≡ budget - b.steps - f.steps = omega arith in
              let y : budget - b.steps - 0 ≡ budget - b.steps = omega arith in
              ap (λ (k : ℕ). run_of e ρ (length outs) k (standing (moved_by b f) xs' ms l outs')) x ∙ (along e table ms l h r).same
              ∙ (λ i. run_of e ρ (length outs) (y i) (begins e ms l i));
          good = λ e table ms l h r g. (along e table ms l h r).good (subst (Good p) (sym (ap (λ (c : Call). c.machine) (begins e ms l))) g);
        }

-- ---- `run`

-- where there is an exit the run ends, else it goes on after a step
pub run_ends : (e : Env) (ρ : List ℤ) (room left : ℕ) (c : Call) {x : Ended} → Some x ≡ exit_before_of e.program left (length ρ) room c
    → record { ended = x; call = c } ≡ run_of e ρ room left c
unfolding run_of
run_ends e ρ room zero c h = rw (← h)
run_ends e ρ room (suc left) c h = rw (← h)

pub run-goes : (e : Env) (ρ : List ℤ) (room left : ℕ) (c : Call) → None ≡ exit_before_of e.program (suc left) (length ρ) room c
    → run_of e ρ room left (stepped e ρ c) ≡ run_of e ρ room (suc left) c
unfolding run_of
run-goes e ρ room left c h = rw (← h)

-- what the loop keeps: the rest of the run is the run from the start
pub record Running (e : Env) (ρ : List ℤ) (budget : ℕ) (m₀ : Machine) (outs₀ : List ℤ) (b : Pass) (xs ms l : List ℕ) (outs : List ℤ) : Type 0 where
  pub within : Within b budget (length ρ) (length outs)
  pub good : Good e.program (machine_of b.regs xs ms l)
  pub chip : length l ≡ length m₀.journal
  pub size : length outs ≡ length outs₀
  pub later : drop b.written outs ≡ drop b.written outs₀
  pub same : run_of e ρ (length outs₀) (budget - b.steps) (standing b xs ms l outs) ≡ run_of e ρ (length outs₀) budget (started m₀)

-- later places, seen from further on
later-on : {i k : ℕ} (outs outs₀ : List ℤ) → i ≤ k → drop i outs ≡ drop i outs₀ → drop k outs ≡ drop k outs₀
later-on {i} {k} outs outs₀ h d =
    let z : k ≡ i + (k - i) = omega arith in
    rw z (sym (drop-drop (k - i) i outs) ∙ ap (drop (k - i)) d ∙ drop-drop (k - i) i outs₀)

module _ {e : Env} {ρ : List ℤ} {budget : ℕ} {m₀ : Machine} {outs₀ : List ℤ} {b : Pass} {xs ms l : List ℕ} {outs : List ℤ}
    (run : Running e ρ budget m₀ outs₀ b xs ms l outs) where
  pub running-rush : {table : List ℕ} → Ready e table → {b' : Pass} {xs' : List ℕ} {outs' : List ℤ} → RushIs e.program ρ budget b xs outs b' xs' outs'
      → Running e ρ budget m₀ outs₀ b' xs' ms l outs'
  running-rush {table} r q =
      record {
        within = rw q.size q.within;
        good = q.good e table ms l refl r run.good;
        chip = run.chip;
        size = q.size ∙ run.size;
        later = q.later ∙ later-on outs outs₀ q.ahead run.later;
        same = (rw run.size at (q.same e table ms l refl r run.good)) ∙ run.same;
      }

  pub running-store : {table : List ℕ} → Ready e table → {b' : Pass} {ms' l' : List ℕ} → StoreIs e.program budget xs b ms l b' ms' l'
      → Running e ρ budget m₀ outs₀ b' xs ms' l' outs
  running-store {table} r q =
      record {
        within = record { steps = q.steps; taken = rw q.taken run.within.taken; written = rw q.written run.within.written };
        good = q.good e table refl r;
        chip = q.size ∙ run.chip;
        size = run.size;
        later = rw q.written run.later;
        same = q.same e ρ (length outs₀) outs refl ∙ run.same;
      }

  -- an exit ends the run
  pub running-ends : {z : Ended} → Some z ≡ exit_before_of e.program (budget - b.steps) (length ρ) (length outs) (standing b xs ms l outs)
      → RunIs e ρ budget m₀ outs₀ z b (standing b xs ms l outs) outs
  running-ends h =
      record {
        finish = run_ends e ρ (length outs₀) (budget - b.steps) (standing b xs ms l outs) (rw run.size at h) ∙ run.same;
        size = run.size;
        later = run.later;
        written = omega (arith, run.within.written, run.size);
      }

  -- no exit: the step is due, also with one step of budget and the readings from the next untaken one on
  module _ (go : None ≡ exit_before_of e.program (budget - b.steps) (length ρ) (length outs) (standing b xs ms l outs)) where
    free : Open e.program (length ρ) (length outs) (standing b xs ms l outs) × (budget - b.steps ≡ 0 → ⊥)
    free = none_open e.program (budget - b.steps) (length ρ) (length outs) (standing b xs ms l outs) (sym go)

    pub running-left : b.steps < budget
    running-left = let z = free.1 in omega (arith, run.within.steps)

    pub running-due : (n : ℕ) → n ≡ length ρ - b.taken → exit_before_of e.program 1 (b.taken + n) (length outs) (standing b xs ms l outs) ≡ None
    running-due n h =
        let z : b.taken + n ≡ length ρ = omega (arith, run.within.taken) in
        rw z (sym (open_none e.program 1 (length ρ) (length outs) (standing b xs ms l outs) free.0 (λ (u : ◌≡◌ {A = ℕ} 1 0). omega arith)))

    module _ {b' : Pass} {xs' ms' l' : List ℕ} {outs' : List ℤ}
        (turn : TurnIs e ρ (standing b xs ms l outs) outs b' (standing b' xs' ms' l' outs') outs') where
      -- one step more, and no fewer outputs
      pub turn-steps : b'.steps ≡ suc b.steps
      unfolding stepped
      turn-steps = ap (λ (c : Call). c.steps) turn.call

      turn-ahead : b.written ≤ b'.written
      unfolding stepped
      turn-ahead =
          let given = given_of e.program (get_or ρ b.taken (pos 0)) (machine_of b.regs xs ms l) in
          let g : length (take b'.written outs') ≡ length (take b.written outs ++ given) = ap (λ (c : Call). length c.given) turn.call in
          let n = length-append (take b.written outs) given in
          let x = length-take-le b.written outs run.within.written in
          let y = length-take-le b'.written outs' (omega (arith, turn.written, turn.size)) in
          omega arith

      turn-good : {table : List ℕ} → Ready e table → Good e.program (machine_of b'.regs xs' ms' l')
      unfolding stepped
      turn-good r =
          subst (Good e.program) (sym (ap (λ (c : Call). c.machine) turn.call))
          (good-step (get_or ρ b.taken (pos 0)) r run.good free.0.stop)

      pub running-turn : {table : List ℕ} → Ready e table → length l' ≡ length l → Running e ρ budget m₀ outs₀ b' xs' ms' l' outs'
      running-turn r k =
          let s : budget - b.steps ≡ suc (budget - b'.steps) = omega (arith, running-left, turn-steps) in
          record {
            within =
                record {
                  steps = omega (arith, running-left, turn-steps);
                  taken = turn.taken;
                  written = omega (arith, turn.written, turn.size);
                };
            good = turn-good r;
            chip = k ∙ run.chip;
            size = turn.size ∙ run.size;
            later = turn.later ∙ later-on outs outs₀ turn-ahead run.later;
            same =
                ap (run_of e ρ (length outs₀) (budget - b'.steps)) turn.call
                ∙ run-goes e ρ (length outs₀) (budget - b'.steps) (standing b xs ms l outs) (rw (s, run.size) at go)
                ∙ ap (λ (n : ℕ). run_of e ρ (length outs₀) n (standing b xs ms l outs)) (sym s)
                ∙ run.same;
          }
