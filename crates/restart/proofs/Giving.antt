-- What a step gives and takes, numbers included, is what the reference run has between the tallies before and after it.
-- Assumes nothing.
use Prim.Native.Nat.{ℕ, suc, ◌+◌, ◌≤◌, ◌-◌}
use mathlib.Core.Path.{◌≡◌, refl, sym, ◌∙◌, ap}
use mathlib.Core.Bool.{true, false}
use mathlib.Core.List.{List, [], ◌∷◌}
use native.Mathlib.Omega.{arith}
use lib.IntN.{ℤ}
use lib.ListN.{length, take}
use lib.Dec.{eqb}
use borrow.Author.Tests.{eqb-true, eqb-false}
use Rattle.instruction.specs.Bytes.{byte}
use Rattle.execution.specs.Effects.{Effect, stops, on, goes, writes, takes, gives, sets, saves, readings_after, outputs_after}
use Rattle.program.specs.Places.{is_start}
use Rattle.program.proofs.Tests.{bool_cases}
use Rattle.step.specs.State.{env_of, Machine, size_at}
use Rattle.step.specs.Step.{effect_at, performed, begun, erased_of, stored_of, step_of, due_opcode_of, given_by, taken_by, given_of, taken_of}
use Rattle.step.proofs.Facts.{sound-facts}
use Rattle.run.proofs.Laws as laws
use Rattle.restart.specs.Reference.{Frame, frame_of, numbered_from, reading_at, effect_in, stays, output_at, taken_at, ref_at, emitted, taken}
use Rattle.restart.specs.History.{Tally, tallied}
use Rattle.restart.specs.Claim.{Plan, Safe}
use Rattle.restart.proofs.Invariant.{Inv}
use Rattle.restart.proofs.Frames.{goes_on, output_on, taken-on, emitted-none, emitted-one, taken_none, taken-one}
use Rattle.restart.proofs.Effects.{effect-checkpoint}
use Rattle.restart.proofs.Agreement.{outputs-agree, taken-agree}
use Rattle.restart.proofs.Due.{Due, erases, stores, completes, begins, executes, due, Stays, Rises, Silent, tally-stays, tally-rises}
use Rattle.restart.proofs.Steps.{Fed, effect_is, moves, saving-at}

-- the counts after an effect
outputs-count : (f : Effect) (k : ℕ) → outputs_after f k ≡ k + length (given_by f)
outputs-count (stops z) k = omega arith
outputs-count on k = omega arith
outputs-count (goes t) k = omega arith
outputs-count (writes d v) k = omega arith
outputs-count (takes d v) k = omega arith
outputs-count (gives v) k = omega arith
outputs-count sets k = omega arith
outputs-count saves k = omega arith

readings-count : (f : Effect) (k : ℕ) → readings_after f k ≡ k + taken_by f
readings-count (stops z) k = omega arith
readings-count on k = omega arith
readings-count (goes t) k = omega arith
readings-count (writes d v) k = omega arith
readings-count (takes d v) k = omega arith
readings-count (gives v) k = omega arith
readings-count sets k = omega arith
readings-count saves k = omega arith

-- a page erased or stored, and a save begun, leave the counts
abbrev Counts : Machine → Machine → Type 0
Counts m m' = (m'.regs.outputs ≡ m.regs.outputs) × (m'.regs.readings ≡ m.regs.readings)

counts-erased : (m : Machine) → Counts m (erased_of m)
unfolding erased_of
counts-erased m = (refl, refl)

counts-begun : (m : Machine) → Counts m (begun m)
unfolding begun
counts-begun m = (refl, refl)

counts-stored : (p : List ℕ) (m : Machine) → Counts m (stored_of p m)
unfolding stored_of
counts-stored p m = bool_cases (eqb (m.regs.saving - 1 + m.regs.page) (size_at p m)) (λ b. rw b (refl, refl)) (λ b. rw b (refl, refl))

counts-performed : (p words : List ℕ) (f : Effect) (m : Machine)
    → ((performed (env_of p words) f m).regs.outputs ≡ m.regs.outputs + length (given_by f))
    × ((performed (env_of p words) f m).regs.readings ≡ m.regs.readings + taken_by f)
unfolding performed
counts-performed p words f m = (outputs-count f m.regs.outputs, readings-count f m.regs.readings)

-- the step of m with the reading v, at the tally t
pub record Shows (p words : List ℕ) (ρ : List ℤ) (f₀ : Frame) (v : ℤ) (m : Machine) (t : Tally) : Type 0 where
  pub outputs : numbered_from m.regs.outputs (given_of p v m) ≡ emitted p ρ f₀ t.retired (tallied p m t).retired
  pub readings : numbered_from m.regs.readings (take (taken_of p v m) (v ∷ [])) ≡ taken p ρ f₀ t.retired (tallied p m t).retired
  pub outputs_after_of : (step_of (env_of p words) v m).regs.outputs ≡ m.regs.outputs + length (given_of p v m)
  pub readings_after_of : (step_of (env_of p words) v m).regs.readings ≡ m.regs.readings + taken_of p v m
  pub retired_after : (t.retired ≤ (tallied p m t).retired) × ((tallied p m t).retired ≤ suc t.retired)

module _ (p : List ℕ) (ρ : List ℤ) (f₀ : Frame) (plan : Plan p) (words : List ℕ) (safe : Safe p words) (n : ℕ) where
  module _ (v : ℤ) (m : Machine) (t : Tally) (k : ℕ) (i : Inv p ρ f₀ n m t k) (running : m.regs.stop ≡ 0) where
    stands : is_start p m.regs.pc ≡ true
    stands = (sound-facts i.good.sound).stands

    abbrev ref : Frame
    ref = ref_at p ρ f₀ t.retired

    -- a silent step that leaves the tally
    silent : (m' : Machine) → step_of (env_of p words) v m ≡ m' → Counts m m' → Stays p m → Silent p v m → Shows p words ρ f₀ v m t
    unfolding numbered_from
    silent m' e c s q =
        let r : (tallied p m t).retired ≡ t.retired = ap (λ (z : Tally). z.retired) (tally-stays p m t s i.high) in
        record {
          outputs = rw (q.0, r) (sym (emitted-none p ρ f₀ t.retired));
          readings = rw (q.1, r) (sym (taken_none p ρ f₀ t.retired));
          outputs_after_of = rw (e, q.0) (omega (arith, c.0));
          readings_after_of = rw (e, q.1) (omega (arith, c.1));
          retired_after = (omega (arith, r), omega (arith, r));
        }

    -- the save's final byte: the reference run's CHECKPOINT gives and takes nothing
    module _ (b : byte p m.regs.pc ≡ 0x0E) where
      at-checkpoint : stays p ρ (frame_of m) ≡ false
      at-checkpoint = goes_on p ρ (frame_of m) running (λ c. absurd (omega (arith, b, c)))

      effect-saves : effect_in p ρ (frame_of m) ≡ saves
      unfolding effect_in
      effect-saves = effect-checkpoint p m.regs.pc b _ _ _ _

      none-given : output_at p ρ ref ≡ []
      unfolding numbered_from
      none-given =
          sym (outputs-agree p ρ plan.legal (frame_of m) ref stands i.held.follows)
          ∙ output_on p ρ (frame_of m) at-checkpoint ∙ ap (λ (f : Effect). numbered_from m.regs.outputs (given_by f)) effect-saves

      none-taken : taken_at p ρ ref ≡ []
      unfolding numbered_from
      none-taken =
          sym (taken-agree p ρ plan.legal (frame_of m) ref stands i.held.follows)
          ∙ taken-on p ρ (frame_of m) at-checkpoint
          ∙ ap (λ (f : Effect). numbered_from m.regs.readings (take (taken_by f) (reading_at p ρ (frame_of m) ∷ []))) effect-saves

      final : step_of (env_of p words) v m ≡ stored_of p m → Rises p m true → Silent p v m → Shows p words ρ f₀ v m t
      unfolding numbered_from
      final e s q =
          let r : (tallied p m t).retired ≡ suc t.retired = ap (λ (z : Tally). z.retired) (tally-rises p m t true s) in
          let c = counts-stored p m in
          record {
            outputs = rw (q.0, r) (sym (emitted-one p ρ f₀ t.retired ∙ none-given));
            readings = rw (q.1, r) (sym (taken-one p ρ f₀ t.retired ∙ none-taken));
            outputs_after_of = rw (e, q.0) (omega (arith, c.0));
            readings_after_of = rw (e, q.1) (omega (arith, c.1));
            retired_after = (omega (arith, r), omega (arith, r));
          }

    -- the instruction
    module _ (fed : Fed p ρ v m) (d : due_opcode_of p m ≡ byte p m.regs.pc) where
      effect : effect_at p v m ≡ effect_in p ρ (frame_of m)
      effect = effect_is p ρ f₀ plan words safe n v m t k i running fed d

      on-it : stays p ρ (frame_of m) ≡ false
      on-it = moves p ρ f₀ plan words safe n v m t k i running fed d

      one-given : numbered_from m.regs.outputs (given_by (effect_at p v m)) ≡ output_at p ρ ref
      one-given =
          ap (λ (f : Effect). numbered_from m.regs.outputs (given_by f)) effect ∙ sym (output_on p ρ (frame_of m) on-it)
          ∙ outputs-agree p ρ plan.legal (frame_of m) ref stands i.held.follows

      -- the reading matters only where a READ takes it
      same-reading : take (taken_of p v m) (v ∷ []) ≡ take (taken_of p v m) (reading_at p ρ (frame_of m) ∷ [])
      same-reading =
          bool_cases (eqb (due_opcode_of p m) 0x07)
          (λ b. ap (λ (z : ℤ). take (taken_of p v m) (z ∷ [])) (fed (eqb-true _ _ b)).1)
          (λ b. rw (laws.taken_none p m v (eqb-false (due_opcode_of p m) 0x07 b)))

      one-taken : taken_of p v m ≡ taken_by (effect_at p v m) → numbered_from m.regs.readings (take (taken_of p v m) (v ∷ [])) ≡ taken_at p ρ ref
      one-taken q =
          ap (numbered_from m.regs.readings) same-reading
          ∙ ap (λ (z : ℕ). numbered_from m.regs.readings (take z (reading_at p ρ (frame_of m) ∷ []))) (q ∙ ap taken_by effect)
          ∙ sym (taken-on p ρ (frame_of m) on-it) ∙ taken-agree p ρ plan.legal (frame_of m) ref stands i.held.follows

      executed : step_of (env_of p words) v m ≡ performed (env_of p words) (effect_at p v m) m → Rises p m false
          → (given_of p v m ≡ given_by (effect_at p v m)) × (taken_of p v m ≡ taken_by (effect_at p v m)) → Shows p words ρ f₀ v m t
      executed e s q =
          let r : (tallied p m t).retired ≡ suc t.retired = ap (λ (z : Tally). z.retired) (tally-rises p m t false s) in
          let c = counts-performed p words (effect_at p v m) m in
          record {
            outputs = rw r (ap (numbered_from m.regs.outputs) q.0 ∙ one-given ∙ sym (emitted-one p ρ f₀ t.retired));
            readings = rw r (one-taken q.1 ∙ sym (taken-one p ρ f₀ t.retired));
            outputs_after_of = ap (λ (z : Machine). z.regs.outputs) e ∙ c.0 ∙ ap (λ (l : List ℤ). m.regs.outputs + length l) (sym q.0);
            readings_after_of = ap (λ (z : Machine). z.regs.readings) e ∙ c.1 ∙ ap (λ (z : ℕ). m.regs.readings + z) (sym q.1);
            retired_after = (omega (arith, r), omega (arith, r));
          }

    pub shows : Fed p ρ v m → Shows p words ρ f₀ v m t
    shows fed = go (due p words v m plan.legal stands)
      where
        go : Due p words v m → Shows p words ρ f₀ v m t
        go (erases a e s q) = silent (erased_of m) e (counts-erased m) s q
        go (stores a l e s q) = silent (stored_of p m) e (counts-stored p m) s q
        go (completes a l e s q) = final (saving-at p ρ f₀ plan words safe n v m t k i running a) e s q
        go (begins x y b e s q) = silent (begun m) e (counts-begun m) s q
        go (executes x y d e s q) = executed fed d e s q
