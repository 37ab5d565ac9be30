-- Where the two layers meet: every step keeps the invariant, and gives and takes what the reference run has between the tallies before and after it.
-- Assumes nothing.
use Prim.Native.Nat.{ℕ, suc, ◌+◌, ◌≤◌, ◌<◌, ◌-◌}
use mathlib.Core.Path.{◌≡◌, refl, sym, ◌∙◌, ap, subst}
use mathlib.Core.Bool.{true, false, cond, ◌&&◌}
use mathlib.Core.List.{List, [], ◌∷◌, ◌++◌}
use native.Mathlib.Omega.{arith}
use lib.IntN.{ℤ, pos}
use lib.ListN.{length, get_or}
use lib.Dec.{eqb, ltb}
use borrow.Author.Tests.{lt-ltb, eq-eqb, ne_eqb, eqb-true, eqb-false}
use Rattle.instruction.specs.Bytes.{byte, instruction_at_of}
use Rattle.execution.specs.Effects.{Effect, effect_of, cells_in}
use Rattle.program.specs.Places.{is_start}
use Rattle.program.proofs.Tests.{bool_cases}
use Rattle.journal.specs.Format.{Checkpoint}
use Rattle.journal.specs.Reading.{facts_of, first, last_of, Sound}
use Rattle.step.specs.State.{env_of, Machine, format_at, checkpoint_at, size_at}
use Rattle.step.specs.Step.{effect_at, performed, begun, erased_of, stored_of, step_of, due_opcode_of}
use Rattle.step.specs.Ready.{Good}
use Rattle.step.proofs.Facts.{sound-facts}
use Rattle.step.proofs.Stepping.{erasable}
use Rattle.journal.proofs.Storing.{own-snoc}
use Rattle.journal.proofs.Naming.{owner_fits}
use Rattle.step.proofs.Keeping.{good-step, step-length}
use Rattle.step.proofs.Tables.{ready}
use Rattle.restart.specs.Reference.{Frame, frame_of, effect_in, stays}
use Rattle.restart.specs.History.{Tally, tallied}
use Rattle.restart.specs.Claim.{Plan, Safe, Owned}
use Rattle.restart.proofs.Invariant.{Held, Phase, Small, Inv}
use Rattle.restart.proofs.Frames.{goes_on, readings_rise, outputs_rise}
use Rattle.restart.proofs.Effects.{effect-unread}
use Rattle.restart.proofs.Checkpoints.{checkpoint-sound}
use Rattle.restart.proofs.Bounds.{small-step}
use Rattle.restart.proofs.Leaving.{held_same, held-executed, held-saved}
use Rattle.restart.proofs.Phases.{phase-erased, phase-stored, phase-completed, phase-begun, phase-performed}
use Rattle.restart.proofs.Due.{Due, erases, stores, completes, begins, executes, due, Stays, Rises, risen, tally-stays, tally-rises}

-- the bytes of a save that stand, at whichever byte
stored-regs : (p : List ℕ) (m : Machine) → ¬ (m.regs.saving - 1 + m.regs.page ≡ size_at p m)
    → ((stored_of p m).regs.erase ≡ m.regs.erase) × ((stored_of p m).regs.write ≡ m.regs.write + m.regs.page) × ((stored_of p m).regs.saving ≡ m.regs.saving + m.regs.page)
unfolding stored_of
stored-regs p m h = rw (ne_eqb _ _ h) (refl, refl, refl)

whole-regs : (p : List ℕ) (m : Machine) → m.regs.saving - 1 + m.regs.page ≡ size_at p m
    → ((stored_of p m).regs.erase ≡ m.regs.erase) × ((stored_of p m).regs.write ≡ m.regs.write + m.regs.page) × ((stored_of p m).regs.saving ≡ 0)
unfolding stored_of
whole-regs p m h = rw (eq-eqb (m.regs.saving - 1 + m.regs.page) (size_at p m) h) (refl, refl, refl)

-- 1 while saving
saving-one : (k : ℕ) → 0 < k → ◌≡◌ {A = ℕ} (cond (ltb 0 k) 1 0) 1
saving-one k h = rw (lt-ltb 0 k h)

-- a READ that is due gets the reference run's reading
abbrev pub Fed : List ℕ → List ℤ → ℤ → Machine → Type 0
Fed p ρ v m = due_opcode_of p m ≡ 0x07 → (m.regs.readings < length ρ) × (v ≡ get_or ρ m.regs.readings (pos 0))

module _ (p : List ℕ) (ρ : List ℤ) (f₀ : Frame) (plan : Plan p) (words : List ℕ) (safe : Safe p words) (n : ℕ) where
  abbrev I : Machine → Tally → ℕ → Type 0
  I = Inv p ρ f₀ n

  module _ (v : ℤ) (m : Machine) (t : Tally) (k : ℕ) (i : I m t k) (running : m.regs.stop ≡ 0) where
    abbrev after : Machine
    after = step_of (env_of p words) v m

    stands : is_start p m.regs.pc ≡ true
    stands = (sound-facts i.good.sound).stands

    good-after : Good p after
    good-after = good-step v (ready (env_of p words) plan.legal safe.enough).1 i.good running

    size-after : length after.journal ≡ n
    size-after = step-length (env_of p words) v m ∙ i.size

    -- the invariant of the next machine, from what its kind of step adds
    built : (m' : Machine) → after ≡ m' → (t' : Tally) → tallied p m t ≡ t' → (js : List Checkpoint) → Held p ρ f₀ m' js t'.retired t'.committed
        → Phase p m' js → Owned m'.regs.owner js → t'.committed ≤ t'.retired → t'.retired ≤ t'.highest
        → suc k + m'.regs.erase ≤ t'.retired + m'.regs.write + n + cond (ltb 0 m'.regs.saving) 1 0 → I after (tallied p m t) (suc k)
    built m' e t' d js h f y o g x =
        subst (λ (z : Tally). I after z (suc k)) (sym d)
        (subst (λ (z : Machine). I z t' (suc k)) (sym e)
        (record {
          saves = js;
          held = h;
          phase = f;
          owned = y;
          good = subst (Good p) e good-after;
          small = subst Small e (small-step p words plan v m i.small);
          size = subst (λ (z : Machine). length z.journal ≡ n) e size-after;
          order = o;
          high = g;
          paid = x;
        }))

    -- the checkpoint of the present state is sound after the last one
    present-sound : byte p m.regs.pc ≡ 0x0E → Sound (facts_of (format_at m.regs) p) (last_of first i.saves) (checkpoint_at p m)
    present-sound b =
        let h = i.held in
        let s = sound-facts i.good.sound in
        let r = readings_rise p ρ f₀ t.committed t.retired i.order in
        let o = outputs_rise p ρ f₀ t.committed t.retired i.order in
        checkpoint-sound (format_at m.regs) p plan m i.small stands b s.exclude_is (last_of first i.saves)
        (omega (arith, r, h.resumes.readings, h.follows.readings)) (omega (arith, o, h.resumes.outputs, h.follows.outputs))
        (owner_fits m.regs.owner i.owned.fits)

    -- while saving, a CHECKPOINT stands there
    pub saving-at : 0 < m.regs.saving → byte p m.regs.pc ≡ 0x0E
    saving-at s = ((sound-facts i.good.sound).saves s).at

    step-erases : 0 < m.regs.erase → after ≡ erased_of m → Stays p m → I after (tallied p m t) (suc k)
    unfolding erased_of
    step-erases a e s =
        built (erased_of m) e t (tally-stays p m t s i.high) i.saves (held_same p ρ f₀ plan m i.saves _ _ i.held _ _ _ _)
        (phase-erased p m i.saves i.phase i.good a) i.owned i.order i.high (omega (arith, i.paid, (sound-facts i.good.sound).paged.some, erasable i.good a))

    step-begins : m.regs.erase ≡ 0 → m.regs.saving ≡ 0 → byte p m.regs.pc ≡ 0x0E → after ≡ begun m → Stays p m → I after (tallied p m t) (suc k)
    unfolding begun
    step-begins x y b e s =
        let z : ◌≡◌ {A = ℕ} (cond (ltb 0 m.regs.saving) 1 0) 0 = rw y in
        built (begun m) e t (tally-stays p m t s i.high) i.saves (held_same p ρ f₀ plan m i.saves _ _ i.held _ _ _ _)
        (phase-begun p m i.saves i.phase x y (present-sound b)) i.owned i.order i.high (omega (arith, i.paid))

    held-stored : ¬ (m.regs.saving - 1 + m.regs.page ≡ size_at p m) → Held p ρ f₀ (stored_of p m) i.saves t.retired t.committed
    unfolding stored_of
    held-stored l = rw (ne_eqb _ _ l) (held_same p ρ f₀ plan m i.saves _ _ i.held _ _ _ _)

    -- the owner stays, and the checkpoint names it
    owned-stored : ¬ (m.regs.saving - 1 + m.regs.page ≡ size_at p m) → Owned (stored_of p m).regs.owner i.saves
    unfolding stored_of
    owned-stored l = rw (ne_eqb _ _ l) i.owned

    owned-whole : m.regs.saving - 1 + m.regs.page ≡ size_at p m → Owned (stored_of p m).regs.owner (i.saves ++ (checkpoint_at p m ∷ []))
    unfolding stored_of checkpoint_at
    owned-whole l =
        rw (eq-eqb (m.regs.saving - 1 + m.regs.page) (size_at p m) l)
        (record {
          all = own-snoc m.regs.owner i.saves (checkpoint_at p m) ∙ (λ j. i.owned.all j && eq-eqb m.regs.owner m.regs.owner refl j);
          fits = i.owned.fits;
        })

    step-stores : 0 < m.regs.saving → ¬ (m.regs.saving - 1 + m.regs.page ≡ size_at p m) → after ≡ stored_of p m → Stays p m → I after (tallied p m t) (suc k)
    step-stores a l e s =
        let r = stored-regs p m l in
        let one = saving-one m.regs.saving a in
        let two = saving-one (stored_of p m).regs.saving (omega (arith, r.2)) in
        built (stored_of p m) e t (tally-stays p m t s i.high) i.saves (held-stored l)
        (phase-stored p m i.saves i.phase i.good a l) (owned-stored l) i.order i.high (omega (arith, i.paid, r.0, r.1, one, two, (sound-facts i.good.sound).paged.some))

    held_whole : 0 < m.regs.saving → m.regs.saving - 1 + m.regs.page ≡ size_at p m
        → Held p ρ f₀ (stored_of p m) (i.saves ++ (checkpoint_at p m ∷ [])) (suc t.retired) (suc t.retired)
    unfolding stored_of
    held_whole a l =
        rw (eq-eqb (m.regs.saving - 1 + m.regs.page) (size_at p m) l)
        (held-saved p ρ f₀ plan m i.saves _ _ i.good i.held running (saving-at a) _ _ _ _)

    step-completes : 0 < m.regs.saving → m.regs.saving - 1 + m.regs.page ≡ size_at p m → after ≡ stored_of p m → Rises p m true → I after (tallied p m t) (suc k)
    step-completes a l e s =
        let r = whole-regs p m l in
        let one = saving-one m.regs.saving a in
        let none : ◌≡◌ {A = ℕ} (cond (ltb 0 (stored_of p m).regs.saving) 1 0) 0 = rw r.2 in
        built (stored_of p m) e (risen true t) (tally-rises p m t true s) (i.saves ++ (checkpoint_at p m ∷ [])) (held_whole a l)
        (phase-completed p m i.saves i.phase i.good a l) (owned-whole l) (omega arith) (omega arith) (omega (arith, i.paid, r.0, r.1, one, none, (sound-facts i.good.sound).paged.some))

    -- the effect is the reference run's
    module _ (fed : Fed p ρ v m) (d : due_opcode_of p m ≡ byte p m.regs.pc) where
      pub effect_is : effect_at p v m ≡ effect_in p ρ (frame_of m)
      unfolding effect_at effect_in
      effect_is =
          bool_cases (eqb (byte p m.regs.pc) 0x07)
          (λ b. ap (λ (z : ℤ). effect_of (instruction_at_of p m.regs.pc) z m.regs.readings m.regs.outputs (cells_in m.cells))
          (fed (d ∙ eqb-true (byte p m.regs.pc) 0x07 b)).1)
          (λ b. effect-unread p m.regs.pc (eqb-false (byte p m.regs.pc) 0x07 b) v _ _ _ _)

      pub moves : stays p ρ (frame_of m) ≡ false
      moves = goes_on p ρ (frame_of m) running (λ b. (fed (d ∙ b)).0)

      step-executes : m.regs.erase ≡ 0 → m.regs.saving ≡ 0 → after ≡ performed (env_of p words) (effect_at p v m) m → Rises p m false
          → I after (tallied p m t) (suc k)
      unfolding performed
      step-executes x y e s =
          let z : ◌≡◌ {A = ℕ} (cond (ltb 0 m.regs.saving) 1 0) 0 = rw y in
          built (performed (env_of p words) (effect_at p v m) m) e (risen false t) (tally-rises p m t false s) i.saves
          (subst (λ (f : Effect). Held p ρ f₀ (performed (env_of p words) f m) i.saves (suc t.retired) t.committed) (sym effect_is)
          (held-executed p ρ f₀ plan words safe m i.saves _ _ i.good i.held moves))
          (phase-performed p m i.saves i.phase (env_of p words) (effect_at p v m) x y) i.owned (omega (arith, i.order)) (omega arith) (omega (arith, i.paid))

    -- EVERY STEP KEEPS THE INVARIANT
    pub inv-step : Fed p ρ v m → I after (tallied p m t) (suc k)
    inv-step fed = go (due p words v m plan.legal stands)
      where
        go : Due p words v m → I after (tallied p m t) (suc k)
        go (erases a e s q) = step-erases a e s
        go (stores a l e s q) = step-stores a l e s
        go (completes a l e s q) = step-completes a l e s
        go (begins x y b e s q) = step-begins x y b e s
        go (executes x y d e s q) = step-executes fed d x y e s
