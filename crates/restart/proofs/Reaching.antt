-- A run that is given enough stops as the reference run stops, or spends its budget; so runs that are given enough in all reach that stop.
-- Assumes nothing.
use Prim.Native.Nat.{ℕ, suc, ◌+◌, ◌-◌, ◌*◌, ◌≤◌, ◌<◌}
use mathlib.Core.Path.{◌≡◌, refl, sym, ◌∙◌, ap, subst}
use mathlib.Core.Bool.{true, false}
use mathlib.Core.List.{List}
use mathlib.Core.Logic.{◌⊎◌, inl, inr, ⊎_elim}
use native.Mathlib.Omega.{arith}
use lib.IntN.{ℤ, pos}
use lib.ListN.{length, get_or, length-append}
use lib.Dec.{ltb}
use borrow.Author.Tests.{eq-eqb}
use Rattle.cellset.proofs.Bits.{le-or-lt}
use Rattle.instruction.specs.Bytes.{byte, instruction_at_of}
use Rattle.execution.specs.Effects as effects
use Rattle.execution.specs.Effects.{Effect, count_full, is_full, effect_of, readings_after, outputs_after}
use Rattle.program.proofs.Tests.{bool_cases}
use Rattle.step.specs.State.{Env, Machine}
use Rattle.step.specs.Step.{due_opcode_of, given_of}
use Rattle.run.specs.Run.{Call, stepped, Outcome}
use Rattle.run.specs.Run.{Ended}
use Rattle.run.specs.Run.{Stopped, Spent}
use Rattle.run.proofs.Laws.{Exits, stopped, spent, no_reading, buffer_full, taken-one, given-one}
use Rattle.restart.proofs.Traces as traces
use Rattle.restart.proofs.Traces.{Trace}
use Rattle.restart.specs.Reference.{Frame, frame_after, effect_in, stays, ref_at}
use Rattle.restart.specs.History.{System, Request, lent, outcome_of, tally_after, ran}
use Rattle.restart.specs.Claim.{Plan, Safe, spare, Suffices, Chain, one, more, beside_recovery, beside_run}
use Rattle.restart.proofs.Invariant.{Inv}
use Rattle.restart.proofs.Frames.{running, next-on, ref-stays, readings_rise, outputs_rise}
use Rattle.restart.proofs.Stopping.{stopped-same, runs-before, steps-paid}
use Rattle.restart.proofs.Runs.{Ran}
use Rattle.restart.proofs.Upheld.{Upheld, the-run, upheld-run}
use Rattle.restart.proofs.Refusing.{recovery-refused, run-refused}

-- ---- what the next READ or EMIT of the reference run needs

-- one more is counted, or it stops there since the count is full
read-counts : (p : List ℕ) (ρ : List ℤ) (f : Frame) → byte p f.pc ≡ 0x07
    → (readings_after (effect_in p ρ f) f.readings ≡ suc f.readings) ⊎ (effect_in p ρ f ≡ effects.stops count_full)
unfolding effect_in effect_of instruction_at_of
read-counts p ρ f b = bool_cases (is_full f.readings) (λ c. inr (rw (b, c))) (λ c. inl (rw (b, c)))

emit-counts : (p : List ℕ) (ρ : List ℤ) (f : Frame) → byte p f.pc ≡ 0x08
    → (outputs_after (effect_in p ρ f) f.outputs ≡ suc f.outputs) ⊎ (effect_in p ρ f ≡ effects.stops count_full)
unfolding effect_in effect_of instruction_at_of
emit-counts p ρ f b = bool_cases (is_full f.outputs) (λ c. inr (rw (b, c))) (λ c. inl (rw (b, c)))

module _ (p : List ℕ) (ρ : List ℤ) (f₀ : Frame) (k : ℕ) (end : ¬ ((ref_at p ρ f₀ k).stop ≡ 0)) where
  -- two stops are one
  same_stop : (t : ℕ) → ¬ ((ref_at p ρ f₀ t).stop ≡ 0) → ref_at p ρ f₀ t ≡ ref_at p ρ f₀ k
  same_stop t h =
      ⊎_elim
      (λ (l : t ≤ k). sym (stopped-same p ρ f₀ t k h l))
      (λ (l : k < t). stopped-same p ρ f₀ k t end (omega arith))
      (le-or-lt t k)

  module _ (t : ℕ) (runs : (ref_at p ρ f₀ t).stop ≡ 0) where
    before : t < k
    before = runs-before p ρ f₀ t k runs end

    -- it does not stay there
    on-there : stays p ρ (ref_at p ρ f₀ t) ≡ false
    on-there =
        bool_cases (stays p ρ (ref_at p ρ f₀ t))
        (λ s. absurd (end (ap (λ (f : Frame). f.stop) (ref-stays p ρ f₀ t k s (let l = before in omega arith)) ∙ runs)))
        (λ s. s)

    next-is : ref_at p ρ f₀ (suc t) ≡ frame_after p (effect_in p ρ (ref_at p ρ f₀ t)) (ref_at p ρ f₀ t)
    unfolding ref_at
    next-is = next-on p ρ (ref_at p ρ f₀ t) on-there

    -- a count that is full there stops it there, and then one more is asked for
    full-needs : (o : ℕ) → byte p (ref_at p ρ f₀ t).pc ≡ o → effect_in p ρ (ref_at p ρ f₀ t) ≡ effects.stops count_full → spare p o (ref_at p ρ f₀ k) ≡ 1
    unfolding frame_after
    full-needs o b h =
        let g = ref_at p ρ f₀ t in
        let e : ref_at p ρ f₀ (suc t) ≡ frame_after p (effects.stops count_full) g = next-is ∙ ap (λ (x : Effect). frame_after p x g) h in
        let d : (ref_at p ρ f₀ (suc t)).stop ≡ count_full = ap (λ (f : Frame). f.stop) e in
        let c : ref_at p ρ f₀ k ≡ frame_after p (effects.stops count_full) g = sym (same_stop (suc t) (λ z. omega (arith, d, z))) ∙ e in
        let w : (ref_at p ρ f₀ k).stop ≡ count_full = ap (λ (f : Frame). f.stop) c in
        let v : byte p (ref_at p ρ f₀ k).pc ≡ o = ap (λ (f : Frame). byte p f.pc) c ∙ b in
        rw (eq-eqb (ref_at p ρ f₀ k).stop count_full w, eq-eqb (byte p (ref_at p ρ f₀ k).pc) o v)

    read-needs : byte p (ref_at p ρ f₀ t).pc ≡ 0x07
        → ((ref_at p ρ f₀ t).readings < (ref_at p ρ f₀ k).readings + spare p 0x07 (ref_at p ρ f₀ k)) × ((ref_at p ρ f₀ t).readings < length ρ)
    unfolding frame_after
    read-needs b =
        let l = before in (
          ⊎_elim
              (λ c. omega (arith, ap (λ (f : Frame). f.readings) next-is, c, readings_rise p ρ f₀ (suc t) k (omega arith)))
              (λ c. omega (arith, full-needs 0x07 b c, readings_rise p ρ f₀ t k (omega arith)))
              (read-counts p ρ (ref_at p ρ f₀ t) b),
          (running p ρ (ref_at p ρ f₀ t) on-there).1 b,
        )

    emit-needs : byte p (ref_at p ρ f₀ t).pc ≡ 0x08 → (ref_at p ρ f₀ t).outputs < (ref_at p ρ f₀ k).outputs + spare p 0x08 (ref_at p ρ f₀ k)
    unfolding frame_after
    emit-needs b =
        let l = before in
        ⊎_elim
        (λ c. omega (arith, ap (λ (f : Frame). f.outputs) next-is, c, outputs_rise p ρ f₀ (suc t) k (omega arith)))
        (λ c. omega (arith, full-needs 0x08 b c, outputs_rise p ρ f₀ t k (omega arith)))
        (emit-counts p ρ (ref_at p ρ f₀ t) b)

-- the opcode that is due stands at the place
due-opcode : (p : List ℕ) (m : Machine) (o : ℕ) → 0 < o → due_opcode_of p m ≡ o → byte p m.regs.pc ≡ o
unfolding due_opcode_of
due-opcode p m o l h =
    bool_cases (ltb 0 m.regs.erase)
    (λ a. absurd (omega (arith, rw a at h)))
    (λ a. bool_cases (ltb 0 m.regs.saving) (λ b. absurd (omega (arith, rw (a, b) at h))) (λ b. rw (a, b) at h))

-- a step takes and gives at most one
trace-counts : (e : Env) (ρ : List ℤ) (room : ℕ) {c d : Call} {k : ℕ} → Trace e ρ room c k d → (d.taken ≤ c.taken + k) × (length d.given ≤ length c.given + k)
unfolding stepped
trace-counts e ρ room traces.none = (omega arith, omega arith)
trace-counts e ρ room {c} (traces.more g t) =
    let h = trace-counts e ρ room t in
    let v = get_or ρ c.taken (pos 0) in (
      omega (arith, h.0, taken-one e.program c.machine v),
      omega (arith, h.1, length-append c.given (given_of e.program v c.machine), given-one e.program c.machine v),
    )

-- ---- a run that is given enough

-- it answered the reference run's stop, or made at least j steps and runs
pub data Reached (stop : ℕ) (j : ℕ) (x : Ended) (steps : ℕ) (m : Machine) : Type 0 where
  stops : x ≡ Stopped stop → ¬ (m.regs.stop ≡ 0) → Reached stop j x steps m
  runs_on : j ≤ steps → m.regs.stop ≡ 0 → Reached stop j x steps m

module _ (p : List ℕ) (ρ : List ℤ) (f₀ : Frame) (plan : Plan p) (page owner n t₀ : ℕ) (Words : List ℕ → Type 0) (safe : (w : List ℕ) → Words w → Safe p w) (k : ℕ)
    (end : ¬ ((ref_at p ρ f₀ k).stop ≡ 0)) where
  module _ (s : System) (h : Upheld p ρ f₀ page owner n t₀ s) (good : s.good ≡ true) (r : Request) (j : ℕ) (enough : Suffices p ρ f₀ n t₀ Words k s r j) where
    abbrev X : Ran p ρ f₀ n s r
    X = the-run p ρ f₀ plan page owner n t₀ s h good r (safe r.words enough.0)

    -- the reference run where it ends
    abbrev T : ℕ
    T = (tally_after p ρ s r).retired

    -- where the readings or the places end it, it has made the j steps
    at_read : X.finish.call.machine.regs.stop ≡ 0 → due_opcode_of p X.finish.call.machine ≡ 0x07
        → X.finish.call.taken ≡ length (lent p ρ s.machine r) → j ≤ X.traced.steps
    at_read z d e =
        let a = X.standing.inv.held.follows in
        let b : byte p (ref_at p ρ f₀ T).pc ≡ 0x07 = ap (byte p) (sym a.pc) ∙ due-opcode p X.finish.call.machine 0x07 (omega arith) d in
        let q = read-needs p ρ f₀ k end T (sym a.stop ∙ z) b in
        let c = X.standing.readings in
        ⊎_elim (λ u. absurd (omega (arith, u, q.0, c, e, a.readings)))
        (λ w. ⊎_elim (λ u. absurd (omega (arith, u, q.1, c, e, a.readings))) (λ u. omega (arith, u, e, (trace-counts _ _ _ X.traced.trace).0)) w) enough.1.reads

    at-emit : X.finish.call.machine.regs.stop ≡ 0 → due_opcode_of p X.finish.call.machine ≡ 0x08
        → length X.finish.call.given ≡ length r.places → j ≤ X.traced.steps
    at-emit z d e =
        let a = X.standing.inv.held.follows in
        let b : byte p (ref_at p ρ f₀ T).pc ≡ 0x08 = ap (byte p) (sym a.pc) ∙ due-opcode p X.finish.call.machine 0x08 (omega arith) d in
        let q = emit-needs p ρ f₀ k end T (sym a.stop ∙ z) b in
        ⊎_elim (λ u. absurd (omega (arith, u, q, X.standing.outputs, e, a.outputs))) (λ u. omega (arith, u, e, (trace-counts _ _ _ X.traced.trace).1)) enough.1.gives

    -- a stop is the reference run's
    stop_is : ¬ (X.finish.call.machine.regs.stop ≡ 0) → X.finish.call.machine.regs.stop ≡ (ref_at p ρ f₀ k).stop
    stop_is z =
        let a = X.standing.inv.held.follows in
        a.stop ∙ ap (λ (f : Frame). f.stop) (same_stop p ρ f₀ k end T (λ u. z (a.stop ∙ u)))

    by-exit : {x : Ended} → Exits p (r.budget - X.traced.steps) (length (lent p ρ s.machine r)) (length r.places) X.finish.call x
        → Reached (ref_at p ρ f₀ k).stop j x X.traced.steps X.finish.call.machine
    by-exit (stopped z) = stops (ap Stopped (stop_is z)) z
    by-exit (spent z l) = runs_on (omega (arith, l, enough.1.steps)) z
    by-exit (no_reading z l d e) = runs_on (at_read z d e) z
    by-exit (buffer_full z l d e) = runs_on (at-emit z d e) z

    reached : Reached (ref_at p ρ f₀ k).stop j (outcome_of p ρ s.machine r).ended (outcome_of p ρ s.machine r).steps (ran p ρ s r).machine
    unfolding ran
    reached =
        subst (λ (o : Outcome). Reached (ref_at p ρ f₀ k).stop j o.ended o.steps o.machine) (sym X.is)
        (subst (λ (i : ℕ). Reached (ref_at p ρ f₀ k).stop j X.finish.ended i X.finish.call.machine) (sym (X.traced.count ∙ z)) (by-exit X.traced.exit))
      where
        z : 0 + X.traced.steps ≡ X.traced.steps
        z = omega arith

    -- where the j steps are its whole budget, nothing else than that ends it before the stop
    whole-exit : r.budget ≤ j → {x : Ended} → Exits p (r.budget - X.traced.steps) (length (lent p ρ s.machine r)) (length r.places) X.finish.call x
        → (x ≡ Spent) ⊎ (x ≡ Stopped (ref_at p ρ f₀ k).stop)
    whole-exit w (stopped z) = inr (ap Stopped (stop_is z))
    whole-exit w (spent z l) = inl refl
    whole-exit w (no_reading z l d e) = absurd (omega (arith, w, l, at_read z d e))
    whole-exit w (buffer_full z l d e) = absurd (omega (arith, w, l, at-emit z d e))

    pub whole-spent : r.budget ≤ j → let x = (outcome_of p ρ s.machine r).ended in (x ≡ Spent) ⊎ (x ≡ Stopped (ref_at p ρ f₀ k).stop)
    whole-spent w =
        subst (λ (o : Outcome). (o.ended ≡ Spent) ⊎ (o.ended ≡ Stopped (ref_at p ρ f₀ k).stop)) (sym X.is) (whole-exit w X.traced.exit)

  -- ---- runs one after the other

  -- after the runs of a chain from s: a good system, and the last answered the stop, or all the steps that they were equipped for were made
  record After (s : System) (j : ℕ) (x : Ended) (s' : System) : Type 0 where
    pub upheld : Upheld p ρ f₀ page owner n t₀ s'
    pub good : s'.good ≡ true
    pub rises : s.tally.retired ≤ s'.tally.retired
    pub reached : Reached (ref_at p ρ f₀ k).stop (s.steps + j) x s'.steps s'.machine

  -- the steps of the runs before count too
  added : {x : Ended} {steps : ℕ} {m : Machine} (a b : ℕ) → Reached (ref_at p ρ f₀ k).stop b x steps m → Reached (ref_at p ρ f₀ k).stop (a + b) x (a + steps) m
  added a b (stops e z) = stops e z
  added a b (runs_on e z) = runs_on (omega (arith, e)) z

  -- behind a stop the next run answers it too
  behind : (s : System) → Upheld p ρ f₀ page owner n t₀ s → s.good ≡ true → ¬ (s.machine.regs.stop ≡ 0) → (s' : System) → Upheld p ρ f₀ page owner n t₀ s' → s'.good ≡ true
      → s.tally.retired ≤ s'.tally.retired → ¬ (s'.machine.regs.stop ≡ 0)
  behind s h g z s' h' g' l e =
      let a = (h.inv g).held.follows.stop in
      let b = (h'.inv g').held.follows.stop in
      omega (arith, l, runs-before p ρ f₀ s'.tally.retired s.tally.retired (sym b ∙ e) (λ u. z (a ∙ u)))

  after_one : (s : System) → Upheld p ρ f₀ page owner n t₀ s → s.good ≡ true → (r : Request) (j : ℕ) → Suffices p ρ f₀ n t₀ Words k s r j
      → After s j (outcome_of p ρ s.machine r).ended (ran p ρ s r)
  unfolding ran
  after_one s h g r j e =
      record {
        upheld = upheld-run p ρ f₀ plan page owner n t₀ s h g r (safe r.words e.0);
        good = g;
        rises = (the-run p ρ f₀ plan page owner n t₀ s h g r (safe r.words e.0)).standing.rises;
        reached = added s.steps j (reached s h g r j e);
      }

  after_more : (s : System) (i : ℕ) (x : Ended) (s' : System) → After s i x s' → (r : Request) (j : ℕ) → Suffices p ρ f₀ n t₀ Words k s' r j
      → After s (i + j) (outcome_of p ρ s'.machine r).ended (ran p ρ s' r)
  after_more s i x s' a r j e =
      let c = after_one s' a.upheld a.good r j e in
      record { upheld = c.upheld; good = c.good; rises = omega (arith, a.rises, c.rises); reached = both c a.reached c.reached }
    where
      both : {y : Ended} → After s' j y (ran p ρ s' r) → Reached (ref_at p ρ f₀ k).stop (s.steps + i) x s'.steps s'.machine
          → Reached (ref_at p ρ f₀ k).stop (s'.steps + j) y (ran p ρ s' r).steps (ran p ρ s' r).machine
          → Reached (ref_at p ρ f₀ k).stop (s.steps + (i + j)) y (ran p ρ s' r).steps (ran p ρ s' r).machine
      both c u (stops q z) = stops q z
      both c (runs_on v w) (runs_on q z) = runs_on (omega (arith, v, q)) z
      both c (stops v w) (runs_on q z) = absurd (behind s' a.upheld a.good w (ran p ρ s' r) c.upheld c.good c.rises z)

  after : {s : System} {j : ℕ} {x : Ended} {s' : System} → Upheld p ρ f₀ page owner n t₀ s → s.good ≡ true → Chain p ρ f₀ n t₀ Words k s j x s' → After s j x s'
  after {s} h g (one r j e) = after_one s h g r j e
  after {s} h g (more {i} {x} {s'} c r j e) = after_more s i x s' (after h g c) r j e
  after {s} {j} {x} h g (beside_recovery {s' = s'} c e other whose l r y z) = subst (After s j x) (sym (recovery-refused s' e other whose l r y z)) (after h g c)
  after {s} {j} {x} h g (beside_run {s' = s'} c e l ρ' budget outs z) = subst (After s j x) (sym (run-refused s' e l ρ' budget outs z)) (after h g c)

  -- A CHAIN THAT IS EQUIPPED FOR ENOUGH STEPS ENDS AT THE STOP
  pub chain-stops : {s : System} {j : ℕ} {x : Ended} {s' : System} → Upheld p ρ f₀ page owner n t₀ s → s.good ≡ true → Chain p ρ f₀ n t₀ Words k s j x s'
      → k + 2 * n ≤ j → x ≡ Stopped (ref_at p ρ f₀ k).stop
  chain-stops {s} {j} {x} {s'} h g c l =
      let a = after h g c in
      go (a.upheld.inv a.good) a.reached
    where
      go : Inv p ρ f₀ n s'.machine s'.tally s'.steps → Reached (ref_at p ρ f₀ k).stop (s.steps + j) x s'.steps s'.machine
          → x ≡ Stopped (ref_at p ρ f₀ k).stop
      go i (stops e z) = e
      go i (runs_on e z) = absurd (omega (arith, e, l, steps-paid i, runs-before p ρ f₀ s'.tally.retired k (sym i.held.follows.stop ∙ z) end))
