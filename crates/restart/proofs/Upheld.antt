-- What holds of every system that a history reaches: of any, what stands on its journal, its outputs and its steps; of a good one, the invariant.
-- Assumes nothing.
use Prim.Native.Nat.{ℕ, suc, ◌+◌, ◌*◌, ◌≤◌}
use mathlib.Core.Path.{◌≡◌, refl, sym, ◌∙◌, ap, subst}
use mathlib.Core.Bool.{true, false}
use mathlib.Core.List.{List, [], ◌∷◌, ◌++◌}
use native.Mathlib.Omega.{arith}
use lib.IntN.{ℤ}
use lib.ListN.{length, take}
use lib.Seq.{length-take-le}
use Rattle.program.proofs.Tests.{clash}
use Rattle.journal.specs.Format.{Format, Checkpoint, format_for}
use Rattle.journal.specs.Reading.{facts_of}
use Rattle.journal.specs.Shape.{Shape}
use Rattle.step.specs.State.{env_of, Machine}
use Rattle.run.specs.Run.{Outcome}
use Rattle.recovery.specs.Recover as recovery
use Rattle.recovery.specs.Recover.{Recovers}
use Rattle.recovery.proofs.Laws.{restored-kind}
use Rattle.restart.specs.Reference.{Frame, Numbered, numbered_from, ref_at, emitted, taken}
use Rattle.restart.specs.History.{System, unused, restored, crashed, Request, wrote, lent, outcome_of, tally_after, ran}
use Rattle.restart.specs.Claim.{Plan, Safe, Resumes, Owned, TakenUp, distinct}
use Rattle.restart.proofs.Invariant.{Inv}
use Rattle.restart.proofs.Frames.{emitted-none, news, distinct_append}
use Rattle.restart.proofs.Phases.{phase-shape}
use Rattle.restart.proofs.Restoring.{restored-inv}
use Rattle.restart.proofs.Stopping.{runs-before, steps-paid}
use Rattle.restart.proofs.Runs.{Ran, run_is}
use Rattle.run.proofs.Laws.{kind-call}
use Rattle.run.proofs.Accepting.{outputs-first}

-- a number to each
numbered-length : (m : ℕ) (l : List ℤ) → length (numbered_from m l) ≡ length l
unfolding numbered_from
numbered-length m [] = refl
numbered-length m (v ∷ l) = ap suc (numbered-length (suc m) l)

-- of any system: the journal can be taken up at the tally of the last final byte; the outputs; the steps since the recovery
pub record Lasting (p : List ℕ) (ρ : List ℤ) (f₀ : Frame) (page owner n t₀ : ℕ) (s : System) : Type 0 where
  pub saves : List Checkpoint
  pub torn : List ℕ
  pub shape : Shape (facts_of (format_for page owner) p) s.machine.journal saves torn
  pub owned : Owned owner saves
  pub resumes : Resumes p saves (ref_at p ρ f₀ s.tally.committed)
  pub size : length s.machine.journal ≡ n
  pub since : t₀ ≤ s.tally.committed
  pub high : s.tally.committed ≤ s.tally.highest
  pub outputs : distinct [] s.outputs ≡ emitted p ρ f₀ t₀ s.tally.highest
  pub bound : (j : ℕ) → ¬ ((ref_at p ρ f₀ j).stop ≡ 0) → s.steps ≤ j + 2 * n

-- of a good one: the invariant, its registers are for that kind of chip, and nothing was retired past a stop
pub record Upheld (p : List ℕ) (ρ : List ℤ) (f₀ : Frame) (page owner n t₀ : ℕ) (s : System) : Type 0 where
  pub lasting : Lasting p ρ f₀ page owner n t₀ s
  pub inv : s.good ≡ true → Inv p ρ f₀ n s.machine s.tally s.steps
  pub kind : s.good ≡ true → (s.machine.regs.page ≡ page) × (s.machine.regs.owner ≡ owner)
  pub within : s.good ≡ true → (j : ℕ) → ¬ ((ref_at p ρ f₀ j).stop ≡ 0) → s.tally.retired ≤ j

module _ (p : List ℕ) (ρ : List ℤ) (f₀ : Frame) (plan : Plan p) (page owner n t₀ : ℕ) where
  abbrev L : System → Type 0
  L = Lasting p ρ f₀ page owner n t₀

  abbrev U : System → Type 0
  U = Upheld p ρ f₀ page owner n t₀

  -- ---- the beginning

  pub upheld-first : (m : Machine) → length m.journal ≡ n → TakenUp page owner p (ref_at p ρ f₀ t₀) m.journal → U (unused t₀ m)
  unfolding distinct
  upheld-first m l u =
      record {
        lasting =
            record {
              saves = u.saves;
              torn = u.torn;
              shape = u.shape;
              owned = u.owned;
              resumes = u.resumes;
              size = l;
              since = omega arith;
              high = omega arith;
              outputs = sym (emitted-none p ρ f₀ t₀);
              bound = λ j z. omega arith;
            };
        inv = λ g. clash false g refl;
        kind = λ g. clash false g refl;
        within = λ g. clash false g refl;
      }

  -- ---- a cut

  pub upheld-crashed : (s : System) → L s → (m : Machine) → U (crashed s m)
  upheld-crashed s h m =
      record {
        lasting =
            record {
              saves = h.saves;
              torn = h.torn;
              shape = h.shape;
              owned = h.owned;
              resumes = h.resumes;
              size = h.size;
              since = h.since;
              high = h.high;
              outputs = h.outputs;
              bound = h.bound;
            };
        inv = λ g. clash false g refl;
        kind = λ g. clash false g refl;
        within = λ g. clash false g refl;
      }

  -- ---- a good system

  -- the invariant gives the rest, where the outputs are as they should be and nothing was retired past a stop
  upheld-by : (s : System) → Inv p ρ f₀ n s.machine s.tally s.steps → (s.machine.regs.page ≡ page) × (s.machine.regs.owner ≡ owner) → t₀ ≤ s.tally.committed
      → distinct [] s.outputs ≡ emitted p ρ f₀ t₀ s.tally.highest → ((j : ℕ) → ¬ ((ref_at p ρ f₀ j).stop ≡ 0) → s.tally.retired ≤ j) → U s
  upheld-by s i kind since outputs within =
      let q = phase-shape p s.machine i.saves i.phase in
      record {
        lasting =
            record {
              saves = i.saves;
              torn = q.0;
              shape = subst (λ (G : Format). Shape (facts_of G p) s.machine.journal i.saves q.0) (λ j. format_for (kind.0 j) (kind.1 j)) q.1;
              owned = subst (λ (o : ℕ). Owned o i.saves) kind.1 i.owned;
              resumes = i.held.resumes;
              size = i.size;
              since = since;
              high = omega (arith, i.order, i.high);
              outputs = outputs;
              bound = λ j z. omega (arith, steps-paid i, within j z);
            };
        inv = λ g. i;
        kind = λ g. kind;
        within = λ g. within;
      }

  -- ---- an accepted recovery

  pub upheld-restored : (s : System) → L s → (words : List ℕ) → Safe p words → (r : recovery.Outcome) → Recovers (env_of p words) page owner s.machine r
      → r.answer ≡ recovery.Restored → U (restored s r)
  upheld-restored s h words safe r x a =
      let i = restored-inv p words plan safe page owner s.machine h.saves h.torn h.shape h.owned ρ f₀ n s.tally h.resumes h.high h.size r x a in
      upheld-by (restored s r) i (restored-kind (env_of p words) page owner s.machine r x a) h.since h.outputs (λ j z. omega (arith, runs-before p ρ f₀ s.tally.committed j h.resumes.runs z))

  -- ---- a run

  module _ (s : System) (h : U s) (good : s.good ≡ true) (r : Request) (safe : Safe p r.words) where
    pub the-run : Ran p ρ f₀ n s r
    the-run = run_is p ρ f₀ plan n s r safe (h.inv good) (h.within good)

    -- the outputs that it wrote
    pub run-wrote : wrote s.machine (outcome_of p ρ s.machine r) ≡ emitted p ρ f₀ s.tally.retired (tally_after p ρ s r).retired
    run-wrote =
        let x = the-run in
        ap (wrote s.machine) x.is
        ∙ ap (numbered_from s.machine.regs.outputs) (outputs-first x.finish.call.given r.places x.standing.given_most)
        ∙ x.standing.gave

    -- the readings that it took
    pub run-took : numbered_from s.machine.regs.readings (take (outcome_of p ρ s.machine r).taken (lent p ρ s.machine r))
        ≡ taken p ρ f₀ s.tally.retired (tally_after p ρ s r).retired
    run-took =
        let x = the-run in
        ap (λ (o : Outcome). numbered_from s.machine.regs.readings (take o.taken (lent p ρ s.machine r))) x.is ∙ x.standing.took

    -- and how many they are
    pub run-counts : let o = outcome_of p ρ s.machine r in
        (o.taken ≡ length (taken p ρ f₀ s.tally.retired (tally_after p ρ s r).retired))
        × (o.written ≡ length (emitted p ρ f₀ s.tally.retired (tally_after p ρ s r).retired))
    run-counts =
        let x = the-run in
        let l = lent p ρ s.machine r in (
          ap (λ (o : Outcome). o.taken) x.is
              ∙ sym (length-take-le x.finish.call.taken l x.standing.taken_most)
              ∙ sym (numbered-length s.machine.regs.readings (take x.finish.call.taken l))
              ∙ ap length x.standing.took,
          ap (λ (o : Outcome). o.written) x.is ∙ sym (numbered-length s.machine.regs.outputs x.finish.call.given) ∙ ap length x.standing.gave,
        )

    -- its steps
    pub run-steps : (outcome_of p ρ s.machine r).steps ≡ the-run.traced.steps
    run-steps = let x = the-run in ap (λ (o : Outcome). o.steps) x.is ∙ x.traced.count ∙ (let z : 0 + x.traced.steps ≡ x.traced.steps = omega arith in z)

    run-inv : Inv p ρ f₀ n (outcome_of p ρ s.machine r).machine (tally_after p ρ s r) (s.steps + (outcome_of p ρ s.machine r).steps)
    run-inv =
        let x = the-run in
        subst (λ (m : Machine). Inv p ρ f₀ n m (tally_after p ρ s r) (s.steps + (outcome_of p ρ s.machine r).steps)) (sym (ap (λ (o : Outcome). o.machine) x.is))
        (subst (λ (k : ℕ). Inv p ρ f₀ n x.finish.call.machine (tally_after p ρ s r) (s.steps + k)) (sym run-steps) x.standing.inv)

    run-outputs : distinct [] (s.outputs ++ wrote s.machine (outcome_of p ρ s.machine r)) ≡ emitted p ρ f₀ t₀ (tally_after p ρ s r).highest
    run-outputs =
        let x = the-run.standing in
        let i = h.inv good in
        let a = h.lasting.since in
        distinct_append [] s.outputs (wrote s.machine (outcome_of p ρ s.machine r))
        ∙ ap (λ (l : List Numbered). distinct l (wrote s.machine (outcome_of p ρ s.machine r))) h.lasting.outputs
        ∙ ap (distinct (emitted p ρ f₀ t₀ s.tally.highest)) run-wrote
        ∙ news p ρ f₀ t₀ s.tally.retired (tally_after p ρ s r).retired s.tally.highest (omega (arith, a, i.order)) x.rises i.high
        ∙ ap (emitted p ρ f₀ t₀) (sym x.top)

    run-kind : ((outcome_of p ρ s.machine r).machine.regs.page ≡ page) × ((outcome_of p ρ s.machine r).machine.regs.owner ≡ owner)
    unfolding outcome_of
    run-kind =
        let k = kind-call (env_of p r.words) (lent p ρ s.machine r) r.budget s.machine r.places in
        (k.0 ∙ (h.kind good).0, k.1 ∙ (h.kind good).1)

    pub upheld-run : U (ran p ρ s r)
    unfolding ran
    upheld-run =
        let x = the-run.standing in
        upheld-by (ran p ρ s r) run-inv run-kind (omega (arith, h.lasting.since, x.since)) run-outputs x.within
