-- THE RESTART THEOREM: every system that a history reaches meets `Claim` (`claim`); document 01's own lists are an instance (`demand-3`).
-- Assumes nothing.
use Prim.Native.Nat.{ℕ, ◌^◌, ◌<◌}
use mathlib.Core.Path.{◌≡◌, refl, sym, ◌∙◌, ap, subst}
use mathlib.Core.Bool.{true}
use mathlib.Core.List.{List, []}
use mathlib.Core.Logic.{inl, inr}
use native.Mathlib.Omega.{arith}
use lib.IntN.{ℤ}
use lib.ListN.{length, length-replicate}
use Rattle.journal.specs.Format.{format_for, chip_length}
use Rattle.journal.specs.Reading.{facts_of, last_of, own_all, saved_value}
use Rattle.journal.specs.Shape.{Shape}
use Rattle.journal.proofs.Naming.{owner-small}
use Rattle.journal.proofs.Back.{erased-shape}
use Rattle.step.specs.State.{Machine}
use Rattle.run.proofs.Accepting.{not-refused}
use Rattle.restart.specs.Reference.{Frame, zeros, ref_at}
use Rattle.restart.specs.History.{System, History, begins, refused_recovery, refused_run_of, recovers, crashes, runs, crashed_run}
use Rattle.restart.specs.Claim.{Plan, Safe, TakenUp, Claim, Erased, Names, Demand3}
use Rattle.restart.proofs.Lists.{zeros-at}
use Rattle.restart.proofs.Frames.{stopped-stays, emitted-stays}
use Rattle.restart.proofs.Agreement.{agree-undead}
use Rattle.restart.proofs.Restoring.{outcome-some, outcome-restored, outcome-sound}
use Rattle.restart.proofs.Stopping.{stopped-same}
use Rattle.restart.proofs.Upheld.{Upheld, upheld-first, upheld-crashed, upheld-restored, run-wrote, run-took, run-counts, upheld-run}
use Rattle.restart.proofs.Refusing.{recovery-refused, run-refused}
use Rattle.restart.proofs.Reaching.{chain-stops, whole-spent}
use Rattle.restart.proofs.Sets.{found-safe}

-- a plan and words, and what a history begins with, as `Claim` wants them
module _ (p : List ℕ) (ρ : List ℤ) (f₀ : Frame) (plan : Plan p) (page owner n t₀ : ℕ) (Begins Words : List ℕ → Type 0)
    (takes-up : (l : List ℕ) → Begins l → TakenUp page owner p (ref_at p ρ f₀ t₀) l) (safe : (w : List ℕ) → Words w → Safe p w) where
  -- the invariant of histories
  pub upheld : {s : System} → History p ρ page owner n t₀ Begins Words s → Upheld p ρ f₀ page owner n t₀ s
  upheld (begins m l b) = upheld-first p ρ f₀ plan page owner n t₀ m l (takes-up m.journal b)
  upheld (refused_recovery {s} h e other whose l r x z) = subst (Upheld p ρ f₀ page owner n t₀) (sym (recovery-refused s e other whose l r x z)) (upheld h)
  upheld (refused_run_of {s} h e l ρ' budget outs z) = subst (Upheld p ρ f₀ page owner n t₀) (sym (run-refused s e l ρ' budget outs z)) (upheld h)
  upheld (recovers {s} h words w r x a) = upheld-restored p ρ f₀ plan page owner n t₀ s (upheld h).lasting words (safe words w) r x a
  upheld (crashes {s} h m) = upheld-crashed p ρ f₀ plan page owner n t₀ s (upheld h).lasting m
  upheld (runs {s} h g r w a) = upheld-run p ρ f₀ plan page owner n t₀ s (upheld h) g r (safe r.words w)
  upheld (crashed_run {s} h g r w a m) = upheld-crashed p ρ f₀ plan page owner n t₀ _ (upheld-run p ρ f₀ plan page owner n t₀ s (upheld h) g r (safe r.words w)).lasting m

  module _ (s : System) (u : Upheld p ρ f₀ page owner n t₀ s) where
    -- what recovery makes of the journal, with any state
    shape_of : (m : Machine) → m.journal ≡ s.machine.journal → Shape (facts_of (format_for page owner) p) m.journal u.lasting.saves u.lasting.torn
    shape_of m e = subst (λ (l : List ℕ). Shape (facts_of (format_for page owner) p) l u.lasting.saves u.lasting.torn) (sym e) u.lasting.shape

    length-of : (m : Machine) → m.journal ≡ s.machine.journal → chip_length page n ≡ true → chip_length page (length m.journal) ≡ true
    length-of m e l = ap (chip_length page) (ap length e ∙ u.lasting.size) ∙ l

    -- a stop of the engine is one of the reference run, which stays there
    stop-of : s.good ≡ true → ¬ (s.machine.regs.stop ≡ 0) → ¬ ((ref_at p ρ f₀ s.tally.highest).stop ≡ 0)
    stop-of g z e =
        let i = u.inv g in
        let a = i.held.follows.stop in
        let r : ¬ ((ref_at p ρ f₀ s.tally.retired).stop ≡ 0) = λ y. z (a ∙ y) in
        r (ap (λ (f : Frame). f.stop) (sym (stopped-same p ρ f₀ s.tally.retired s.tally.highest r i.high)) ∙ e)

    claimed : Claim p ρ f₀ n t₀ Words page owner s
    claimed =
        record {
          follows = λ g. agree-undead (u.inv g).held.follows;
          takes = λ g r w. run-took p ρ f₀ plan page owner n t₀ s u g r (safe r.words w);
          writes = λ g r w. run-wrote p ρ f₀ plan page owner n t₀ s u g r (safe r.words w);
          counts = λ g r w. run-counts p ρ f₀ plan page owner n t₀ s u g r (safe r.words w);
          outputs = u.lasting.outputs;
          all = λ z k l.
              u.lasting.outputs
              ∙ sym (emitted-stays p ρ f₀ t₀ s.tally.highest k (let a = u.lasting.since in let b = u.lasting.high in omega arith) l
              (stopped-stays p ρ (ref_at p ρ f₀ s.tally.highest) z));
          stopped = stop-of;
          recoverable = λ l words w m e. outcome-some p words plan (safe words w) page owner m _ _ (shape_of m e) u.lasting.owned (length-of m e l);
          taken_up = λ l words w m e. outcome-restored p words plan (safe words w) page owner m _ _ (shape_of m e) u.lasting.owned (length-of m e l);
          not_damaged = λ words w m e. outcome-sound p words plan (safe words w) page owner m _ _ (shape_of m e) u.lasting.owned;
          accepted = λ g words w. not-refused (record { legal = plan.legal; words = (safe words w).enough; good = (u.inv g).good });
          steps = u.lasting.bound;
          stops = λ g k z b x s' c l. chain-stops p ρ f₀ plan page owner n t₀ Words safe k z u g c l;
          spends = λ g k z r e. whole-spent p ρ f₀ plan page owner n t₀ Words safe k z s u g r r.budget e (omega arith);
        }

  -- THE CLAIM HOLDS OF EVERY HISTORY
  pub claim : {s : System} → History p ρ page owner n t₀ Begins Words s → Claim p ρ f₀ n t₀ Words page owner s
  claim {s} h = claimed s (upheld h)

-- either owner fits its field
pub names-fits : (p : List ℕ) (owner : ℕ) → Names p owner → owner < 2 ^ 32
names-fits p owner (inl e) = omega (arith, owner-small p)
names-fits p owner (inr e) = omega arith

-- an erased chip can be taken up at the first frame
pub erased-taken : (p : List ℕ) (ρ : List ℤ) (page owner n : ℕ) → owner < 2 ^ 32 → (l : List ℕ) → Erased n l → TakenUp page owner p (ref_at p ρ zeros 0) l
unfolding ref_at zeros last_of saved_value own_all
erased-taken p ρ page owner n fits l e =
    record {
      saves = [];
      torn = [];
      shape = subst (λ (x : List ℕ). Shape (facts_of (format_for page owner) p) x [] []) (sym e) (erased-shape n);
      owned = record { all = refl; fits = fits };
      resumes =
          record {
            place = refl;
            readings = refl;
            outputs = refl;
            runs = refl;
            size = length-replicate {A = ℕ} 256 0;
            cells = λ c v. sym (zeros-at 256 c);
            region = λ z. absurd (z refl);
          };
    }

-- DEMAND 3, for every page length and either kind of mark
pub demand-3 : (page : ℕ) → Demand3 page
demand-3 page p plan owner names ρ n words f s h =
    claim p ρ zeros plan page owner n 0 (Erased n) (λ w. w ≡ words) (erased-taken p ρ page owner n (names-fits p owner names)) (λ w e. subst (Safe p) (sym e) (found-safe plan f)) h
