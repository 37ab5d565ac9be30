-- What an accepted call relies on, and that the machine which a run leaves is accepted again.
-- Assumes nothing.
use Prim.Native.Nat.{ℕ, ◌≤◌}
use mathlib.Core.Path.{◌≡◌, refl, sym, ◌∙◌, ap, subst}
use mathlib.Core.List.{List}
use native.Mathlib.Omega.{arith}
use borrow.Author.Tests.{le-ltb, eqb-true, eqb-false}
use lib.Dec.{eqb}
use lib.IntN.{ℤ}
use lib.ListN.{length, take}
use lib.Seq.{sets, sets-eq, take_at}
use Rattle.program.specs.Check.{answer_of, check_of, number_of}
use Rattle.program.specs.Grounds.{Ruled}
use Rattle.program.specs.Check.{Checked}
use Rattle.program.specs.Check as checked
use Rattle.program.proofs.Grounds.{ruled, accepted-values}
use Rattle.program.proofs.Tests.{bool_cases}
use Rattle.journal.proofs.Paging.{is-chip-length}
use Rattle.step.specs.State.{Env, Machine}
use Rattle.step.proofs.Facts.{good_length}
use Rattle.run.specs.Run.{Call, late_refusal_of, refusal_of, run_of}
use Rattle.step.specs.Ready.{Legal, Good}
use Rattle.run.proofs.Laws.{good-run}
use Rattle.run.proofs.Calls.{late-left}
use Rattle.step.proofs.Tables.{legal, ready}

-- what an accepted call relies on
pub record Accepts (e : Env) (m : Machine) : Type 0 where
  pub legal : Legal e.program
  pub words : 512 ≤ length e.sets
  pub good : Good e.program m

-- it is not refused
pub not-refused : {e : Env} {m : Machine} → Accepts e m → refusal_of e m ≡ 0
unfolding refusal_of late_refusal_of
not-refused {e} {m} a =
    rw (a.legal.accepted, le-ltb (length e.sets) 512 a.words, a.good.sound, is-chip-length (good_length a.good))

-- check's answer with the number 0 is that of an accepted program
number-legal : (p : List ℕ) (r : Checked) → r ≡ check_of p → number_of r ≡ 0 → Legal p
number-legal p (checked.Program a b x) h z = legal h
number-legal p (checked.Refused n) h z = absurd (omega (arith, accepted-values (subst (λ r. Ruled p (answer_of r)) (sym h) (ruled p)) z))

-- so what is not refused is accepted
pub accepts : (e : Env) (m : Machine) → refusal_of e m ≡ 0 → length m.cells ≡ 256 → length m.marks ≡ 256 → Accepts e m
unfolding refusal_of
accepts e m h xs ms =
    bool_cases (eqb (number_of (check_of e.program)) 0)
    (λ b.
    let l = late-left e.program (length e.sets) m (sym (rw b at h)) in
    record {
      legal = number-legal e.program (check_of e.program) refl (eqb-true _ _ b);
      words = l.0;
      good = record { sound = l.1; most = l.2.most; whole = l.2.whole; cells = xs; marks = ms };
    })
    (λ b. absurd (eqb-false _ _ b (rw b at h)))

-- and so is what a run of it leaves
pub accepts-run : (e : Env) (ρ : List ℤ) (room left : ℕ) (c : Call) → Accepts e c.machine → Accepts e (run_of e ρ room left c).call.machine
accepts-run e ρ room left c a =
    record {
      legal = a.legal;
      words = a.words;
      good = good-run e ρ room (ready e a.legal a.words).1 left c a.good;
    }

-- the outputs that a call gave stand first in their buffer
pub outputs-first : (vs outs : List ℤ) → length vs ≤ length outs → take (length vs) (sets outs 0 vs) ≡ vs
outputs-first vs outs h = ap (take (length vs)) (sets-eq vs outs 0 (omega arith)) ∙ take_at vs _ (length vs) refl
