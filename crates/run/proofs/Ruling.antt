-- A call's answer is the one that document 01's grounds allow.
-- Assumes nothing.
use Prim.Native.Nat.{ℕ, ◌-◌, ◌<◌}
use mathlib.Core.Path.{◌≡◌, sym, ap, subst}
use mathlib.Core.Bool.{true}
use mathlib.Core.List.{List}
use native.Mathlib.Omega.{arith}
use lib.Dec.{eqb, ltb}
use lib.IntN.{ℤ}
use lib.ListN.{length}
use borrow.Author.Tests.{eqb-true, eqb-false, ltb-true, ltb-false}
use Rattle.program.specs.Check.{check_of, number_of}
use Rattle.program.specs.Grounds.{Allowed, granted, denied}
use Rattle.program.proofs.Grounds.{plan-passes, plan-refuses, by-check, by-words, by-own}
use Rattle.program.proofs.Tests.{bool_cases, clash}
use Rattle.journal.specs.Format.{chip_length}
use Rattle.step.specs.State.{Env, Machine, sound_of}
use Rattle.run.specs.Run.{Ended}
use Rattle.run.specs.Run as run
use Rattle.run.specs.Run.{Call, started, run_of, late_refusal_of, refusal_of, Outcome, refused_with, call_of, answer_of, LateGround, state, size, Ground, Kind, CallIs}
use Rattle.run.proofs.Laws.{Exits, stopped, spent, no_reading, buffer_full, run-exit, never-refused}

-- ---- its own grounds

module _ {p : List ℕ} {m : Machine} where
  -- they come behind 9
  late-after : (n : ℕ) → LateGround p m n → 9 < n
  late-after n (state h) = omega arith
  late-after n (size h) = omega arith

  -- a sound state is no ground, so that 11 is the first
  sound-first : sound_of p m ≡ true → (n : ℕ) → n < 11 → ¬ LateGround p m n
  sound-first s n l (state h) = clash (sound_of p m) s h
  sound-first s n l (size h) = omega arith

  -- nor is a chip's length that it may have
  no-late : sound_of p m ≡ true → chip_length m.regs.page (length m.journal) ≡ true → (n : ℕ) → ¬ LateGround p m n
  no-late s l n (state h) = clash (sound_of p m) s h
  no-late s l n (size h) = clash (chip_length m.regs.page (length m.journal)) l h

-- ---- the endings

-- the exit that a run answers, in 01's terms
exit-ruled : {G : ℕ → Type 0} {p : List ℕ} {left n room : ℕ} {c : Call} {x : Ended} (budget : ℕ) → ((k : ℕ) → ¬ G k) → left ≡ budget - c.steps
    → Exits p left n room c x → Allowed G (Kind p budget n room c) (answer_of x)
exit-ruled budget g e (stopped h) = granted g (run.stopped h)
exit-ruled budget g e (spent h l) = granted g (run.spent h (omega arith))
exit-ruled budget g e (no_reading h l d t) = granted g (run.no_reading h (omega arith) d t)
exit-ruled budget g e (buffer_full h l d t) = granted g (run.buffer_full h (omega arith) d t)

-- ---- a call

module _ (e : Env) (ρ : List ℤ) (budget : ℕ) (m : Machine) (outs : List ℤ) where
  -- where it stands at its end
  abbrev end : Call
  end = (run_of e ρ (length outs) budget (started m)).call

  -- THE ANSWER IS THE ONE THAT THE GROUNDS ALLOW
  ruled : Allowed (Ground e m) (Kind e.program budget (length ρ) (length outs) end) (answer_of (call_of e ρ budget m outs).ended)
  unfolding call_of refusal_of late_refusal_of
  ruled =
      bool_cases (eqb (number_of (check_of e.program)) 0)
      (λ a. bool_cases (ltb (length e.sets) 512)
      (λ b. rw (a, b) (by-words late-after (plan-passes _ (eqb-true _ _ a)) (ltb-true _ _ b)))
      (λ b. rw (a, b) (by-own late-after (plan-passes _ (eqb-true _ _ a)) (λ l. omega (arith, ltb-false (length e.sets) 512 b))
      (bool_cases (sound_of e.program m)
      (λ c. bool_cases (chip_length m.regs.page (length m.journal))
      (λ d. rw (c, d) (exit-ruled budget (no-late c d) left_is (run-exit e ρ (length outs) budget (started m))))
      (λ d. rw (c, d) (denied (size d) (sound-first c))))
      (λ c. rw c (denied (state c) (λ n l g. omega (arith, late-after n g))))))))
      (λ a. rw (a, a) (by-check late-after (plan-refuses _ (eqb-false _ _ a))))
    where
      left_is : budget - ((run_of e ρ (length outs) budget (started m)).call.steps - 0) ≡ budget - (run_of e ρ (length outs) budget (started m)).call.steps
      left_is = omega arith

  -- so this is what a call promises
  pub call-is : {o : Outcome} → o ≡ call_of e ρ budget m outs → CallIs e ρ budget m outs o
  call-is h =
      record {
        is = h;
        ruled =
            subst (λ (o : Outcome). Allowed (Ground e m) (Kind e.program budget (length ρ) (length outs) end) (answer_of o.ended)) (sym h) ruled;
      }

  -- a refused call alters nothing: what it leaves is as it was lent
  pub refused-kept : {n : ℕ} {k : Machine} {now : List ℤ} → refused_with n k now ≡ call_of e ρ budget m outs → (k ≡ m) × (now ≡ outs)
  unfolding call_of
  refused-kept {n} {k} {now} h =
      bool_cases (eqb (refusal_of e m) 0)
      (λ a. let z = rw a at h in absurd (never-refused (run-exit e ρ (length outs) budget (started m)) (ap (λ (o : Outcome). o.ended) (sym z))))
      (λ a. let z = rw a at h in (ap (λ (o : Outcome). o.machine) z, ap (λ (o : Outcome). o.outputs) z))
