-- What calls of the C interface leave: a refused one everything, an accepted one what the definitions of recovery and of a run say.
-- Assumes nothing.
use Prim.Native.Nat.{ℕ, suc, ◌/◌, ◌≤◌, ◌<◌}
use mathlib.Core.Path.{◌≡◌, refl, sym, ◌∙◌, ap}
use mathlib.Core.Bool.{true, false}
use mathlib.Core.List.{List, ◌++◌}
use native.Mathlib.Omega.{arith}
use lib.Dec.{eqb, ltb}
use lib.IntN.{ℤ}
use lib.ListN.{length, get_or}
use borrow.Author.Tests.{eqb-true, eqb-false, eq-eqb, ne_eqb}
use Rattle.program.specs.Check.{check_of, number_of}
use Rattle.program.proofs.Tests.{bool_cases}
use Rattle.journal.specs.Scanned.{Scanned}
use Rattle.journal.specs.Scanned.{BadLength, Damaged, Found}
use Rattle.journal.specs.Reading.{Facts}
use Rattle.step.specs.State.{Env, Machine}
use Rattle.run.specs.Run.{started, refusal_of, call_of, answer_of}
use Rattle.run.proofs.Laws.{steps-within}
use Rattle.run.specs.Run.{Ended}
use Rattle.run.specs.Run as ended
use Rattle.recovery.specs.Recover as recovery
use Rattle.recovery.specs.Recover.{damaged_as_of, Older, recover_of, Recovers, refuses, reads}
use Rattle.recovery.specs.Recover.{Recovered}
use Rattle.recovery.specs.Recover.{Restored, Refused}
use Rattle.layout.specs.Layout.{state_size}
use Rattle.pitskelo.specs.Runs.{odd_state_of, RunLent, ran_on, run_number, run_done, run_refused, run_call_of, RecoverCall}
use Rattle.pitskelo.proofs.OddStates.{odd_refused}
use Rattle.restart.specs.History.{Accepted}

-- ---- recovery

-- a refused call leaves the state's bytes
pub recovery-kept : {page : ℕ} {p ws chip state left : List ℕ} {result : ℕ} → RecoverCall page p ws chip state left result → ¬ (result ≡ 0) → left ≡ state
recovery-kept {result = result} x z = x.left ∙ rw (ne_eqb result 0 z)

-- what is read and has the number 0 is restored
read-restored : (e : Env) (page owner : ℕ) (a : Scanned) (n : ℕ) (values : List ℕ) (m : Machine) → (a ≡ Damaged → ¬ (n ≡ 0))
    → 0 ≡ (recovery.answer_of (recover_of e page owner a n values m).answer).number → (recover_of e page owner a n values m).answer ≡ Restored
unfolding recover_of
read-restored e page owner BadLength n values m z h = absurd (omega arith)
read-restored e page owner Damaged n values m z h = absurd (z refl (sym h))
read-restored e page owner (Found end torn last true) n values m z h = refl
read-restored e page owner (Found end torn last false) n values m z h = absurd (omega arith)

-- the number of a chip that is damaged as one of the owner's is not 0
damaged-some : (a : Scanned) → ¬ (damaged_as_of a ≡ 0)
damaged-some BadLength h = omega arith
damaged-some Damaged h = omega arith
damaged-some (Found end torn last own) h = bool_cases (ltb 0 end) (λ b. let z = rw b at h in omega arith) (λ b. let z = rw b at h in omega arith)

older-some : {F : Facts} {chip : List ℕ} {n : ℕ} → Older F chip n → ¬ (n ≡ 0)
older-some o z = damaged-some o.answer (sym o.number_is ∙ z)

-- so is every outcome with it
outcome-restored : (e : Env) (page owner : ℕ) (m : Machine) (r : recovery.Outcome) → Recovers e page owner m r → 0 ≡ (recovery.answer_of r.answer).number → r.answer ≡ Restored
outcome-restored e page owner m r (refuses n h l k) z =
    let y : 0 ≡ n = z ∙ ap (λ (o : recovery.Outcome). (recovery.answer_of o.answer).number) k in
    absurd (omega arith)
outcome-restored e page owner m r (reads h a values s n o k) z = rw k (read-restored e page owner a n values m (λ d. older-some (o d)) (rw k at z))

-- a refusal's number tells it
pub refused-number : (a : Recovered) (k : ℕ) → ¬ (k ≡ 0) → (recovery.answer_of a).number ≡ k → a ≡ Refused k
refused-number Restored k z h = absurd (z (sym h))
refused-number (Refused n) k z h = ap Refused h

-- of an accepted plan, a state of another length gives 9 or 10
pub odd_number : (p ws : List ℕ) → number_of (check_of p) ≡ 0 → odd_state_of p ws < 12
unfolding odd_state_of
odd_number p ws h =
    let n = eq-eqb (number_of (check_of p)) 0 h in
    bool_cases (ltb (length ws / 8) 512) (λ c. rw (n, c) (omega arith)) (λ c. rw (n, c) (omega arith))

module _ {page : ℕ} {p ws chip state left : List ℕ} (x : RecoverCall page p ws chip state left 0) where
  -- an accepted call was lent a state of the right length
  pub accepted-size : length state ≡ state_size
  accepted-size =
      bool_cases (eqb (length state) state_size)
      (λ b. eqb-true _ _ b)
      (λ b. absurd (odd_refused p ws (sym (x.number ∙ rw b))))

  -- and restored it
  pub accepted-restored : x.outcome.answer ≡ Restored
  accepted-restored = outcome-restored _ _ _ _ x.outcome (x.recovers accepted-size) (x.number ∙ rw accepted-size)

-- ---- a run

-- a refused call leaves what it was lent
pub run-kept : (l : RunLent) → ¬ ((run_call_of l).result ≡ 0) → run_call_of l ≡ run_refused l (run_number l)
unfolding run_call_of
run-kept l z =
    bool_cases (eqb (run_number l) 0)
    (λ b. absurd (z (rw b)))
    (λ b. rw b)

-- an accepted one leaves the machine's outcome
pub run-done : (l : RunLent) → (run_call_of l).result ≡ 0 → run_call_of l ≡ run_done l (ran_on l)
unfolding run_call_of
run-done l z =
    bool_cases (eqb (run_number l) 0)
    (λ b. rw b)
    (λ b. absurd (eqb-false (run_number l) 0 b (rw b at z)))

-- what is accepted has the number 0
pub accepted-number : (x : Ended) → Accepted x → (answer_of x).number ≡ 0
accepted-number (ended.Refused n) a = absurd a
accepted-number (ended.Stopped k) a = refl
accepted-number ended.Spent a = refl
accepted-number ended.NoReading a = refl
accepted-number ended.BufferFull a = refl

-- and so has the call, with a state of the right length
pub accepted-result : (l : RunLent) → length l.state ≡ state_size → (answer_of (ran_on l).ended).number ≡ 0 → (run_call_of l).result ≡ 0
unfolding run_call_of run_number
accepted-result l s h =
    let n : run_number l ≡ 0 = rw (eq-eqb (length l.state) state_size s) h in
    rw (eq-eqb (run_number l) 0 n)

-- a call's steps are within its budget
pub call-steps : (e : Env) (ρ : List ℤ) (budget : ℕ) (m : Machine) (outs : List ℤ) → (call_of e ρ budget m outs).steps ≤ budget
unfolding call_of
call-steps e ρ budget m outs =
    bool_cases (eqb (refusal_of e m) 0)
    (λ b. rw b (omega (arith, (steps-within e ρ (length outs) budget (started m)).1)))
    (λ b. rw b (omega arith))

-- its numbers stand behind the kind of ending
pub number_at : (x : Ended) → Accepted x → (l : List ℕ) (i : ℕ) → get_or ((answer_of x).values ++ l) (suc i) 0 ≡ get_or l i 0
number_at (ended.Refused n) a l i = absurd a
number_at (ended.Stopped k) a l i = refl
number_at ended.Spent a l i = refl
number_at ended.NoReading a l i = refl
number_at ended.BufferFull a l i = refl

-- and that kind stands first
pub kind_at : (x : Ended) → Accepted x → (l : List ℕ) → get_or ((answer_of x).values ++ l) 0 0 ≡ get_or (answer_of x).values 0 0
kind_at (ended.Refused n) a l = absurd a
kind_at (ended.Stopped k) a l = refl
kind_at ended.Spent a l = refl
kind_at ended.NoReading a l = refl
kind_at ended.BufferFull a l = refl
