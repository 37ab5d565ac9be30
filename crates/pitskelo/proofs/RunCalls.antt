-- From the run over all readings and places to what `pitskelo_run` leaves.
-- Assumes nothing.
use Prim.Native.Nat.{ℕ, ◌/◌, min}
use mathlib.Core.Path.{◌≡◌, refl, sym, ◌∙◌, ap}
use mathlib.Core.List.{List, [], ◌∷◌, ◌++◌}
use native.Mathlib.Omega.{arith}
use borrow.Author.Tests.{eq-eqb, ne_eqb}
use lib.IntN.{ℤ}
use lib.ListN.{length, get_or, take}
use lib.Seq.{sets}
use Rattle.run.specs.declared.Ended as code
use Rattle.run.specs.declared.Ended.TheVariants as exit
use Rattle.run.specs.Run.{Ended}
use Rattle.step.specs.declared.Regs.{Regs}
use Rattle.step.specs.State.{Env, env_of, Machine, machine_of}
use Rattle.program.specs.Check.{check_of, number_of}
use Rattle.run.specs.Run.{Outcome, outcome, refusal_of, call_of, ended_of, answer_of}
use Rattle.run.proofs.Accepting.{outputs-first}
use Rattle.journal.specs.Format.{owner_of_plan}
use Rattle.layout.specs.Numbers.{numbers_from, signed_of, signed_bytes}
use Rattle.layout.specs.Layout.{machine_in, bytes_of_state}
use Rattle.stretches.specs.Stretches.{WholeIs}
use Rattle.pitskelo.specs.Runs.{sets_in, odd_state_of, RunLent, ran_on, run_number, run_done, run_refused, run_call_of}
use Rattle.pitskelo.proofs.OddStates.{odd_refused}
use Rattle.pitskelo.proofs.Recovering.{words-in, Loaded, machine-loaded, carried}
use Rattle.stretches.proofs.Running.{signed-of-length, call-number, call-values, call-refused}

-- an exit has the number 0
pub exit-number : (x : code.Ended) → 0 ≡ (answer_of (ended_of x)).number
exit-number (exit.Stopped k) = refl
exit-number exit.Spent = refl
exit-number exit.NoReading = refl
exit-number exit.BufferFull = refl

-- a call whose number is not 0 is a refusal
refuses : (l : RunLent) → ¬ (run_number l ≡ 0) → run_call_of l ≡ run_refused l (run_number l)
unfolding run_call_of
refuses l h = rw (ne_eqb (run_number l) 0 h)

-- one whose number is 0 is accepted
accepts : (l : RunLent) → run_number l ≡ 0 → run_call_of l ≡ run_done l (ran_on l)
unfolding run_call_of
accepts l h = rw (eq-eqb (run_number l) 0 h)

-- a state of another length
pub odd-run : (l : RunLent) {k : ℕ} → ¬ (length l.state ≡ 1312) → k ≡ odd_state_of l.plan l.sets → run_refused l k ≡ run_call_of l
unfolding run_number
odd-run l {k} odd h =
    let n : k ≡ run_number l = rw (ne_eqb (length l.state) 1312 odd) h in
    ap (run_refused l) n ∙ sym (refuses l (λ z. odd_refused l.plan l.sets (sym h ∙ n ∙ z)))

-- a plan that check refuses
pub plan_run : (l : RunLent) {k : ℕ} → length l.state ≡ 1312 → k ≡ number_of (check_of l.plan) → ¬ (k ≡ 0) → run_refused l k ≡ run_call_of l
unfolding run_number ran_on refusal_of
plan_run l {k} size h some =
    let m = machine_in l.page (owner_of_plan l.plan) l.state l.chip in
    let called = call-number (env_of l.plan (sets_in l.sets)) (signed_of l.readings) l.budget m (signed_of l.outputs) in
    let n : k ≡ run_number l = rw (eq-eqb (length l.state) 1312 size, called, ← h, ne_eqb k 0 some) in
    ap (run_refused l) n ∙ sym (refuses l (λ z. some (n ∙ z)))

-- bytes of no number
no_bytes : (vs : List ℤ) → length vs ≡ 0 → signed_bytes vs ≡ []
unfolding signed_bytes
no_bytes [] h = refl
no_bytes (v ∷ vs) h = absurd (omega arith)

module _ (l : RunLent) (words : List ℕ) {n : ℕ} {q : Regs} {xs ms : List ℕ} (size : length l.state ≡ 1312) (few : n ≡ min (length l.sets / 8) 512)
    (loaded : take n words ≡ numbers_from 8 n l.sets 0) {o : ℕ} (named : o ≡ owner_of_plan l.plan) (from : Loaded l.page o l.state q xs ms)
    {x : Ended} {m : Machine} {steps taken written : ℕ} {b : List ℕ}
    (r : WholeIs (env_of l.plan (take n words)) (signed_of l.readings) l.budget (machine_of q xs ms l.chip) l.outputs x m
    steps taken written b) where
  -- what was lent, decoded
  abbrev env : Env
  env = env_of l.plan (sets_in l.sets)

  abbrev first : Machine
  first = machine_in l.page (owner_of_plan l.plan) l.state l.chip

  abbrev ρ : List ℤ
  ρ = signed_of l.readings

  abbrev places : List ℤ
  places = signed_of l.outputs

  -- the run is that of what the bytes hold
  whole : WholeIs env ρ l.budget first l.outputs x m steps taken written b
  whole =
      carried (λ (e : Env) (m₀ : Machine). WholeIs e ρ l.budget m₀ l.outputs x m steps taken written b) l.plan (words-in l.sets words few loaded)
      (machine-loaded l.page l.plan l.state l.chip named from) r

  -- the places with the outputs in front
  abbrev outs : List ℤ
  outs = sets places 0 whole.given

  -- so with those places it is the call
  called : outcome x m steps taken written outs ≡ call_of env ρ l.budget first places
  called = whole.is places (signed-of-length l.outputs)

  -- which is the lent bytes' outcome
  ran : outcome x m steps taken written outs ≡ ran_on l
  unfolding ran_on
  ran = called

  -- the call's number is the answer's
  number : (answer_of x).number ≡ run_number l
  unfolding run_number
  number = rw (eq-eqb (length l.state) 1312 size) (ap (λ (o : Outcome). (answer_of o.ended).number) ran)

  -- and the refusal's
  refusal : (answer_of x).number ≡ refusal_of env first
  refusal = ap (λ (o : Outcome). (answer_of o.ended).number) called ∙ call-number env ρ l.budget first places

  -- a refusal leaves the chip and the outputs
  pub refused_run_of : {k : ℕ} → k ≡ (answer_of x).number → ¬ (k ≡ 0)
      → record { result = k; chip = m.journal; state = l.state; outputs = b; numbers = l.numbers } ≡ run_call_of l
  refused_run_of {k} h some =
      let q = called ∙ call-refused env ρ l.budget first places (λ z. some (h ∙ refusal ∙ z)) in
      let none : length whole.given ≡ 0 = whole.count ∙ ap (λ (o : Outcome). o.written) q in
      let kept : b ≡ l.outputs = whole.stored ∙ ap (sets l.outputs 0) (no_bytes whole.given none) in
      let chip = ap (λ (o : Outcome). o.machine.journal) q in
      let k' = h ∙ number in
      (λ i. record { result = k' i; chip = chip i; state = l.state; outputs = kept i; numbers = l.numbers }) ∙ sym (refuses l (λ z. some (k' ∙ z)))

  -- the outputs are those given
  given : take written outs ≡ whole.given
  given =
      ap (λ (n : ℕ). take n outs) (sym whole.count)
      ∙ outputs-first whole.given places (omega (arith, whole.fits, whole.count, signed-of-length l.outputs))

  -- an accepted call
  pub accepted-run : {k kind : ℕ} → k ≡ (answer_of x).number → k ≡ 0 → {state : List ℕ} → state ≡ bytes_of_state m → kind ≡ get_or (answer_of x).values 0 0
      → record { result = 0; chip = m.journal; state = state; outputs = b; numbers = kind ∷ steps ∷ taken ∷ written ∷ [] } ≡ run_call_of l
  accepted-run {k} {kind} h z q d =
      let one = ap (λ (o : Outcome). (answer_of o.ended).values) called in
      let values : (answer_of x).values ≡ kind ∷ [] =
      one ∙ call-values env ρ l.budget first places (sym refusal ∙ sym h ∙ z)
      ∙ sym (ap (λ (v : List ℕ). get_or v 0 0 ∷ []) one) ∙ ap (λ (v : ℕ). v ∷ []) (sym d) in
      let stored = whole.stored ∙ ap (λ (g : List ℤ). sets l.outputs 0 (signed_bytes g)) (sym given) in
      let numbers = ap (λ (v : List ℕ). v ++ (steps ∷ taken ∷ written ∷ [])) (sym values) in
      (λ i. record { result = 0; chip = m.journal; state = q i; outputs = stored i; numbers = numbers i })
      ∙ ap (run_done l) ran ∙ sym (accepts l (sym number ∙ sym h ∙ z))
