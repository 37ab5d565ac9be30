-- What pitskelo_recover and pitskelo_run leave, over the bytes that are lent: decoding, the definition of crate `recovery` or `run`, and encoding.
-- Assumes nothing.
use Rattle.std.specs.Prelude.{ℕ, ◌/◌, min, ◌≡◌, List, [], ◌∷◌, ◌++◌, cond, length, take, eqb, ltb}
use Rattle.std.proofs.lemmas.List.Edits.{sets}
use Rattle.program.specs.Check.{check_of, number_of}
use Rattle.step.specs.State.{env_of}
use Rattle.run.specs.Run.{Outcome, call_of, answer_of}
use Rattle.recovery.specs.Recover as recovery
use Rattle.recovery.specs.Recover.{Recovers}
use Rattle.journal.specs.Format.{owner_of_plan}
use Rattle.layout.specs.Numbers.{numbers_from, signed_of, signed_bytes}
use Rattle.layout.specs.Layout.{state_size, machine_in, bytes_of_state}

-- "Run and recovery .. want 512 words of DE and RO": those of the buffer, and no more than these
unfoldable pub sets_in : List ℕ → List ℕ
sets_in b = numbers_from 8 (min (length b / 8) 512) b 0

-- "a state of another length .. gives 10", at its place in the order: behind the plan's refusals and 9
unfoldable pub odd_state_of : (p sets : List ℕ) → ℕ
odd_state_of p sets = let n = number_of (check_of p) in cond (eqb n 0) (cond (ltb (length sets / 8) 512) 9 10) n

-- what a run of the bytes is lent; the entry says the page length of the chip, and the plan is the owner that the chip's MARKs name
pub record RunLent : Type 0 where
  pub page : ℕ
  pub plan : List ℕ
  pub sets : List ℕ
  pub chip : List ℕ
  pub state : List ℕ
  pub readings : List ℕ
  pub outputs : List ℕ
  pub budget : ℕ
  pub numbers : List ℕ

-- what it leaves: the result, the three buffers that it may alter, and the number parameters ended, steps, taken, given
pub record RunLeft : Type 0 where
  pub result : ℕ
  pub chip : List ℕ
  pub state : List ℕ
  pub outputs : List ℕ
  pub numbers : List ℕ

-- the machine's outcome
unfoldable pub ran_on : RunLent → Outcome
ran_on l =
    call_of (env_of l.plan (sets_in l.sets)) (signed_of l.readings) l.budget (machine_in l.page (owner_of_plan l.plan) l.state l.chip)
    (signed_of l.outputs)

unfoldable pub run_number : RunLent → ℕ
run_number l = cond (eqb (length l.state) state_size) (answer_of (ran_on l).ended).number (odd_state_of l.plan l.sets)

-- an accepted call: "later output places remain"
abbrev pub run_done : RunLent → Outcome → RunLeft
run_done l o =
    record {
      result = 0;
      chip = o.machine.journal;
      state = bytes_of_state o.machine;
      outputs = sets l.outputs 0 (signed_bytes (take o.written o.outputs));
      numbers = (answer_of o.ended).values ++ (o.steps ∷ o.taken ∷ o.written ∷ []);
    }

-- "a refusal alters nothing lent"
abbrev pub run_refused : RunLent → ℕ → RunLeft
run_refused l n = record { result = n; chip = l.chip; state = l.state; outputs = l.outputs; numbers = l.numbers }

unfoldable pub run_call_of : RunLent → RunLeft
run_call_of l = cond (eqb (run_number l) 0) (run_done l (ran_on l)) (run_refused l (run_number l))

-- the entries that recover, with the page length of their kind of chip: the result, and the state's bytes after the call from those before it
pub record RecoverCall (page : ℕ) (p ws chip state₀ state : List ℕ) (result : ℕ) : Type 0 where
  pub outcome : recovery.Outcome
  pub recovers : length state₀ ≡ state_size → Recovers (env_of p (sets_in ws)) page (owner_of_plan p) (machine_in page (owner_of_plan p) state₀ chip) outcome
  pub number : result ≡ cond (eqb (length state₀) state_size) (recovery.answer_of outcome.answer).number (odd_state_of p ws)
  pub left : state ≡ cond (eqb result 0) (bytes_of_state outcome.machine) state₀
