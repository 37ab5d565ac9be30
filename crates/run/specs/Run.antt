-- A run: "Run is given a budget of steps and repeats steps".
-- Assumes nothing.
use Rattle.std.specs.Prelude.{ℕ, zero, suc, ◌+◌, ◌≤◌, ◌<◌, ◌≡◌, false, cond, ◌&&◌, not, List, [], ◌∷◌, ◌++◌, ℤ, pos, length, get_or, eqb, ltb, Result, Ok, Err}
use Rattle.std.specs.Prelude.{Option, None, Some}
use Rattle.std.proofs.lemmas.List.Edits.{sets}
use Rattle.program.specs.Check.{Answer, number_of, check_of}
use Rattle.program.specs.Grounds.{Allowed, CallGround}
use Rattle.program.specs.Refusal.{refusal_number}
use Rattle.program.specs.declared.refusal.Refusal.{Refusal}
use Rattle.run.specs.declared.Ended as code
use Rattle.run.specs.declared.Ended.TheVariants as exit
use Rattle.journal.specs.Format.{chip_length}
use Rattle.run.specs.declared.Stand.{Stand}
use Rattle.run.specs.declared.Ran.{Ran}
use Rattle.step.specs.declared.Regs.{Regs}
use Rattle.step.specs.State.{Env, Machine, machine_of, sound_of}
use Rattle.step.specs.Step.{step_of, due_opcode_of, given_of, taken_of}

-- how a run ended: refused with a number, or one of the four exits, a stop with its kind
pub data Ended : Type 0 where
  Refused : ℕ → Ended
  Stopped : ℕ → Ended
  Spent : Ended
  NoReading : Ended
  BufferFull : Ended

abbrev pub ended_of : code.Ended → Ended
ended_of (exit.Stopped k) = Stopped k
ended_of exit.Spent = Spent
ended_of exit.NoReading = NoReading
ended_of exit.BufferFull = BufferFull

-- where a run stands: the machine, "this call's steps, readings taken and outputs written"
pub record Call : Type 0 where
  pub machine : Machine
  pub steps : ℕ
  pub taken : ℕ
  pub given : List ℤ

abbrev pub started : Machine → Call
started m = record { machine = m; steps = 0; taken = 0; given = [] }

-- "before each it tries in this order: stopped; budget spent; the step due is a READ with no reading left; it is an EMIT with the output buffer full": left is
-- the budget that remains, n the readings lent, room the places for outputs
unfoldable pub exit_before_of : List ℕ → (left n room : ℕ) → Call → Option Ended
exit_before_of p left n room c =
    cond (not (eqb c.machine.regs.stop 0)) (Some (Stopped c.machine.regs.stop))
    (cond (eqb left 0) (Some Spent)
    (cond (eqb (due_opcode_of p c.machine) 0x07 && eqb c.taken n) (Some NoReading)
    (cond (eqb (due_opcode_of p c.machine) 0x08 && eqb (length c.given) room) (Some BufferFull)
    None)))

-- one step; the next reading is the one behind those taken
unfoldable pub stepped : Env → List ℤ → Call → Call
stepped e ρ c =
    let v = get_or ρ c.taken (pos 0) in
    record {
      machine = step_of e v c.machine;
      steps = suc c.steps;
      taken = c.taken + taken_of e.program v c.machine;
      given = c.given ++ given_of e.program v c.machine;
    }

-- how a run ended, and where it stands
pub record Finish : Type 0 where
  pub ended : Ended
  pub call : Call

-- by cases on the exit found; next is the run that goes on
abbrev pub finish_by : Option Ended → Call → Finish → Finish
finish_by (Some x) c next = record { ended = x; call = c }
finish_by None c next = next

-- the run with so much budget left; where none is left there is always an exit
unfoldable pub run_of : Env → List ℤ → (room left : ℕ) → Call → Finish
run_of e ρ room zero c = finish_by (exit_before_of e.program 0 (length ρ) room c) c (record { ended = Spent; call = c })
run_of e ρ room (suc left) c = finish_by (exit_before_of e.program (suc left) (length ρ) room c) c (run_of e ρ room left (stepped e ρ c))

-- ---- a call

-- "Rising order": 1 to 8 of the plan, 9 the words, 10 the state, 11 the chip's length; 0 where it is accepted
unfoldable pub late_refusal_of : List ℕ → (words : ℕ) → Machine → ℕ
late_refusal_of p words m =
    cond (ltb words 512) 9
    (cond (not (sound_of p m)) 10
    (cond (chip_length m.regs.page (length m.journal)) 0
    11))

unfoldable pub refusal_of : Env → Machine → ℕ
refusal_of e m =
    let n = number_of (check_of e.program) in
    cond (eqb n 0) (late_refusal_of e.program (length e.sets) m) n

-- what a call leaves: the answer, the machine, its numbers, and the outputs' buffer, where "later output places remain"
pub record Outcome : Type 0 where
  pub ended : Ended
  pub machine : Machine
  pub steps : ℕ
  pub taken : ℕ
  pub written : ℕ
  pub outputs : List ℤ

abbrev pub outcome : Ended → Machine → (steps taken written : ℕ) → List ℤ → Outcome
outcome x m steps taken written outs =
    record { ended = x; machine = m; steps = steps; taken = taken; written = written; outputs = outs }

abbrev pub outcome_of : Finish → List ℤ → Outcome
outcome_of r outs =
    record {
      ended = r.ended;
      machine = r.call.machine;
      steps = r.call.steps;
      taken = r.call.taken;
      written = length r.call.given;
      outputs = sets outs 0 r.call.given;
    }

-- a refusal "alters nothing lent"
abbrev pub refused_with : ℕ → Machine → List ℤ → Outcome
refused_with n m outs = record { ended = Refused n; machine = m; steps = 0; taken = 0; written = 0; outputs = outs }

-- what the code leaves on lent cells, marks and journal of a run that began with these registers
abbrev pub stood : Regs → Result Stand Refusal → (cells marks journal : List ℕ) → List ℤ → Outcome
stood start (Ok s) xs ms l outs = outcome (ended_of s.ended) (machine_of s.pass.regs xs ms l) s.pass.steps s.pass.taken s.pass.written outs
stood start (Err r) xs ms l outs = refused_with (refusal_number r) (machine_of start xs ms l) outs

-- what the code leaves of the machine m, its state given back by value
abbrev pub ran : Machine → Result Ran Refusal → (journal : List ℕ) → List ℤ → Outcome
ran m (Ok r) l outs = outcome (ended_of r.ended) (machine_of r.state.regs r.state.cells r.state.marks l) r.steps r.taken r.written outs
ran m (Err r) l outs = refused_with (refusal_number r) m outs

unfoldable pub call_of : Env → List ℤ → (budget : ℕ) → Machine → List ℤ → Outcome
call_of e ρ budget m outs =
    let n = refusal_of e m in
    cond (eqb n 0) (outcome_of (run_of e ρ (length outs) budget (started m)) outs) (refused_with n m outs)

-- 01's number and values of an answer: "It answers the one found, a stop with its kind"; the kinds of ending are those of include/pitskelo.h, 1 to 6
abbrev pub answer_of : Ended → Answer
answer_of (Refused n) = record { number = n; values = [] }
answer_of (Stopped k) = record { number = 0; values = k ∷ [] }
answer_of Spent = record { number = 0; values = 4 ∷ [] }
answer_of NoReading = record { number = 0; values = 5 ∷ [] }
answer_of BufferFull = record { number = 0; values = 6 ∷ [] }

-- the grounds of its refusals, from the rows of document 01's table: 1 to 8 check's, 9 "a word buffer too short", 10 "state not sound", 11 "chip over 65,536 bytes" and
-- Q-4's "length not divisible"
pub data LateGround (p : List ℕ) (m : Machine) : ℕ → Type 0 where
  state : sound_of p m ≡ false → LateGround p m 10
  size : chip_length m.regs.page (length m.journal) ≡ false → LateGround p m 11

abbrev pub Ground : Env → Machine → ℕ → Type 0
Ground e m = CallGround e.program (length e.sets < 512) (LateGround e.program m)

-- the value that a run answers which stands at c, with so much budget, n readings and room for outputs: the kind of stop, 4 budget spent, 5 "the step due is a READ with no reading
-- left", 6 "it is an EMIT with the output buffer full"
pub data Kind (p : List ℕ) (budget n room : ℕ) (c : Call) : List ℕ → Type 0 where
  stopped : ¬ (c.machine.regs.stop ≡ 0) → Kind p budget n room c (c.machine.regs.stop ∷ [])
  spent : c.machine.regs.stop ≡ 0 → budget ≤ c.steps → Kind p budget n room c (4 ∷ [])
  no_reading : c.machine.regs.stop ≡ 0 → c.steps < budget → due_opcode_of p c.machine ≡ 0x07 → c.taken ≡ n → Kind p budget n room c (5 ∷ [])
  buffer_full : c.machine.regs.stop ≡ 0 → c.steps < budget → due_opcode_of p c.machine ≡ 0x08 → length c.given ≡ room → Kind p budget n room c (6 ∷ [])

-- what a call promises of its outcome: it is the defined one, and in 01's terms the answer is the one that the grounds allow, in rising order
pub record CallIs (e : Env) (ρ : List ℤ) (budget : ℕ) (m : Machine) (outs : List ℤ) (o : Outcome) : Type 0 where
  pub is : o ≡ call_of e ρ budget m outs
  pub ruled : Allowed (Ground e m) (Kind e.program budget (length ρ) (length outs) (run_of e ρ (length outs) budget (started m)).call) (answer_of o.ended)
