-- Laws of a run: when it makes a step, and that runs over a part of the budget, of the readings or of the output places, each continued on what the one before
-- left, are the one run over the whole.
-- Assumes nothing.
use mathlib.Core.Path.{◌≡◌, refl, sym, ◌∙◌, ap}
use mathlib.Core.Bool.{Bool, true, false, cond, ◌&&◌}
use mathlib.Core.List.{List, [], ◌++◌, append-nil, append_assoc}
use Rattle.std.proofs.Common.{None, Some}
use Prim.Native.Nat.{ℕ, zero, suc, ◌+◌, ◌-◌, ◌≤◌, ◌<◌}
use native.Mathlib.Omega.{arith}
use borrow.Author.Tests.{eqb-true, eqb-false, eq-eqb, ne_eqb}
use lib.Dec.{eqb, ltb}
use lib.IntN.{ℤ, pos}
use lib.ListN.{length, get_or, take, drop, length-append, length-drop}
use lib.Seq.{get_or-take, get_or-drop, take-length, length-take-le}
use Rattle.instruction.specs.Bytes.{byte, instruction_from, instruction_at_of}
use Rattle.instruction.specs.declared.Instruction.{Instruction}
use Rattle.execution.specs.Effects.{Effect, stops, on, goes, writes, takes, gives, sets, saves, effect_of}
use Rattle.program.proofs.Tests.{bool_cases, clash, and_both}
use Rattle.run.specs.Run.{Ended, Refused, Stopped, Spent, NoReading, BufferFull}
use Rattle.step.specs.State.{Env, Machine}
use Rattle.step.specs.Step.{step_of, executed_of, effect_at, due_opcode_of, given_by, taken_by, given_of, taken_of}
use Rattle.step.specs.Ready.{Ready, Good}
use Rattle.run.specs.Run.{Call, Finish, exit_before_of, stepped, run_of, started, refusal_of, call_of}
use Rattle.step.proofs.Keeping.{SameKind, step-kind, good-step}

-- ---- the four exits

-- an exit stands before the next step: the ground of each
pub data Exits (p : List ℕ) (left n room : ℕ) (c : Call) : Ended → Type 0 where
  stopped : (c.machine.regs.stop ≡ 0 → ⊥) → Exits p left n room c (Stopped c.machine.regs.stop)
  spent : c.machine.regs.stop ≡ 0 → left ≡ 0 → Exits p left n room c Spent
  no_reading : c.machine.regs.stop ≡ 0 → 0 < left → due_opcode_of p c.machine ≡ 0x07 → c.taken ≡ n → Exits p left n room c NoReading
  buffer_full : c.machine.regs.stop ≡ 0 → 0 < left → due_opcode_of p c.machine ≡ 0x08 → length c.given ≡ room → Exits p left n room c BufferFull

-- none stands there
pub record Goes (p : List ℕ) (left n room : ℕ) (c : Call) : Type 0 where
  pub runs : c.machine.regs.stop ≡ 0
  pub some_left : 0 < left
  pub reading : due_opcode_of p c.machine ≡ 0x07 → c.taken ≡ n → ⊥
  pub place : due_opcode_of p c.machine ≡ 0x08 → length c.given ≡ room → ⊥

module _ {p : List ℕ} {left n room : ℕ} {c : Call} where
  -- the exit before the step is the one that stands there
  pub exit-is : {x : Ended} → Exits p left n room c x → exit_before_of p left n room c ≡ Some x
  unfolding exit_before_of
  exit-is (stopped h) = rw (ne_eqb c.machine.regs.stop 0 h)
  exit-is (spent h l) = rw (eq-eqb c.machine.regs.stop 0 h, l)
  exit-is (no_reading h l d t) =
      rw (eq-eqb c.machine.regs.stop 0 h, ne_eqb left 0 (λ z. omega arith), d, eq-eqb c.taken n t)
  exit-is (buffer_full h l d t) =
      rw (eq-eqb c.machine.regs.stop 0 h, ne_eqb left 0 (λ z. omega arith), d, eq-eqb (length c.given) room t)

  -- there is none where none stands
  pub exit-none : Goes p left n room c → exit_before_of p left n room c ≡ None
  unfolding exit_before_of
  exit-none g =
      let s = eq-eqb c.machine.regs.stop 0 g.runs in
      let a = ne_eqb left 0 (λ z. omega (arith, g.some_left)) in
      bool_cases (eqb (due_opcode_of p c.machine) 7)
      (λ d. let e = eqb-true (due_opcode_of p c.machine) 7 d in rw (s, a, e, ne_eqb c.taken n (g.reading e)))
      (λ d. bool_cases (eqb (due_opcode_of p c.machine) 8)
      (λ f. let e = eqb-true (due_opcode_of p c.machine) 8 f in rw (s, a, e, ne_eqb (length c.given) room (g.place e)))
      (λ f. rw (s, a, d, f)))

  -- and one of these is so
  pub exit-cases : {C : Type 0} → (Goes p left n room c → C) → ((x : Ended) → Exits p left n room c x → C) → C
  exit-cases go out =
      bool_cases (eqb c.machine.regs.stop 0)
      (λ s. let h = eqb-true c.machine.regs.stop 0 s in
      bool_cases (eqb left 0)
      (λ a. out _ (spent h (eqb-true _ _ a)))
      (λ a. let l : 0 < left = omega (arith, eqb-false left 0 a) in
      bool_cases (eqb (due_opcode_of p c.machine) 7 && eqb c.taken n)
      (λ r.
      let b = and_both (eqb (due_opcode_of p c.machine) 7) (eqb c.taken n) r in
      out _ (no_reading h l (eqb-true _ _ b.0) (eqb-true _ _ b.1)))
      (λ r. bool_cases (eqb (due_opcode_of p c.machine) 8 && eqb (length c.given) room)
      (λ w.
      let b = and_both (eqb (due_opcode_of p c.machine) 8) (eqb (length c.given) room) w in
      out _ (buffer_full h l (eqb-true _ _ b.0) (eqb-true _ _ b.1)))
      (λ w. go (record {
        runs = h;
        some_left = l;
        reading = λ d t. clash (eqb (due_opcode_of p c.machine) 7 && eqb c.taken n) (rw (d, eq-eqb c.taken n t)) r;
        place = λ d t. clash (eqb (due_opcode_of p c.machine) 8 && eqb (length c.given) room) (rw (d, eq-eqb (length c.given) room t)) w;
      })))))
      (λ s. out _ (stopped (eqb-false c.machine.regs.stop 0 s)))

-- only one of them is Spent
spent-only : {p : List ℕ} {left n room : ℕ} {c : Call} {x : Ended} → Exits p left n room c x → x ≡ Spent → left ≡ 0
spent-only (stopped h) s = absurd (let z : ◌≡◌ {A = ℕ} 0 1 = cc in omega arith)
spent-only (spent h l) s = l
spent-only (no_reading h l d t) s = absurd (let z : ◌≡◌ {A = ℕ} 0 1 = cc in omega arith)
spent-only (buffer_full h l d t) s = absurd (let z : ◌≡◌ {A = ℕ} 0 1 = cc in omega arith)

-- ---- what a step takes and gives

-- an effect, what it takes and what it gives, by cases on the opcode's tests
pub push-effect : (b : Bool) (i j : Instruction) (v : ℤ) (n m : ℕ) (x : ℕ → ℕ) → effect_of (cond b i j) v n m x ≡ cond b (effect_of i v n m x) (effect_of j v n m x)
push-effect true i j v n m x = refl
push-effect false i j v n m x = refl

push-taken : (b : Bool) (f g : Effect) → taken_by (cond b f g) ≡ cond b (taken_by f) (taken_by g)
push-taken true f g = refl
push-taken false f g = refl

push-given : (b : Bool) (f g : Effect) → given_by (cond b f g) ≡ cond b (given_by f) (given_by g)
push-given true f g = refl
push-given false f g = refl

either : {A : Type 0} (b : Bool) (a : A) → cond b a a ≡ a
either true a = refl
either false a = refl

module _ (k x y z w u : ℕ) (v : ℤ) (n m : ℕ) (xs : ℕ → ℕ) where
  -- what is not READ has no use for the reading, and takes none
  steady : (v₂ : ℤ) → eqb k 7 ≡ false → effect_of (instruction_from k x y z w u) v n m xs ≡ effect_of (instruction_from k x y z w u) v₂ n m xs
  unfolding effect_of
  steady v₂ h = simp (push-effect, h)

  takes_none : eqb k 7 ≡ false → taken_by (effect_of (instruction_from k x y z w u) v n m xs) ≡ 0
  unfolding effect_of
  takes_none h = simp (push-effect, push-taken, h, either)

  -- what is not EMIT gives nothing
  gives_none : eqb k 8 ≡ false → given_by (effect_of (instruction_from k x y z w u) v n m xs) ≡ []
  unfolding effect_of
  gives_none h = simp (push-effect, push-given, h, either)

-- none takes or gives more than one
taken_most : (f : Effect) → taken_by f ≤ 1
taken_most (stops k) = omega arith
taken_most on = omega arith
taken_most (goes t) = omega arith
taken_most (writes d v) = omega arith
taken_most (takes d v) = omega arith
taken_most (gives v) = omega arith
taken_most sets = omega arith
taken_most saves = omega arith

given_most : (f : Effect) → length (given_by f) ≤ 1
given_most (stops k) = omega arith
given_most on = omega arith
given_most (goes t) = omega arith
given_most (writes d v) = omega arith
given_most (takes d v) = omega arith
given_most (gives v) = omega arith
given_most sets = omega arith
given_most saves = omega arith

-- what is due is a byte, or the instruction at the place
due-cases : {C : Type 0} (p : List ℕ) (m : Machine) → (ltb 0 m.regs.erase ≡ true → C) → (ltb 0 m.regs.erase ≡ false → ltb 0 m.regs.saving ≡ true → C)
    → (ltb 0 m.regs.erase ≡ false → ltb 0 m.regs.saving ≡ false → due_opcode_of p m ≡ byte p m.regs.pc → C) → C
unfolding due_opcode_of
due-cases p m f g h = bool_cases (ltb 0 m.regs.erase) f (λ a. bool_cases (ltb 0 m.regs.saving) (g a) (λ b. h a b (rw (a, b))))

module _ (p : List ℕ) (m : Machine) (v : ℤ) where
  -- a step takes and gives at most one, and none where no READ and where no EMIT is due
  pub taken-one : taken_of p v m ≤ 1
  unfolding taken_of
  taken-one = due-cases p m (λ a. rw a (omega arith)) (λ a b. rw (a, b) (omega arith)) (λ a b d. rw (a, b) (taken_most (effect_at p v m)))

  pub given-one : length (given_of p v m) ≤ 1
  unfolding given_of
  given-one = due-cases p m (λ a. rw a (omega arith)) (λ a b. rw (a, b) (omega arith)) (λ a b d. rw (a, b) (given_most (effect_at p v m)))

  pub taken_none : (due_opcode_of p m ≡ 7 → ⊥) → taken_of p v m ≡ 0
  unfolding taken_of effect_at instruction_at_of
  taken_none h =
      due-cases p m (λ a. rw a) (λ a b. rw (a, b))
      (λ a b d. rw (a, b) (takes_none (byte p m.regs.pc) _ _ _ _ _ v _ _ _ (ne_eqb _ _ (λ q. h (d ∙ q)))))

  pub given-none : (due_opcode_of p m ≡ 8 → ⊥) → given_of p v m ≡ []
  unfolding given_of effect_at instruction_at_of
  given-none h =
      due-cases p m (λ a. rw a) (λ a b. rw (a, b))
      (λ a b d. rw (a, b) (gives_none (byte p m.regs.pc) _ _ _ _ _ v _ _ _ (ne_eqb _ _ (λ q. h (d ∙ q)))))

  effect-free : (v₂ : ℤ) → (byte p m.regs.pc ≡ 7 → ⊥) → effect_at p v m ≡ effect_at p v₂ m
  unfolding effect_at instruction_at_of
  effect-free v₂ h = steady (byte p m.regs.pc) _ _ _ _ _ v _ _ _ v₂ (ne_eqb _ _ h)

-- the step with the reading v
abbrev with_reading : Env → ℤ → Call → Call
with_reading e v c =
    record {
      machine = step_of e v c.machine;
      steps = suc c.steps;
      taken = c.taken + taken_of e.program v c.machine;
      given = c.given ++ given_of e.program v c.machine;
    }

-- only where a READ is due does it matter which
reading-free : (e : Env) (v v₂ : ℤ) (c : Call) → (due_opcode_of e.program c.machine ≡ 7 → ⊥) → with_reading e v c ≡ with_reading e v₂ c
unfolding step_of executed_of taken_of given_of
reading-free e v v₂ c h =
    due-cases e.program c.machine (λ a. rw a) (λ a b. rw (a, b))
    (λ a b d. let f = effect-free e.program c.machine v v₂ (λ q. h (d ∙ q)) in rw (a, b, f))

-- ---- one step of a run

module _ (e : Env) (ρ : List ℤ) (room : ℕ) where
  -- where an exit stands the run ends
  pub run_ends : (left : ℕ) (c : Call) {x : Ended} → Exits e.program left (length ρ) room c x → run_of e ρ room left c ≡ record { ended = x; call = c }
  unfolding run_of
  run_ends zero c h = rw (exit-is h)
  run_ends (suc left) c h = rw (exit-is h)

  -- where none does it makes a step
  pub makes-step : (left : ℕ) (c : Call) → exit_before_of e.program (suc left) (length ρ) room c ≡ None
      → run_of e ρ room (suc left) c ≡ run_of e ρ room left (stepped e ρ c)
  unfolding run_of
  makes-step left c h = rw h

  -- what holds at an exit and is kept by a step holds of every run
  pub run-ind : (Q : ℕ → Call → Type 0) → ((left : ℕ) (c : Call) (x : Ended) → Exits e.program left (length ρ) room c x → Q left c)
      → ((left : ℕ) (c : Call) → Goes e.program (suc left) (length ρ) room c → Q left (stepped e ρ c) → Q (suc left) c) → (left : ℕ) (c : Call) → Q left c
  run-ind Q end turn zero c = exit-cases (λ g. absurd (omega (arith, g.some_left))) (end zero c)
  run-ind Q end turn (suc left) c = exit-cases (λ g. turn left c g (run-ind Q end turn left (stepped e ρ c))) (end (suc left) c)

  -- the steps that it makes are within its budget
  pub steps-within : (left : ℕ) (c : Call) → (c.steps ≤ (run_of e ρ room left c).call.steps) × ((run_of e ρ room left c).call.steps ≤ c.steps + left)
  unfolding stepped
  steps-within =
      run-ind (λ left c. (c.steps ≤ (run_of e ρ room left c).call.steps) × ((run_of e ρ room left c).call.steps ≤ c.steps + left))
      (λ left c x h. rw (run_ends left c h) (omega arith, omega arith))
      (λ left c g h. rw (makes-step left c (exit-none g)) (omega (arith, h.0), omega (arith, h.1)))

  -- before the next step stands the exit that it answers, with what is left of its budget
  pub run-exit : (left : ℕ) (c : Call)
      → Exits e.program (left - ((run_of e ρ room left c).call.steps - c.steps)) (length ρ) room (run_of e ρ room left c).call (run_of e ρ room left c).ended
  unfolding stepped
  run-exit =
      run-ind
      (λ left c. Exits e.program (left - ((run_of e ρ room left c).call.steps - c.steps)) (length ρ) room (run_of e ρ room left c).call (run_of e ρ room left c).ended)
      (λ left c x h. let z : left - (c.steps - c.steps) ≡ left = omega arith in rw (run_ends left c h, z) h)
      (λ left c g h.
      let last = (run_of e ρ room left (stepped e ρ c)).call in
      let z : suc left - (last.steps - c.steps) ≡ left - (last.steps - suc c.steps) = omega (arith, (steps-within left (stepped e ρ c)).0) in
      rw (makes-step left c (exit-none g), z) h)

  -- a sound state stays sound
  pub good-run : {table : List ℕ} → Ready e table → (left : ℕ) (c : Call) → Good e.program c.machine → Good e.program (run_of e ρ room left c).call.machine
  unfolding stepped
  good-run r =
      run-ind (λ left c. Good e.program c.machine → Good e.program (run_of e ρ room left c).call.machine)
      (λ left c x h k. rw (run_ends left c h) k)
      (λ left c g h k. rw (makes-step left c (exit-none g)) (h (good-step (get_or ρ c.taken (pos 0)) r k g.runs)))

  -- it keeps to the kind of chip
  pub kind-run : (left : ℕ) (c : Call) → SameKind (run_of e ρ room left c).call.machine c.machine
  unfolding stepped
  kind-run =
      run-ind (λ left c. SameKind (run_of e ρ room left c).call.machine c.machine)
      (λ left c x h. rw (run_ends left c h) (refl, refl))
      (λ left c g h. let k = step-kind e (get_or ρ c.taken (pos 0)) c.machine in rw (makes-step left c (exit-none g)) (h.0 ∙ k.0, h.1 ∙ k.1))

  -- and all of it where it is spent
  pub spent_all : (left : ℕ) (c : Call) → (run_of e ρ room left c).ended ≡ Spent → (run_of e ρ room left c).call.steps ≡ c.steps + left
  unfolding stepped
  spent_all =
      run-ind (λ left c. (run_of e ρ room left c).ended ≡ Spent → (run_of e ρ room left c).call.steps ≡ c.steps + left)
      (λ left c x h s. rw (run_ends left c h) (omega (arith, spent-only h (rw (run_ends left c h) at s))))
      (λ left c g h s. let n = makes-step left c (exit-none g) in rw n (omega (arith, h (rw n at s))))

-- so does a call
pub kind-call : (e : Env) (ρ : List ℤ) (budget : ℕ) (m : Machine) (outs : List ℤ) → SameKind (call_of e ρ budget m outs).machine m
unfolding call_of
kind-call e ρ budget m outs = bool_cases (eqb (refusal_of e m) 0) (λ b. rw b (kind-run e ρ (length outs) budget (started m))) (λ b. rw b (refl, refl))

-- ---- runs in parts

-- a part is found among the whole: while the run over the part goes on, the run over the whole does the same; K is what is kept on the way
abbrev Follows : Env → (ρ₁ ρ₂ : List ℤ) (room₁ room₂ : ℕ) → (Call → Type 0) → Type 0
Follows e ρ₁ ρ₂ room₁ room₂ K =
    (left : ℕ) (c : Call) → Goes e.program left (length ρ₁) room₁ c → K c
    → Goes e.program left (length ρ₂) room₂ c × (stepped e ρ₁ c ≡ stepped e ρ₂ c) × K (stepped e ρ₁ c)

-- another budget alters nothing while there is some
any_left : {p : List ℕ} {a b n room : ℕ} {c : Call} → Goes p a n room c → Goes p (suc b) n room c
any_left g = record { runs = g.runs; some_left = omega arith; reading = g.reading; place = g.place }

-- nor do more readings and places, where the exit is another
same-exit : {p : List ℕ} {a b n₁ n₂ room₁ room₂ : ℕ} {c : Call} {x : Ended} → Exits p a n₁ room₁ c x → (x ≡ Spent → b ≡ 0) → (x ≡ NoReading → n₁ ≡ n₂)
    → (x ≡ BufferFull → room₁ ≡ room₂) → Exits p (a + b) n₂ room₂ c x
same-exit (stopped h) s r w = stopped h
same-exit (spent h l) s r w = spent h (omega (arith, s refl))
same-exit (no_reading h l d t) s r w = no_reading h (omega arith) d (t ∙ r refl)
same-exit (buffer_full h l d t) s r w = buffer_full h (omega arith) d (t ∙ w refl)

module _ (e : Env) (ρ₁ ρ₂ : List ℤ) (room₁ room₂ : ℕ) (K : Call → Type 0) (follows : Follows e ρ₁ ρ₂ room₁ room₂ K) where
  -- the step that both make
  both-step : (b left : ℕ) (c : Call) → Goes e.program (suc left) (length ρ₁) room₁ c → K c
      → run_of e ρ₂ room₂ (suc left + b) c ≡ run_of e ρ₂ room₂ (left + b) (stepped e ρ₁ c)
  both-step b left c g k =
      let f = follows (suc left) c g k in
      let z : suc left + b ≡ suc (left + b) = omega arith in
      rw z (makes-step e ρ₂ room₂ (left + b) c (exit-none (any_left f.0)) ∙ sym (ap (run_of e ρ₂ room₂ (left + b)) f.1))

  -- what the steps keep the run keeps
  kept : (a : ℕ) (c : Call) → K c → K (run_of e ρ₁ room₁ a c).call
  kept =
      run-ind e ρ₁ room₁ (λ a c. K c → K (run_of e ρ₁ room₁ a c).call)
      (λ a c x h k. rw (run_ends e ρ₁ room₁ a c h) k)
      (λ a c g h k. rw (makes-step e ρ₁ room₁ a c (exit-none g)) (h (follows (suc a) c g k).2))

  -- the part, continued as the whole on what it left with the budget that remains, is the whole
  continued : (b a : ℕ) (c : Call) → K c
      → run_of e ρ₂ room₂ (a + b) c ≡ run_of e ρ₂ room₂ (a + b - ((run_of e ρ₁ room₁ a c).call.steps - c.steps)) (run_of e ρ₁ room₁ a c).call
  unfolding stepped
  continued b =
      run-ind e ρ₁ room₁
      (λ a c. K c → run_of e ρ₂ room₂ (a + b) c ≡ run_of e ρ₂ room₂ (a + b - ((run_of e ρ₁ room₁ a c).call.steps - c.steps)) (run_of e ρ₁ room₁ a c).call)
      (λ a c x h k. let z : a + b - (c.steps - c.steps) ≡ a + b = omega arith in rw (run_ends e ρ₁ room₁ a c h, z))
      (λ a c g h k.
      let s = (steps-within e ρ₁ room₁ a (stepped e ρ₁ c)).0 in
      let last = (run_of e ρ₁ room₁ a (stepped e ρ₁ c)).call in
      let z : a + b - (last.steps - suc c.steps) ≡ suc a + b - (last.steps - c.steps) = omega (arith, s) in
      both-step b a c g k ∙ h (follows (suc a) c g k).2 ∙ rw (makes-step e ρ₁ room₁ a c (exit-none g), z))

  -- where the part answers what the whole would too, it is the whole
  unchanged : (b a : ℕ) (c : Call) → K c → ((run_of e ρ₁ room₁ a c).ended ≡ Spent → b ≡ 0) → ((run_of e ρ₁ room₁ a c).ended ≡ NoReading → length ρ₁ ≡ length ρ₂)
      → ((run_of e ρ₁ room₁ a c).ended ≡ BufferFull → room₁ ≡ room₂) → run_of e ρ₂ room₂ (a + b) c ≡ run_of e ρ₁ room₁ a c
  unchanged b =
      run-ind e ρ₁ room₁
      (λ a c. K c → ((run_of e ρ₁ room₁ a c).ended ≡ Spent → b ≡ 0) → ((run_of e ρ₁ room₁ a c).ended ≡ NoReading → length ρ₁ ≡ length ρ₂)
      → ((run_of e ρ₁ room₁ a c).ended ≡ BufferFull → room₁ ≡ room₂) → run_of e ρ₂ room₂ (a + b) c ≡ run_of e ρ₁ room₁ a c)
      (λ a c x h k s r w.
      let n = run_ends e ρ₁ room₁ a c h in
      rw n (run_ends e ρ₂ room₂ (a + b) c (same-exit h (rw n at s) (rw n at r) (rw n at w))))
      (λ a c g h k s r w.
      let n = makes-step e ρ₁ room₁ a c (exit-none g) in
      rw n (both-step b a c g k ∙ h (follows (suc a) c g k).2 (rw n at s) (rw n at r) (rw n at w)))

-- ---- budgets

module _ (e : Env) (ρ : List ℤ) (room a b : ℕ) (c : Call) where
  -- the run that spent its budget, continued with another, is the run with both
  pub budgets : (run_of e ρ room a c).ended ≡ Spent → run_of e ρ room (a + b) c ≡ run_of e ρ room b (run_of e ρ room a c).call
  budgets h =
      let s = spent_all e ρ room a c h in
      let z : a + b - ((run_of e ρ room a c).call.steps - c.steps) ≡ b = omega (arith, s) in
      rw z at (continued e ρ ρ room room (λ c. Unit) (λ left c g k. (g, refl, tt)) b a c tt)

-- ---- readings in stretches

module _ (e : Env) (ρ : List ℤ) (k room : ℕ) (most : k ≤ length ρ) where
  -- while no READ is due past them, the first k readings serve like all
  first-readings : Follows e (take k ρ) ρ room room (λ c. c.taken ≤ k)
  unfolding stepped
  first-readings left c g t =
      let n : length (take k ρ) ≡ k = length-take-le k ρ most in
      let p = e.program in
      let v = get_or (take k ρ) c.taken (pos 0) in
      bool_cases (eqb (due_opcode_of p c.machine) 7)
      (λ d.
      let f : c.taken ≡ k → ⊥ = λ q. g.reading (eqb-true _ _ d) (q ∙ sym n) in
      let q = get_or-take k ρ c.taken (pos 0) (omega arith) in (
        record { runs = g.runs; some_left = g.some_left; reading = λ d q. omega arith; place = g.place },
        ap (λ v. with_reading e v c) q,
        omega (arith, taken-one p c.machine v),
      ))
      (λ d.
      let f : due_opcode_of p c.machine ≡ 7 → ⊥ = eqb-false _ _ d in (
        record { runs = g.runs; some_left = g.some_left; reading = λ d q. f d; place = g.place },
        reading-free e v (get_or ρ c.taken (pos 0)) c f,
        omega (arith, taken_none p c.machine v f),
      ))

-- ---- output places in stretches

module _ (e : Env) (ρ : List ℤ) (room₁ room₂ : ℕ) (most : room₁ ≤ room₂) where
  -- while no EMIT is due past them, the first places serve like all
  first-places : Follows e ρ ρ room₁ room₂ (λ c. length c.given ≤ room₁)
  unfolding stepped
  first-places left c g l =
      let p = e.program in
      let v = get_or ρ c.taken (pos 0) in
      bool_cases (eqb (due_opcode_of p c.machine) 8)
      (λ d.
      let f : length c.given ≡ room₁ → ⊥ = g.place (eqb-true _ _ d) in (
        record { runs = g.runs; some_left = g.some_left; reading = g.reading; place = λ d q. omega arith },
        refl,
        rw (length-append c.given (given_of p v c.machine)) (omega (arith, given-one p c.machine v)),
      ))
      (λ d.
      let f : due_opcode_of p c.machine ≡ 8 → ⊥ = eqb-false _ _ d in (
        record { runs = g.runs; some_left = g.some_left; reading = g.reading; place = λ d q. f d },
        refl,
        rw (given-none p c.machine v f, append-nil c.given) l,
      ))

-- ---- readings and output places in stretches

module _ (e : Env) (ρ : List ℤ) (k room₁ room₂ : ℕ) (few : k ≤ length ρ) (most : room₁ ≤ room₂) where
  -- the first of the readings and of the places serve like all
  first-both : Follows e (take k ρ) ρ room₁ room₂ (λ c. (c.taken ≤ k) × (length c.given ≤ room₁))
  first-both left c g h =
      let w = first-places e (take k ρ) room₁ room₂ most left c g h.1 in
      let r = first-readings e ρ k room₂ few left c w.0 h.0 in
      (r.0, r.1, (r.2, w.2))

  module _ (a : ℕ) (c : Call) (taken : c.taken ≤ k) (given : length c.given ≤ room₁) where
    -- the run over both, continued with all on what it left, is the run over all
    pub stretch-both : run_of e ρ room₂ a c ≡ run_of e ρ room₂ (a - ((run_of e (take k ρ) room₁ a c).call.steps - c.steps)) (run_of e (take k ρ) room₁ a c).call
    stretch-both =
        let z : a + 0 ≡ a = omega arith in
        rw z at (continued e (take k ρ) ρ room₁ room₂ (λ c. (c.taken ≤ k) × (length c.given ≤ room₁)) first-both 0 a c (taken, given))

    -- and it is that run itself, where it lacks no reading and no place that there is
    pub stretch-both-else : ((run_of e (take k ρ) room₁ a c).ended ≡ NoReading → k ≡ length ρ) → ((run_of e (take k ρ) room₁ a c).ended ≡ BufferFull → room₁ ≡ room₂)
        → run_of e ρ room₂ a c ≡ run_of e (take k ρ) room₁ a c
    stretch-both-else r w =
        let z : a + 0 ≡ a = omega arith in
        rw z at
        (unchanged e (take k ρ) ρ room₁ room₂ (λ c. (c.taken ≤ k) × (length c.given ≤ room₁)) first-both 0 a c (taken, given) (λ s. refl)
        (λ x. length-take-le k ρ few ∙ r x) w)

-- ---- a run takes no more readings than there are, and gives no more outputs than there are places

module _ (e : Env) (ρ : List ℤ) (room a : ℕ) (c : Call) where
  pub taken-within : c.taken ≤ length ρ → (run_of e ρ room a c).call.taken ≤ length ρ
  taken-within h =
      let k = length ρ in
      rw (take-length ρ) at (kept e (take k ρ) ρ room room (λ c. c.taken ≤ k) (first-readings e ρ k room (omega arith)) a c h)

  pub given-within : length c.given ≤ room → length (run_of e ρ room a c).call.given ≤ room
  given-within h = kept e ρ ρ room room (λ c. length c.given ≤ room) (first-places e ρ room room (omega arith)) a c h

-- ---- a call begins afresh

-- what a later run leaves, counted from where an earlier one left off
abbrev pub onto : Call → Call → Call
onto c d = record { machine = d.machine; steps = c.steps + d.steps; taken = c.taken + d.taken; given = c.given ++ d.given }

abbrev pub finish_onto : Call → Finish → Finish
finish_onto c r = record { ended = r.ended; call = onto c r.call }

-- a call stands where it does with nothing more
pub onto-started : (c : Call) → c ≡ onto c (started c.machine)
onto-started c =
    let s : c.steps ≡ c.steps + 0 = omega arith in
    let t : c.taken ≡ c.taken + 0 = omega arith in
    let g = sym (append-nil c.given) in
    λ i. record { machine = c.machine; steps = s i; taken = t i; given = g i }

reading-onto : (e : Env) (v : ℤ) (c d : Call) → with_reading e v (onto c d) ≡ onto c (with_reading e v d)
reading-onto e v c d =
    let n = taken_of e.program v d.machine in
    let s : suc (c.steps + d.steps) ≡ c.steps + suc d.steps = omega arith in
    let t : c.taken + d.taken + n ≡ c.taken + (d.taken + n) = omega arith in
    let g = append_assoc c.given d.given (given_of e.program v d.machine) in
    λ i. record { machine = step_of e v d.machine; steps = s i; taken = t i; given = g i }

module _ (e : Env) (ρ : List ℤ) (room : ℕ) (c : Call) (taken : c.taken ≤ length ρ) (given : length c.given ≤ room) where
  -- the readings and the places that are left
  abbrev rest : List ℤ
  rest = drop c.taken ρ

  abbrev places : ℕ
  places = room - length c.given

  goes-onto : {left : ℕ} {d : Call} → Goes e.program left (length rest) places d → Goes e.program left (length ρ) room (onto c d)
  goes-onto {left} {d} g =
      record {
        runs = g.runs;
        some_left = g.some_left;
        reading = λ o t. g.reading o (omega (arith, length-drop c.taken ρ, t));
        place = λ o t. g.place o (omega (arith, length-append c.given d.given, t));
      }

  exit-onto : {left : ℕ} {d : Call} {x : Ended} → Exits e.program left (length rest) places d x → Exits e.program left (length ρ) room (onto c d) x
  exit-onto (stopped h) = stopped h
  exit-onto (spent h l) = spent h l
  exit-onto (no_reading h l o t) = no_reading h l o (omega (arith, length-drop c.taken ρ, t))
  exit-onto {left} {d} (buffer_full h l o t) = buffer_full h l o (omega (arith, length-append c.given d.given, t))

  step-onto : (d : Call) → stepped e ρ (onto c d) ≡ onto c (stepped e rest d)
  unfolding stepped
  step-onto d = ap (λ v. with_reading e v (onto c d)) (sym (get_or-drop c.taken ρ d.taken (pos 0))) ∙ reading-onto e _ c d

  -- a run from there on is the run over what is left, counted from there
  pub run-onto : (a : ℕ) (d : Call) → run_of e ρ room a (onto c d) ≡ finish_onto c (run_of e (drop c.taken ρ) (room - length c.given) a d)
  run-onto =
      run-ind e rest places (λ a d. run_of e ρ room a (onto c d) ≡ finish_onto c (run_of e rest places a d))
      (λ a d x h. rw (run_ends e rest places a d h) (run_ends e ρ room a (onto c d) (exit-onto h)))
      (λ a d g h. rw (makes-step e rest places a d (exit-none g))
      (makes-step e ρ room a (onto c d) (exit-none (goes-onto g)) ∙ ap (run_of e ρ room a) (step-onto d) ∙ h))

  -- a run that goes on is a run begun afresh with what is left of the readings and of the places, counted from where it stood
  pub begun-afresh : (a : ℕ) → run_of e ρ room a c ≡ finish_onto c (run_of e (drop c.taken ρ) (room - length c.given) a (started c.machine))
  begun-afresh a = ap (run_of e ρ room a) (onto-started c) ∙ run-onto a (started c.machine)

-- no run ends refused
pub never-refused : {p : List ℕ} {left n room : ℕ} {c : Call} {x : Ended} {k : ℕ} → Exits p left n room c x → x ≡ Refused k → ⊥
never-refused (stopped h) s = absurd (let z : ◌≡◌ {A = ℕ} 0 1 = cc in omega arith)
never-refused (spent h l) s = absurd (let z : ◌≡◌ {A = ℕ} 0 1 = cc in omega arith)
never-refused (no_reading h l d t) s = absurd (let z : ◌≡◌ {A = ℕ} 0 1 = cc in omega arith)
never-refused (buffer_full h l d t) s = absurd (let z : ◌≡◌ {A = ℕ} 0 1 = cc in omega arith)
