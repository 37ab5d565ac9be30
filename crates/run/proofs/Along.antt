-- The inner loop goes along a run: each of its steps is the run's next step, after no exit, and it keeps a good machine good.
-- Assumes nothing.
use mathlib.Core.Path.{◌≡◌, refl, sym, ◌∙◌, ap, subst}
use mathlib.Core.Bool.{false, ◌&&◌}
use mathlib.Core.List.{List, [], ◌++◌, append-nil}
use mathlib.Core.Logic.{◌≢◌}
use Rattle.std.proofs.Common.{None}
use Prim.Native.Nat.{ℕ, suc, ◌+◌, ◌-◌, ◌≤◌, ◌<◌}
use native.Mathlib.Omega.{arith}
use lib.Dec.{eqb}
use lib.IntN.{ℤ, pos}
use lib.ListN.{length, get_or, set, take}
use lib.Seq.{get_or-drop, take-suc-set, length-take-le}
use borrow.Author.Tests.{ne_eqb}
use Rattle.word.specs.Word.{val, bits_of}
use Rattle.instruction.specs.Bytes.{byte, length_of, instruction_at_of}
use Rattle.execution.specs.Effects as effects
use Rattle.execution.specs.Effects.{Effect, effect_of, target, readings_after, outputs_after, stop_after, cells_after, cells_in, next_of}
use Rattle.execution.specs.Plain.{plain_of}
use Rattle.execution.proofs.Laws.{Quiet, quiet_on, quiet_goes, quiet_writes, plain_quiet, plain-some}
use Rattle.run.specs.declared.quiet.Flow.{Flow}
use Rattle.step.specs.State.{Env, Machine, machine_of}
use Rattle.step.specs.Step.{effect_at, is_saves, exclude_after, marks_after, performed, executed_of, step_of, due_opcode_of, given_by, taken_by, given_of, taken_of}
use Rattle.run.specs.Run.{Call, exit_before_of, stepped, run_of}
use Rattle.step.specs.Ready.{Ready, Good}
use Rattle.run.specs.Quiet.{flowed, Base, regs_at, call_in, Idle, Along}
use Rattle.step.proofs.Keeping.{good-step}

-- ---- a run and its next step
pub run_step : (e : Env) (ρ : List ℤ) (room left : ℕ) (c : Call) → exit_before_of e.program (suc left) (length ρ) room c ≡ None
    → run_of e ρ room (suc left) c ≡ run_of e ρ room left (stepped e ρ c)
unfolding run_of
run_step e ρ room left c h = rw h

-- there is no exit, while budget is left, where the machine is not stopped and a READ has a reading, an EMIT a place
open-before : (p : List ℕ) (left n room : ℕ) (c : Call) {k : ℕ} → c.machine.regs.stop ≡ 0 → due_opcode_of p c.machine ≡ k
    → (eqb k 7 && eqb c.taken n) ≡ false → (eqb k 8 && eqb (length c.given) room) ≡ false → exit_before_of p (suc left) n room c ≡ None
unfolding exit_before_of
open-before p left n room c s d t g = rw (ne_eqb (suc left) 0 (λ z. omega arith), d, t, g, s)

-- ---- a step that executes an instruction with the effect f
due-executed : (p : List ℕ) (m : Machine) → m.regs.erase ≡ 0 → m.regs.saving ≡ 0 → due_opcode_of p m ≡ byte p m.regs.pc
unfolding due_opcode_of
due-executed p m ne ns = rw (ne, ns)

module _ (e : Env) (v : ℤ) (m : Machine) (f : Effect) (ne : m.regs.erase ≡ 0) (ns : m.regs.saving ≡ 0) (h : effect_at e.program v m ≡ f) where
  step-executed : is_saves f ≡ false → step_of e v m ≡ performed e f m
  unfolding step_of executed_of
  step-executed s = rw (h, s, ne, ns)

  given-executed : given_of e.program v m ≡ given_by f
  unfolding given_of
  given-executed = rw (h, ne, ns)

  taken-executed : taken_of e.program v m ≡ taken_by f
  unfolding taken_of
  taken-executed = rw (h, ne, ns)

-- ---- a step of the inner loop
call_same : {c d : Call} → c.machine ≡ d.machine → c.steps ≡ d.steps → c.taken ≡ d.taken → c.given ≡ d.given → c ≡ d
call_same m s t g = rw (m, s, t, g)

-- what an effect leaves of the registers, the cells and the marks
record Leaves (b : Base) (f f' : Flow) (xs xs' : List ℕ) (g : Effect) : Type 0 where
  saves : is_saves g ≡ false
  place : target g f.pc (next_of b.env.program f.pc) ≡ f'.pc
  exclude : exclude_after g f.pc b.regs.exclude ≡ b.regs.exclude
  readings : readings_after g (b.regs.readings + f.taken) ≡ b.regs.readings + f'.taken
  outputs : outputs_after g (b.regs.outputs + f.written) ≡ b.regs.outputs + f'.written
  stop : stop_after g ≡ b.regs.stop
  cells : cells_after g xs ≡ xs'
  marks : marks_after b.env g f.pc b.marks ≡ b.marks
  steps : f'.steps ≡ f.steps + 1
  taken : f'.taken ≡ f.taken + taken_by g

module _ (b : Base) (f f' : Flow) (xs xs' : List ℕ) (g : Effect) (l : Leaves b f f' xs xs' g) where
  performed-is : performed b.env g (machine_of (regs_at b.regs f) xs b.marks b.journal) ≡ machine_of (regs_at b.regs f') xs' b.marks b.journal
  unfolding performed
  performed-is = rw (l.place, l.exclude, l.readings, l.outputs, l.stop, l.cells, l.marks)

  stepped-is : (first : ℕ) (outs outs' : List ℤ) → b.regs.erase ≡ 0 → b.regs.saving ≡ 0
      → effect_at b.env.program (get_or b.readings (b.taken + f.taken) (pos 0)) (machine_of (regs_at b.regs f) xs b.marks b.journal) ≡ g
      → take (first + f.written) outs ++ given_by g ≡ take (first + f'.written) outs'
      → stepped b.env b.readings (call_in b first f xs outs) ≡ call_in b first f' xs' outs'
  unfolding stepped
  stepped-is first outs outs' ne ns h o =
      let v = get_or b.readings (b.taken + f.taken) (pos 0) in
      let m = machine_of (regs_at b.regs f) xs b.marks b.journal in
      call_same
      (step-executed b.env v m g ne ns h l.saves ∙ performed-is)
      (omega (arith, l.steps))
      (ap (λ n. b.taken + f.taken + n) (taken-executed b.env v m g ne ns h) ∙ omega (arith, l.taken))
      (ap (λ ys. take (first + f.written) outs ++ ys) (given-executed b.env v m g ne ns h) ∙ o)

-- ---- along a run
pub along-refl : {b : Base} {p : List ℕ} {first left : ℕ} {f : Flow} {xs : List ℕ} {outs : List ℤ} → Along b p first left f xs outs f xs outs
along-refl = record { same = refl; good = λ g. g }

pub along-trans : {b : Base} {p : List ℕ} {first left : ℕ} {f g h : Flow} {xs ys zs : List ℕ} {outs outs' outs'' : List ℤ}
    → Along b p first left f xs outs g ys outs' → Along b p first left g ys outs' h zs outs'' → Along b p first left f xs outs h zs outs''
along-trans r s = record { same = s.same ∙ r.same; good = λ g. s.good (r.good g) }

-- one step that is the run's
pub along-step : {b : Base} {table : List ℕ} {first left : ℕ} {f f' : Flow} {xs xs' : List ℕ} {outs outs' : List ℤ} → Ready b.env table → b.regs.stop ≡ 0
    → f.steps < left → f'.steps ≡ f.steps + 1
    → ((k : ℕ) → exit_before_of b.env.program (suc k) (length b.readings) b.room (call_in b first f xs outs) ≡ None)
    → stepped b.env b.readings (call_in b first f xs outs) ≡ call_in b first f' xs' outs'
    → Along b b.env.program first left f xs outs f' xs' outs'
unfolding stepped
along-step {b = b} {first = first} {left = left} {f = f} {f' = f'} {xs = xs} {outs = outs} r s l n x e =
    let k : left - f.steps ≡ suc (left - f'.steps) = omega arith in
    record {
      same = sym (
          ap (λ j. run_of b.env b.readings b.room j (call_in b first f xs outs)) k
          ∙ run_step b.env b.readings b.room (left - f'.steps) (call_in b first f xs outs) (x (left - f'.steps))
          ∙ ap (run_of b.env b.readings b.room (left - f'.steps)) e);
      good = λ g. subst (Good b.env.program) (ap (λ (c : Call). c.machine) e) (good-step (get_or b.readings (b.taken + f.taken) (pos 0)) r g s);
    }

-- ---- the three kinds of step

-- an effect that touches the cells and the place alone
quiet-rest : {g : Effect} → Quiet g → (e : Env) (o x : ℕ) (ms : List ℕ)
    → (is_saves g ≡ false) × (exclude_after g o x ≡ x) × (marks_after e g o ms ≡ ms) × (taken_by g ≡ 0) × (given_by g ≡ [])
quiet-rest quiet_on e o x ms = (refl, refl, refl, refl, refl)
quiet-rest quiet_goes e o x ms = (refl, refl, refl, refl, refl)
quiet-rest quiet_writes e o x ms = (refl, refl, refl, refl, refl)

-- READ and EMIT where the count is not full
take-effect : (p : List ℕ) (v : ℤ) (m : Machine) → byte p m.regs.pc ≡ 7 → m.regs.readings < 4294967295
    → effect_at p v m ≡ effects.takes (byte p (m.regs.pc + 1)) (bits_of v)
unfolding effect_at instruction_at_of effect_of
take-effect p v m h l = rw (h, ne_eqb m.regs.readings 4294967295 (λ z. omega arith))

give-effect : (p : List ℕ) (v : ℤ) (m : Machine) → byte p m.regs.pc ≡ 8 → m.regs.outputs < 4294967295
    → effect_at p v m ≡ effects.gives (val (cells_in m.cells (byte p (m.regs.pc + 1))))
unfolding effect_at instruction_at_of effect_of
give-effect p v m h l = rw (h, ne_eqb m.regs.outputs 4294967295 (λ z. omega arith))

-- the loop's place, cells and outputs, at a base that has nothing to stop, erase or store
module _ {b : Base} {readings : List ℤ} {first takes gives : ℕ} (i : Idle b b.env.program readings first takes gives)
    (left : ℕ) (f : Flow) (xs : List ℕ) (outs : List ℤ) (l : f.steps < left) where
  -- no exit comes before it, if a READ has a reading and an EMIT a place
  none_before : (eqb (byte b.env.program f.pc) 7 && eqb (b.taken + f.taken) (length b.readings)) ≡ false
      → (eqb (byte b.env.program f.pc) 8 && eqb (length (take (first + f.written) outs)) b.room) ≡ false
      → (k : ℕ) → exit_before_of b.env.program (suc k) (length b.readings) b.room (call_in b first f xs outs) ≡ None
  none_before t g k =
      open-before b.env.program k (length b.readings) b.room (call_in b first f xs outs) i.stop
      (due-executed b.env.program (call_in b first f xs outs).machine i.erase i.saving) t g

  -- one that touches the cells and the place alone
  own-plain : byte b.env.program f.pc ≢ 7 → byte b.env.program f.pc ≢ 8 → 0 < (plain_of b.env.program f.pc xs).place
      → Along b b.env.program first left f xs outs
      (record { pc = (plain_of b.env.program f.pc xs).place; steps = f.steps + 1; taken = f.taken; written = f.written })
      (plain_of b.env.program f.pc xs).cells outs
  unfolding effect_at
  own-plain n7 n8 h =
      let p = b.env.program in
      let v = get_or b.readings (b.taken + f.taken) (pos 0) in
      let g = effect_of (instruction_at_of p f.pc) v (b.regs.readings + f.taken) (b.regs.outputs + f.written) (cells_in xs) in
      let q = plain-some p f.pc xs h v (b.regs.readings + f.taken) (b.regs.outputs + f.written) in
      let u = plain_quiet p f.pc xs h v (b.regs.readings + f.taken) (b.regs.outputs + f.written) in
      let r = quiet-rest u b.env f.pc b.regs.exclude b.marks in
      let f' : Flow = record { pc = (plain_of p f.pc xs).place; steps = f.steps + 1; taken = f.taken; written = f.written } in
      let w : Leaves b f f' xs (plain_of p f.pc xs).cells g =
      record {
        saves = r.0;
        place = q.0;
        exclude = r.1;
        readings = q.3;
        outputs = q.4;
        stop = q.2 ∙ sym i.stop;
        cells = q.1;
        marks = r.2;
        steps = refl;
        taken = omega (arith, r.3);
      } in
      along-step i.ready i.stop l refl
      (none_before (rw (ne_eqb _ _ n7)) (rw (ne_eqb _ _ n8)))
      (stepped-is b f f' xs (plain_of p f.pc xs).cells g w first outs outs i.erase i.saving refl
      (ap (λ ys. take (first + f.written) outs ++ ys) r.4 ∙ append-nil _))

  -- READ: the loop's own list has the reading
  reading-here : get_or b.readings (b.taken + f.taken) (pos 0) ≡ get_or readings f.taken (pos 0)
  reading-here = sym (get_or-drop b.taken b.readings f.taken (pos 0)) ∙ ap (λ vs. get_or vs f.taken (pos 0)) i.rest

  own-take : byte b.env.program f.pc ≡ 7 → f.taken < takes
      → Along b b.env.program first left f xs outs (flowed f (f.pc + length_of 7) 1 0)
      (set xs (byte b.env.program (f.pc + 1)) (bits_of (get_or readings f.taken (pos 0)))) outs
  own-take h t =
      let p = b.env.program in
      let v = get_or b.readings (b.taken + f.taken) (pos 0) in
      let d = byte p (f.pc + 1) in
      let xs' = set xs d (bits_of (get_or readings f.taken (pos 0))) in
      let w : Leaves b f (flowed f (f.pc + length_of 7) 1 0) xs xs' (effects.takes d (bits_of v)) =
      record {
        saves = refl;
        place = ap (λ k. f.pc + length_of k) h;
        exclude = refl;
        readings = omega arith;
        outputs = omega arith;
        stop = sym i.stop;
        cells = ap (λ z. set xs d (bits_of z)) reading-here;
        marks = refl;
        steps = refl;
        taken = refl;
      } in
      let k : first + f.written ≡ first + (f.written + 0) = omega arith in
      along-step i.ready i.stop l refl
      (none_before (rw (ne_eqb (b.taken + f.taken) (length b.readings) (λ z. omega (arith, i.lent)), h)) (rw h))
      (stepped-is b f (flowed f (f.pc + length_of 7) 1 0) xs xs' (effects.takes d (bits_of v)) w first outs outs i.erase i.saving
      (take-effect p v (machine_of (regs_at b.regs f) xs b.marks b.journal) h (omega (arith, i.readings_fit)))
      (append-nil _ ∙ ap (λ n. take n outs) k))

  -- EMIT: its place is the next of the loop's
  own-give : byte b.env.program f.pc ≡ 8 → f.written < gives → first + gives ≤ length outs
      → Along b b.env.program first left f xs outs (flowed f (f.pc + length_of 8) 0 1) xs
      (set outs (first + f.written) (val (cells_in xs (byte b.env.program (f.pc + 1)))))
  own-give h t n =
      let p = b.env.program in
      let v = get_or b.readings (b.taken + f.taken) (pos 0) in
      let z = val (cells_in xs (byte p (f.pc + 1))) in
      let w : Leaves b f (flowed f (f.pc + length_of 8) 0 1) xs xs (effects.gives z) =
      record {
        saves = refl;
        place = ap (λ k. f.pc + length_of k) h;
        exclude = refl;
        readings = omega arith;
        outputs = omega arith;
        stop = sym i.stop;
        cells = refl;
        marks = refl;
        steps = refl;
        taken = refl;
      } in
      let k : suc (first + f.written) ≡ first + (f.written + 1) = omega arith in
      let e : length (take (first + f.written) outs) ≡ first + f.written = length-take-le (first + f.written) outs (omega arith) in
      along-step i.ready i.stop l refl
      (none_before (rw h) (rw (ne_eqb (length (take (first + f.written) outs)) b.room (λ y. omega (arith, i.room_fits)), h)))
      (stepped-is b f (flowed f (f.pc + length_of 8) 0 1) xs xs (effects.gives z) w first outs (set outs (first + f.written) z) i.erase i.saving
      (give-effect p v (machine_of (regs_at b.regs f) xs b.marks b.journal) h (omega (arith, i.outputs_fit)))
      (sym (take-suc-set outs (first + f.written) z (omega arith)) ∙ ap (λ j. take j (set outs (first + f.written) z)) k))

-- the same of a program known to be the base's
module _ {b : Base} {p : List ℕ} {readings : List ℤ} {first takes gives : ℕ} (i : Idle b p readings first takes gives)
    (left : ℕ) (f : Flow) (xs : List ℕ) (outs : List ℤ) (l : f.steps < left) where
  pub plain_along : byte p f.pc ≢ 7 → byte p f.pc ≢ 8 → 0 < (plain_of p f.pc xs).place
      → Along b p first left f xs outs (record { pc = (plain_of p f.pc xs).place; steps = f.steps + 1; taken = f.taken; written = f.written })
      (plain_of p f.pc xs).cells outs
  plain_along n7 n8 h =
      subst (λ q. Idle b q readings first takes gives → byte q f.pc ≢ 7 → byte q f.pc ≢ 8 → 0 < (plain_of q f.pc xs).place
      → Along b q first left f xs outs (record { pc = (plain_of q f.pc xs).place; steps = f.steps + 1; taken = f.taken; written = f.written })
      (plain_of q f.pc xs).cells outs) i.program (λ j m7 m8 k. own-plain j left f xs outs l m7 m8 k) i n7 n8 h

  pub take-along : byte p f.pc ≡ 7 → f.taken < takes
      → Along b p first left f xs outs (flowed f (f.pc + length_of 7) 1 0) (set xs (byte p (f.pc + 1)) (bits_of (get_or readings f.taken (pos 0)))) outs
  take-along h t =
      subst (λ q. Idle b q readings first takes gives → byte q f.pc ≡ 7
      → Along b q first left f xs outs (flowed f (f.pc + length_of 7) 1 0) (set xs (byte q (f.pc + 1)) (bits_of (get_or readings f.taken (pos 0)))) outs)
      i.program (λ j k. own-take j left f xs outs l k t) i h

  pub give-along : byte p f.pc ≡ 8 → f.written < gives → first + gives ≤ length outs
      → Along b p first left f xs outs (flowed f (f.pc + length_of 8) 0 1) xs (set outs (first + f.written) (val (cells_in xs (byte p (f.pc + 1)))))
  give-along h t n =
      subst (λ q. Idle b q readings first takes gives → byte q f.pc ≡ 8
      → Along b q first left f xs outs (flowed f (f.pc + length_of 8) 0 1) xs (set outs (first + f.written) (val (cells_in xs (byte q (f.pc + 1))))))
      i.program (λ j k. own-give j left f xs outs l k t n) i h
