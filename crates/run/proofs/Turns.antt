-- One step of a run: the opcode due and the exit before it, how many readings it takes and outputs it gives, and what `turn` leaves.
-- Assumes nothing.
use mathlib.Core.Path.{◌≡◌, refl, sym, ◌∙◌, ap}
use mathlib.Core.Bool.{Bool, true, false, cond, not, ◌&&◌}
use mathlib.Core.List.{List, [], ◌∷◌, ◌++◌}
use Rattle.std.proofs.Common.{Option, None, Some}
use Prim.Native.Nat.{ℕ, suc, ◌+◌, ◌-◌, ◌≤◌, ◌<◌}
use native.Mathlib.Omega.{arith}
use borrow.Author.Tests.{lt-ltb, le-ltb, eq-eqb, ne_eqb, eqb-true, eqb-false, not-false, ltb-true, ltb-false}
use lib.IntN.{ℤ, pos}
use lib.ListN.{length, get_or, take, drop, replicate, length-append, length-take, length-drop}
use lib.Seq.{sets, length-sets, sets-eq, take_at, drop_at, get_or-drop, length-take-le}
use lib.Dec.{eqb, ltb}
use Rattle.word.specs.Word.{val, less_of}
use Rattle.instruction.specs.Bytes.{byte, instruction_from, instruction_at_of}
use Rattle.instruction.specs.declared.Instruction.{Instruction}
use Rattle.instruction.specs.declared.Instruction.TheVariants.{End, Set, Copy, Add, Sub, Div, Read, Emit, Jump, Less, Get, Put, Exclude, Checkpoint}
use Rattle.program.specs.Check.{check_of}
use Rattle.program.specs.Places.{is_start}
use Rattle.program.specs.Check.{Program}
use Rattle.program.proofs.Tests.{bool_cases, clash}
use Rattle.program.proofs.Accepted.{accepted, start-within}
use Rattle.execution.specs.Effects.{Effect, stops, on, goes, writes, takes, gives, saves, effect_of, cells_in}
use Rattle.execution.specs.Effects as effects
use Rattle.run.specs.Run.{Ended}
use Rattle.run.specs.Run.{Stopped, Spent, NoReading, BufferFull}
use Rattle.run.specs.declared.Pass.{Pass}
use Rattle.step.specs.declared.Regs.{Regs}
use Rattle.step.specs.State.{Env, Machine, machine_of, size_at, fits_at, kinds_sound, sound_of}
use Rattle.step.specs.Step.{effect_at, is_saves, performed, begun, executed_of, erased_of, stored_of, step_of, due_opcode_of, given_by, taken_by, given_of, taken_of}
use Rattle.run.specs.Run.{Call, exit_before_of, stepped}
use Rattle.step.specs.Ready.{Legal, Ready}
use Rattle.run.specs.Standing.{standing, TurnIs}

-- ---- the opcode that is due

module _ (p : List ℕ) (r : Regs) where
  pub due-erase : 0 < r.erase → (xs ms l : List ℕ) → 0 ≡ due_opcode_of p (machine_of r xs ms l)
  unfolding due_opcode_of
  due-erase h xs ms l = rw (lt-ltb 0 r.erase h)

  pub due-save : r.erase ≤ 0 → 0 < r.saving → (xs ms l : List ℕ) → 0 ≡ due_opcode_of p (machine_of r xs ms l)
  unfolding due_opcode_of
  due-save h k xs ms l = rw (le-ltb 0 r.erase h, lt-ltb 0 r.saving k)

  pub due-byte : r.erase ≤ 0 → r.saving ≤ 0 → (xs ms l : List ℕ) → byte p r.pc ≡ due_opcode_of p (machine_of r xs ms l)
  unfolding due_opcode_of
  due-byte h k xs ms l = rw (le-ltb 0 r.erase h, le-ltb 0 r.saving k)

-- ---- the exit before a step

module _ (p : List ℕ) (left n room : ℕ) (c : Call) where
  pub exit-stopped : (c.machine.regs.stop ≡ 0 → ⊥) → Some (Stopped c.machine.regs.stop) ≡ exit_before_of p left n room c
  unfolding exit_before_of
  exit-stopped h = rw (ne_eqb c.machine.regs.stop 0 h)

  pub exit_spent : c.machine.regs.stop ≡ 0 → left ≡ 0 → Some Spent ≡ exit_before_of p left n room c
  unfolding exit_before_of
  exit_spent h z = rw (eq-eqb c.machine.regs.stop 0 h, eq-eqb left 0 z)

  pub exit-starved : c.machine.regs.stop ≡ 0 → (left ≡ 0 → ⊥) → due_opcode_of p c.machine ≡ 7 → c.taken ≡ n
      → Some NoReading ≡ exit_before_of p left n room c
  unfolding exit_before_of
  exit-starved h z d e = rw (eq-eqb c.machine.regs.stop 0 h, ne_eqb left 0 z, d, eq-eqb c.taken n e)

  pub exit-full : c.machine.regs.stop ≡ 0 → (left ≡ 0 → ⊥) → due_opcode_of p c.machine ≡ 8 → length c.given ≡ room
      → Some BufferFull ≡ exit_before_of p left n room c
  unfolding exit_before_of
  exit-full h z d e = rw (eq-eqb c.machine.regs.stop 0 h, ne_eqb left 0 z, d, eq-eqb (length c.given) room e)

-- no exit: a step can be made
pub record Open (p : List ℕ) (n room : ℕ) (c : Call) : Type 0 where
  pub stop : c.machine.regs.stop ≡ 0
  pub fed : due_opcode_of p c.machine ≡ 7 → c.taken ≡ n → ⊥
  pub roomy : due_opcode_of p c.machine ≡ 8 → length c.given ≡ room → ⊥

-- two tests that do not both hold
both_false : (a b k j : ℕ) → (a ≡ k → b ≡ j → ⊥) → (eqb a k && eqb b j) ≡ false
both_false a b k j h = bool_cases (eqb a k) (λ t. rw t (ne_eqb b j (h (eqb-true a k t)))) (λ t. rw t)

not-both : (a b k j : ℕ) → (eqb a k && eqb b j) ≡ false → a ≡ k → b ≡ j → ⊥
not-both a b k j h s t = clash (eqb b j) (eq-eqb b j t) (rw (eq-eqb a k s) at h)

-- k is the opcode that the code found due
pub open_at : (p : List ℕ) (b : Pass) (n room k : ℕ) → ((xs ms l : List ℕ) → k ≡ due_opcode_of p (machine_of b.regs xs ms l)) → b.regs.stop ≡ 0
    → (k ≡ 7 → b.taken ≡ n → ⊥) → (k ≡ 8 → b.written ≡ room → ⊥)
    → (xs ms l : List ℕ) (outs : List ℤ) → b.written ≤ length outs → Open p n room (standing b xs ms l outs)
open_at p b n room k due s f r xs ms l outs w =
    record {
      stop = s;
      fed = λ d. f (due xs ms l ∙ d);
      roomy = λ d t. r (due xs ms l ∙ d) (sym (length-take-le b.written outs w) ∙ t);
    }

pub open_none : (p : List ℕ) (left n room : ℕ) (c : Call) → Open p n room c → (left ≡ 0 → ⊥) → None ≡ exit_before_of p left n room c
unfolding exit_before_of
open_none p left n room c o z =
    rw (
      eq-eqb c.machine.regs.stop 0 o.stop,
      ne_eqb left 0 z,
      both_false (due_opcode_of p c.machine) c.taken 7 n o.fed,
      both_false (due_opcode_of p c.machine) (length c.given) 8 room o.roomy,
    )

-- the next of the tests failed, or there is an exit
past : {C : Type 0} (x : Ended) (b : Bool) {r : Option Ended} → cond b (Some x) r ≡ None → (b ≡ false → r ≡ None → C) → C
past x true h f = absurd (let z : ◌≡◌ {A = ℕ} 0 1 = cc in omega arith)
past x false h f = f refl h

pub none_open : (p : List ℕ) (left n room : ℕ) (c : Call) → exit_before_of p left n room c ≡ None → Open p n room c × (left ≡ 0 → ⊥)
unfolding exit_before_of
none_open p left n room c h =
    past _ (not (eqb c.machine.regs.stop 0)) h (λ h1 r1.
    past _ (eqb left 0) r1 (λ h2 r2.
    past _ (eqb (due_opcode_of p c.machine) 7 && eqb c.taken n) r2 (λ h3 r3.
    past _ (eqb (due_opcode_of p c.machine) 8 && eqb (length c.given) room) r3 (λ h4 r4. (
      record {
        stop = eqb-true _ _ (not-false _ h1);
        fed = not-both (due_opcode_of p c.machine) c.taken 7 n h3;
        roomy = not-both (due_opcode_of p c.machine) (length c.given) 8 room h4;
      },
      eqb-false _ _ h2,
    )))))

-- ---- what a step takes and gives

-- READ and EMIT have their opcodes, and EMIT the first operand byte
abbrev Opcoded : (k a : ℕ) → Instruction → Type 0
Opcoded k a End = Unit {0}
Opcoded k a (Set d w) = Unit {0}
Opcoded k a (Copy d b) = Unit {0}
Opcoded k a (Add d b c) = Unit {0}
Opcoded k a (Sub d b c) = Unit {0}
Opcoded k a (Div d b c) = Unit {0}
Opcoded k a (Read d) = k ≡ 7
Opcoded k a (Emit b) = (k ≡ 8) × (b ≡ a)
Opcoded k a (Jump t) = Unit {0}
Opcoded k a (Less b c t) = Unit {0}
Opcoded k a (Get d base len i) = Unit {0}
Opcoded k a (Put base len i b) = Unit {0}
Opcoded k a Exclude = Unit {0}
Opcoded k a Checkpoint = Unit {0}

-- one link of the chain of tests on the opcode
either : (k a : ℕ) (b : Bool) (i j : Instruction) → (b ≡ true → Opcoded k a i) → Opcoded k a j → Opcoded k a (cond b i j)
either k a true i j f g = f refl
either k a false i j f g = g

opcoded : (k x y z w u : ℕ) → Opcoded k x (instruction_from k x y z w u)
opcoded k x y z w u =
    either k x (eqb k 2) _ _ (λ _. tt)
    (either k x (eqb k 3) _ _ (λ _. tt)
    (either k x (eqb k 4) _ _ (λ _. tt)
    (either k x (eqb k 5) _ _ (λ _. tt)
    (either k x (eqb k 6) _ _ (λ _. tt)
    (either k x (eqb k 7) _ _ (λ t. eqb-true k 7 t)
    (either k x (eqb k 8) _ _ (λ t. (eqb-true k 8 t, refl))
    (either k x (eqb k 9) _ _ (λ _. tt)
    (either k x (eqb k 10) _ _ (λ _. tt)
    (either k x (eqb k 11) _ _ (λ _. tt)
    (either k x (eqb k 12) _ _ (λ _. tt)
    (either k x (eqb k 13) _ _ (λ _. tt)
    (either k x (eqb k 14) _ _ (λ _. tt)
    tt))))))))))))

-- so an effect that takes or gives is READ's or EMIT's, of the cell a of x
abbrev Told : (k a : ℕ) (x : ℕ → ℕ) → Effect → Type 0
Told k a x (stops j) = Unit {0}
Told k a x on = Unit {0}
Told k a x (goes t) = Unit {0}
Told k a x (writes d v) = Unit {0}
Told k a x (takes d v) = k ≡ 7
Told k a x (gives v) = (k ≡ 8) × (v ≡ val (x a))
Told k a x effects.sets = Unit {0}
Told k a x saves = Unit {0}

told : (i : Instruction) (k a : ℕ) (v : ℤ) (n m : ℕ) (x : ℕ → ℕ) → Opcoded k a i → Told k a x (effect_of i v n m x)
unfolding effect_of
told End k a v n m x o = tt
told (Set d w) k a v n m x o = tt
told (Copy d b) k a v n m x o = tt
told (Add d b c) k a v n m x o = tt
told (Sub d b c) k a v n m x o = tt
told (Div d b c) k a v n m x o = bool_cases (eqb (x c) 0) (λ t. rw t tt) (λ t. rw t tt)
told (Read d) k a v n m x o = bool_cases (eqb n 4294967295) (λ t. rw t tt) (λ t. rw t o)
told (Emit b) k a v n m x o = bool_cases (eqb m 4294967295) (λ t. rw t tt) (λ t. rw t (o.0, ap (λ (j : ℕ). val (x j)) o.1))
told (Jump t) k a v n m x o = tt
told (Less b c t) k a v n m x o = bool_cases (less_of (x b) (x c)) (λ t. rw t tt) (λ t. rw t tt)
told (Get d base len i) k a v n m x o = tt
told (Put base len i b) k a v n m x o = tt
told Exclude k a v n m x o = tt
told Checkpoint k a v n m x o = tt

effect-told : (p : List ℕ) (v : ℤ) (m : Machine) → Told (byte p m.regs.pc) (byte p (m.regs.pc + 1)) (cells_in m.cells) (effect_at p v m)
unfolding effect_at instruction_at_of
effect-told p v m =
    told (instruction_at_of p m.regs.pc) _ _ v m.regs.readings m.regs.outputs (cells_in m.cells) (opcoded (byte p m.regs.pc) _ _ _ _ _)

-- the counts grow by what is taken and given, at most one; k is the opcode due, and an output given is the cell a
pub record Moves (k a : ℕ) (m m' : Machine) (taken : ℕ) (given : List ℤ) : Type 0 where
  pub readings : m'.regs.readings ≡ m.regs.readings + taken
  pub outputs : m'.regs.outputs ≡ m.regs.outputs + length given
  pub takes : (taken ≤ 1) × (0 < taken → k ≡ 7)
  pub gives : (length given ≤ 1) × (0 < length given → k ≡ 8)
  pub given_is : given ≡ replicate (length given) (val (cells_in m'.cells a))

-- nothing is taken or given
still : {k a : ℕ} {m m' : Machine} → m'.regs.readings ≡ m.regs.readings → m'.regs.outputs ≡ m.regs.outputs → Moves k a m m' 0 []
still r o =
    record {
      readings = omega arith;
      outputs = omega arith;
      takes = (omega arith, λ h. absurd (omega arith));
      gives = (omega arith, λ h. absurd (omega arith));
      given_is = refl;
    }

performed-moves : (e : Env) (f : Effect) (k a : ℕ) (b : Bool) (m : Machine) → Told k a (cells_in m.cells) f
    → Moves k a m (cond (is_saves f && b) (begun m) (performed e f m)) (taken_by f) (given_by f)
unfolding begun performed
performed-moves e (stops j) k a b m t = still refl refl
performed-moves e on k a b m t = still refl refl
performed-moves e (goes u) k a b m t = still refl refl
performed-moves e (writes d v) k a b m t = still refl refl
performed-moves e (takes d v) k a b m t =
    record {
      readings = omega arith;
      outputs = omega arith;
      takes = (omega arith, λ _. t);
      gives = (omega arith, λ h. absurd (omega arith));
      given_is = refl;
    }
performed-moves e (gives v) k a b m t =
    record {
      readings = omega arith;
      outputs = omega arith;
      takes = (omega arith, λ h. absurd (omega arith));
      gives = (omega arith, λ _. t.0);
      given_is = ap (λ (w : ℤ). w ∷ []) t.1;
    }
performed-moves e effects.sets k a b m t = still refl refl
performed-moves e saves k a true m t = still refl refl
performed-moves e saves k a false m t = still refl refl

stored-moves : (p : List ℕ) (k a : ℕ) (m : Machine) → Moves k a m (stored_of p m) 0 []
unfolding stored_of
stored-moves p k a m =
    bool_cases (eqb (m.regs.saving - 1 + m.regs.page) (size_at p m)) (λ t. rw t (still refl refl)) (λ t. rw t (still refl refl))

erased-moves : (k a : ℕ) (m : Machine) → Moves k a m (erased_of m) 0 []
unfolding erased_of
erased-moves k a m = still refl refl

pub step-moves : (e : Env) (v : ℤ) (m : Machine)
    → Moves (due_opcode_of e.program m) (byte e.program (m.regs.pc + 1)) m (step_of e v m) (taken_of e.program v m) (given_of e.program v m)
unfolding step_of taken_of given_of due_opcode_of executed_of
step-moves e v m =
    let p = e.program in
    bool_cases (ltb 0 m.regs.erase)
    (λ t. rw t (erased-moves 0 (byte p (m.regs.pc + 1)) m))
    (λ t. bool_cases (ltb 0 m.regs.saving)
    (λ u. rw (t, u) (stored-moves p 0 (byte p (m.regs.pc + 1)) m))
    (λ u. rw (t, u) (performed-moves e (effect_at p v m) (byte p m.regs.pc) (byte p (m.regs.pc + 1)) (fits_at p m) m (effect-told p v m))))

-- ---- where a sound state stands

-- the second of the conjuncts of `sound_of`
second : (a b c d f g k : Bool) → (a && b && c && d && f && g && k) ≡ true → b ≡ true
second true true c d f g k h = refl
second true false c d f g k h = h
second false b c d f g k h = clash false h refl

pub sound-start : (p : List ℕ) (m : Machine) → sound_of p m ≡ true → is_start p m.regs.pc ≡ true
unfolding sound_of
sound-start p m h = second (kinds_sound m) (is_start p m.regs.pc) _ _ _ _ _ h

pub legal-of : {e : Env} {table : List ℕ} → Ready e table → Legal e.program
legal-of r = record { cells = r.cells; instructions = r.instructions; excludes = r.excludes; accepted = r.accepted }

pub ready-small : {e : Env} {table : List ℕ} → Ready e table → length e.program ≤ 2048
ready-small {e} r = (accepted e.program (sym r.accepted)).most

-- a start of an accepted program is before its end
pub legal-within : (p : List ℕ) (o : ℕ) {c n e : ℕ} → check_of p ≡ Program c n e → is_start p o ≡ true → (o < length p) × (o < 2048)
legal-within p o h s =
    let a = accepted p (sym h) in
    let w = (start-within p a o s).1 in
    (w, omega (arith, a.most))

-- ---- `turn`

-- what is stored from i on is given, and the later places are as they were
stored-given : (outs g : List ℤ) (i : ℕ) → i + length g ≤ length outs → take (i + length g) (sets outs i g) ≡ take i outs ++ g
stored-given outs g i h =
    let l : length (take i outs ++ g) ≡ i + length g = simp (length-append, length-take) (omega arith) in
    rw (sets-eq g outs i h) (take_at (take i outs ++ g) (drop (i + length g) outs) (i + length g) l)

stored-later : (outs g : List ℤ) (i : ℕ) → i + length g ≤ length outs → drop (i + length g) (sets outs i g) ≡ drop (i + length g) outs
stored-later outs g i h =
    let l : length (take i outs ++ g) ≡ i + length g = simp (length-append, length-take) (omega arith) in
    rw (sets-eq g outs i h) (drop_at (take i outs ++ g) (drop (i + length g) outs) (i + length g) l)

-- the pass after a step to the registers q
abbrev pub passed : Pass → Regs → Pass
passed b q =
    record {
      regs = q;
      steps = b.steps + 1;
      taken = b.taken + (q.readings - b.regs.readings);
      written = b.written + (q.outputs - b.regs.outputs);
    }

-- the counts after it: they did not fall, at most one output is given, and readings and places were there for it
pub record Counted (b : Pass) (n room : ℕ) (q : Regs) : Type 0 where
  pub readings : b.regs.readings ≤ q.readings
  pub outputs : b.regs.outputs ≤ q.outputs
  pub one : q.outputs - b.regs.outputs ≤ 1
  pub taken : b.taken + (q.readings - b.regs.readings) ≤ n
  pub written : b.written + (q.outputs - b.regs.outputs) ≤ room

-- a count that grows by at most one, and only where it is not yet full
grows : (at n t : ℕ) {k j : ℕ} → at ≤ n → (t ≤ 1) × (0 < t → k ≡ j) → (k ≡ j → at ≡ n → ⊥) → at + t ≤ n
grows at n t h m f =
    bool_cases (ltb 0 t)
    (λ l. let ne = f (m.1 (ltb-true 0 t l)) in omega (arith, m.0))
    (λ l. let z : t ≤ 0 = ltb-false 0 t l in omega arith)

module _ (e : Env) (b : Pass) (xs ms l : List ℕ) (v : ℤ) where
  -- the machine before the step, and what the step gives
  abbrev before : Machine
  before = machine_of b.regs xs ms l

  abbrev given : List ℤ
  given = given_of e.program v before

  module _ (outs : List ℤ) (n : ℕ) (lent : b.taken ≤ n) (room : b.written ≤ length outs)
      (due : exit_before_of e.program 1 n (length outs) (standing b xs ms l outs) ≡ None)
      (q : Regs) (xs' ms' l' : List ℕ) (step : machine_of q xs' ms' l' ≡ step_of e v before) where
    took : q.readings ≡ b.regs.readings + taken_of e.program v before
    took = ap (λ (x : Machine). x.regs.readings) step ∙ (step-moves e v before).readings

    gave : q.outputs ≡ b.regs.outputs + length given
    gave = ap (λ (x : Machine). x.regs.outputs) step ∙ (step-moves e v before).outputs

    pub turn-counts : Counted b n (length outs) q
    turn-counts =
        let o = (none_open e.program 1 n (length outs) (standing b xs ms l outs) due).0 in
        let m = step-moves e v before in
        let t = grows b.taken n (taken_of e.program v before) lent m.takes o.fed in
        let w = grows b.written (length outs) (length given) room m.gives (λ d f. o.roomy d (length-take-le b.written outs room ∙ f)) in
        let one = m.gives.0 in
        record {
          readings = omega (arith, took);
          outputs = omega (arith, gave);
          one = omega (arith, gave);
          taken = omega (arith, took);
          written = omega (arith, gave);
        }

    -- the outputs after the store of w, the value of the cell that an EMIT gives
    module _ (x : ℕ) (cell : x ≡ cells_in xs' (byte e.program (b.regs.pc + 1))) (w : ℤ) (value : w ≡ val x) (outs' : List ℤ)
        (put : outs' ≡ sets outs b.written (replicate (q.outputs - b.regs.outputs) w)) where
      put-given : outs' ≡ sets outs b.written given
      put-given =
          let g : q.outputs - b.regs.outputs ≡ length given = omega (arith, gave) in
          let c : w ≡ val (cells_in (step_of e v before).cells (byte e.program (b.regs.pc + 1))) =
          value ∙ ap val cell ∙ ap (λ (y : Machine). val (cells_in y.cells (byte e.program (b.regs.pc + 1)))) step in
          put ∙ ap (sets outs b.written) (ap (λ (k : ℕ). replicate k w) g ∙ ap (replicate (length given)) c ∙ sym (step-moves e v before).given_is)

      written_is : b.written + (q.outputs - b.regs.outputs) ≡ b.written + length given
      written_is = omega (arith, gave)

      fits : b.written + length given ≤ length outs
      fits = omega (arith, written_is, turn-counts.written)

      turn-given : take (b.written + (q.outputs - b.regs.outputs)) outs' ≡ take b.written outs ++ given
      turn-given = rw (written_is, put-given) (stored-given outs given b.written fits)

      turn-later : drop (b.written + (q.outputs - b.regs.outputs)) outs' ≡ drop (b.written + (q.outputs - b.regs.outputs)) outs
      turn-later = rw (written_is, put-given) (stored-later outs given b.written fits)

      turn-stepped : (ρ : List ℤ) → v ≡ get_or ρ b.taken (pos 0) → standing (passed b q) xs' ms' l' outs' ≡ stepped e ρ (standing b xs ms l outs)
      unfolding stepped
      turn-stepped ρ h =
          let s : b.steps + 1 ≡ suc b.steps = omega arith in
          let t : b.taken + (q.readings - b.regs.readings) ≡ b.taken + taken_of e.program v before = omega (arith, took) in
          rw (← h) (λ i. record { machine = step i; steps = s i; taken = t i; given = turn-given i })

      -- the readings are those from the next untaken one on
      pub turn_is : (readings : List ℤ) → v ≡ get_or readings 0 (pos 0) → n ≡ b.taken + length readings → (ρ : List ℤ) → drop b.taken ρ ≡ readings
          → b.taken ≤ length ρ → TurnIs e ρ (standing b xs ms l outs) outs (passed b q) (standing (passed b q) xs' ms' l' outs') outs'
      turn_is readings h k ρ d t =
          let first : v ≡ get_or ρ b.taken (pos 0) =
          h ∙ ap (λ (z : List ℤ). get_or z 0 (pos 0)) (sym d) ∙ get_or-drop b.taken ρ 0 (pos 0) ∙ ap (λ (i : ℕ). get_or ρ i (pos 0)) (omega arith) in
          let all : n ≡ length ρ = omega (arith, ap length d, length-drop b.taken ρ) in
          record {
            call = turn-stepped ρ first;
            size = ap length put ∙ length-sets outs b.written (replicate (q.outputs - b.regs.outputs) w);
            later = turn-later;
            written = turn-counts.written;
            taken = omega (arith, turn-counts.taken);
          }
