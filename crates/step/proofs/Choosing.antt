-- `execute` by what `plain` answers: a place, and the effect is one that `plain` does; 0, and the opcode tells which of the others it is, END where it is
-- none of those that the code asks for.
-- Assumes nothing.
use mathlib.Core.Path.{◌≡◌, refl, sym, ◌∙◌, ap}
use mathlib.Core.Bool.{Bool, true, false, cond}
use mathlib.Core.List.{List, [], ◌∷◌}
use Prim.Native.Nat.{ℕ, ◌+◌, ◌<◌}
use native.Mathlib.Omega.{arith}
use borrow.Author.Tests.{ne_eqb}
use lib.Dec.{eqb}
use lib.ListN.{length}
use lib.IntN.{ℤ, pos}
use Rattle.word.specs.Bytes.{number_of}
use Rattle.word.specs.Word.{less_of}
use Rattle.instruction.specs.Bytes.{byte, length_of, instruction_at_of}
use Rattle.instruction.specs.Table.{row_of, targets}
use Rattle.instruction.specs.declared.Instruction.{Instruction}
use Rattle.instruction.specs.declared.Instruction.TheVariants.{End, Set, Copy, Add, Sub, Jump, Less, Get, Put}
use Rattle.program.specs.Starts.{starts, among, all_among_of}
use Rattle.program.specs.Places.{is_start}
use Rattle.program.proofs.Tests.{clash, and_both}
use Rattle.program.proofs.Filling.{none_before}
use Rattle.program.proofs.Accepted.{start-whole, start-targets}
use Rattle.execution.specs.Effects.{Effect, stops, on, goes, writes, ended, divisor, effect_of, cells_in, next_of}
use Rattle.execution.specs.Plain.{moved, plain_by, plain_of}
use Rattle.execution.proofs.Laws.{Quiet, quiet_on, quiet_goes, quiet_writes, plain_quiet, plain-some, plain-none}
use Rattle.step.specs.declared.Regs.{Regs}
use Rattle.step.specs.State.{Env, env_of, Machine, machine_of}
use Rattle.step.specs.Step.{effect_at, is_saves, exclude_after, marks_after, executed_of}
use Rattle.step.specs.Ready.{Ready, halted}
use Rattle.step.proofs.Fetching.{ready-accepted}
use Rattle.step.proofs.Stepping.{on_program, performs, halts}

-- ---- a place

-- such an effect saves nothing, and is no EXCLUDE
quiet-saves : {f : Effect} → Quiet f → is_saves f ≡ false
quiet-saves quiet_on = refl
quiet-saves quiet_goes = refl
quiet-saves quiet_writes = refl

quiet-exclude : {f : Effect} → Quiet f → (o x : ℕ) → x ≡ exclude_after f o x
quiet-exclude quiet_on o x = refl
quiet-exclude quiet_goes o x = refl
quiet-exclude quiet_writes o x = refl

quiet-marks : {f : Effect} → Quiet f → (e : Env) (o : ℕ) (ms : List ℕ) → ms ≡ marks_after e f o ms
quiet-marks quiet_on e o ms = refl
quiet-marks quiet_goes e o ms = refl
quiet-marks quiet_writes e o ms = refl

pub moves : (p ws : List ℕ) (v : ℤ) (r : Regs) (xs ms l : List ℕ) {t : ℕ} {ys : List ℕ} → r.stop ≡ 0 → moved t ys ≡ plain_of p r.pc xs → (t ≡ 0 → ⊥)
    → machine_of (on_program r t r.exclude r.readings r.outputs r.stop) ys ms l ≡ executed_of (env_of p ws) v (machine_of r xs ms l)
unfolding effect_at
moves p ws v r xs ms l {t} {ys} z e n =
    let et : t ≡ (plain_of p r.pc xs).place = ap (λ q. q.place) e in
    let ey : ys ≡ (plain_of p r.pc xs).cells = ap (λ q. q.cells) e in
    let h : 0 < (plain_of p r.pc xs).place = omega arith in
    let q = plain_quiet p r.pc xs h v r.readings r.outputs in
    let s = plain-some p r.pc xs h v r.readings r.outputs in
    performs (env_of p ws) v (machine_of r xs ms l) (effect_at p v (machine_of r xs ms l)) refl (rw (quiet-saves q)) (et ∙ sym s.0)
    (quiet-exclude q r.pc r.exclude) (sym s.3) (sym s.4) (z ∙ sym s.2) (ey ∙ sym s.1) (quiet-marks q (env_of p ws) r.pc ms)

-- ---- none

-- the place that was answered is that of the definition
no_place : (p : List ℕ) (o : ℕ) (xs : List ℕ) {t : ℕ} {ys : List ℕ} → moved t ys ≡ plain_of p o xs → t ≡ 0 → (plain_of p o xs).place ≡ 0
no_place p o xs e z = sym (ap (λ q. q.place) e) ∙ z

-- the cells are as they were
pub unmoved : (p : List ℕ) (o : ℕ) (xs : List ℕ) {t : ℕ} {ys : List ℕ} → moved t ys ≡ plain_of p o xs → t ≡ 0 → ys ≡ xs
unmoved p o xs e z = ap (λ q. q.cells) e ∙ plain-none p o xs (no_place p o xs e z)

-- so what is done from there is done from the cells at first, with the reading v
pub resumes : (e : Env) (v : ℤ) (r : Regs) (xs ms l : List ℕ) {w : ℤ} {ys : List ℕ} {m : Machine} → w ≡ v → ys ≡ xs
    → m ≡ executed_of e w (machine_of r ys ms l) → m ≡ executed_of e v (machine_of r xs ms l)
resumes e v r xs ms l ew ey h = rw (← ew, ← ey) h

-- a division that went nowhere was by 0
by_zero : (b : Bool) (d w n : ℕ) (xs : List ℕ) → 0 < n → (plain_by (cond b (stops divisor) (writes d w)) n xs).place ≡ 0 → b ≡ true
by_zero true d w n xs l h = refl
by_zero false d w n xs l h = absurd (omega arith)

div-effect : (p : List ℕ) (o : ℕ) (xs : List ℕ) (v : ℤ) (n m : ℕ) → byte p o ≡ 0x06 → (plain_of p o xs).place ≡ 0
    → effect_of (instruction_at_of p o) v n m (cells_in xs) ≡ stops divisor
unfolding plain_of instruction_at_of effect_of length_of
div-effect p o xs v n m q h = rw (q, by_zero (eqb (cells_in xs (byte p (o + 3))) 0) _ _ (o + 4) xs (omega arith) (rw q at h))

-- what the code does not ask for: the tests of the opcodes 2 to 5 and 9 to 12 of such an instruction
abbrev rest : (s c a b j l g u : Bool) (x y z w k t f : ℕ) → Instruction
rest s c a b j l g u x y z w k t f =
    cond s (Set x k)
    (cond c (Copy x y)
    (cond a (Add x y z)
    (cond b (Sub x y z)
    (cond j (Jump t)
    (cond l (Less x y f)
    (cond g (Get x y z w)
    (cond u (Put x y z w)
    End)))))))

-- 0 is no target
no_target : (t : ℕ) (os : List ℕ) → among 0 os ≡ false → all_among_of (t ∷ []) os ≡ true → t ≡ 0 → ⊥
no_target t os n h z = let a : among 0 os ≡ true = rw z at (and_both (among t os) true h).0 in clash (among 0 os) a n

-- of a LESS too
no-branch : (b : Bool) (t n : ℕ) (xs os : List ℕ) → 0 < n → among 0 os ≡ false → all_among_of (t ∷ []) os ≡ true → (plain_by (cond b (goes t) on) n xs).place ≡ 0 → ⊥
no-branch true t n xs os l m h z = no_target t os m h z
no-branch false t n xs os l m h z = omega arith

-- only END went nowhere
rest_end : (s c a b j l g u : Bool) (x y z w k t f : ℕ) (xs os : List ℕ) (n : ℕ) → 0 < n → among 0 os ≡ false
    → all_among_of (targets (row_of (rest s c a b j l g u x y z w k t f)).flow) os ≡ true
    → (plain_by (effect_of (rest s c a b j l g u x y z w k t f) (pos 0) 0 0 (cells_in xs)) n xs).place ≡ 0
    → rest s c a b j l g u x y z w k t f ≡ End
unfolding effect_of
rest_end true c a b j l g u x y z w k t f xs os n e m h i = absurd (omega arith)
rest_end false true a b j l g u x y z w k t f xs os n e m h i = absurd (omega arith)
rest_end false false true b j l g u x y z w k t f xs os n e m h i = absurd (omega arith)
rest_end false false false true j l g u x y z w k t f xs os n e m h i = absurd (omega arith)
rest_end false false false false true l g u x y z w k t f xs os n e m h i = absurd (no_target t os m h i)
rest_end false false false false false true g u x y z w k t f xs os n e m h i =
    absurd (no-branch (less_of (cells_in xs x) (cells_in xs y)) f n xs os e m h i)
rest_end false false false false false false true u x y z w k t f xs os n e m h i = absurd (omega arith)
rest_end false false false false false false false true x y z w k t f xs os n e m h i = absurd (omega arith)
rest_end false false false false false false false false x y z w k t f xs os n e m h i = refl

module _ (p : List ℕ) (o : ℕ)
    (n6 : byte p o ≡ 6 → ⊥) (n7 : byte p o ≡ 7 → ⊥) (n8 : byte p o ≡ 8 → ⊥) (n13 : byte p o ≡ 13 → ⊥) (n14 : byte p o ≡ 14 → ⊥) where
  rest_at : instruction_at_of p o
      ≡ rest (eqb (byte p o) 2) (eqb (byte p o) 3) (eqb (byte p o) 4) (eqb (byte p o) 5) (eqb (byte p o) 9) (eqb (byte p o) 10) (eqb (byte p o) 11)
      (eqb (byte p o) 12) (byte p (o + 1)) (byte p (o + 2)) (byte p (o + 3)) (byte p (o + 4))
      (number_of (byte p (o + 2) ∷ byte p (o + 3) ∷ byte p (o + 4) ∷ byte p (o + 5) ∷ []))
      (number_of (byte p (o + 1) ∷ byte p (o + 2) ∷ []))
      (number_of (byte p (o + 3) ∷ byte p (o + 4) ∷ []))
  unfolding instruction_at_of
  rest_at = rw (ne_eqb _ _ n6, ne_eqb _ _ n7, ne_eqb _ _ n8, ne_eqb _ _ n13, ne_eqb _ _ n14)

  end-at : (xs : List ℕ) → 0 < length_of (byte p o) → among 0 (starts p) ≡ false
      → all_among_of (targets (row_of (instruction_at_of p o)).flow) (starts p) ≡ true → (plain_of p o xs).place ≡ 0 → instruction_at_of p o ≡ End
  unfolding plain_of
  end-at xs l m h i =
      rest_at
      ∙ rest_end (eqb (byte p o) 2) (eqb (byte p o) 3) (eqb (byte p o) 4) (eqb (byte p o) 5) (eqb (byte p o) 9) (eqb (byte p o) 10) (eqb (byte p o) 11)
      (eqb (byte p o) 12) _ _ _ _ _ _ _ xs (starts p) (next_of p o) (omega arith) m (rw rest_at at h) (rw rest_at at i)

end-effect : (i : Instruction) (v : ℤ) (n m : ℕ) (x : ℕ → ℕ) → i ≡ End → effect_of i v n m x ≡ stops ended
unfolding effect_of
end-effect i v n m x e = rw e

-- no instruction starts at 0
no_zero : (p : List ℕ) → among 0 (starts p) ≡ false
unfolding starts
no_zero p = none_before p (length p) 1 0 (omega arith)

module _ (p ws : List ℕ) (v : ℤ) (r : Regs) (xs ms l : List ℕ) {t : ℕ} {ys : List ℕ} {s : Regs} (e : moved t ys ≡ plain_of p r.pc xs) (z : t ≡ 0) where
  -- it stops
  stops-here : (k : ℕ) → effect_of (instruction_at_of p r.pc) v r.readings r.outputs (cells_in xs) ≡ stops k → s ≡ halted r k
      → machine_of s ys ms l ≡ executed_of (env_of p ws) v (machine_of r xs ms l)
  unfolding effect_at
  stops-here k f es = rw (unmoved p r.pc xs e z, es) (halts (env_of p ws) v (machine_of r xs ms l) k f)

  pub divides : byte p r.pc ≡ 0x06 → s ≡ halted r 2 → machine_of s ys ms l ≡ executed_of (env_of p ws) v (machine_of r xs ms l)
  divides q es = stops-here 2 (div-effect p r.pc xs v r.readings r.outputs q (no_place p r.pc xs e z)) es

  pub ends : {table : List ℕ} → Ready (env_of p ws) table → is_start p r.pc ≡ true → (byte p r.pc ≡ 6 → ⊥) → (byte p r.pc ≡ 7 → ⊥)
      → (byte p r.pc ≡ 8 → ⊥) → (byte p r.pc ≡ 13 → ⊥) → (byte p r.pc ≡ 14 → ⊥) → s ≡ halted r 1
      → machine_of s ys ms l ≡ executed_of (env_of p ws) v (machine_of r xs ms l)
  ends y b n6 n7 n8 n13 n14 es =
      let a = ready-accepted y in
      let w = (start-whole p a r.pc b).0 in
      let i = end-at p r.pc n6 n7 n8 n13 n14 xs w (no_zero p) (start-targets p a r.pc b) (no_place p r.pc xs e z) in
      stops-here 1 (end-effect (instruction_at_of p r.pc) v r.readings r.outputs (cells_in xs) i) es
