-- A step keeps values within 32 bits and counts within theirs.
-- Assumes nothing.
use mathlib.Core.Path.{◌≡◌, refl}
use mathlib.Core.Bool.{Bool, true, false, cond, ◌&&◌}
use mathlib.Core.List.{List, [], ◌∷◌}
use Prim.Native.Nat.{ℕ, zero, suc, ◌+◌, ◌^◌, ◌<◌, ◌-◌}
use native.Mathlib.Omega.{arith}
use lib.Dec.{eqb, ltb}
use lib.IntN.{ℤ}
use lib.ListN.{get_or, set}
use borrow.Author.Tests.{eqb-false}
use Rattle.word.specs.Bytes.{number_of}
use Rattle.word.specs.Word.{less_of}
use Rattle.word.proofs.Signed.{bits-lt, add-lt, sub-lt, div-lt}
use Rattle.instruction.specs.Bytes.{byte, instruction_at_of}
use Rattle.instruction.specs.declared.Instruction.{Instruction}
use Rattle.instruction.specs.declared.Instruction.TheVariants.{End, Set, Copy, Add, Sub, Div, Read, Emit, Jump, Less, Get, Put, Exclude, Checkpoint}
use Rattle.execution.specs.Effects.{Effect, stops, on, goes, writes, takes, gives, sets, saves, is_full, effect_of, table_cell_of}
use Rattle.execution.specs.Effects.{readings_after, outputs_after, cells_after, cells_in}
use Rattle.step.specs.State.{Env, env_of, Machine, machine_of, size_at, fits_at}
use Rattle.step.specs.Step.{effect_at, is_saves, performed, on_journal, begun, executed_of, erased_of, stored_of, step_of}
use Rattle.restart.specs.Claim.{Plan}
use Rattle.restart.proofs.Invariant.{Small}

-- a property of one of two things, by the test that picks it
pick : {A : Type 0} (P : A → Type 0) (b : Bool) {x y : A} → (b ≡ true → P x) → (b ≡ false → P y) → P (cond b x y)
pick P true f g = f refl
pick P false f g = g refl

-- ---- the number of a SET, 0 for the others

abbrev constant : Instruction → ℕ
constant End = 0
constant (Set d v) = v
constant (Copy d a) = 0
constant (Add d a b) = 0
constant (Sub d a b) = 0
constant (Div d a b) = 0
constant (Read d) = 0
constant (Emit a) = 0
constant (Jump t) = 0
constant (Less a b t) = 0
constant (Get d base len i) = 0
constant (Put base len i a) = 0
constant Exclude = 0
constant Checkpoint = 0

-- of the instruction that a test picks it is the one that the test picks
constant-cond : (b : Bool) (x y : Instruction) → constant (cond b x y) ≡ cond b (constant x) (constant y)
constant-cond true x y = refl
constant-cond false x y = refl

-- 0 either way is 0
cond-zero : (b : Bool) → ◌≡◌ {A = ℕ} (cond b 0 0) 0
cond-zero true = refl
cond-zero false = refl

-- it stands in four bytes
constant-at : (p : List ℕ) (o : ℕ)
    → constant (instruction_at_of p o) ≡ cond (eqb (byte p o) 0x02) (number_of (byte p (o + 2) ∷ byte p (o + 3) ∷ byte p (o + 4) ∷ byte p (o + 5) ∷ [])) 0
unfolding instruction_at_of
constant-at p o = simp (constant-cond, cond-zero)

-- four bytes have 32 bits
four_bytes : (x y z u : ℕ) → x < 256 → y < 256 → z < 256 → u < 256 → number_of (x ∷ y ∷ z ∷ u ∷ []) < 2 ^ 32
unfolding number_of
four_bytes x y z u hx hy hz hu = omega arith

-- so has the number of a SET of bytes
constant-lt : (p : List ℕ) → ((k : ℕ) → get_or p k 0 < 256) → (o : ℕ) → constant (instruction_at_of p o) < 2 ^ 32
constant-lt p h o =
    rw constant-at
    (pick (λ (n : ℕ). n < 2 ^ 32) (eqb (byte p o) 0x02)
    (λ _. four_bytes (byte p (o + 2)) (byte p (o + 3)) (byte p (o + 4)) (byte p (o + 5)) (h (o + 2)) (h (o + 3)) (h (o + 4)) (h (o + 5)))
    (λ _. omega arith))

-- ---- what an effect leaves, where r readings are taken and o outputs given: a value that it writes has 32 bits, and a count that it raises still fits

abbrev Fits : (r o : ℕ) → Effect → Type 0
Fits r o (stops k) = Unit
Fits r o on = Unit
Fits r o (goes t) = Unit
Fits r o (writes d v) = v < 2 ^ 32
Fits r o (takes d v) = (suc r < 2 ^ 32) × (v < 2 ^ 32)
Fits r o (gives v) = suc o < 2 ^ 32
Fits r o sets = Unit
Fits r o saves = Unit

-- a count that is not full can be raised
count-lt : (n : ℕ) → n < 2 ^ 32 → is_full n ≡ false → suc n < 2 ^ 32
count-lt n h f = let g : n ≡ 4294967295 → ⊥ = eqb-false n 4294967295 f in omega arith

module _ (v : ℤ) (r o : ℕ) (x : ℕ → ℕ) (hr : r < 2 ^ 32) (ho : o < 2 ^ 32) (hx : (c : ℕ) → x c < 2 ^ 32) where
  -- each row's effect is such
  effect-fits : (i : Instruction) → constant i < 2 ^ 32 → Fits r o (effect_of i v r o x)
  unfolding effect_of
  effect-fits End h = tt
  effect-fits (Set d w) h = h
  effect-fits (Copy d a) h = hx a
  effect-fits (Add d a b) h = add-lt (x a) (x b)
  effect-fits (Sub d a b) h = sub-lt (x a) (x b)
  effect-fits (Div d a b) h = pick (Fits r o) (eqb (x b) 0) (λ _. tt) (λ _. div-lt (x a) (x b))
  effect-fits (Read d) h = pick (Fits r o) (is_full r) (λ _. tt) (λ f. (count-lt r hr f, bits-lt v))
  effect-fits (Emit a) h = pick (Fits r o) (is_full o) (λ _. tt) (λ f. count-lt o ho f)
  effect-fits (Jump t) h = tt
  effect-fits (Less a b t) h = pick (Fits r o) (less_of (x a) (x b)) (λ _. tt) (λ _. tt)
  effect-fits (Get d base len i) h = hx (table_cell_of base len (x i))
  effect-fits (Put base len i a) h = hx a
  effect-fits Exclude h = tt
  effect-fits Checkpoint h = tt

-- ---- what is left after it

-- one value of 32 bits more
set-small : (xs : List ℕ) (d v : ℕ) → ((c : ℕ) → get_or xs c 0 < 2 ^ 32) → v < 2 ^ 32 → (c : ℕ) → get_or (set xs d v) c 0 < 2 ^ 32
set-small [] d v h l c = h c
set-small (x ∷ xs) zero v h l zero = l
set-small (x ∷ xs) zero v h l (suc c) = h (suc c)
set-small (x ∷ xs) (suc d) v h l zero = h zero
set-small (x ∷ xs) (suc d) v h l (suc c) = set-small xs d v (λ i. h (suc i)) l c

module _ (r o : ℕ) where
  -- the cells keep to 32 bits
  cells-small : (f : Effect) → Fits r o f → (xs : List ℕ) → ((c : ℕ) → get_or xs c 0 < 2 ^ 32) → (c : ℕ) → get_or (cells_after f xs) c 0 < 2 ^ 32
  cells-small (stops k) b xs h = h
  cells-small on b xs h = h
  cells-small (goes t) b xs h = h
  cells-small (writes d v) b xs h = set-small xs d v h b
  cells-small (takes d v) b xs h = set-small xs d v h b.1
  cells-small (gives v) b xs h = h
  cells-small sets b xs h = h
  cells-small saves b xs h = h

  -- the count of readings fits
  readings-small : (f : Effect) → Fits r o f → r < 2 ^ 32 → readings_after f r < 2 ^ 32
  readings-small (stops k) b h = h
  readings-small on b h = h
  readings-small (goes t) b h = h
  readings-small (writes d v) b h = h
  readings-small (takes d v) b h = b.0
  readings-small (gives v) b h = h
  readings-small sets b h = h
  readings-small saves b h = h

  -- so does that of outputs
  outputs-small : (f : Effect) → Fits r o f → o < 2 ^ 32 → outputs_after f o < 2 ^ 32
  outputs-small (stops k) b h = h
  outputs-small on b h = h
  outputs-small (goes t) b h = h
  outputs-small (writes d v) b h = h
  outputs-small (takes d v) b h = h
  outputs-small (gives v) b h = b
  outputs-small sets b h = h
  outputs-small saves b h = h

-- ---- each kind of step

-- an instruction is executed
performed-small : (e : Env) (f : Effect) (m : Machine) → Small m → Fits m.regs.readings m.regs.outputs f → Small (performed e f m)
unfolding performed
performed-small e f m s b =
    record {
      values = cells-small m.regs.readings m.regs.outputs f b m.cells s.values;
      readings = readings-small m.regs.readings m.regs.outputs f b s.readings;
      outputs = outputs-small m.regs.readings m.regs.outputs f b s.outputs;
    }

-- a step that erases or stores a byte, or begins a save, leaves cells and counts
journal-small : (m : Machine) → Small m → (t w x k : ℕ) (ms l : List ℕ) → Small (machine_of (on_journal m.regs t w x k) m.cells ms l)
journal-small m s t w x k ms l = record { values = s.values; readings = s.readings; outputs = s.outputs }

-- the step that is due, whichever it is
pub small-step : (p words : List ℕ) → Plan p → (v : ℤ) (m : Machine) → Small m → Small (step_of (env_of p words) v m)
unfolding step_of erased_of stored_of executed_of begun effect_at
small-step p words l v m s =
    let same = journal-small m s in
    pick Small (ltb 0 m.regs.erase) (λ _. same _ _ _ _ _ _)
    (λ _. pick Small (ltb 0 m.regs.saving)
    (λ _. pick Small (eqb (m.regs.saving - 1 + m.regs.page) (size_at p m)) (λ _. same _ _ _ _ _ _) (λ _. same _ _ _ _ _ _))
    (λ _. pick Small (is_saves (effect_at p v m) && fits_at p m) (λ _. same _ _ _ _ _ _)
    (λ _. performed-small (env_of p words) (effect_at p v m) m s
    (effect-fits v m.regs.readings m.regs.outputs (cells_in m.cells) s.readings s.outputs s.values (instruction_at_of p m.regs.pc)
    (constant-lt p l.bytes m.regs.pc)))))
