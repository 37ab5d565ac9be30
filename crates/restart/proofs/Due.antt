-- What the step that is due does, in its five kinds, with what it adds to the tally, gives and takes.
-- Assumes nothing.
use Prim.Native.Nat.{ℕ, suc, ◌+◌, ◌≤◌, ◌<◌, max, ◌-◌}
use mathlib.Core.Path.{◌≡◌}
use mathlib.Core.Bool.{Bool, true, false, cond}
use mathlib.Core.List.{List, []}
use native.Mathlib.Omega.{arith}
use lib.IntN.{ℤ}
use lib.Dec.{eqb, ltb}
use borrow.Author.Tests.{ltb-true, ltb-false, eqb-true, eqb-false}
use Rattle.instruction.specs.Bytes.{byte}
use Rattle.execution.specs.Effects.{saves}
use Rattle.program.specs.Places.{is_start}
use Rattle.program.proofs.Tests.{bool_cases, and_both}
use Rattle.step.specs.State.{env_of, Machine, size_at, fits_at}
use Rattle.step.specs.Step.{effect_at, is_saves, performed, begun, executed_of, erased_of, stored_of, step_of, due_opcode_of, given_by, taken_by, given_of, taken_of}
use Rattle.step.specs.Ready.{Legal}
use Rattle.restart.specs.History.{Tally, commits, begins_save, retires, tallied}
use Rattle.restart.proofs.Effects.{saves-only, effect-checkpoint}

-- ---- the tally over a step

-- it stays
abbrev pub Stays : List ℕ → Machine → Type 0
Stays p m = (retires p m ≡ false) × (commits p m ≡ false)

-- it rises by one; a save's final byte commits it
abbrev pub Rises : List ℕ → Machine → Bool → Type 0
Rises p m b = (retires p m ≡ true) × (commits p m ≡ b)

abbrev pub risen : Bool → Tally → Tally
risen b t = record { retired = suc t.retired; committed = cond b (suc t.retired) t.committed; highest = max t.highest (suc t.retired) }

pub tally-stays : (p : List ℕ) (m : Machine) (t : Tally) → Stays p m → t.retired ≤ t.highest → tallied p m t ≡ t
unfolding tallied
tally-stays p m t h l =
    let a : t.retired + 0 ≡ t.retired = omega arith in
    let b : max t.highest (t.retired + 0) ≡ t.highest = omega arith in
    rw (h.0, h.1) (λ i. record { retired = a i; committed = t.committed; highest = b i })

pub tally-rises : (p : List ℕ) (m : Machine) (t : Tally) (b : Bool) → Rises p m b → tallied p m t ≡ risen b t
unfolding tallied
tally-rises p m t b h =
    let a : t.retired + 1 ≡ suc t.retired = omega arith in
    rw (h.0, h.1) (λ i. record { retired = a i; committed = cond b (a i) t.committed; highest = max t.highest (a i) })

-- ---- the five kinds

-- it gives and takes nothing
abbrev pub Silent : List ℕ → ℤ → Machine → Type 0
Silent p v m = (given_of p v m ≡ []) × (taken_of p v m ≡ 0)

pub data Due (p words : List ℕ) (v : ℤ) (m : Machine) : Type 0 where
  erases : 0 < m.regs.erase → step_of (env_of p words) v m ≡ erased_of m → Stays p m → Silent p v m → Due p words v m
  stores : 0 < m.regs.saving → ¬ (m.regs.saving - 1 + m.regs.page ≡ size_at p m) → step_of (env_of p words) v m ≡ stored_of p m → Stays p m → Silent p v m → Due p words v m
  completes : 0 < m.regs.saving → m.regs.saving - 1 + m.regs.page ≡ size_at p m → step_of (env_of p words) v m ≡ stored_of p m → Rises p m true → Silent p v m → Due p words v m
  begins : m.regs.erase ≡ 0 → m.regs.saving ≡ 0 → byte p m.regs.pc ≡ 0x0E → step_of (env_of p words) v m ≡ begun m → Stays p m → Silent p v m
      → Due p words v m
  executes : m.regs.erase ≡ 0 → m.regs.saving ≡ 0 → due_opcode_of p m ≡ byte p m.regs.pc → step_of (env_of p words) v m ≡ performed (env_of p words) (effect_at p v m) m
      → Rises p m false → (given_of p v m ≡ given_by (effect_at p v m)) × (taken_of p v m ≡ taken_by (effect_at p v m)) → Due p words v m

module _ (p words : List ℕ) (v : ℤ) (m : Machine) where
  -- a byte to erase
  due-erase : ltb 0 m.regs.erase ≡ true → Due p words v m
  unfolding step_of retires given_of taken_of
  due-erase a = erases (ltb-true _ _ a) (rw a) (rw a, rw a) (rw a, rw a)

  -- a page of a save
  due-byte : ltb 0 m.regs.erase ≡ false → ltb 0 m.regs.saving ≡ true → Due p words v m
  unfolding step_of retires given_of taken_of
  due-byte a b =
      bool_cases (eqb (m.regs.saving - 1 + m.regs.page) (size_at p m))
      (λ c. completes (ltb-true _ _ b) (eqb-true _ _ c) (rw (a, b)) (rw (a, b, c), rw (a, b, c)) (rw (a, b), rw (a, b)))
      (λ c. stores (ltb-true _ _ b) (eqb-false _ _ c) (rw (a, b)) (rw (a, b, c), rw (a, b, c)) (rw (a, b), rw (a, b)))

  module _ (l : Legal p) (start : is_start p m.regs.pc ≡ true) where
    -- the instruction saves where a CHECKPOINT stands
    saves-at : is_saves (effect_at p v m) ≡ eqb (byte p m.regs.pc) 0x0E
    unfolding effect_at
    saves-at = saves-only p m.regs.pc l start v _ _ _

    checkpoint-saves : byte p m.regs.pc ≡ 0x0E → effect_at p v m ≡ saves
    unfolding effect_at
    checkpoint-saves k = effect-checkpoint p m.regs.pc k v _ _ _

    -- the instruction
    due-instruction : ltb 0 m.regs.erase ≡ false → ltb 0 m.regs.saving ≡ false → Due p words v m
    unfolding step_of executed_of retires given_of taken_of due_opcode_of
    due-instruction a b =
        let x : m.regs.erase ≡ 0 = omega (arith, ltb-false 0 m.regs.erase a) in
        let y : m.regs.saving ≡ 0 = omega (arith, ltb-false 0 m.regs.saving b) in
        bool_cases (begins_save p m)
        (λ c.
        let k = eqb-true _ _ (and_both (eqb (byte p m.regs.pc) 0x0E) (fits_at p m) c).0 in
        let s = saves-at in
        let f = checkpoint-saves k in
        begins x y k (rw (a, b, s, c)) (rw (a, b, c), rw (a, b)) (rw (a, b, f), rw (a, b, f)))
        (λ c. let s = saves-at in executes x y (rw (a, b)) (rw (a, b, s, c)) (rw (a, b, c), rw (a, b)) (rw (a, b), rw (a, b)))

    pub due : Due p words v m
    due = bool_cases (ltb 0 m.regs.erase) due-erase (λ a. bool_cases (ltb 0 m.regs.saving) (due-byte a) (due-instruction a))
