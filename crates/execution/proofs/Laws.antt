-- `plain_of` for the machine above: where it has a place, the instruction touches the cells and the place alone, whatever the next reading and the counts
-- are; where it has none, it leaves the cells.
-- Assumes nothing.
use mathlib.Core.Path.{◌≡◌, refl, ap, subst}
use mathlib.Core.Bool.{false}
use mathlib.Core.List.{List}
use mathlib.Core.Logic.{⊎_elim}
use Prim.Native.Nat.{ℕ, ◌<◌}
use native.Mathlib.Nat.{eq-zero-or-pos}
use native.Mathlib.Omega.{arith}
use borrow.Author.Tests.{ne_eqb}
use lib.Dec.{eqb}
use lib.IntN.{ℤ, pos}
use lib.ListN.{get_or}
use Rattle.instruction.specs.Bytes.{byte, lengths, length_of, instruction_from, instruction_at_of}
use Rattle.instruction.specs.declared.Instruction.{Instruction}
use Rattle.instruction.specs.declared.Instruction.TheVariants.{End, Set, Copy, Add, Sub, Div, Read, Emit, Jump, Less, Get, Put, Exclude, Checkpoint}
use Rattle.execution.specs.Effects.{Effect, stops, on, goes, writes, takes, gives, sets, saves, effect_of, cells_in, next_of}
use Rattle.execution.specs.Effects.{target, readings_after, outputs_after, stop_after, cells_after}
use Rattle.execution.specs.Plain.{plain_by, plain_of}

-- the effects that touch the cells and the place alone
pub data Quiet : Effect → Type 0 where
  quiet_on : Quiet on
  quiet_goes : {t : ℕ} → Quiet (goes t)
  quiet_writes : {d v : ℕ} → Quiet (writes d v)

-- ---- where there is a place

-- only these have one
quiet_by : (f : Effect) (n : ℕ) (xs : List ℕ) → 0 < (plain_by f n xs).place → Quiet f
quiet_by (stops k) n xs h = absurd (omega arith)
quiet_by on n xs h = quiet_on
quiet_by (goes t) n xs h = quiet_goes
quiet_by (writes d v) n xs h = quiet_writes
quiet_by (takes d v) n xs h = absurd (omega arith)
quiet_by (gives v) n xs h = absurd (omega arith)
quiet_by sets n xs h = absurd (omega arith)
quiet_by saves n xs h = absurd (omega arith)

-- only READ and EMIT ask for the reading and the counts, and they have none
same_by : (i : Instruction) (x : ℕ → ℕ) (t : ℕ) (xs : List ℕ) → 0 < (plain_by (effect_of i (pos 0) 0 0 x) t xs).place
    → (v : ℤ) (n m : ℕ) → effect_of i (pos 0) 0 0 x ≡ effect_of i v n m x
unfolding effect_of
same_by End x t xs h v n m = refl
same_by (Set d w) x t xs h v n m = refl
same_by (Copy d a) x t xs h v n m = refl
same_by (Add d a b) x t xs h v n m = refl
same_by (Sub d a b) x t xs h v n m = refl
same_by (Div d a b) x t xs h v n m = refl
same_by (Read d) x t xs h v n m = absurd (omega arith)
same_by (Emit a) x t xs h v n m = absurd (omega arith)
same_by (Jump u) x t xs h v n m = refl
same_by (Less a b u) x t xs h v n m = refl
same_by (Get d base len i) x t xs h v n m = refl
same_by (Put base len i a) x t xs h v n m = refl
same_by Exclude x t xs h v n m = refl
same_by Checkpoint x t xs h v n m = refl

-- such an effect goes where it says, stops nothing and counts nothing
pub quiet-leaves : {f : Effect} → Quiet f → (o t : ℕ) (xs : List ℕ) (n m : ℕ)
    → (target f o t ≡ (plain_by f t xs).place) × (cells_after f xs ≡ (plain_by f t xs).cells) × (stop_after f ≡ 0) × (readings_after f n ≡ n) × (outputs_after f m ≡ m)
quiet-leaves quiet_on o t xs n m = (refl, refl, refl, refl, refl)
quiet-leaves quiet_goes o t xs n m = (refl, refl, refl, refl, refl)
quiet-leaves quiet_writes o t xs n m = (refl, refl, refl, refl, refl)

module _ (p : List ℕ) (o : ℕ) (xs : List ℕ) (h : 0 < (plain_of p o xs).place) (v : ℤ) (n m : ℕ) where
  -- the effect is one of these
  pub plain_quiet : Quiet (effect_of (instruction_at_of p o) v n m (cells_in xs))
  unfolding plain_of
  plain_quiet = subst Quiet (same_by (instruction_at_of p o) (cells_in xs) (next_of p o) xs h v n m) (quiet_by _ (next_of p o) xs h)

  -- and what is left is what it leaves
  pub plain-effect : plain_of p o xs ≡ plain_by (effect_of (instruction_at_of p o) v n m (cells_in xs)) (next_of p o) xs
  unfolding plain_of
  plain-effect = ap (λ f. plain_by f (next_of p o) xs) (same_by (instruction_at_of p o) (cells_in xs) (next_of p o) xs h v n m)

  pub plain-some : let f = effect_of (instruction_at_of p o) v n m (cells_in xs) in
      (target f o (next_of p o) ≡ (plain_of p o xs).place) × (cells_after f xs ≡ (plain_of p o xs).cells) × (stop_after f ≡ 0)
      × (readings_after f n ≡ n) × (outputs_after f m ≡ m)
  plain-some = rw plain-effect (quiet-leaves plain_quiet o (next_of p o) xs n m)

-- ---- where there is none

-- what is no opcode is END
not-opcode : (k j : ℕ) → length_of k ≡ 0 → 0 < get_or lengths j 0 → eqb k j ≡ false
unfolding length_of
not-opcode k j h l = ne_eqb k j (λ e. let z = rw e at h in omega arith)

no-opcode : (k x y z w u : ℕ) → length_of k ≡ 0 → instruction_from k x y z w u ≡ End
no-opcode k x y z w u h =
    rw (
      not-opcode k 2 h (omega arith),
      not-opcode k 3 h (omega arith),
      not-opcode k 4 h (omega arith),
      not-opcode k 5 h (omega arith),
      not-opcode k 6 h (omega arith),
      not-opcode k 7 h (omega arith),
      not-opcode k 8 h (omega arith),
      not-opcode k 9 h (omega arith),
      not-opcode k 10 h (omega arith),
      not-opcode k 11 h (omega arith),
      not-opcode k 12 h (omega arith),
      not-opcode k 13 h (omega arith),
      not-opcode k 14 h (omega arith),
    )

-- an effect that has no place, though there is a next one, leaves the cells
none-by : (f : Effect) (n : ℕ) (xs : List ℕ) → 0 < n → (plain_by f n xs).place ≡ 0 → (plain_by f n xs).cells ≡ xs
none-by (stops k) n xs l h = refl
none-by on n xs l h = refl
none-by (goes t) n xs l h = refl
none-by (writes d v) n xs l h = absurd (omega arith)
none-by (takes d v) n xs l h = refl
none-by (gives v) n xs l h = refl
none-by sets n xs l h = refl
none-by saves n xs l h = refl

pub plain-none : (p : List ℕ) (o : ℕ) (xs : List ℕ) → (plain_of p o xs).place ≡ 0 → (plain_of p o xs).cells ≡ xs
unfolding plain_of instruction_at_of effect_of
plain-none p o xs h =
    ⊎_elim
    (λ z. ap (λ i. (plain_by (effect_of i (pos 0) 0 0 (cells_in xs)) (next_of p o) xs).cells) (no-opcode (byte p o) _ _ _ _ _ z))
    (λ l. none-by (effect_of (instruction_at_of p o) (pos 0) 0 0 (cells_in xs)) (next_of p o) xs (omega arith) h)
    (eq-zero-or-pos (length_of (byte p o)))
