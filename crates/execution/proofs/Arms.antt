-- `plain` by opcode: the bytes that an arm reads are there, and what it leaves is what the command table says.
-- Assumes nothing.
use mathlib.Core.Path.{◌≡◌, refl, sym, ◌∙◌}
use mathlib.Core.Bool.{Bool, true, false, cond, and-true}
use mathlib.Core.List.{List, [], ◌∷◌}
use Prim.Native.Nat.{ℕ, ◌+◌, ◌<◌, ◌≤◌}
use native.Mathlib.Omega.{arith}
use borrow.Author.Tests.{ne_eqb}
use lib.Dec.{eqb}
use lib.IntN.{pos}
use lib.ListN.{length, get_or, set}
use Rattle.word.specs.Bytes.{number_of, load_of}
use Rattle.word.specs.Word.{add_of, sub_of, div_of, less_of}
use Rattle.instruction.specs.Bytes.{byte, lengths, length_of, instruction_at_of}
use Rattle.instruction.specs.Table.{fits_in_of, table_at}
use Rattle.instruction.specs.declared.Instruction.TheVariants.{End, Read, Emit, Exclude, Checkpoint}
use Rattle.execution.specs.Effects.{stops, on, goes, writes, divisor, effect_of, cells_in, table_cell_of}
use Rattle.execution.specs.Plain.{moved, plain_by, plain_of, Fetches}

-- ---- what an arm needs

-- the instruction's bytes are there
pub room : {p : List ℕ} {o : ℕ} (k : ℕ) → Fetches p o → byte p o ≡ k → (o < 4096) × (o + get_or lengths k 0 ≤ length p)
unfolding length_of
room k f q = let w = rw q at f.whole in (omega (arith, f.most), w)

-- and its table lies within the cells
pub get-table : {p : List ℕ} {o : ℕ} → Fetches p o → byte p o ≡ 11 → fits_in_of 256 (table_at (byte p (o + 2)) (byte p (o + 3))) ≡ true
unfolding instruction_at_of
get-table f q = sym (and-true _) ∙ rw q at f.table

pub put-table : {p : List ℕ} {o : ℕ} → Fetches p o → byte p o ≡ 12 → fits_in_of 256 (table_at (byte p (o + 1)) (byte p (o + 2))) ≡ true
unfolding instruction_at_of
put-table f q = rw q at f.table

-- ---- numbers of two and four bytes

load-2 : (p : List ℕ) (a b : ℕ) → a + 1 ≡ b → load_of 2 p a ≡ number_of (byte p a ∷ byte p b ∷ [])
unfolding load_of number_of
load-2 p a b e = rw e

load-4 : (p : List ℕ) (a b c d : ℕ) → a + 1 ≡ b → b + 1 ≡ c → c + 1 ≡ d → load_of 4 p a ≡ number_of (byte p a ∷ byte p b ∷ byte p c ∷ byte p d ∷ [])
unfolding load_of number_of
load-4 p a b c d e f g = rw (e, f, g)

-- ---- the rows

-- a division stops or writes, LESS goes to its target or on
div-moves : (b : Bool) (n d v : ℕ) (xs : List ℕ) → cond b (moved 0 xs) (moved n (set xs d v)) ≡ plain_by (cond b (stops divisor) (writes d v)) n xs
div-moves true n d v xs = refl
div-moves false n d v xs = refl

less_moves : (b : Bool) (t n : ℕ) (xs : List ℕ) → moved (cond b t n) xs ≡ plain_by (cond b (goes t) on) n xs
less_moves true t n xs = refl
less_moves false t n xs = refl

-- what is left after the arms: READ, EMIT, EXCLUDE, CHECKPOINT, END
other-moves : (r e x s : Bool) (d n : ℕ) (xs : List ℕ)
    → moved 0 xs ≡ plain_by (effect_of (cond r (Read d) (cond e (Emit d) (cond x Exclude (cond s Checkpoint End)))) (pos 0) 0 0 (cells_in xs)) n xs
unfolding effect_of
other-moves true e x s d n xs = refl
other-moves false true x s d n xs = refl
other-moves false false true s d n xs = refl
other-moves false false false true d n xs = refl
other-moves false false false false d n xs = refl

module _ (p : List ℕ) (o : ℕ) (xs : List ℕ) where
  pub set-arm : byte p o ≡ 2 → moved (o + length_of 0x02) (set xs (byte p (o + 1)) (load_of 4 p (o + 2))) ≡ plain_of p o xs
  unfolding plain_of instruction_at_of effect_of
  set-arm q = rw (q, load-4 p (o + 2) (o + 3) (o + 4) (o + 5) (omega arith) (omega arith) (omega arith))

  pub copy-arm : byte p o ≡ 3 → moved (o + length_of 0x03) (set xs (byte p (o + 1)) (cells_in xs (byte p (o + 2)))) ≡ plain_of p o xs
  unfolding plain_of instruction_at_of effect_of
  copy-arm q = rw q

  pub add-arm : byte p o ≡ 4
      → moved (o + length_of 0x04) (set xs (byte p (o + 1)) (add_of (cells_in xs (byte p (o + 2))) (cells_in xs (byte p (o + 3))))) ≡ plain_of p o xs
  unfolding plain_of instruction_at_of effect_of
  add-arm q = rw q

  pub sub-arm : byte p o ≡ 5
      → moved (o + length_of 0x05) (set xs (byte p (o + 1)) (sub_of (cells_in xs (byte p (o + 2))) (cells_in xs (byte p (o + 3))))) ≡ plain_of p o xs
  unfolding plain_of instruction_at_of effect_of
  sub-arm q = rw q

  pub div-arm : byte p o ≡ 6
      → cond (eqb (cells_in xs (byte p (o + 3))) 0) (moved 0 xs)
      (moved (o + length_of 0x06) (set xs (byte p (o + 1)) (div_of (cells_in xs (byte p (o + 2))) (cells_in xs (byte p (o + 3))))))
      ≡ plain_of p o xs
  unfolding plain_of instruction_at_of effect_of
  div-arm q = rw q (div-moves (eqb (cells_in xs (byte p (o + 3))) 0) _ _ _ xs)

  pub jump-arm : {r : ℕ} → byte p o ≡ 9 → r ≡ load_of 2 p (o + 1) → moved r xs ≡ plain_of p o xs
  unfolding plain_of instruction_at_of effect_of
  jump-arm q e = rw (q, e, load-2 p (o + 1) (o + 2) (omega arith))

  pub less-arm : {r : ℕ} → byte p o ≡ 10
      → r ≡ cond (less_of (cells_in xs (byte p (o + 1))) (cells_in xs (byte p (o + 2)))) (load_of 2 p (o + 3)) (o + length_of 0x0A) → moved r xs ≡ plain_of p o xs
  unfolding plain_of instruction_at_of effect_of
  less-arm q e =
      rw (q, e, load-2 p (o + 3) (o + 4) (omega arith)) (less_moves (less_of (cells_in xs (byte p (o + 1))) (cells_in xs (byte p (o + 2)))) _ _ xs)

  pub get-arm : byte p o ≡ 11
      → moved (o + length_of 0x0B)
      (set xs (byte p (o + 1)) (cells_in xs (table_cell_of (byte p (o + 2)) (byte p (o + 3)) (cells_in xs (byte p (o + 4))))))
      ≡ plain_of p o xs
  unfolding plain_of instruction_at_of effect_of
  get-arm q = rw q

  pub put-arm : byte p o ≡ 12
      → moved (o + length_of 0x0C)
      (set xs (table_cell_of (byte p (o + 1)) (byte p (o + 2)) (cells_in xs (byte p (o + 3)))) (cells_in xs (byte p (o + 4))))
      ≡ plain_of p o xs
  unfolding plain_of instruction_at_of effect_of
  put-arm q = rw q

  -- any other opcode
  pub other_arm : (byte p o ≡ 2 → ⊥) → (byte p o ≡ 3 → ⊥) → (byte p o ≡ 4 → ⊥) → (byte p o ≡ 5 → ⊥) → (byte p o ≡ 6 → ⊥) → (byte p o ≡ 9 → ⊥)
      → (byte p o ≡ 10 → ⊥) → (byte p o ≡ 11 → ⊥) → (byte p o ≡ 12 → ⊥) → moved 0 xs ≡ plain_of p o xs
  unfolding plain_of instruction_at_of
  other_arm n2 n3 n4 n5 n6 n9 n10 n11 n12 =
      rw (ne_eqb _ _ n2, ne_eqb _ _ n3, ne_eqb _ _ n4, ne_eqb _ _ n5, ne_eqb _ _ n6, ne_eqb _ _ n9, ne_eqb _ _ n10, ne_eqb _ _ n11, ne_eqb _ _ n12)
      (other-moves (eqb (byte p o) 7) (eqb (byte p o) 8) (eqb (byte p o) 13) (eqb (byte p o) 14) (byte p (o + 1)) (o + length_of (byte p o)) xs)
