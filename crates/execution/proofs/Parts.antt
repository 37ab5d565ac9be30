-- The cell of a table at an index.
-- Assumes nothing.
use mathlib.Core.Path.{◌≡◌, subst, sym, ap}
use mathlib.Core.Bool.{true}
use Prim.Native.Nat.{ℕ, ◌+◌, ◌<◌, ◌≤◌}
use native.Mathlib.Omega.{arith}
use lib.Dec.{T, ltb, leb, ltb→lt, leb→le}
use Rattle.word.specs.Word.{place_of}
use Rattle.word.proofs.Signed.{place-lt}
use Rattle.instruction.specs.Table.{fits_in_of, table_at}
use Rattle.instruction.proofs.Entries.{and_left, and_right}
use Rattle.execution.specs.Effects.{table_cell_of}

-- a table within n cells has a cell, and ends there
pub fits-cell : (n base len : ℕ) → fits_in_of n (table_at base len) ≡ true → 0 < len
fits-cell n base len h = ltb→lt 0 len (and_left (ltb 0 len) (leb (base + len) n) (subst T (sym h) tt))

fits-end : (n base len : ℕ) → fits_in_of n (table_at base len) ≡ true → base + len ≤ n
fits-end n base len h = leb→le (base + len) n (and_right (ltb 0 len) (leb (base + len) n) (subst T (sym h) tt))

-- its cell at an index, r being the place of the index
pub table-at : (base len i r : ℕ) → fits_in_of 256 (table_at base len) ≡ true → r ≡ place_of i len → (base + r ≡ table_cell_of base len i) × (base + r < 256)
table-at base len i r h e =
    (ap (λ (k : ℕ). base + k) e, omega (arith, e, place-lt i len (fits-cell 256 base len h), fits-end 256 base len h))
