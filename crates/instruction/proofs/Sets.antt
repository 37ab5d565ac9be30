-- The sets that the accesses of an instruction are made of, and the cells from a base on that it must write.
-- Assumes nothing.
use mathlib.Core.Path.{◌≡◌}
use mathlib.Core.List.{List, [], ◌∷◌}
use mathlib.Core.Logic.{⊎_elim}
use Prim.Native.Nat.{ℕ, ◌+◌, ◌≤◌, ◌<◌, max}
use native.Mathlib.Omega.{arith}
use borrow.Author.Tests.{eq-eqb, ne_eqb}
use Rattle.cellset.specs.Bits.{has, is, within}
use Rattle.cellset.specs.Sets.{SetIs}
use Rattle.cellset.proofs.Bits.{le-or-lt, within_low, within-high, is_within}
use Rattle.cellset.proofs.Sets.{set-ext, set-union}
use Rattle.instruction.specs.Table.{no_table_of, table_at, access, sure_table, SpanIs}

pub empty-set : {s : List ℕ} → SetIs s (λ c. 0) → SetIs s (access [] no_table_of)
unfolding access
empty-set h = set-ext h (λ c l. omega arith)

pub one_set : {s : List ℕ} (a : ℕ) → SetIs s (is a) → SetIs s (access (a ∷ []) no_table_of)
unfolding access
one_set a h = set-ext h (λ c l. omega arith)

pub table-set : {s : List ℕ} (base len : ℕ) → SetIs s (within base (base + len)) → SetIs s (access [] (table_at base len))
unfolding access
table-set base len h = set-ext h (λ c l. omega arith)

pub two-set : {s t u : List ℕ} (a b : ℕ) → SetIs s (is a) → SetIs t (is b) → SetIs u (λ c. max (has s c) (has t c)) → SetIs u (access (a ∷ b ∷ []) no_table_of)
unfolding access
two-set a b h k r = set-ext (set-union h k r) (λ c l. omega arith)

pub one-table-set : {s t u : List ℕ} (a base len : ℕ) → SetIs s (is a) → SetIs t (access [] (table_at base len)) → SetIs u (λ c. max (has s c) (has t c))
    → SetIs u (access (a ∷ []) (table_at base len))
unfolding access
one-table-set a base len h k r = set-ext (set-union h k r) (λ c l. omega arith)

-- ---- cells from a base on

-- none
pub no_span : (base : ℕ) → SpanIs base 0 (access [] no_table_of)
unfolding access
no_span base c =
    ⊎_elim
    (λ (l : base ≤ c). omega (arith, within-high base (base + 0) c (omega arith)))
    (λ (l : c < base). omega (arith, within_low base (base + 0) c l))
    (le-or-lt base c)

-- one
pub one_span : (d : ℕ) → SpanIs d 1 (access (d ∷ []) no_table_of)
unfolding access
one_span d c = omega (arith, is_within d c)

-- those of a table of one cell, which must be written, and none of any other table
pub sure-span : (base len : ℕ) → len ≡ 1 → SpanIs base len (access [] (sure_table (table_at base len)))
unfolding access
sure-span base len h c = rw (eq-eqb len 1 h) (omega arith)

pub unsure-table : (base len : ℕ) → ¬ (len ≡ 1) → sure_table (table_at base len) ≡ no_table_of
unsure-table base len h = rw (ne_eqb len 1 h)

-- they make a set
pub span_set : {s : List ℕ} (base len : ℕ) {f : ℕ → ℕ} → SpanIs base len f → SetIs s (access [] (table_at base len)) → SetIs s f
unfolding access
span_set base len k h = set-ext h (λ c l. omega (arith, k c))
