-- Membership in the cells that an instruction may read, may write or must write is 0 or 1.
-- Assumes nothing.
use mathlib.Core.List.{List, [], ◌∷◌}
use mathlib.Core.Bool.{◌&&◌}
use Prim.Native.Nat.{ℕ, ◌+◌, ◌<◌}
use native.Mathlib.Omega.{arith}
use lib.Dec.{leb, ltb, eqb}
use Rattle.instruction.specs.Table.{Table, no_table_of, table_at, one_of, in_table, access}
use Rattle.program.proofs.Tests.{one-most}

one-lt : (cs : List ℕ) (c : ℕ) → one_of cs c < 2
one-lt [] c = omega arith
one-lt (a ∷ cs) c = omega (arith, one-most (eqb a c), one-lt cs c)

table-lt : (t : Table) (c : ℕ) → in_table t c < 2
table-lt no_table_of c = omega arith
table-lt (table_at base len) c = omega (arith, one-most (leb base c && ltb c (base + len)))

pub access-lt : (cs : List ℕ) (t : Table) (c : ℕ) → access cs t c < 2
unfolding access
access-lt cs t c = omega (arith, one-lt cs c, table-lt t c)
