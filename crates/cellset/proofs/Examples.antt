-- Members of a set and of a set inside a list of words, one cell and a range, each at a few cells: one fact over all rows, by computation.
-- Assumes nothing.
use mathlib.Core.Path.{◌≡◌, refl}
use mathlib.Core.List.{List, [], ◌∷◌}
use mathlib.Core.Bool.{Bool, true, ◌&&◌}
use Prim.Native.Nat.{ℕ}
use lib.Dec.{eqb}
use Rattle.cellset.specs.Bits.{bit, has, member, is, within}

-- a value of the specification, and what it is to be
record Row : Type 0 where
  value : ℕ
  want : ℕ

-- cells 0, 2 and 192
abbrev three : List ℕ
three = 5 ∷ 0 ∷ 0 ∷ 1 ∷ []

abbrev rows : List Row
rows =
    record { value = has three 0; want = 1 }
    ∷ record { value = has three 1; want = 0 }
    ∷ record { value = has three 2; want = 1 }
    ∷ record { value = has three 64; want = 0 }
    ∷ record { value = has three 192; want = 1 }
    ∷ record { value = has three 193; want = 0 }
    ∷ record { value = member (7 ∷ three) 1 192; want = 1 }
    ∷ record { value = member (7 ∷ three) 1 1; want = 0 }
    ∷ record { value = is 255 255; want = 1 }
    ∷ record { value = is 255 254; want = 0 }
    ∷ record { value = within 3 5 2; want = 0 }
    ∷ record { value = within 3 5 3; want = 1 }
    ∷ record { value = within 3 5 4; want = 1 }
    ∷ record { value = within 3 5 5; want = 0 }
    ∷ []

-- every row's value is the wanted one
abbrev right : List Row → Bool
right [] = true
right (r ∷ rs) = eqb r.value r.want && right rs

-- all rows at once
pub rows_right : right rows ≡ true
unfolding bit
rows_right = refl
