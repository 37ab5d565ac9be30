-- The constant array is the table of lengths, and no length is above 6.
-- Assumes nothing.
use mathlib.Core.Bool.{Bool, true, ◌&&◌}
use mathlib.Core.List.{List, [], ◌∷◌, ◌++◌}
use Prim.Native.Nat.{ℕ, zero, suc, zero-le, ◌≤◌, ◌<◌}
use native.Mathlib.Omega.{arith}
use lib.Dec.{T, leb, eqb, leb→le, eqb→eq}
use lib.ListN.{get_or, replicate}
use Rattle.instruction.specs.Bytes.{lengths, length_of, Lengths}
use Rattle.instruction.proofs.Entries.{at, and_left, and_right}

-- the array's entries: the fifteen of the table, then 0
abbrev pub entries : List ℕ
entries = lengths ++ replicate 241 0

abbrev right : ℕ → ℕ → Bool
right k x = eqb x (get_or lengths k 0)

-- one test over all 256 entries
pub entries-right : Lengths entries
unfolding length_of
entries-right k h = let l : k < 256 = omega arith in eqb→eq (get_or entries k 0) (get_or lengths k 0) (at right entries tt k l)

-- no entry of a list is above m
abbrev all_most : ℕ → List ℕ → Bool
all_most m [] = true
all_most m (x ∷ xs) = leb x m && all_most m xs

most : (m : ℕ) (xs : List ℕ) → T (all_most m xs) → (k : ℕ) → get_or xs k 0 ≤ m
most m [] t k = zero-le
most m (x ∷ xs) t zero = leb→le x m (and_left (leb x m) (all_most m xs) t)
most m (x ∷ xs) t (suc k) = most m xs (and_right (leb x m) (all_most m xs) t) k

pub length_most : (k : ℕ) → length_of k ≤ 6
unfolding length_of
length_most k = most 6 lengths tt k
