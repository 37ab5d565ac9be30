-- A bit of a word, and membership of a cell in a set: "In a set bit b of word w stands for cell 64 × w + b, b = 0 the lowest."
-- A bit is a number, 0 or 1, and so is what a test of cells gives: union, intersection and difference are then `max`, `min` and `-`.
-- Assumes nothing.
use Rattle.std.specs.Prelude.{ℕ, ◌+◌, ◌/◌, ◌%◌, ◌^◌, List, cond, ◌&&◌, get_or, leb, ltb, eqb}

-- bit k of x, k = 0 the lowest
unfoldable pub bit : ℕ → ℕ → ℕ
bit x k = x / 2 ^ k % 2

-- 1 where cell c is in the set whose four words are s
abbrev pub has : List ℕ → ℕ → ℕ
has s c = bit (get_or s (c / 64) 0) (c % 64)

-- 1 where cell c is in the set whose four words stand in ws from index `at` on
abbrev pub member : List ℕ → ℕ → ℕ → ℕ
member ws at c = bit (get_or ws (at + c / 64) 0) (c % 64)

-- 1 where c is the cell a
abbrev pub is : ℕ → ℕ → ℕ
is a c = cond (eqb a c) 1 0

-- 1 where lo ≤ c < hi
abbrev pub within : ℕ → ℕ → ℕ → ℕ
within lo hi c = cond (leb lo c && ltb c hi) 1 0
