-- The arithmetic of document 01's command table, over the integers ℤ. A cell holds a pattern of 32 bits, a number below 2 ^ 32;
-- `val` is its signed value in two's complement.
-- Assumes nothing.
use Rattle.std.specs.Prelude.{ℕ, suc, ◌-◌, ◌%◌, ◌^◌, Bool, ℤ, pos, negsuc, ◌+ℤ◌, ◌-ℤ◌, int_div, int_lt}
use Rattle.std.specs.Int.{w32}
use Rattle.std.proofs.Common.{to_z}

-- the signed value of a pattern: n below 2 ^ 31, else n − 2 ^ 32
abbrev pub val : ℕ → ℤ
val n = to_z w32 n

-- z modulo m, never negative
abbrev pub mod_z : ℤ → ℕ → ℕ
mod_z (pos n) m = n % m
mod_z (negsuc n) m = m - suc (n % m)

-- the pattern of z, which wraps
abbrev pub bits_of : ℤ → ℕ
bits_of z = mod_z z (2 ^ 32)

-- ADD: "sum, wraps"
unfoldable pub add_of : ℕ → ℕ → ℕ
add_of a b = bits_of (val a +ℤ val b)

-- SUB: "a less b, wraps"
unfoldable pub sub_of : ℕ → ℕ → ℕ
sub_of a b = bits_of (val a -ℤ val b)

-- DIV: "quotient toward zero"; "−2,147,483,648 divided by −1 gives −2,147,483,648"
unfoldable pub div_of : ℕ → ℕ → ℕ
div_of a b = bits_of (int_div (val a) (val b))

-- LESS: "a < b, signed"
unfoldable pub less_of : ℕ → ℕ → Bool
less_of a b = int_lt (val a) (val b)

-- GET and PUT: "value of i modulo len, never negative"
unfoldable pub place_of : ℕ → ℕ → ℕ
place_of i len = mod_z (val i) len
