-- What the operations on patterns are to the values: a pattern and its value determine each other, a result in range is exact, and each result is a pattern.
-- Assumes nothing.
use Rattle.std.proofs.Common.{◌≡◌, ℕ, suc, ◌-◌, ◌%◌, ◌^◌, ◌<◌, ℤ, pos, negsuc, ◌+ℤ◌, ◌-ℤ◌, ap, ◌∙◌, mod-lt, arith}
use lib.Signed.{mag, quot_z}
use Rattle.word.specs.Word.{val, mod_z, bits_of, add_of, sub_of, div_of, place_of}
use Rattle.word.proofs.Laws.{val_pos, val-neg}
-- a pattern is that of its value and has 32 bits, and so has a quotient
pub use Rattle.word.proofs.Laws.{bits-val, bits-lt, div-lt}

-- what is taken modulo m is below m
mod-lt-len : (z : ℤ) (m : ℕ) → 0 < m → mod_z z m < m
mod-lt-len (pos n) m h = mod-lt n h
mod-lt-len (negsuc n) m h = omega arith

-- a number in range is the value of its pattern
pub val-bits : (z : ℤ) → mag z < 2 ^ 31 → val (bits_of z) ≡ z
val-bits (pos n) f =
    let e : n % 2 ^ 32 ≡ n = omega arith in
    ap val e ∙ val_pos n f
val-bits (negsuc n) f =
    let e : 2 ^ 32 - suc (2 ^ 32 - suc (n % 2 ^ 32)) ≡ n = omega arith in
    val-neg (2 ^ 32 - suc (n % 2 ^ 32)) (omega arith) ∙ ap negsuc e

-- where the exact result is in range, it is the result
pub add-exact : (a b : ℕ) → mag (val a +ℤ val b) < 2 ^ 31 → val (add_of a b) ≡ val a +ℤ val b
unfolding add_of
add-exact a b h = val-bits (val a +ℤ val b) h

pub sub-exact : (a b : ℕ) → mag (val a -ℤ val b) < 2 ^ 31 → val (sub_of a b) ≡ val a -ℤ val b
unfolding sub_of
sub-exact a b h = val-bits (val a -ℤ val b) h

pub div-exact : (a b : ℕ) → mag (quot_z (val a) (val b)) < 2 ^ 31 → val (div_of a b) ≡ quot_z (val a) (val b)
unfolding div_of
div-exact a b h = val-bits (quot_z (val a) (val b)) h

-- each result is a pattern
pub add-lt : (a b : ℕ) → add_of a b < 2 ^ 32
unfolding add_of
add-lt a b = bits-lt (val a +ℤ val b)

pub sub-lt : (a b : ℕ) → sub_of a b < 2 ^ 32
unfolding sub_of
sub-lt a b = bits-lt (val a -ℤ val b)

-- a place is in the table
pub place-lt : (i len : ℕ) → 0 < len → place_of i len < len
unfolding place_of
place-lt i len h = mod-lt-len (val i) len h
