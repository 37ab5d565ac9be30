-- A load and a store in two parts, of any widths: laws of the definitions.
-- Assumes nothing.
use Rattle.std.proofs.Common.{◌≡◌, ℕ, zero, suc, ◌+◌, ◌*◌, ◌/◌, ◌%◌, ◌^◌, List, set, sym, add-zero, mul_assoc, suc-add, pow-suc, zero-add, div-one, arith}
use native.Mathlib.Nat.{pow-succ', one-le-pow, div-div-eq-div-mul}
use lib.Arith.{mod-mul}
use Rattle.word.specs.Bytes.{bytes_of, load_of, store_of}

-- a load is that of the low m bytes and, 256 ^ m times, that of the n bytes above them
pub load_split : (m n : ℕ) (s : List ℕ) (at : ℕ) → load_of (m + n) s at ≡ load_of m s at + 256 ^ m * load_of n s (at + m)
unfolding load_of
load_split zero n s at = rw (zero-add n, add-zero at) (omega arith)
load_split (suc m) n s at =
    let e : at + suc m ≡ at + 1 + m = omega arith in
    rw (suc-add m n, e, pow-succ' 256 m, mul_assoc 256 (256 ^ m) (load_of n s (at + 1 + m))) (omega (arith, load_split m n s (at + 1)))

-- a store is that of the low m bytes, then that of the n bytes above them: division by 256 ^ suc m is division by 256 and then by 256 ^ m
pub store_split : (m n : ℕ) (s : List ℕ) (at v : ℕ) → store_of (m + n) s at v ≡ store_of n (store_of m s at (v % 256 ^ m)) (at + m) (v / 256 ^ m)
unfolding store_of bytes_of
store_split zero n s at v = rw (zero-add n, add-zero at, div-one v)
store_split (suc m) n s at v =
    let r : v % 256 ^ suc m ≡ v / 256 % 256 ^ m * 256 + v % 256 = rw (pow-suc 256 m) (mod-mul v (one-le-pow m 256 (omega arith)) (omega arith)) in
    let l : v % 256 ^ suc m % 256 ≡ v % 256 = omega arith in
    let u : v % 256 ^ suc m / 256 ≡ v / 256 % 256 ^ m = omega arith in
    let q : v / 256 ^ suc m ≡ v / 256 / 256 ^ m = rw (pow-succ' 256 m) (sym (div-div-eq-div-mul v 256 (256 ^ m))) in
    let e : at + suc m ≡ suc at + m = omega arith in
    rw (suc-add m n, e, l, u, q) (store_split m n (set s at (v % 256)) (suc at) (v / 256))
