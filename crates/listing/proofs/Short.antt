-- How long the parts of the text are at most: the whole has at most 140,000 bytes.
-- Assumes nothing.
use mathlib.Core.Path.{◌≡◌}
use mathlib.Core.List.{List}
use Prim.Native.Nat.{ℕ, zero, suc, ◌+◌, ◌-◌, ◌*◌, ◌^◌, ◌≤◌, ◌<◌, max}
use native.Mathlib.Omega.{arith}
use lib.ListN.{length, length-append}
use lib.Dec.{ltb, eqb}
use borrow.Author.Tests.{ltb-true, eqb-true, eqb-false, ne_eqb}
use Rattle.cellset.specs.Bits.{member}
use Rattle.instruction.specs.Bytes.{byte, cells_of, length_of}
use Rattle.program.specs.Starts.{starts_from, starts, excludes}
use Rattle.program.specs.Places.{Decodes, exclude_number}
use Rattle.program.proofs.Tests.{bool_cases}
use Rattle.listing.specs.Text.{bytes, decimal}
use Rattle.listing.specs.Listing.{number_if, numbers, set_of, line_from, in_neither, line_at, lines_of, head_of, accepted_of}
use Rattle.listing.proofs.Decimals.{decimal-length}

-- a line of a short word and a number of 32 bits
pub head-short : (word : List ℕ) (n : ℕ) → length word ≤ 8 → n < 2 ^ 32 → length (head_of word n) ≤ 19
unfolding bytes head_of
head-short word n l f =
    let d : length (decimal n) ≤ 10 = decimal-length 9 n (omega arith) in
    simp length-append (omega arith)

-- a cell's number, and that of a cell that is not in the set
number_short : (x c : ℕ) → c < 1000 → length (number_if x c) ≤ 4
unfolding bytes number_if
number_short x c l =
    let d : length (decimal c) ≤ 3 = decimal-length 2 c l in
    bool_cases (eqb x 1) (λ b. rw b (omega arith)) (λ b. rw b (omega arith))

number-out : (x c : ℕ) → (x ≡ 1 → ⊥) → length (number_if x c) ≡ 0
unfolding number_if
number-out x c ne = rw (ne_eqb x 1 ne)

-- a cell stands at most twice in a line
cell-short : (x y c : ℕ) → c < 1000 → length (number_if x c) + length (number_if y c) + length (number_if (1 - max x y) c) ≤ 8
cell-short x y c l =
    let s = number_short x c l in
    let t = number_short y c l in
    bool_cases (eqb x 1)
    (λ b. let e : x ≡ 1 = eqb-true _ _ b in omega (arith, number-out (1 - max x y) c (λ d. omega arith)))
    (λ b. bool_cases (eqb y 1)
    (λ d. let e : y ≡ 1 = eqb-true _ _ d in omega (arith, number-out (1 - max x y) c (λ d. omega arith)))
    (λ d. omega (arith, number-out x c (eqb-false x 1 b), number-out y c (eqb-false y 1 d), number_short (1 - max x y) c l)))

numbers-short : (f g : ℕ → ℕ) (n : ℕ) → n ≤ 1000 → length (numbers f n) + length (numbers g n) + length (numbers (in_neither f g) n) ≤ 8 * n
unfolding numbers
numbers-short f g zero l = omega arith
numbers-short f g (suc c) l =
    let ih = numbers-short f g c (omega arith) in
    let h = cell-short (f c) (g c) c (omega arith) in
    simp length-append (omega arith)

-- a line of at most 256 cells, at an offset of at most four digits
line-short : (s : List ℕ) (m offset n : ℕ) → offset < 10000 → n ≤ 256 → length (line_at s m offset n) ≤ 2070
unfolding bytes set_of line_from line_at
line-short s m offset n lo ln =
    let d : length (decimal offset) ≤ 4 = decimal-length 3 offset lo in
    let h = numbers-short (member s (8 * m)) (member s (8 * m + 4)) n (omega arith) in
    simp length-append (omega arith)

-- the lines of the instructions from offset o on
lines-short : (p s : List ℕ) (f o : ℕ) → length p ≤ 2048 → cells_of p ≤ 256 → length (lines_of p s (starts_from f p o)) ≤ 2070 * excludes p (starts_from f p o)
unfolding starts_from excludes lines_of
lines-short p s zero o lp lc = omega arith
lines-short p s (suc f) o lp lc =
    let ih = lines-short p s f (o + length_of (byte p o)) lp lc in
    bool_cases (ltb o (length p))
    (λ t.
    let w : o < length p = ltb-true _ _ t in
    let h = line-short s (exclude_number p o) o (cells_of p) (omega arith) lc in
    bool_cases (eqb (byte p o) 0x0D) (λ b. rw (t, b) (simp length-append (omega arith))) (λ b. rw (t, b) (omega arith)))
    (λ t. rw t (omega arith))

-- the text for a program that check passes
pub accepted-short : (p s : List ℕ) → Decodes p → cells_of p ≤ 256 → length (accepted_of p s) ≤ 140000
unfolding bytes starts accepted_of
accepted-short p s d lc =
    let h = head-short (bytes "cells ") (cells_of p) (omega arith) (omega arith) in
    let l = lines-short p s (length p) 1 d.most lc in
    simp length-append (omega (arith, d.few))
