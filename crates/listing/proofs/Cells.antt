-- The numbers of the cells in a set, one after the other.
-- Assumes nothing.
use mathlib.Core.Path.{◌≡◌, sym, ◌∙◌}
use mathlib.Core.List.{List}
use mathlib.Core.Bool.{Bool, true, false, not}
use Prim.Native.Nat.{ℕ, zero, suc, ◌+◌, ◌≤◌, ◌<◌}
use native.Mathlib.Numerals.{add-one}
use native.Mathlib.Omega.{arith}
use lib.ListN.{length, length-append}
use lib.Dec.{ltb, eqb}
use borrow.Author.Tests.{ltb-true, ltb-false, not-true, not-false}
use Rattle.program.proofs.Tests.{bool_cases}
use Rattle.listing.specs.Text.{bytes, decimal, Wrote, Room}
use Rattle.listing.specs.Listing.{number_if, numbers, set_of}
use Rattle.listing.proofs.Writing.{Parts, joined, wrote_none, wrote_then}

-- `put_number`: x tells whether the cell is in the set, and the test b of it says that it is not
pub number-none : (x c : ℕ) {at : ℕ} {b : Bool} {out : List ℕ} → b ≡ eqb x 1 → not b ≡ true → Wrote (number_if x c) at out out at
unfolding number_if
number-none x c {b = b} e h = rw (sym e ∙ not-true b h) wrote_none

-- or that it is
pub number-parts : (x c : ℕ) {b : Bool} → b ≡ eqb x 1 → not b ≡ false → Parts (number_if x c) (bytes " ") (decimal c)
unfolding number_if
number-parts x c {b} e h = record { is = rw (sym e ∙ not-false b h) }

-- the numbers below c, with that of c, are among those below n
numbers-within : (f : ℕ → ℕ) (c n : ℕ) → c < n → length (numbers f c) + length (number_if (f c) c) ≤ length (numbers f n)
unfolding numbers
numbers-within f c zero l = absurd (omega arith)
numbers-within f c (suc n) l =
    rw length-append
    (bool_cases (ltb c n)
    (λ b. omega (arith, numbers-within f c n (ltb-true _ _ b)))
    (λ b. let g : n ≤ c = ltb-false _ _ b in let e : c ≡ n = omega arith in rw e (omega arith)))

-- `put_numbers`: the cells below c are done
pub record Counting (f : ℕ → ℕ) (n at : ℕ) (before after : List ℕ) (end c : ℕ) : Type 0 where
  pub room : Room at (numbers f n)
  pub most : c ≤ n
  pub wrote : Wrote (numbers f c) at before after end

pub counting-first : {f : ℕ → ℕ} {n at : ℕ} {out : List ℕ} → Room at (numbers f n) → Counting f n at out out at 0
unfolding numbers
counting-first h = record { room = h; most = omega arith; wrote = wrote_none }

pub counting-room : {f : ℕ → ℕ} {n at end c : ℕ} {before after : List ℕ} → Counting f n at before after end c → c < n → Room end (number_if (f c) c)
counting-room {f} {n} {c = c} q l = record { fits = omega (arith, q.room.fits, q.wrote.end, numbers-within f c n l) }

pub counting-turn : {f : ℕ → ℕ} {n at end end' c : ℕ} {before after after' : List ℕ} → Counting f n at before after end c → c < n
    → Wrote (number_if (f c) c) end after after' end' → Counting f n at before after' end' (c + 1)
unfolding numbers
counting-turn {c = c} q l w = record { room = q.room; most = omega arith; wrote = wrote_then (record { is = rw (add-one c) }) q.wrote w }

-- `put_set`: the word, then the numbers
pub set-parts : (word : List ℕ) (f : ℕ → ℕ) (n : ℕ) → Parts (set_of word f n) word (numbers f n)
unfolding set_of
set-parts word f n = joined word (numbers f n)
