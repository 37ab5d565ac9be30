-- The decimal digits of a number: the last one and those before it, and how many there are.
-- Assumes nothing.
use mathlib.Core.Path.{◌≡◌}
use mathlib.Core.List.{List, [], ◌∷◌, ◌++◌}
use Prim.Native.Nat.{ℕ, zero, suc, ◌+◌, ◌*◌, ◌/◌, ◌%◌, ◌^◌, ◌≤◌, ◌<◌}
use native.Mathlib.Nat.{pow-suc}
use native.Mathlib.Omega.{arith}
use lib.ListN.{length, length-append}
use lib.Dec.{ltb}
use borrow.Author.Tests.{ltb-true, ltb-false, lt-ltb, le-ltb}
use Rattle.program.proofs.Tests.{bool_cases}
use Rattle.listing.specs.Text.{digits, decimal, Wrote, Room}
use Rattle.listing.proofs.Writing.{Parts}

-- any bound above the number will do
digits-bound : (f g n : ℕ) → n < f → n < g → digits f n ≡ digits g n
unfolding digits
digits-bound zero g n h k = absurd (omega arith)
digits-bound (suc f) zero n h k = absurd (omega arith)
digits-bound (suc f) (suc g) n h k =
    bool_cases (ltb n 10)
    (λ b. rw b)
    (λ b. let l : 10 ≤ n = ltb-false _ _ b in rw (b, digits-bound f g (n / 10) (omega arith) (omega arith)))

-- one digit
pub decimal-one : (n : ℕ) → n < 10 → decimal n ≡ (48 + n) ∷ []
unfolding decimal digits
decimal-one n h = let e : n % 10 ≡ n = omega arith in rw (lt-ltb n 10 h, e)

-- several: the last stands after the others
pub decimal-more : (n : ℕ) → 10 ≤ n → decimal n ≡ decimal (n / 10) ++ ((48 + n % 10) ∷ [])
unfolding decimal digits
decimal-more n h = rw (le-ltb n 10 h, digits-bound n (suc (n / 10)) (n / 10) (omega arith) (omega arith))

-- below 10 to the k + 1 there are at most k + 1 digits
pub decimal-length : (k n : ℕ) → n < 10 ^ suc k → length (decimal n) ≤ suc k
decimal-length zero n l = rw (decimal-one n l) (omega arith)
decimal-length (suc k) n l =
    bool_cases (ltb n 10)
    (λ b. rw (decimal-one n (ltb-true _ _ b)) (omega arith))
    (λ b.
    let m : 10 ≤ n = ltb-false _ _ b in
    let e : 10 ^ suc (suc k) ≡ 10 ^ suc k * 10 = pow-suc 10 (suc k) in
    let ih : length (decimal (n / 10)) ≤ suc k = decimal-length k (n / 10) (omega arith) in
    rw (decimal-more n m, length-append) (omega arith))

-- `put_decimal`: a number of one digit
pub wrote_one : {n at r : ℕ} {o₀ o₁ : List ℕ} → n < 10 → Wrote ((48 + n) ∷ []) at o₀ o₁ r → Wrote (decimal n) at o₀ o₁ r
wrote_one {n} h w = rw (decimal-one n h) w

pub room-one : {n at : ℕ} → n < 10 → Room at (decimal n) → Room at ((48 + n) ∷ [])
room-one {n} h r = rw (decimal-one n h) at r

-- and of several
pub more_parts : (n : ℕ) → 10 ≤ n → Parts (decimal n) (decimal (n / 10)) ((48 + n % 10) ∷ [])
more_parts n h = record { is = decimal-more n h }
