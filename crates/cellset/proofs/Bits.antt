-- The bits of `|`, `&`, `!` and of masks, at any width; words are equal by their bits; the cells that `is` and `within` hold.
-- Assumes nothing.
use mathlib.Core.Path.{◌≡◌, refl, sym, ap, ◌∙◌}
use mathlib.Core.Logic.{◌⊎◌, inl, inr, ⊎_elim}
use mathlib.Core.Bool.{Bool, true, false, cond, and-false}
use Prim.Native.Nat.{ℕ, zero, suc, ◌+◌, ◌-◌, ◌*◌, ◌/◌, ◌%◌, ◌^◌, ◌≤◌, ◌<◌, min, max, suc-le-suc, zero-le}
use native.Mathlib.Nat.{not-suc-le-zero, le_of_suc-le-suc, pow-suc, lt_of_lt_of_le, div-eq_of_lt, zero-div, sub-zero}
use native.Mathlib.Numerals.{one-add}
use native.Mathlib.Omega.{arith}
use lib.Bits.{bit_and, bit_or, and_step, or_step, and_shr, or_shr}
use lib.Pow.{shr-shr, pow_pos, pow_mono, ones_lt}
use lib.Dec.{ltb}
use borrow.Author.Tests.{le-leb, lt-leb, lt-ltb, le-ltb, eq-eqb, ne_eqb}
use Rattle.cellset.specs.Bits.{bit, is, within}

-- a bit is 0 or 1, as an order for `omega`
pub bit-lt : (x k : ℕ) → bit x k < 2
unfolding bit
bit-lt x k = omega arith

-- and by cases
pub bit-cases : (x k : ℕ) → (bit x k ≡ 0) ⊎ (bit x k ≡ 1)
bit-cases x k = go (bit x k) (bit-lt x k)
  where
    go : (n : ℕ) → n < 2 → (n ≡ 0) ⊎ (n ≡ 1)
    go zero h = inl refl
    go (suc zero) h = inr refl
    go (suc (suc n)) h = absurd (omega arith)

-- an operation on words that goes bit by bit: shifts pass through it, and `g` is what it does to the last bit
bit-op : (op g : ℕ → ℕ → ℕ) → ((a b k : ℕ) → op a b / 2 ^ k ≡ op (a / 2 ^ k) (b / 2 ^ k)) → ((a b : ℕ) → op a b % 2 ≡ g (a % 2) (b % 2))
    → (a b k : ℕ) → bit (op a b) k ≡ g (bit a k) (bit b k)
unfolding bit
bit-op op g shift last a b k = ap (λ (x : ℕ). x % 2) (shift a b k) ∙ last (a / 2 ^ k) (b / 2 ^ k)

-- `|` is `max` at each bit
pub bit-or : (a b k : ℕ) → bit (bit_or a b) k ≡ max (bit a k) (bit b k)
bit-or = bit-op bit_or max or_shr (λ a b. omega (arith, or_step a b))

-- `&` is `min` at each bit
pub bit-and : (a b k : ℕ) → bit (bit_and a b) k ≡ min (bit a k) (bit b k)
bit-and = bit-op bit_and min and_shr (λ a b. omega (arith, and_step a b))

-- bit 0 says whether the word is odd
pub bit-zero : (x : ℕ) → bit x 0 ≡ x % 2
unfolding bit
bit-zero x = omega arith

-- the other bits are those of its half
pub bit-suc : (x k : ℕ) → bit x (suc k) ≡ bit (x / 2) k
unfolding bit
bit-suc x k = ap (λ (n : ℕ). x / 2 ^ n % 2) (sym (one-add k)) ∙ ap (λ (n : ℕ). n % 2) (sym (shr-shr x 1 k))

-- a word of n bits has none from n on
pub bit-out : (n x k : ℕ) → x < 2 ^ n → n ≤ k → bit x k ≡ 0
unfolding bit
bit-out n x k h l = ap (λ (y : ℕ). y % 2) (div-eq_of_lt (lt_of_lt_of_le h (pow_mono l)))

-- the half of `!a`, its last bit, and the half of a, where 2 × P is the power of two: the steps of the inductions below
half-not : (P a : ℕ) → a < P * 2 → (P * 2 - 1 - a) / 2 ≡ P - 1 - a / 2
half-not P a h = omega arith

odd-not : (P a : ℕ) → a < P * 2 → (P * 2 - 1 - a) % 2 ≡ 1 - a % 2
odd-not P a h = omega arith

half_lt : (P a : ℕ) → a < P * 2 → a / 2 < P
half_lt P a h = omega arith

-- `!a` at w bits has the bits that a lacks
pub bit_not : (w k a : ℕ) → a < 2 ^ w → k < w → bit ((2 ^ w - 1) - a) k ≡ 1 - bit a k
bit_not zero k a h l = absurd (not-suc-le-zero l)
bit_not (suc w) zero a h l = simp (bit-zero, pow-suc 2 w) (odd-not (2 ^ w) a (rw (pow-suc 2 w) at h))
bit_not (suc w) (suc k) a h l =
    let h' : a < 2 ^ w * 2 = rw (pow-suc 2 w) at h in
    simp (bit-suc, pow-suc 2 w, half-not (2 ^ w) a h') (bit_not w k (a / 2) (half_lt (2 ^ w) a h') (le_of_suc-le-suc l))

-- `a & !b` at w bits is `-` at each bit
pub bit-less : (w k a b : ℕ) → b < 2 ^ w → k < w → bit (bit_and a ((2 ^ w - 1) - b)) k ≡ bit a k - bit b k
bit-less w k a b h l = omega (arith, bit-and a ((2 ^ w - 1) - b) k, bit_not w k b h l, bit-lt a k, bit-lt b k)

-- the word 0 has no bit
pub bit-of-zero : (k : ℕ) → bit 0 k ≡ 0
unfolding bit
bit-of-zero k = ap (λ (y : ℕ). y % 2) (zero-div (2 ^ k))

-- 2 ^ n - 1 has the n low bits
pub bit-ones : (n k : ℕ) → k < n → bit (2 ^ n - 1) k ≡ 1
bit-ones n k l =
    let e : bit ((2 ^ n - 1) - 0) k ≡ 1 - bit 0 k = bit_not n k 0 (pow_pos n) l in
    ap (λ (x : ℕ). bit x k) (sym (sub-zero (2 ^ n - 1))) ∙ e ∙ ap (λ (x : ℕ). 1 - x) (bit-of-zero k)

-- and no other
pub bit-past-ones : (n k : ℕ) → n ≤ k → bit (2 ^ n - 1) k ≡ 0
bit-past-ones n k l = bit-out n (2 ^ n - 1) k (ones_lt n) l

-- words of w bits that agree at each bit are equal
pub bit-ext : (w a b : ℕ) → a < 2 ^ w → b < 2 ^ w → ((k : ℕ) → k < w → bit a k ≡ bit b k) → a ≡ b
bit-ext zero a b ha hb e = omega arith
bit-ext (suc w) a b ha hb e =
    let ha' : a < 2 ^ w * 2 = rw (pow-suc 2 w) at ha in
    let hb' : b < 2 ^ w * 2 = rw (pow-suc 2 w) at hb in
    let halves : (k : ℕ) → k < w → bit (a / 2) k ≡ bit (b / 2) k = λ k l. sym (bit-suc a k) ∙ e (suc k) (suc-le-suc l) ∙ bit-suc b k in
    let half : a / 2 ≡ b / 2 = bit-ext w (a / 2) (b / 2) (half_lt (2 ^ w) a ha') (half_lt (2 ^ w) b hb') halves in
    let odd : a % 2 ≡ b % 2 = sym (bit-zero a) ∙ e 0 (omega arith) ∙ bit-zero b in
    omega arith

-- and no other
pub is-other : (a c : ℕ) → (a ≡ c → ⊥) → is a c ≡ 0
is-other a c n = rw (ne_eqb a c n)

-- a range holds the cells from lo to hi - 1
pub within_in : (lo hi c : ℕ) → lo ≤ c → c < hi → within lo hi c ≡ 1
within_in lo hi c p q = rw (le-leb lo c p, lt-ltb c hi q)

-- none below lo
pub within_low : (lo hi c : ℕ) → c < lo → within lo hi c ≡ 0
within_low lo hi c p = rw (lt-leb lo c p)

-- none from hi on
pub within-high : (lo hi c : ℕ) → hi ≤ c → within lo hi c ≡ 0
within-high lo hi c p = rw (le-ltb c hi p, and-false)

-- a number is at most another or above it: the cases of the laws below
pub le-or-lt : (a b : ℕ) → (a ≤ b) ⊎ (b < a)
le-or-lt zero b = inl zero-le
le-or-lt (suc a) zero = inr (suc-le-suc zero-le)
le-or-lt (suc a) (suc b) = ⊎_elim (λ p. inl (suc-le-suc p)) (λ q. inr (suc-le-suc q)) (le-or-lt a b)

-- a range is the cells below hi that are not below lo
pub within-less : (lo hi c : ℕ) → within 0 hi c - within 0 lo c ≡ within lo hi c
within-less lo hi c =
    ⊎_elim
    (λ (p : lo ≤ c). simp (le-ltb c lo p, le-leb lo c p, le-leb 0 c zero-le, sub-zero))
    (λ (p : c < lo). simp (lt-ltb c lo p, lt-leb lo c p, le-leb 0 c zero-le) (less (ltb c hi)))
    (le-or-lt lo c)
  where
    less : (b : Bool) → cond {A = ℕ} b 1 0 - 1 ≡ 0
    less true = refl
    less false = refl

-- one cell is a range
pub is_within : (a c : ℕ) → is a c ≡ within a (a + 1) c
is_within a c = ⊎_elim from (λ (p : c < a). is-other a c (omega arith) ∙ sym (within_low a (a + 1) c p)) (le-or-lt a c)
  where
    from : a ≤ c → is a c ≡ within a (a + 1) c
    from p =
        ⊎_elim
        (λ (q : a + 1 ≤ c). is-other a c (omega arith) ∙ sym (within-high a (a + 1) c q))
        (λ (q : c < a + 1). rw (eq-eqb a c (omega arith)) (sym (within_in a (a + 1) c p q)))
        (le-or-lt (a + 1) c)
