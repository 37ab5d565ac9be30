-- From ℤ to ℕ: each operation of specs/Word.antt, as the code computes it on patterns. `val-ind` splits a value by its sign, `sub-ind` and `neg-ind` split the
-- operations of ℤ that test their operands, and `omega` does each case.
-- Assumes nothing.
use Rattle.std.proofs.Common.{◌≡◌, ℕ, zero, suc, ◌+◌, ◌-◌, ◌/◌, ◌%◌, ◌^◌, ◌<◌, ◌≤◌, Bool, true, false, cond, not, T, ltb, ℤ, pos, negsuc, ◌+ℤ◌, neg_ℤ, nat_abs, sym, refl, ap, ◌∙◌, div-le_self, arith, ltb→lt, nltb→le}
use lib.IntN.{sub_ℕ}
use lib.Signed.{quot_z}
use mir.Val.{sel, to_z, of_z}
use mir.Syntax.{w32}
use Rattle.std.proofs.lemmas.Int.{of_z-to_z}
use Rattle.word.specs.Word.{val, mod_z, bits_of, add_of, sub_of, div_of, place_of}

-- ---- splitting

-- what holds of true where a < b, and of false where not, holds of the test
ltb-ind : (P : Bool → Type 0) (a b : ℕ) → (a < b → P true) → (b ≤ a → P false) → P (ltb a b)
ltb-ind P a b f g = pick (ltb a b) (λ t. f (ltb→lt a b t)) (λ t. g (nltb→le a b t))
  where
    pick : (t : Bool) → (T t → P true) → (T (not t) → P false) → P t
    pick true f g = f tt
    pick false f g = g tt

-- what holds of n, below half, and of n − 2 ^ 32, from half on, holds of n's value
pub val-ind : (P : ℤ → Type 0) (n : ℕ) → (n < 2 ^ 31 → P (pos n)) → (2 ^ 31 ≤ n → P (negsuc (2 ^ 32 - suc n))) → P (val n)
val-ind P n f g = ltb-ind (λ t. P (sel t (pos n) (negsuc (2 ^ 32 - suc n)))) n (2 ^ 31) f g

-- the same of a − b, by which of the two is larger
pub sub-ind : (P : ℤ → Type 0) (a b : ℕ) → (a < b → P (negsuc (b - suc a))) → (b ≤ a → P (pos (a - b))) → P (sub_ℕ a b)
sub-ind P a b f g = ltb-ind (λ t. P (cond t (negsuc (b - suc a)) (pos (a - b)))) a b f g

-- the same of −n
pub neg-ind : (P : ℤ → Type 0) (n : ℕ) → (n ≡ 0 → P (pos 0)) → ((k : ℕ) → n ≡ suc k → P (negsuc k)) → P (neg_ℤ (pos n))
neg-ind P zero f g = f refl
neg-ind P (suc n) f g = g n refl

abs-neg : (n : ℕ) → nat_abs (neg_ℤ (pos n)) ≡ n
abs-neg n = neg-ind (λ z. nat_abs z ≡ n) n (λ e. sym e) (λ k e. sym e)

-- a pattern below half is its value
pub val_pos : (n : ℕ) → n < 2 ^ 31 → val n ≡ pos n
val_pos n h = val-ind (λ x. x ≡ pos n) n (λ k. refl) (λ k. absurd (omega arith))

-- from half on it is 2 ^ 32 more than its value
pub val-neg : (n : ℕ) → 2 ^ 31 ≤ n → val n ≡ negsuc (2 ^ 32 - suc n)
val-neg n h = val-ind (λ x. x ≡ negsuc (2 ^ 32 - suc n)) n (λ k. absurd (omega arith)) (λ k. refl)

-- ---- patterns of integers

-- a pattern is that of its value
pub bits-val : (n : ℕ) → n < 2 ^ 32 → bits_of (val n) ≡ n
bits-val n f = val-ind (λ x. bits_of x ≡ n) n (λ h. omega arith) (λ h. omega arith)

-- whatever the integer, its pattern has 32 bits
pub bits-lt : (z : ℤ) → bits_of z < 2 ^ 32
bits-lt (pos n) = omega arith
bits-lt (negsuc n) = omega arith

-- the pattern of any sum is the wrapped sum of the patterns
pub bits-add : (x y : ℤ) → bits_of (x +ℤ y) ≡ (bits_of x + bits_of y) % 2 ^ 32
bits-add (pos a) (pos b) = omega arith
bits-add (pos a) (negsuc b) = sub-ind (λ z. bits_of z ≡ (bits_of (pos a) + bits_of (negsuc b)) % 2 ^ 32) a (suc b) (λ h. omega arith) (λ h. omega arith)
bits-add (negsuc a) (pos b) = sub-ind (λ z. bits_of z ≡ (bits_of (negsuc a) + bits_of (pos b)) % 2 ^ 32) b (suc a) (λ h. omega arith) (λ h. omega arith)
bits-add (negsuc a) (negsuc b) = omega arith

-- the pattern of −x, whatever x is
pub bits-neg : (x : ℤ) → bits_of (neg_ℤ x) ≡ (2 ^ 32 - bits_of x) % 2 ^ 32
bits-neg (pos a) = neg-ind (λ z. bits_of z ≡ (2 ^ 32 - bits_of (pos a)) % 2 ^ 32) a (λ e. omega arith) (λ k e. omega arith)
bits-neg (negsuc a) = omega arith

-- ---- ADD, SUB

-- on patterns the sum is the unsigned one, wrapped
pub add-law : (a b : ℕ) → a < 2 ^ 32 → b < 2 ^ 32 → add_of a b ≡ (a + b) % 2 ^ 32
unfolding add_of
add-law a b f g = omega (arith, bits-add (val a) (val b), bits-val a f, bits-val b g)

-- SUB adds 2 ^ 32 − b, the pattern of −b
pub sub-law : (a b : ℕ) → a < 2 ^ 32 → b < 2 ^ 32 → sub_of a b ≡ (a + (2 ^ 32 - b)) % 2 ^ 32
unfolding sub_of
sub-law a b f g = omega (arith, bits-add (val a) (neg_ℤ (val b)), bits-neg (val b), bits-val a f, bits-val b g)

-- ---- DIV

-- a quotient toward zero has the quotient of the magnitudes
abs-quot : (x y : ℤ) → nat_abs (quot_z x y) ≡ nat_abs x / nat_abs y
abs-quot (pos a) (pos b) = refl
abs-quot (pos a) (negsuc b) = abs-neg (a / suc b)
abs-quot (negsuc a) (pos b) = abs-neg (suc a / b)
abs-quot (negsuc a) (negsuc b) = refl

-- a magnitude is at most 2 ^ 31
magnitude-le : (n : ℕ) → n < 2 ^ 32 → nat_abs (val n) ≤ 2 ^ 31
magnitude-le n f = val-ind (λ x. nat_abs x ≤ 2 ^ 31) n (λ h. omega arith) (λ h. omega arith)

-- the machine's bits of a number in range are its pattern
bits-of_z : (z : ℤ) → nat_abs z ≤ 2 ^ 31 → of_z w32 z ≡ bits_of z
bits-of_z (pos n) h = omega arith
bits-of_z (negsuc n) h = omega arith

-- so are those of a quotient
div-bits : (a b : ℕ) → a < 2 ^ 32 → of_z w32 (quot_z (val a) (val b)) ≡ div_of a b
unfolding div_of
div-bits a b f =
    bits-of_z (quot_z (val a) (val b))
    (omega (arith, abs-quot (val a) (val b), div-le_self (nat_abs (val a)) (nat_abs (val b)), magnitude-le a f))

pub div-lt : (a b : ℕ) → div_of a b < 2 ^ 32
unfolding div_of
div-lt a b = bits-lt (quot_z (val a) (val b))

-- what the code makes of a and b, through the machine's bits
pub div-law : (a b : ℕ) → a < 2 ^ 32 → b < 2 ^ 32 → {x y q : ℤ} {r : ℕ} → x ≡ val a → y ≡ val b
    → q ≡ to_z w32 (of_z w32 (quot_z (to_z w32 (of_z w32 x)) (to_z w32 (of_z w32 y)))) → r ≡ of_z w32 (to_z w32 (of_z w32 q)) → r ≡ div_of a b
div-law a b f g e h k l =
    let u = of_z-to_z w32 a f in
    let v = of_z-to_z w32 b g in
    let d = div-bits a b f in
    let w = of_z-to_z w32 (div_of a b) (div-lt a b) in
    cc

-- ---- GET, PUT

-- an index that is not negative
pub place-pos : (i len : ℕ) → i < 2 ^ 31 → place_of i len ≡ i % len
unfolding place_of
place-pos i len h = ap (λ (x : ℤ). mod_z x len) (val_pos i h)

-- a negative index i − 2 ^ 32 counts down from the table's end
pub place-neg : (i len : ℕ) → 2 ^ 31 ≤ i → i < 2 ^ 32 → place_of i len ≡ len - 1 - (2 ^ 32 - 1 - i) % len
unfolding place_of
place-neg i len h f =
    let e : 2 ^ 32 - suc i ≡ 2 ^ 32 - 1 - i = omega arith in
    ap (λ (x : ℤ). mod_z x len) (val-neg i h) ∙ omega (arith, ap (λ (n : ℕ). n % len) e)
