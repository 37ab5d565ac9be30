-- Truth values: going by cases, and what a disjunction or a conjunction tells.
-- Assumes nothing.
use mathlib.Core.Path.{◌≡◌, refl}
use mir.Val.{bool_byte}
use mathlib.Core.Bool.{not, Bool, true, false, cond, ◌&&◌, ◌||◌}
use Prim.Native.Nat.{ℕ, ◌≤◌}
use native.Mathlib.Omega.{arith}

-- a test went one way or the other
pub bool_cases : {C : Type 0} (b : Bool) → (b ≡ true → C) → (b ≡ false → C) → C
bool_cases true f g = f refl
bool_cases false f g = g refl

-- both at once is absurd
pub clash : {C : Type 0} (b : Bool) → b ≡ true → b ≡ false → C
clash b s t = absurd (let z : ◌≡◌ {A = ℕ} 0 1 = cc in omega arith)

pub or_cases : {C : Type 0} (a b : Bool) → (a || b) ≡ true → (a ≡ true → C) → (a ≡ false → b ≡ true → C) → C
or_cases true b h f g = f refl
or_cases false b h f g = g refl h

pub or-none : (a b : Bool) → (a || b) ≡ false → (a ≡ false) × (b ≡ false)
or-none true b h = clash true refl h
or-none false b h = (refl, h)

pub and_both : (a b : Bool) → (a && b) ≡ true → (a ≡ true) × (b ≡ true)
and_both true b h = (refl, h)
and_both false b h = clash false h refl

pub one-most : (b : Bool) → cond b 1 0 ≤ 1
one-most true = omega arith
one-most false = omega arith

pub not-true : (b : Bool) → not b ≡ true → b ≡ false
not-true true h = clash false h refl
not-true false h = refl

pub not-false : (b : Bool) → not b ≡ false → b ≡ true
not-false true h = refl
not-false false h = clash true refl h

-- the number of a bool
pub bool-number : (b : Bool) → bool_byte b ≡ cond b 1 0
bool-number true = refl
bool-number false = refl
