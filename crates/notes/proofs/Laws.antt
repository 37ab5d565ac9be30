-- Laws of `spent`: it leaves one answer (`one_answer`), and it is refused as a recovery with words enough is, with that number (`as-recovery`).
-- Assumes nothing.
use Prim.Native.Nat.{ℕ, ◌≤◌, ◌<◌}
use mathlib.Core.Path.{◌≡◌, refl, sym, ap, subst}
use mathlib.Core.List.{List, []}
use native.Mathlib.Omega.{arith}
use lib.ListN.{length}
use Rattle.program.specs.Check.{Answer}
use Rattle.program.specs.Grounds as program
use Rattle.program.specs.Grounds.{Allowed, granted, denied, CallGround, plan, words, own}
use Rattle.program.proofs.Grounds.{one-allowed, accepted-values}
use Rattle.step.specs.State.{env_of, Machine}
use Rattle.recovery.specs.Recover as recovery
use Rattle.recovery.specs.Recover.{ChipGround, Outcome, RecoverIs}
use Rattle.notes.specs.Notes.{Told}
use Rattle.notes.specs.Notes.{Refused}
use Rattle.notes.specs.Notes.{Tells, answer_of, Ground, SpentIs}

-- no refusal has the number 0
plan-some : {p : List ℕ} → ¬ program.Ground p 0
plan-some g = omega (arith, accepted-values (denied g (λ m l h. omega arith)) refl)

pub ground-some : {p : List ℕ} {page owner : ℕ} {chip : List ℕ} {Short : Type 0} → ¬ CallGround p Short (ChipGround p page owner chip) 0
ground-some (plan g) = plan-some g
ground-some (own g) = late g refl
  where
    late : {p : List ℕ} {page owner n : ℕ} {chip : List ℕ} → ChipGround p page owner chip n → ¬ (n ≡ 0)
    late (ChipGround.size h) e = omega arith
    late (ChipGround.damaged h k) e = omega arith
    late (ChipGround.older h k) e = omega arith
    late (ChipGround.another saves rest h t o) e = omega arith

-- the values of an accepted call
tells-one : {page owner : ℕ} {p chip : List ℕ} {at : ℕ} (vs ws : List ℕ) → Tells page owner p chip at vs → Tells page owner p chip at ws → vs ≡ ws
tells-one vs ws (Tells.may n) (Tells.may m) = refl
tells-one vs ws (Tells.may n) (Tells.may_not m) = absurd (m n)
tells-one vs ws (Tells.may_not n) (Tells.may m) = absurd (n m)
tells-one vs ws (Tells.may_not n) (Tells.may_not m) = refl

pub one_answer : (p : List ℕ) (page owner : ℕ) (chip : List ℕ) (at : ℕ) (r r' : Told) → SpentIs p page owner chip at r → SpentIs p page owner chip at r'
    → answer_of r ≡ answer_of r'
one_answer p page owner chip at r r' = one-allowed ground-some tells-one

-- with words enough the grounds are recovery's
module _ {p : List ℕ} (ws : List ℕ) {page owner : ℕ} {chip : List ℕ} (enough : 512 ≤ length ws) where
  pub ground-of : (n : ℕ) → recovery.Ground (env_of p ws) page owner chip n → Ground p page owner chip n
  ground-of n (plan g) = plan g
  ground-of n (words s) = absurd (omega arith)
  ground-of n (own g) = own g

  pub ground-to : (n : ℕ) → Ground p page owner chip n → recovery.Ground (env_of p ws) page owner chip n
  ground-to n (plan g) = plan g
  ground-to n (words s) = absurd s
  ground-to n (own g) = own g

  same_number : {P Q : List ℕ → Type 0} {a b : Answer} → Allowed (recovery.Ground (env_of p ws) page owner chip) P a → Allowed (Ground p page owner chip) Q b → a.number ≡ b.number
  same_number (granted h x) (granted k y) = refl
  same_number (granted h x) (denied {n} g k) = absurd (h n (ground-to n g))
  same_number (denied {n} g h) (granted k y) = absurd (k n (ground-of n g))
  same_number (denied {n} f h) (denied {n = m} g k) =
      let a : ¬ (n < m) = λ l. k n l (ground-of n f) in
      let b : ¬ (m < n) = λ l. h m l (ground-to m g) in
      omega (arith, a, b)

-- so both give one number
pub as-recovery : (p ws : List ℕ) (page owner : ℕ) (m : Machine) (at : ℕ) (r : Told) (o : Outcome) → 512 ≤ length ws → SpentIs p page owner m.journal at r
    → RecoverIs (env_of p ws) page owner m o → (answer_of r).number ≡ (recovery.answer_of o.answer).number
as-recovery p ws page owner m at r o enough s h = sym (same_number ws enough h.ruled s)

-- a refusal's number is not 0
no-values : {page owner : ℕ} {p chip : List ℕ} {at : ℕ} {vs : List ℕ} → Tells page owner p chip at vs → ¬ (vs ≡ [])
no-values (Tells.may n) e = let z : ◌≡◌ {A = ℕ} 1 0 = ap length e in omega arith
no-values (Tells.may_not n) e = let z : ◌≡◌ {A = ℕ} 1 0 = ap length e in omega arith

some_number : {p : List ℕ} {page owner : ℕ} {chip : List ℕ} {at : ℕ} {a : Answer} → Allowed (Ground p page owner chip) (Tells page owner p chip at) a → a.values ≡ [] → ¬ (a.number ≡ 0)
some_number (granted h x) e z = no-values x e
some_number {p} {page} {owner} {chip} (denied {n} g h) e z = ground-some (subst (Ground p page owner chip) z g)

pub refused-not-zero : {p : List ℕ} {page owner : ℕ} {chip : List ℕ} {at n : ℕ} → SpentIs p page owner chip at (Refused n) → ¬ (n ≡ 0)
refused-not-zero s = some_number s refl
