-- A loop over the instructions of a program. At each turn a property Q of the list of the offsets still to come holds; Q may change from turn to turn.
-- Assumes nothing.
use mathlib.Core.Path.{◌≡◌, refl, subst}
use mathlib.Core.List.{List, [], ◌∷◌}
use Prim.Native.Nat.{ℕ, zero, suc, pred, ◌+◌, ◌≤◌, ◌<◌}
use native.Mathlib.Omega.{arith}
use lib.ListN.{length}
use borrow.Author.Tests.{lt-ltb, le-ltb}
use Rattle.instruction.specs.Bytes.{byte, length_of}
use Rattle.program.specs.Starts.{starts_from, starts}

-- within the program: the offset, then the rest
pub next : (p : List ℕ) (f at : ℕ) → at < length p → length p ≤ f + at → starts_from f p at ≡ at ∷ starts_from (pred f) p (at + length_of (byte p at))
unfolding starts_from
next p zero at h e = absurd (omega arith)
next p (suc f) at h e = rw (lt-ltb at (length p) h)

-- past the end: nothing
pub ended : (p : List ℕ) (f at : ℕ) → length p ≤ at → starts_from f p at ≡ []
unfolding starts_from
ended p zero at h = refl
ended p (suc f) at h = rw (le-ltb at (length p) h)

pub record Left (p : List ℕ) (Q : List ℕ → Type 0) (at : ℕ) : Type 0 where
  pub fuel : ℕ
  pub enough : length p ≤ fuel + at
  pub holds : Q (starts_from fuel p at)

-- the loop begins
pub left-first : (p : List ℕ) {Q : List ℕ → Type 0} → Q (starts p) → Left p Q 1
unfolding starts
left-first p h = record { fuel = length p; enough = omega arith; holds = h }

-- within a turn: the offset is the next, and f bounds what follows it
pub left_here : (p : List ℕ) {Q : List ℕ → Type 0} {at : ℕ} {C : Type 0} → Left p Q at → at < length p
    → ((f : ℕ) → Q (at ∷ starts_from f p (at + length_of (byte p at))) → C) → C
left_here p {Q} {at} l h g = g _ (subst Q (next p l.fuel at h l.enough) l.holds)

-- the turn ends n bytes on
pub left-turn : (p : List ℕ) {Q Q' : List ℕ → Type 0} {at n : ℕ} → Left p Q at → at < length p → n ≡ length_of (byte p at) → 0 < n
    → ((f : ℕ) → Q (at ∷ starts_from f p (at + n)) → Q' (starts_from f p (at + n))) → Left p Q' (at + n)
left-turn p {Q} {Q'} {at} {n} l h e z g =
    let q : starts_from l.fuel p at ≡ at ∷ starts_from (pred l.fuel) p (at + n) = rw e (next p l.fuel at h l.enough) in
    record { fuel = pred l.fuel; enough = omega arith; holds = g _ (subst Q q l.holds) }

-- the loop is left
pub left-done : (p : List ℕ) {Q : List ℕ → Type 0} {at : ℕ} → Left p Q at → length p ≤ at → Q []
left-done p {Q} {at} l h = subst Q (ended p l.fuel at h) l.holds
