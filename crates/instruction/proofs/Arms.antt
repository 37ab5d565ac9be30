-- The default arm of a `match` on an enum: what is known of the tag rules the other variants out.
-- Assumes nothing.
use mathlib.Core.Path.{◌≡◌, subst, sym}
use mathlib.Core.List.{List, [], ◌∷◌}
use mathlib.Core.Logic.{inl, inr}
use mathlib.Core.Bool.{Bool, true, not, ◌&&◌}
use Prim.Native.Nat.{ℕ}
use lib.Dec.{T, eqb, T_not, eqb_refl}
use types.Run.{OneOf}
use Rattle.instruction.proofs.Entries.{and_left, and_right}

-- x is none of the numbers
abbrev none_is : List ℕ → ℕ → Bool
none_is [] x = true
none_is (k ∷ ks) x = not (eqb k x) && none_is ks x

not_key : (k x : ℕ) → T (not (eqb k x)) → x ≡ k → ⊥
not_key k x h e = T_not (eqb k x) h (subst (λ (y : ℕ). T (eqb k y)) (sym e) (eqb_refl k))

pub none_of : (ks : List ℕ) (x : ℕ) → T (none_is ks x) → OneOf ks x → ⊥
none_of [] x t o = o
none_of (k ∷ []) x t o = not_key k x (and_left (not (eqb k x)) true t) o
none_of (k ∷ (j ∷ ks)) x t (inl e) = not_key k x (and_left (not (eqb k x)) (none_is (j ∷ ks) x) t) e
none_of (k ∷ (j ∷ ks)) x t (inr o) = none_of (j ∷ ks) x (and_right (not (eqb k x)) (none_is (j ∷ ks) x) t) o
