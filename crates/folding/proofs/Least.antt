-- The least byte of a part of a list, met one by one: FF where all are.
-- Assumes nothing.
use Prim.Native.Nat.{ℕ, ◌+◌, ◌≤◌, ◌<◌, min}
use mathlib.Core.Path.{◌≡◌, refl, sym, ◌∙◌, subst}
use mathlib.Core.Bool.{Bool, true, false}
use mathlib.Core.List.{List}
use mathlib.Core.Logic.{◌⊎◌, inl, inr, ⊎_elim}
use native.Mathlib.Omega.{arith}
use lib.ListN.{length, get_or}
use lib.Dec.{eqb}
use borrow.Author.Tests.{eqb-true, eqb-false}
use Rattle.cellset.proofs.Bits.{le-or-lt}
use Rattle.journal.specs.Parts.{Decides}
use Rattle.folding.specs.Fold.{BlankFrom}

-- a byte from `from` on is v
pub record Met (l : List ℕ) (from v : ℕ) : Type 0 where
  pub at : ℕ
  pub after : from ≤ at
  pub within : at < length l
  pub is : get_or l at 0 ≡ v

-- the least byte from `from` to k, or FF
pub record Least (l : List ℕ) (from k least : ℕ) : Type 0 where
  pub onward : from ≤ k
  pub most : least ≤ 0xFF
  pub below : (j : ℕ) → from ≤ j → j < k → least ≤ get_or l j 0
  pub met : (least ≡ 0xFF) ⊎ Met l from least

pub least_first : (l : List ℕ) (from : ℕ) → Least l from from 0xFF
least_first l from = record { onward = omega arith; most = omega arith; below = λ j a b. absurd (omega arith); met = inl refl }

pub least-turn : {l : List ℕ} {from k least : ℕ} (next : ℕ) → k < length l → next ≡ min least (get_or l k 0) → Least l from k least → Least l from (k + 1) next
least-turn {l} {from} {k} {least} next n e h =
    record {
      onward = omega (arith, h.onward);
      most = omega (arith, h.most);
      below = λ j a b.
          ⊎_elim
          (λ (q : k ≤ j). let z : k ≡ j = omega arith in subst (λ (i : ℕ). next ≤ get_or l i 0) z (omega arith))
          (λ (q : j < k). omega (arith, h.below j a q))
          (le-or-lt k j);
      met =
          ⊎_elim
          (λ (q : get_or l k 0 ≤ least). inr (record { at = k; after = h.onward; within = n; is = omega arith }))
          (λ (q : least < get_or l k 0). let z : least ≡ next = omega arith in subst (λ (i : ℕ). (i ≡ 0xFF) ⊎ Met l from i) z h.met)
          (le-or-lt (get_or l k 0) least);
    }

-- it is FF where all are
not-blank : {l : List ℕ} {from least : ℕ} → ¬ (least ≡ 0xFF) → (least ≡ 0xFF) ⊎ Met l from least → ¬ BlankFrom l from
not-blank z (inl e) f = z e
not-blank z (inr m) f = z (sym m.is ∙ f m.at m.after m.within)

decide : {P : Type 0} (x : Bool) → (x ≡ true → P) → (x ≡ false → ¬ P) → Decides P x
decide true f g = f refl
decide false f g = g refl

pub least-done : {l : List ℕ} {from k least : ℕ} → ((j : ℕ) → get_or l j 0 < 256) → length l ≤ k → Least l from k least → Decides (BlankFrom l from) (eqb least 0xFF)
least-done {l} {from} {k} {least} bytes n h =
    decide (eqb least 0xFF)
    (λ t. let e : least ≡ 0xFF = eqb-true _ _ t in λ j a b. omega (arith, h.below j a (omega arith), bytes j))
    (λ t. not-blank (eqb-false _ _ t) h.met)
