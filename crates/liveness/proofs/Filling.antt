-- The loop of `fill`: the sets below the turn are full, and the words behind the last set remain.
-- Assumes nothing.
use mathlib.Core.Path.{◌≡◌, ◌∙◌}
use mathlib.Core.List.{List}
use Prim.Native.Nat.{ℕ, ◌+◌, ◌*◌, ◌≤◌, ◌<◌}
use native.Mathlib.Omega.{arith}
use borrow.Author.Count.{below_more}
use lib.ListN.{length, get_or}
use lib.Seq.{sets}
use Rattle.cellset.specs.Bits.{member, within}
use Rattle.cellset.specs.Sets.{SetIs}
use Rattle.cellset.proofs.Sets.{member-store, member_below, store-above}

-- the sets of the nodes below i are full
pub record Filled (n cells : ℕ) (d₀ d : List ℕ) (i : ℕ) : Type 0 where
  pub full : (j : ℕ) → j < i → (c : ℕ) → c < 256 → member d (4 * j) c ≡ within 0 cells c
  pub rest : (k : ℕ) → 4 * n ≤ k → get_or d k 0 ≡ get_or d₀ k 0

module _ (n cells : ℕ) (d₀ : List ℕ) where
  pub filled-turn : {all d d' : List ℕ} {i : ℕ} → 4 * n ≤ length d → i < n → SetIs all (within 0 cells) → d' ≡ sets d (4 * i) all
      → Filled n cells d₀ d i → Filled n cells d₀ d' (i + 1)
  filled-turn {all} {d} {i = i} room l s e f = rw e (record {
    full = below_more _ i
        (λ j p c h. member_below d (4 * i) all (4 * j) c (omega arith) h ∙ f.full j p c h)
        (λ c h. member-store d (4 * i) all c (omega arith) s.four h ∙ s.members c h);
    rest = λ k h. store-above d (4 * i) all k s.four (omega arith) ∙ f.rest k h;
  })
