-- Words stored one after the other from the first byte on: what the loop of `store_words` keeps.
-- Assumes nothing.
use mathlib.Core.Path.{◌≡◌, refl, ◌∙◌}
use mathlib.Core.Logic.{inr, ⊎_elim}
use mathlib.Core.List.{List}
use Prim.Native.Nat.{ℕ, ◌+◌, ◌*◌, ◌^◌, ◌≤◌, ◌<◌}
use native.Mathlib.Omega.{arith}
use lib.ListN.{length, get_or}
use Rattle.word.specs.Bytes.{load_of, store_of}
use Rattle.word.proofs.Bytes.{length-store, store_other, load_store, load-store-below}
use Rattle.cellset.proofs.Bits.{le-or-lt}
use Rattle.pitskelo.specs.Storing.{Stored}

pub stored-first : (b words : List ℕ) → Stored b words 0 b
stored-first b words = record { size = refl; there = λ k l. absurd (omega arith); rest = λ j l. refl }

-- a turn: word number n goes behind those that stand there
module _ (b₀ words b : List ℕ) (n : ℕ) (q : Stored b₀ words n b) (room : 8 * n + 8 ≤ length b) (fits : get_or words n 0 < 2 ^ 64) where
  there-next : (k : ℕ) → k < n + 1 → load_of 8 (store_of 8 b (8 * n) (get_or words n 0)) (8 * k) ≡ get_or words k 0
  there-next k l =
      ⊎_elim
      (λ (h : n ≤ k). let e : k ≡ n = omega arith in rw e (load_store 8 b (8 * n) (get_or words n 0) room (omega arith)))
      (λ (h : k < n). load-store-below 8 8 b (8 * k) (8 * n) (get_or words n 0) (omega arith) ∙ q.there k h)
      (le-or-lt n k)

  stored-store : Stored b₀ words (n + 1) (store_of 8 b (8 * n) (get_or words n 0))
  stored-store = record {
    size = length-store 8 b (8 * n) (get_or words n 0) ∙ q.size;
    there = there-next;
    rest = λ j l. store_other 8 b (8 * n) (get_or words n 0) j (inr (omega arith)) ∙ q.rest j (omega arith);
  }

pub stored-turn : {b₀ words b b' : List ℕ} {n at v : ℕ} → Stored b₀ words n b → b' ≡ store_of 8 b at v → at ≡ 8 * n → v ≡ get_or words n 0
    → 8 * n + 8 ≤ length b → get_or words n 0 < 2 ^ 64 → Stored b₀ words (n + 1) b'
stored-turn {b₀} {words} {b} {n} q e a f room fits = rw (e, a, f) (stored-store b₀ words b n q room fits)

pub stored-done : {b₀ words b : List ℕ} {k n : ℕ} → Stored b₀ words k b → k ≡ n → Stored b₀ words n b
stored-done q e = rw e at q
