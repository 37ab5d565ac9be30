-- Chains of numbers through a table of links: pushing a chain, and threading the numbers by their targets.
-- Assumes nothing.
use mathlib.Core.Path.{◌≡◌}
use mathlib.Core.Logic.{◌⊎◌, inl, inr}
use mathlib.Core.List.{List}
use mathlib.Core.Bool.{Bool, true}
use Prim.Native.Nat.{ℕ, suc, ◌+◌, ◌-◌, ◌≤◌, ◌<◌}
use native.Mathlib.Omega.{arith}
use native.Mathlib.Decide.{ℕ_discrete}
use lib.ListN.{length, get_or, set}
use lib.Seq.{get_or-set_same, get_or-set_other}
use Rattle.liveness.specs.Queue.{flag, Queue, Pushed, Grown, On, here, there, Falls}
use Rattle.liveness.proofs.Waiting.{Pushes, pushes-first, pushes-turn, pushed-flag, grown-push, queue-push, may-push}

-- ---- what is on a chain

-- the first number of the chain, or one on the rest
on-split : {links : List ℕ} {k e : ℕ} → On links k e → (k ≡ e - 1) ⊎ On links k (get_or links (e - 1) 0)
on-split here = inl (omega arith)
on-split (there {j = j} o) = inr (let z : suc j - 1 ≡ j = omega arith in rw z o)

-- the empty chain has none
on_none : {links : List ℕ} {k e : ℕ} → e ≤ 0 → On links k e → ⊥
on_none l here = absurd (omega arith)
on_none l (there o) = absurd (omega arith)

-- a table that agrees below i has the same chains that begin at most there
pub on_below : {links links' : List ℕ} (i : ℕ) {k e : ℕ} → ((j : ℕ) → j < i → get_or links' j 0 ≡ get_or links j 0) → ((j : ℕ) → j < i → get_or links j 0 ≤ j) → e ≤ i
    → On links k e → On links' k e
on_below i same f l here = here
on_below i same f l (there {j = j} o) = there {j = j} (rw (same j (omega arith)) (on_below i same f (omega (arith, f j (omega arith))) o))

-- ---- `push_chain`

-- the numbers on the chain from e are pushed or on the chain from rest
pub record Along (links list₀ : List ℕ) (flags₀ : List Bool) (e : ℕ) (list : List ℕ) (flags : List Bool) (top rest : ℕ) : Type 0 where
  pub pushes : Pushes (length links) list₀ flags₀ list flags top
  pub bound : rest ≤ length links
  pub passed : (k : ℕ) → On links k e → (flag flags k ≡ true) ⊎ On links k rest

pub along-first : {links list : List ℕ} {flags : List Bool} {top e : ℕ} → Queue (length links) list flags top → e ≤ length links
    → Along links list flags e list flags top e
along-first q l = record { pushes = pushes-first q; bound = l; passed = λ k o. inr o }

module _ {links list₀ : List ℕ} {flags₀ : List Bool} {e : ℕ} {list : List ℕ} {flags : List Bool} {top rest : ℕ} (a : Along links list₀ flags₀ e list flags top rest) where
  module _ (more : 0 < rest) where
    pub along-number : rest - 1 < length links
    along-number = omega (arith, a.bound)

    pub along-turn : {list' : List ℕ} {flags' : List Bool} {top' : ℕ} → Falls links → Pushed list flags top (rest - 1) list' flags' top'
        → Along links list₀ flags₀ e list' flags' top' (get_or links (rest - 1) 0)
    along-turn {flags' = flags'} f p = record {
      pushes = pushes-turn a.pushes along-number p;
      bound = omega (arith, f (rest - 1) along-number, a.bound);
      passed = λ k o. go k (a.passed k o);
    }
      where
        go : (k : ℕ) → (flag flags k ≡ true) ⊎ On links k rest → (flag flags' k ≡ true) ⊎ On links k (get_or links (rest - 1) 0)
        go k (inl h) = inl (grown-push p (may-push a.pushes along-number).1 k h)
        go k (inr o) = elim (on-split o) [ inl e ↦ inl (rw e (pushed-flag p (may-push a.pushes along-number).1)) | inr r ↦ inr r ]

  pub along-done : rest ≤ 0 → Queue (length links) list flags top × Grown flags₀ flags × ((k : ℕ) → On links k e → flag flags k ≡ true)
  along-done l = (a.pushes.queue, a.pushes.grown, λ k o. elim (a.passed k o) [ inl h ↦ h | inr r ↦ absurd (on_none l r) ])

-- ---- `revisit`

-- there is no number before the first
pub visit-first : {A B C : Type 0} {D : ℕ → Type 0} {i : ℕ} → i ≡ 0 → A × B × C → A × B × ((k : ℕ) → k + 1 ≡ i → D k) × C
visit-first z r = (r.0, r.1, λ k e. absurd (omega arith), r.2)

-- the number before i is pushed, and then the chain of i
module _ {n : ℕ} {list : List ℕ} {flags : List Bool} {top i : ℕ} {list' : List ℕ} {flags' : List Bool} {top' : ℕ} (q : Queue n list flags top) (l : i < n)
    (some : i ≡ 0 → ⊥) (p : Pushed list flags top (i - 1) list' flags' top') where
  pub visit-queue : Queue n list' flags' top'
  visit-queue = queue-push p q (omega arith)

  pub visit-next : {C : Type 0} {list'' : List ℕ} {flags'' : List Bool} {top'' : ℕ} → Queue n list'' flags'' top'' × Grown flags' flags'' × C
      → Queue n list'' flags'' top'' × Grown flags flags'' × ((k : ℕ) → k + 1 ≡ i → flag flags'' k ≡ true) × C
  visit-next r =
      let b : i - 1 < length flags = omega (arith, q.whole) in
      (r.0, λ k h. r.1 k (grown-push p b k h), λ k e. let z : k ≡ i - 1 = omega arith in rw z (r.1 (i - 1) (pushed-flag p b)), r.2)

-- ---- `thread`

-- the numbers below k are on the chains of their targets
pub record Threaded (targets heads links : List ℕ) (k : ℕ) : Type 0 where
  pub bounds : (t : ℕ) → get_or heads t 0 ≤ k
  pub falls : (j : ℕ) → j < k → get_or links j 0 ≤ j
  pub complete : (j : ℕ) → j < k → On links j (get_or heads (get_or targets j 0) 0)

-- a turn: number k, with target t, becomes the first of the chain of t
module _ (targets heads links : List ℕ) (k : ℕ) (q : Threaded targets heads links k) (t : ℕ) (is : get_or targets k 0 ≡ t)
    (lt : t < length heads) (ll : k < length links) where
  abbrev heads' : List ℕ
  heads' = set heads t (k + 1)

  abbrev links' : List ℕ
  links' = set links k (get_or heads t 0)

  head-new : get_or heads' t 0 ≡ suc k
  head-new = omega (arith, get_or-set_same heads t (k + 1) 0 lt)

  new : On links' k (get_or heads' t 0)
  new = rw head-new here

  kept : (j s : ℕ) → On links j (get_or heads s 0) → On links' j (get_or heads' s 0)
  kept j s o =
      let same : (i : ℕ) → i < k → get_or links' i 0 ≡ get_or links i 0 = λ i b. get_or-set_other links k i (get_or heads t 0) 0 (λ e. omega arith) in
      let o' : On links' j (get_or heads s 0) = on_below k same q.falls (q.bounds s) o in
      elim (ℕ_discrete s t) [
        | yes e ↦ rw (e, head-new) (there {j = k} (rw (get_or-set_same links k (get_or heads t 0) 0 ll) (rw e at o')))
        | no ne ↦ rw (get_or-set_other heads t s (k + 1) 0 ne) o'
      ]

  pub threaded-turn : Threaded targets heads' links' (k + 1)
  threaded-turn = record {
    bounds = λ s.
        elim (ℕ_discrete s t) [
          | yes e ↦ rw (e, head-new) (omega arith)
          | no ne ↦ rw (get_or-set_other heads t s (k + 1) 0 ne) (omega (arith, q.bounds s))
        ];
    falls = λ j b.
        elim (ℕ_discrete j k) [
          | yes e ↦ rw (e, get_or-set_same links k (get_or heads t 0) 0 ll) (q.bounds t)
          | no ne ↦ rw (get_or-set_other links k j (get_or heads t 0) 0 ne) (q.falls j (omega arith))
        ];
    complete = λ j b.
        elim (ℕ_discrete j k) [ yes e ↦ rw (e, is) new | no ne ↦ kept j (get_or targets j 0) (q.complete j (omega arith)) ];
  }
