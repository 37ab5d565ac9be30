-- Worklists: the number of flags that are set bounds the numbers in front of the list, and pushing and popping keep a queue a queue.
-- Assumes nothing.
use mathlib.Core.Path.{◌≡◌, refl, sym, ◌∙◌}
use mathlib.Core.Logic.{◌⊎◌, inl, inr}
use mathlib.Core.List.{List, [], ◌∷◌}
use mathlib.Core.Bool.{Bool, true, false, not, true≢false, false≢true}
use Prim.Native.Nat.{ℕ, zero, suc, ◌+◌, ◌-◌, ◌≤◌, ◌<◌, zero-le}
use native.Mathlib.Omega.{arith}
use native.Mathlib.Decide.{ℕ_discrete}
use borrow.Author.Tests.{not-true, not-false}
use lib.ListN.{length, get_or, set, length-set}
use lib.Seq.{get_or-set_same, get_or-set_other, set-get_or}
use Rattle.liveness.specs.Queue.{count, flag, Room, Queue, Pushed, Grown}

-- ---- the number of flags that are set

pub count_most : (flags : List Bool) → count flags ≤ length flags
count_most [] = omega arith
count_most (true ∷ flags) = let h = count_most flags in omega arith
count_most (false ∷ flags) = let h = count_most flags in omega arith

pub count_set : (flags : List Bool) (k : ℕ) → k < length flags → flag flags k ≡ false → count (set flags k true) ≡ count flags + 1
count_set [] k l h = absurd (omega arith)
count_set (true ∷ flags) zero l h = absurd (true≢false h)
count_set (false ∷ flags) zero l h = omega arith
count_set (b ∷ flags) (suc k) l h = let ih = count_set flags k (omega arith) h in omega arith

pub count-unset : (flags : List Bool) (k : ℕ) → count flags ≤ count (set flags k false) + 1
count-unset [] k = omega arith
count-unset (true ∷ flags) zero = omega arith
count-unset (false ∷ flags) zero = omega arith
count-unset (b ∷ flags) (suc k) = let ih = count-unset flags k in omega arith

-- with an unset flag there is a place for its number
pub room-left : {list : List ℕ} {flags : List Bool} {top : ℕ} (k : ℕ) → Room list flags top → k < length flags → flag flags k ≡ false → top < length list
room-left {flags = flags} k r l h = omega (arith, r, count_set flags k l h, count_most (set flags k true), length-set flags k true)

-- setting what is set changes nothing
set-again : (flags : List Bool) (k : ℕ) → flag flags k ≡ true → set flags k true ≡ flags
set-again flags k h = rw h at (set-get_or flags k false)

-- ---- a push

-- what `push` does where the flag is set, and where it is not
pub push_kept : {list : List ℕ} {flags : List Bool} {top k : ℕ} → flag flags k ≡ true → Pushed list flags top k list flags top
push_kept {flags = flags} {k = k} h = record { list_is = rw h; flags_are = sym (set-again flags k h); top_is = rw h }

pub push-new : {list : List ℕ} {flags : List Bool} {top k : ℕ} → flag flags k ≡ false → Pushed list flags top k (set list top k) (set flags k true) (top + 1)
push-new h = record { list_is = rw h; flags_are = refl; top_is = rw h }

module _ {list : List ℕ} {flags : List Bool} {top k : ℕ} {list' : List ℕ} {flags' : List Bool} {top' : ℕ} (p : Pushed list flags top k list' flags' top') where
  -- its number waited and nothing changes, or it is put behind the others
  push-cases : {C : Type 0} → (list' ≡ list → flags' ≡ flags → top' ≡ top → C)
      → (flag flags k ≡ false → list' ≡ set list top k → flags' ≡ set flags k true → top' ≡ top + 1 → C) → C
  push-cases {C = C} f g = go (flag flags k) refl
    where
      go : (b : Bool) → flag flags k ≡ b → C
      go true e = f (rw e at p.list_is) (p.flags_are ∙ set-again flags k e) (rw e at p.top_is)
      go false e = g e (rw e at p.list_is) p.flags_are (rw e at p.top_is)

  -- every number in front has a flag set
  pub room-push : Room list flags top → k < length flags → Room list' flags' top'
  room-push r l =
      push-cases
      (λ el ef et. rw (el, ef, et) r)
      (λ h el ef et. rw (el, ef, et) (record {
        size = length-set list top k ∙ r.size ∙ sym (length-set flags k true);
        most = omega (arith, r, count_set flags k l h);
      }))

  -- no length changes
  pub pushed_room : length list' ≡ length list
  pushed_room = push-cases (λ el ef et. rw el) (λ h el ef et. rw el (length-set list top k))

  pub pushed-size : length flags' ≡ length flags
  pushed-size = rw p.flags_are (length-set flags k true)

  -- the flag of k is set, and no other changes
  pub pushed-flag : k < length flags → flag flags' k ≡ true
  pushed-flag l = rw p.flags_are (get_or-set_same flags k true false l)

  pub pushed-other : (j : ℕ) → (j ≡ k → ⊥) → flag flags' j ≡ flag flags j
  pushed-other j ne = rw p.flags_are (get_or-set_other flags k j true false ne)

  pub grown-push : k < length flags → Grown flags flags'
  grown-push l j h = elim (ℕ_discrete j k) [ yes e ↦ rw e (pushed-flag l) | no ne ↦ pushed-other j ne ∙ h ]

  -- so a queue stays a queue
  module _ {n : ℕ} (q : Queue n list flags top) (l : k < n) where
    placed : flag flags k ≡ false → get_or (set list top k) top 0 ≡ k
    placed h = get_or-set_same list top k 0 (room-left k q.room (omega (arith, q.whole)) h)

    below-push : flag flags k ≡ false → (j : ℕ) → j < top + 1 → get_or (set list top k) j 0 < n
    below-push h j b =
        elim (ℕ_discrete j top) [
          | yes e ↦ rw (e, placed h) l
          | no ne ↦ rw (get_or-set_other list top j k 0 ne) (q.below j (omega arith))
        ]

    listed-push : flag flags k ≡ false → (i : ℕ) → flag (set flags k true) i ≡ true → (j : ℕ) × (j < top + 1) × (get_or (set list top k) j 0 ≡ i)
    listed-push h i s =
        elim (ℕ_discrete i k) [
          | yes e ↦ (top, omega arith, placed h ∙ sym e)
          | no ne ↦
              let (j, b, at) = q.listed i (sym (get_or-set_other flags k i true false ne) ∙ s) in
              (j, omega arith, get_or-set_other list top j k 0 (λ e. omega arith) ∙ at)
        ]

    pub queue-push : Queue n list' flags' top'
    queue-push = push-cases (λ el ef et. rw (el, ef, et) q) (λ h el ef et. record {
      room = room-push q.room (omega (arith, q.whole));
      whole = rw pushed-size q.whole;
      below = rw (el, et) (below-push h);
      listed = rw (el, ef, et) (listed-push h);
    })

-- ---- a pop

module _ {n : ℕ} {list : List ℕ} {flags : List Bool} {top : ℕ} (q : Queue n list flags (suc top)) where
  -- the last number that waits is taken
  pub pop-below : get_or list top 0 < n
  pop-below = q.below top (omega arith)

  -- another number with a set flag stands before the last
  listed-pop : (k : ℕ) → flag (set flags (get_or list top 0) false) k ≡ true → (j : ℕ) × (j < top) × (get_or list j 0 ≡ k)
  listed-pop k s =
      elim (ℕ_discrete k (get_or list top 0)) [
        | yes e ↦ absurd (false≢true (sym (get_or-set_same flags (get_or list top 0) false false (omega (arith, q.whole, pop-below))) ∙ (rw e at s)))
        | no ne ↦
            let (j, b, at) = q.listed k (sym (get_or-set_other flags (get_or list top 0) k false false ne) ∙ s) in
            (j, elim (ℕ_discrete j top) [ yes e ↦ absurd (ne (sym at ∙ rw e refl)) | no nt ↦ omega arith ], at)
      ]

  pub queue-pop : Queue n list (set flags (get_or list top 0) false) top
  queue-pop = record {
    room = record {
      size = q.room.size ∙ sym (length-set flags (get_or list top 0) false);
      most = omega (arith, q.room.most, count-unset flags (get_or list top 0));
    };
    whole = rw length-set q.whole;
    below = λ j l. q.below j (omega arith);
    listed = listed-pop;
  }

-- ---- pushes one after the other

-- what pushes made of the first list and its flags
pub record Pushes (n : ℕ) (list₀ : List ℕ) (flags₀ : List Bool) (list : List ℕ) (flags : List Bool) (top : ℕ) : Type 0 where
  pub queue : Queue n list flags top
  pub list_size : length list ≡ length list₀
  pub flags_size : length flags ≡ length flags₀
  pub grown : Grown flags₀ flags

pub pushes-first : {n : ℕ} {list : List ℕ} {flags : List Bool} {top : ℕ} → Queue n list flags top → Pushes n list flags list flags top
pushes-first q = record { queue = q; list_size = refl; flags_size = refl; grown = λ k h. h }

module _ {n : ℕ} {list₀ : List ℕ} {flags₀ : List Bool} {list : List ℕ} {flags : List Bool} {top : ℕ} (q : Pushes n list₀ flags₀ list flags top) where
  -- a number below n may be pushed
  pub may-push : {k : ℕ} → k < n → Room list flags top × (k < length flags)
  may-push l = (q.queue.room, omega (arith, q.queue.whole))

  pub pushes-turn : {k : ℕ} {list' : List ℕ} {flags' : List Bool} {top' : ℕ} → k < n → Pushed list flags top k list' flags' top'
      → Pushes n list₀ flags₀ list' flags' top'
  pushes-turn l p = record {
    queue = queue-push p q.queue l;
    list_size = pushed_room p ∙ q.list_size;
    flags_size = pushed-size p ∙ q.flags_size;
    grown = λ j h. grown-push p (may-push l).1 j (q.grown j h);
  }

-- `push_path`: number k is pushed, or it is that of the turn
pub record Way (left list₀ : List ℕ) (flags₀ : List Bool) (k : ℕ) (list : List ℕ) (flags : List Bool) (top i : ℕ) : Type 0 where
  pub pushes : Pushes (length left) list₀ flags₀ list flags top
  pub node : i < length left
  pub passed : (flag flags k ≡ true) ⊎ (i ≡ k)

pub way-first : {left list : List ℕ} {flags : List Bool} {top k : ℕ} → Queue (length left) list flags top → k < length left → Way left list flags k list flags top k
way-first q l = record { pushes = pushes-first q; node = l; passed = inr refl }

module _ {left list₀ : List ℕ} {flags₀ : List Bool} {k : ℕ} {list : List ℕ} {flags : List Bool} {top i : ℕ} (w : Way left list₀ flags₀ k list flags top i) where
  -- the number of the turn has a flag
  pub way-flag : i < length flags
  way-flag = (may-push w.pushes w.node).1

  module _ {list' : List ℕ} {flags' : List Bool} {top' : ℕ} (p : Pushed list flags top i list' flags' top') where
    pub way-turn : ((j : ℕ) → j < length left → get_or left j 0 < length left) → Way left list₀ flags₀ k list' flags' top' (get_or left i 0)
    way-turn nodes = record {
      pushes = pushes-turn w.pushes w.node p;
      node = nodes i w.node;
      passed = inl (elim w.passed [ inl h ↦ grown-push p way-flag k h | inr e ↦ rw e at (pushed-flag p way-flag) ]);
    }

    -- fewer flags are unset
    pub way-less : not (flag flags i) ≡ true → length flags' - count flags' < length flags - count flags
    way-less h = rw p.flags_are (omega (arith, count_set flags i way-flag (not-true (flag flags i) h), count_most (set flags i true), length-set flags i true))

  pub way-done : not (flag flags i) ≡ false → Queue (length left) list flags top × Grown flags₀ flags × (flag flags k ≡ true)
  way-done h = (w.pushes.queue, w.pushes.grown, elim w.passed [ inl s ↦ s | inr e ↦ rw e at (not-false (flag flags i) h) ])

-- `push_all`: the numbers below k are pushed
pub record All (n : ℕ) (list : List ℕ) (flags : List Bool) (top k : ℕ) : Type 0 where
  pub queue : Queue n list flags top
  pub done : (j : ℕ) → j < k → flag flags j ≡ true

-- none waits where no flag is set
pub queue-none : {n : ℕ} {list : List ℕ} {flags : List Bool} → length list ≡ length flags → n ≤ length flags → ((k : ℕ) → flag flags k ≡ false) → Queue n list flags 0
queue-none size whole none = record {
  room = record { size = size; most = zero-le };
  whole = whole;
  below = λ j l. absurd (omega arith);
  listed = λ k e. absurd (false≢true (sym (none k) ∙ e));
}
