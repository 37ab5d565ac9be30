-- The loop of `drain`: a node that does not wait obeys its equation. A turn keeps this, since it puts the nodes back whose equation its change may touch;
-- when no node waits, no bit of a live cell is left.
-- Assumes nothing.
use mathlib.Core.Path.{◌≡◌, refl, sym, ap, subst, ◌∙◌}
use mathlib.Core.Logic.{◌⊎◌, inl, inr, ⊎_elim}
use mathlib.Core.List.{List}
use mathlib.Core.Bool.{Bool, true, false, false≢true}
use Prim.Native.Nat.{ℕ, zero, suc, ◌+◌, ◌-◌, ◌*◌, ◌/◌, ◌%◌, ◌≤◌, ◌<◌, min, max}
use native.Mathlib.Nat.{le_refl, le_trans, le_of_eq, mul-le-mul_right}
use native.Mathlib.Decide.{ℕ_discrete}
use native.Mathlib.Omega.{arith}
use lib.ListN.{length, get_or, set}
use lib.Seq.{get_or-set_other}
use Rattle.cellset.specs.Bits.{bit, member}
use Rattle.cellset.proofs.Bits.{bit-lt, le-or-lt}
use Rattle.liveness.specs.Queue.{flag, Queue, Grown, On, Falls}
use Rattle.liveness.specs.Graph.{Wired, Ready, Turned, Live, read, to_left, to_right, Drained}
use Rattle.liveness.proofs.Waiting.{count_most, queue-pop}

-- membership is 0 or 1
member-lt : (ws : List ℕ) (at c : ℕ) → member ws at c < 2
member-lt ws at c = bit-lt (get_or ws (at + c / 64) 0) (c % 64)

-- a turn at node i leaves the set of another node j
member-other : {reads writes d d' : List ℕ} {i l r : ℕ} → Turned reads writes i l r d d' → (j c : ℕ) → (j ≡ i → ⊥) → c < 256
    → member d' (4 * j) c ≡ member d (4 * j) c
member-other {i = i} t j c n h = ap (λ (x : ℕ). bit x (c % 64)) (t.others (4 * j + c / 64) (apart j i n))
  where
    apart : (a b : ℕ) → (a ≡ b → ⊥) → (4 * a + c / 64 < 4 * b) ⊎ (4 * b + 4 ≤ 4 * a + c / 64)
    apart a b m = ⊎_elim (λ (p : b ≤ a). inr (omega arith)) (λ (p : a < b). inl (omega arith)) (le-or-lt b a)

-- a meet is at most each of its parts
meet_left : (x m e : ℕ) → x ≡ min m e → x ≤ m
meet_left x m e h = omega arith

meet_right : (x m e : ℕ) → x ≡ min m e → x ≤ e
meet_right x m e h = omega arith

-- a flag that is not set is unset
unset : (b : Bool) → (b ≡ true → ⊥) → b ≡ false
unset true n = absurd (n refl)
unset false n = refl

-- the number that waits at the end is taken from the list
pub popped : {n : ℕ} {list : List ℕ} {flags : List Bool} {top : ℕ} → 0 < top → Queue n list flags top → Queue n list (set flags (get_or list (top - 1) 0) false) (top - 1)
popped {n} {list} {flags} {top} l q = queue-pop (subst (Queue n list flags) (omega arith) q)

-- the place of that number, and the number
pub place : {n : ℕ} {list : List ℕ} {flags : List Bool} {top : ℕ} → 0 < top → Queue n list flags top → top - 1 < length list
place {flags = flags} l q = omega (arith, q.room.size, q.room.most, count_most flags)

pub node : {n : ℕ} {list : List ℕ} {flags : List Bool} {top : ℕ} → 0 < top → Queue n list flags top → get_or list (top - 1) 0 < n
node {top = top} l q = q.below (top - 1) (omega arith)

-- what `revisit` asks
pub ready : {left right heads links list₀ list : List ℕ} {flags₀ flags : List Bool} {first top i : ℕ} → Ready left right heads links list₀ flags₀ first
    → Queue (length left) list flags top → i < length left
    → Queue (length links) list flags top × Falls links × (i < length links) × (i < length heads) × (get_or heads i 0 ≤ length links)
ready {left} {right} {list = list} {flags = flags} {top = top} {i = i} r q l =
    let wide : length right ≡ length left = r.wired.both in
    let many = r.size in (
      subst (λ (n : ℕ). Queue n list flags top) (sym many) q,
      (λ k h. r.chains.falls k (omega arith)),
      omega arith,
      omega (arith, r.size_heads),
      omega (arith, r.chains.bounds i),
    )

-- the measure falls: where a turn changes words by their sum, else by the list
pub measure-more : {x y n : ℕ} {list : List ℕ} {flags : List Bool} {a : ℕ} (z b : ℕ) → x < y → Queue n list flags a → length flags ≡ z → x * (z + 1) + a < y * (z + 1) + b
measure-more {flags = flags} z b l q e = omega (arith, mul-le-mul_right (z + 1) l, q.room.most, count_most flags)

-- what an equation yields is 0: the bit was, or the cell is read, or it is not written and a way on has 0
zero-cases : (m a b w r : ℕ) → r < 2 → min m (min (max (min a b) w) (1 - r)) ≡ 0 → (m ≡ 0) ⊎ ((r ≡ 1) ⊎ ((w ≡ 0) × ((a ≡ 0) ⊎ (b ≡ 0))))
zero-cases zero a b w r l e = inl refl
zero-cases (suc m) a b w (suc r) l e = inr (inl (omega arith))
zero-cases (suc m) zero b w zero l e = inr (inr (omega arith, inl refl))
zero-cases (suc m) (suc a) zero w zero l e = inr (inr (omega arith, inr refl))
zero-cases (suc m) (suc a) (suc b) w zero l e = absurd (omega arith)

module _ (left right reads writes : List ℕ) where
  -- the set of node i in d has only what its equation allows
  abbrev pub Closed : List ℕ → ℕ → Type 0
  Closed d i = (c : ℕ) → c < 256
      → member d (4 * i) c ≤ min (max (min (member d (4 * get_or left i 0) c) (member d (4 * get_or right i 0) c)) (member writes (4 * i) c)) (1 - member reads (4 * i) c)

  -- d has come of d₀ by turns, and the nodes that do not wait are closed
  pub record Draining (d₀ d list : List ℕ) (flags : List Bool) (top : ℕ) : Type 0 where
    pub queue : Queue (length left) list flags top
    pub closed : (i : ℕ) → i < length left → flag flags i ≡ false → Closed d i
    pub size : length d ≡ length d₀
    pub falls : (i c : ℕ) → i < length left → c < 256 → member d (4 * i) c ≤ member d₀ (4 * i) c
    pub clear : (c : ℕ) → c < 256 → ((i : ℕ) → i < length left → member d₀ (4 * i) c ≡ 1)
        → (i : ℕ) → i < length left → member d (4 * i) c ≡ 0 → Live left right reads writes c i
    pub rest : (k : ℕ) → 4 * length left ≤ k → get_or d k 0 ≡ get_or d₀ k 0

  pub draining-first : (d : List ℕ) {heads links list : List ℕ} {flags : List Bool} {top : ℕ} → Ready left right heads links list flags top → Draining d d list flags top
  draining-first d r = record {
    queue = r.queue;
    closed = λ i l e. absurd (false≢true (sym e ∙ r.all i l));
    size = refl;
    falls = λ i c l h. le_refl _;
    clear = λ c h whole i l e. absurd (omega (arith, whole i l));
    rest = λ k h. refl;
  }

  -- a bit that is left is of a cell that is not live, once every node is closed
  kept : (wired : Wired left right) (d : List ℕ) → ((i : ℕ) → i < length left → Closed d i) → {c i : ℕ} → c < 256 → Live left right reads writes c i
      → i < length left → member d (4 * i) c ≡ 1 → ⊥
  kept wired d closed {c} {i} h (read e) l one = omega (arith, closed i l c h)
  kept wired d closed {c} {i} h (to_left e live) l one =
      kept wired d closed h live (wired.left_node i l)
      (omega (arith, closed i l c h, member-lt d (4 * get_or left i 0) c))
  kept wired d closed {c} {i} h (to_right e live) l one =
      kept wired d closed h live (wired.right_node i l)
      (omega (arith, closed i l c h, member-lt d (4 * get_or right i 0) c))

  pub draining-done : {d₀ d list : List ℕ} {flags : List Bool} {top : ℕ} → Wired left right → top ≤ 0 → Draining d₀ d list flags top
      → Drained left right reads writes d₀ d
  draining-done {d₀} {d} {flags = flags} wired none s = record {
    size = s.size;
    falls = λ i c l h e. omega (arith, s.falls i c l h, member-lt d₀ (4 * i) c);
    clear = s.clear;
    kept = λ i c l h e live. kept wired d (λ k p. s.closed k p (idle k)) h live l e;
    rest = s.rest;
  }
    where
      idle : (k : ℕ) → flag flags k ≡ false
      idle k = unset (flag flags k) (λ e. let w = s.queue.listed k e in omega (arith, w.1))

  module _ {heads links list₀ : List ℕ} {flags₀ : List Bool} {first : ℕ} (r : Ready left right heads links list₀ flags₀ first)
      {d₀ d d' list : List ℕ} {flags : List Bool} {top i : ℕ} (l : i < length left)
      (t : Turned reads writes i (get_or left i 0) (get_or right i 0) d d') (s : Draining d₀ d list flags top) where
    falls-turn : (j c : ℕ) → c < 256 → member d' (4 * j) c ≤ member d (4 * j) c
    falls-turn j c h = go (ℕ_discrete j i)
      where
        go : Dec (j ≡ i) → member d' (4 * j) c ≤ member d (4 * j) c
        go (yes e) = rw e (meet_left _ _ _ (t.bits c h))
        go (no n) = le_of_eq (member-other t j c n h)

    module _ (c : ℕ) (h : c < 256) (whole : (j : ℕ) → j < length left → member d₀ (4 * j) c ≡ 1) where
      clear-here : member d' (4 * i) c ≡ 0 → Live left right reads writes c i
      clear-here e =
          ⊎_elim (s.clear c h whole i l)
          (⊎_elim read (λ w.
          ⊎_elim
          (λ a. to_left w.0 (s.clear c h whole (get_or left i 0) (r.wired.left_node i l) a))
          (λ b. to_right w.0 (s.clear c h whole (get_or right i 0) (r.wired.right_node i l) b))
          w.1))
          (zero-cases _ _ _ _ _ (member-lt reads (4 * i) c) (sym (t.bits c h) ∙ e))

      clear-turn : (j : ℕ) → j < length left → member d' (4 * j) c ≡ 0 → Live left right reads writes c j
      clear-turn j p e = go (ℕ_discrete j i)
        where
          go : Dec (j ≡ i) → Live left right reads writes c j
          go (yes q) = rw q (clear-here (rw q at e))
          go (no n) = s.clear c h whole j p (sym (member-other t j c n h) ∙ e)

    -- what a turn asks of the flags: a node that does not wait after it did not wait before, and its ways on have kept their sets
    abbrev Still : List Bool → Type 0
    Still flags' = (j : ℕ) → j < length left → flag flags' j ≡ false → ((j ≡ i → ⊥) → flag flags j ≡ false)
        × ((c : ℕ) → c < 256 → (member d' (4 * get_or left j 0) c ≡ member d (4 * get_or left j 0) c)
        × (member d' (4 * get_or right j 0) c ≡ member d (4 * get_or right j 0) c))

    closed-turn : (flags' : List Bool) → Still flags' → (j : ℕ) → j < length left → flag flags' j ≡ false → Closed d' j
    closed-turn flags' still j p e c h = rw (((still j p e).1 c h).0, ((still j p e).1 c h).1) (go (ℕ_discrete j i))
      where
        go : Dec (j ≡ i)
            → member d' (4 * j) c ≤ min (max (min (member d (4 * get_or left j 0) c) (member d (4 * get_or right j 0) c)) (member writes (4 * j) c)) (1 - member reads (4 * j) c)
        go (yes q) = rw q (meet_right _ _ _ (t.bits c h))
        go (no n) = rw (member-other t j c n h) (s.closed j p ((still j p e).0 n) c h)

    draining-turn : {list' : List ℕ} {flags' : List Bool} {top' : ℕ} → Queue (length left) list' flags' top' → Still flags' → Draining d₀ d' list' flags' top'
    draining-turn {flags' = flags'} q still = record {
      queue = q;
      closed = closed-turn flags' still;
      size = t.size ∙ s.size;
      falls = λ j c p h. le_trans (falls-turn j c h) (s.falls j c p h);
      clear = λ c h whole. clear-turn c h whole;
      rest = λ k h. t.others k (inr (omega arith)) ∙ s.rest k h;
    }

    -- a turn that changed nothing
    pub draining-same : {top' : ℕ} → Queue (length left) list (set flags i false) top' → d' ≡ d → Draining d₀ d' list (set flags i false) top'
    draining-same q same =
        draining-turn q λ j p e. (
          (λ n. sym (get_or-set_other flags i j false false n) ∙ e),
          (λ c h. (ap (λ (x : List ℕ). member x (4 * get_or left j 0) c) same, ap (λ (x : List ℕ). member x (4 * get_or right j 0) c) same)),
        )

    -- a turn that changed words, and put back the node before and those of the chain
    pub draining-more : {list' : List ℕ} {flags' : List Bool} {top' : ℕ} → Queue (length links) list' flags' top' → Grown (set flags i false) flags'
        → ((k : ℕ) → k + 1 ≡ i → flag flags' k ≡ true) → ((k : ℕ) → On links k (get_or heads i 0) → flag flags' k ≡ true) → Draining d₀ d' list' flags' top'
    draining-more {list'} {flags'} {top'} q grown before chain =
        draining-turn (subst (λ (n : ℕ). Queue n list' flags' top') r.size q) λ j p e. (
          (λ n. unset (flag flags j) (λ f. false≢true (sym e ∙ grown j (get_or-set_other flags i j false false n ∙ f)))),
          (λ c h. (member-other t (get_or left j 0) c (not_left j p e) h, member-other t (get_or right j 0) c (not_right j p e) h)),
        )
      where
        not_right : (j : ℕ) → j < length left → flag flags' j ≡ false → get_or right j 0 ≡ i → ⊥
        not_right j p e w = false≢true (sym e ∙ chain j (subst (λ (x : ℕ). On links j (get_or heads x 0)) w (r.chains.complete j (omega (arith, r.wired.both)))))

        not_left : (j : ℕ) → j < length left → flag flags' j ≡ false → get_or left j 0 ≡ i → ⊥
        not_left j p e w = ⊎_elim (λ v. not_right j p e (sym v ∙ w)) (λ v. false≢true (sym e ∙ before j (sym v ∙ w))) (r.wired.beside j p)
