-- The search of a region: what is listed lies in the region, and when every listed instruction has been gone on from, the whole region is listed.
-- Assumes nothing.
use mathlib.Core.Path.{◌≡◌, refl, sym, ap, ◌∙◌, subst}
use mathlib.Core.Logic.{inl, inr, ⊎_elim}
use mathlib.Core.List.{List, [], ◌∷◌}
use mathlib.Core.Bool.{Bool, true, false}
use Prim.Native.Nat.{ℕ, ◌+◌, ◌≤◌, ◌<◌}
use native.Mathlib.Omega.{arith}
use lib.ListN.{length, get_or, set}
use lib.Seq.{get_or-set_same, get_or-set_other}
use lib.Dec.{eqb}
use borrow.Author.Tests.{eqb-true, eqb-false, eq-eqb}
use Rattle.instruction.specs.Bytes.{byte, length_of, instruction_at_of}
use Rattle.instruction.specs.Table.{successors}
use Rattle.program.specs.Starts.{among}
use Rattle.program.proofs.Tests.{bool_cases, clash, or_cases}
use Rattle.program.proofs.Accepted.{accepted, start-within}
use Rattle.liveness.specs.Queue.{flag, Room, Queue, Pushed, Grown}
use Rattle.liveness.proofs.Waiting.{count_most, room-left, pushed-flag, grown-push, queue-push, queue-none}
use Rattle.graph.specs.Tables.{count_of, start_of, Passed, Goes, Ways}
use Rattle.graph.proofs.Numbers.{start-of}
use Rattle.analysis.specs.Paths.{Follows, Region, first, onward}
use Rattle.analysis.specs.Search.{Mapped, Found, BothPushed}

-- ---- one number put behind the others
module _ {list list' : List ℕ} {flags flags' : List Bool} {top top' k : ℕ} (pushed : Pushed list flags top k list' flags' top') (room : Room list flags top) (known : k < length flags) where
  pub push-cases : {C : Type 0} → (list' ≡ list → top' ≡ top → C) → (list' ≡ set list top k → top' ≡ top + 1 → top < length list → C) → C
  push-cases f g =
      bool_cases (flag flags k)
      (λ t. f (rw t at pushed.list_is) (rw t at pushed.top_is))
      (λ t. g (rw t at pushed.list_is) (rw t at pushed.top_is) (room-left k room known t))

  -- the numbers that stood there stand there still
  pub push-below : (j : ℕ) → j < top → get_or list' j 0 ≡ get_or list j 0
  push-below j l =
      push-cases
      (λ e _. rw e)
      (λ e _ _. ap (λ (xs : List ℕ). get_or xs j 0) e ∙ get_or-set_other list top j k 0 (λ d. omega arith))

  -- and besides them only k does
  pub push-each : (P : ℕ → Type 0) → ((j : ℕ) → j < top → P (get_or list j 0)) → P k → (j : ℕ) → j < top' → P (get_or list' j 0)
  push-each P old new j l =
      push-cases
      (λ e t. subst P (ap (λ (xs : List ℕ). get_or xs j 0) (sym e)) (old j (omega arith)))
      (λ e t room.
      bool_cases (eqb j top)
      (λ b.
      let d : j ≡ top = eqb-true _ _ b in
      let x : get_or list' j 0 ≡ k = rw (d, e) (get_or-set_same list top k 0 room) in
      subst P (sym x) new)
      (λ b. let d : j ≡ top → ⊥ = eqb-false _ _ b in let l' : j < top = omega arith in subst P (sym (push-below j l')) (old j l')))

  pub push-most : top ≤ top'
  push-most = push-cases (λ _ t. omega arith) (λ _ t _. omega arith)

-- a program that check passes has at most 512 instructions
pub few-of : {p : List ℕ} → Passed p → count_of p ≤ 512
few-of {p} h = (accepted p h.is).few

-- each starts within the program
pub start-inside : {p : List ℕ} → Passed p → (i : ℕ) → i < count_of p → start_of p i < length p
start-inside {p} h i l = (start-within p (accepted p h.is) (start_of p i) (start-of p i l)).1

-- `search`: what is listed, and that the first `done` have been gone on from
pub record Searching (p left right : List ℕ) (i : ℕ) (list : List ℕ) (seen : List Bool) (count done : ℕ) : Type 0 where
  pub queue : Queue (count_of p) list seen count
  pub begun : flag seen (get_or left i 0) ≡ true
  pub inside : (j : ℕ) → j < count → Region p (start_of p i) (start_of p (get_or list j 0))
  pub closed : (j : ℕ) → j < done → ¬ (byte p (start_of p (get_or list j 0)) ≡ 0x0D)
      → (flag seen (get_or left (get_or list j 0) 0) ≡ true) × (flag seen (get_or right (get_or list j 0) 0) ≡ true)
  pub passed : done ≤ count

-- ---- the ways on from an instruction
module _ (p at left right : List ℕ) (ways : Ways p at left right) where
  -- a way on from an instruction of the region that is no EXCLUDE stays in the region
  stay : (e i x : ℕ) → Goes p i x → Region p e (start_of p i) → ¬ (byte p (start_of p i) ≡ 0x0D) → Region p e (start_of p x)
  stay e i x (inl same) r n = subst (λ y. Region p e (start_of p y)) (sym same) r
  stay e i x (inr follows) r n = onward r n follows

  -- only the next offset follows an EXCLUDE
  after : (o : ℕ) → byte p o ≡ 0x0D → successors p o ≡ (o + 1) ∷ []
  unfolding length_of instruction_at_of successors
  after o b = rw b

  follow_one : (o q : ℕ) → byte p o ≡ 0x0D → Follows p o q → o + 1 ≡ q
  unfolding among
  follow_one o q b f = let h : among q ((o + 1) ∷ []) ≡ true = rw (after o b) at f in or_cases (eqb (o + 1) q) false h (λ t. eqb-true _ _ t) (λ _ t. clash false t refl)

  follows_next : (o : ℕ) → byte p o ≡ 0x0D → Follows p o (o + 1)
  unfolding among
  follows_next o b = rw (after o b, eq-eqb (o + 1) (o + 1) refl)

  -- the left way of an EXCLUDE leads on
  exclude-left : (i : ℕ) → i < count_of p → byte p (start_of p i) ≡ 0x0D → Follows p (start_of p i) (start_of p (get_or left i 0))
  exclude-left i l b =
      ⊎_elim
      (λ (stays : get_or left i 0 ≡ i).
      ⊎_elim
      (λ (same : get_or left i 0 ≡ get_or right i 0).
      ⊎_elim
      (λ (h : start_of p i + 1 ≡ start_of p (get_or left i 0)). let z : start_of p i + 1 ≡ start_of p i = rw stays at h in absurd (omega arith))
      (λ (h : start_of p i + 1 ≡ start_of p (get_or right i 0)). let z : start_of p i + 1 ≡ start_of p i = rw (← same, stays) at h in absurd (omega arith))
      ((ways.led i l).all (start_of p i + 1) (follows_next (start_of p i) b)))
      (λ (next : get_or left i 0 ≡ i + 1). absurd (omega arith))
      (ways.led i l).beside)
      (λ follows. follows)
      (ways.led i l).left_goes

  module _ (i : ℕ) (instruction : i < count_of p) (exclude : byte p (start_of p i) ≡ 0x0D) where
    pub searching-first : {list list' : List ℕ} {seen seen' : List Bool} {count : ℕ} → Queue (count_of p) list seen 0
        → Pushed list seen 0 (get_or left i 0) list' seen' count → Searching p left right i list' seen' count 0
    searching-first {seen = seen} q h =
        let k = (ways.led i instruction).left_node in
        let known : get_or left i 0 < length seen = omega (arith, q.whole) in
        record {
          queue = queue-push h q k;
          begun = pushed-flag h known;
          inside = push-each h q.room known (λ y. Region p (start_of p i) (start_of p y)) (λ j l. absurd (omega arith)) (first (exclude-left i instruction exclude));
          closed = λ j l. absurd (omega arith);
          passed = omega arith;
        }

    -- the instruction at the front is an EXCLUDE: nothing follows
    pub searching-stop : {list : List ℕ} {seen : List Bool} {count done : ℕ} → Searching p left right i list seen count done → done < count
        → byte p (start_of p (get_or list done 0)) ≡ 0x0D → Searching p left right i list seen count (done + 1)
    searching-stop {list} {seen} {count} {done} s l b = record {
      queue = s.queue;
      begun = s.begun;
      inside = s.inside;
      closed = λ j m n.
          bool_cases (eqb j done)
          (λ t. let d : j ≡ done = eqb-true _ _ t in absurd (n (rw d b)))
          (λ t. let d : j ≡ done → ⊥ = eqb-false _ _ t in s.closed j (omega arith) n);
      passed = omega arith;
    }

    -- it is not: both ways on are listed
    module _ {list : List ℕ} {seen : List Bool} {count done : ℕ} (s : Searching p left right i list seen count done) (l : done < count)
        (n : ¬ (byte p (start_of p (get_or list done 0)) ≡ 0x0D)) where
      node : get_or list done 0 < count_of p
      node = s.queue.below done l

      here : Region p (start_of p i) (start_of p (get_or list done 0))
      here = s.inside done l

      pub may-both : Room list seen count × (get_or left (get_or list done 0) 0 < length seen) × (get_or right (get_or list done 0) 0 < length seen)
      may-both = (
        s.queue.room,
        omega (arith, (ways.led (get_or list done 0) node).left_node, s.queue.whole),
        omega (arith, (ways.led (get_or list done 0) node).right_node, s.queue.whole),
      )

      module _ {list' : List ℕ} {seen' : List Bool} {count' : ℕ}
          (h : BothPushed list seen count (get_or left (get_or list done 0) 0) (get_or right (get_or list done 0) 0) list' seen' count') where
        one : Queue (count_of p) h.between_list h.between_seen h.between_top
        one = queue-push h.one s.queue (ways.led (get_or list done 0) node).left_node

        right-known : get_or right (get_or list done 0) 0 < length h.between_seen
        right-known = omega (arith, (ways.led (get_or list done 0) node).right_node, one.whole)

        inside_one : (j : ℕ) → j < h.between_top → Region p (start_of p i) (start_of p (get_or h.between_list j 0))
        inside_one =
            push-each h.one may-both.0 may-both.1 (λ y. Region p (start_of p i) (start_of p y)) s.inside
            (stay (start_of p i) (get_or list done 0) (get_or left (get_or list done 0) 0) (ways.led (get_or list done 0) node).left_goes here n)

        grown : Grown seen seen'
        grown k t = grown-push h.two right-known k (grown-push h.one may-both.1 k t)

        most : count ≤ count'
        most = omega (arith, push-most h.one may-both.0 may-both.1, push-most h.two one.room right-known)

        same : (j : ℕ) → j < count → get_or list' j 0 ≡ get_or list j 0
        same j b =
            let m = push-most h.one may-both.0 may-both.1 in
            push-below h.two one.room right-known j (omega arith) ∙ push-below h.one may-both.0 may-both.1 j b

        -- the ways on from the instruction at the front are flagged now, and those from the ones before it still
        closed : (j : ℕ) → j < done + 1 → ¬ (byte p (start_of p (get_or list' j 0)) ≡ 0x0D)
            → (flag seen' (get_or left (get_or list' j 0) 0) ≡ true) × (flag seen' (get_or right (get_or list' j 0) 0) ≡ true)
        closed j b n' =
            let e = same j (omega arith) in
            bool_cases (eqb j done)
            (λ t.
            let d : j ≡ done = eqb-true _ _ t in
            rw (e, d) (grown-push h.two right-known _ (pushed-flag h.one may-both.1), pushed-flag h.two right-known))
            (λ t.
            let d : j ≡ done → ⊥ = eqb-false _ _ t in
            let c = s.closed j (omega arith) (rw e at n') in
            rw e (grown _ c.0, grown _ c.1))

        pub searching-turn : Searching p left right i list' seen' count' (done + 1)
        searching-turn = record {
          queue = queue-push h.two one (ways.led (get_or list done 0) node).right_node;
          begun = grown _ s.begun;
          inside =
              push-each h.two one.room right-known (λ y. Region p (start_of p i) (start_of p y)) inside_one
              (stay (start_of p i) (get_or list done 0) (get_or right (get_or list done 0) 0) (ways.led (get_or list done 0) node).right_goes here n);
          closed = closed;
          passed = omega (arith, most);
        }

    -- every listed instruction has been gone on from
    module _ {list : List ℕ} {seen : List Bool} {count done : ℕ} (s : Searching p left right i list seen count done) (l : count ≤ done) where
      abbrev Has : ℕ → Type 0
      Has o = (j : ℕ) × (j < count) × (start_of p (get_or list j 0) ≡ o)

      has : (k o : ℕ) → flag seen k ≡ true → start_of p k ≡ o → Has o
      has k o f e = let x = s.queue.listed k f in (x.0, x.1, rw x.2 e)

      all : (o : ℕ) → Region p (start_of p i) o → Has o
      all o (first f) =
          let d : start_of p i + 1 ≡ o = follow_one (start_of p i) o exclude f in
          let d' = follow_one (start_of p i) (start_of p (get_or left i 0)) exclude (exclude-left i instruction exclude) in
          has (get_or left i 0) o s.begun (sym d' ∙ d)
      all o (onward {o = x} r n f) =
          let y = all x r in
          let k = get_or list y.0 0 in
          let n' : ¬ (byte p (start_of p k) ≡ 0x0D) = λ b. n (rw y.2 at b) in
          let c = s.closed y.0 (omega (arith, y.1)) n' in
          ⊎_elim
          (λ (h : o ≡ start_of p (get_or left k 0)). has (get_or left k 0) o c.0 (sym h))
          (λ (h : o ≡ start_of p (get_or right k 0)). has (get_or right k 0) o c.1 (sym h))
          ((ways.led k (s.queue.below y.0 y.1)).all o (rw y.2 f))

      pub searching-done : Found p (start_of p i) list count
      searching-done = record {
        most = omega (arith, s.queue.room.most, s.queue.room.size, count_most seen);
        below = s.queue.below;
        inside = s.inside;
        all = all;
      }

-- nothing is listed before the search
pub none-listed : {p at left right list : List ℕ} {seen : List Bool} → Mapped p at left right → length list ≡ 512 → length seen ≡ 512
    → ((k : ℕ) → flag seen k ≡ false) → Queue (count_of p) list seen 0
none-listed m l s none = queue-none (l ∙ sym s) (omega (arith, few-of m.passed)) none

-- ---- what the code asks of an instruction, and of the one at the front of the list
module _ {p at left right : List ℕ} (m : Mapped p at left right) (k : ℕ) (l : k < count_of p) where
  pub node-start : get_or at k 0 ≡ start_of p k
  node-start = m.ways.at_is k l

  pub node-inside : get_or at k 0 < length p
  node-inside = omega (arith, node-start, start-inside m.passed k l)

module _ {p at left right : List ℕ} (m : Mapped p at left right) {i : ℕ} {list : List ℕ} {seen : List Bool} {count done : ℕ}
    (s : Searching p left right i list seen count done) (l : done < count) where
  pub front-place : done < length list
  front-place = omega (arith, s.queue.room.most, s.queue.room.size, count_most seen)

  front-node : get_or list done 0 < count_of p
  front-node = s.queue.below done l

  pub front-start : get_or at (get_or list done 0) 0 ≡ start_of p (get_or list done 0)
  front-start = node-start m (get_or list done 0) front-node

  pub front-inside : get_or at (get_or list done 0) 0 < length p
  front-inside = node-inside m (get_or list done 0) front-node
