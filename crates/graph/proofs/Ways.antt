-- Where the instructions of an accepted program go on to, by their numbers: what `Tables` says of the ways, from the flow of each instruction.
-- Assumes nothing.
use mathlib.Core.Path.{◌≡◌, refl, sym}
use mathlib.Core.Logic.{◌⊎◌, inl, inr}
use mathlib.Core.List.{List, [], ◌∷◌}
use mathlib.Core.Bool.{Bool, true, false, or-true}
use Prim.Native.Nat.{ℕ, ◌+◌, ◌<◌}
use lib.ListN.{get_or}
use lib.Dec.{eqb}
use borrow.Author.Tests.{eqb-true, eq-eqb}
use Rattle.instruction.specs.Bytes.{byte, length_of, instruction_at_of}
use Rattle.instruction.specs.Table.{row_of, targets, successors_of, successors}
use Rattle.instruction.specs.declared.Flow.{Flow}
use Rattle.instruction.specs.declared.Flow.TheVariants.{Halt, Next, Goto, Branch}
use Rattle.program.specs.Starts.{starts, among, all_among_of}
use Rattle.program.specs.Check.{closes}
use Rattle.program.specs.Places.{is_start}
use Rattle.program.proofs.Tests.{bool_cases, clash, or_cases, and_both}
use Rattle.program.proofs.Accepted.{Accepted, start-targets}
use Rattle.graph.specs.Tables.{count_of, start_of, Offsets, Numbered, left_of, right_of_flow, Led}
use Rattle.graph.proofs.Numbers.{start-of, index_of, next_of}

-- where instruction i may go
abbrev pub flow_at : List ℕ → ℕ → Flow
flow_at p i = (row_of (instruction_at_of p (start_of p i))).flow

-- ---- lists of at most two offsets

no_one : {C : Type 0} (q : ℕ) → among q [] ≡ true → C
unfolding among
no_one q h = clash false h refl

among_first : (t : ℕ) (ts : List ℕ) → among t (t ∷ ts) ≡ true
unfolding among
among_first t ts = rw (eq-eqb t t refl)

among_second : (s t : ℕ) → among t (s ∷ t ∷ []) ≡ true
unfolding among
among_second s t = rw (eq-eqb t t refl, or-true)

only_one : (t q : ℕ) → among q (t ∷ []) ≡ true → q ≡ t
unfolding among
only_one t q h = or_cases (eqb t q) false h (λ d. sym (eqb-true t q d)) (λ _ d. no_one q d)

only_two : (s t q : ℕ) → among q (s ∷ t ∷ []) ≡ true → (q ≡ t) ⊎ (q ≡ s)
unfolding among
only_two s t q h = or_cases (eqb s q) (among q (t ∷ [])) h (λ d. inr (sym (eqb-true s q d))) (λ _ m. inl (only_one t q m))

-- ---- one instruction

-- the flow leads to the instruction behind, among others
abbrev goes_on_of : Flow → Bool
goes_on_of Halt = false
goes_on_of Next = true
goes_on_of (Goto t) = false
goes_on_of (Branch t) = true

-- END and JUMP do not
closed : (p : List ℕ) (o : ℕ) → closes (byte p o) ≡ true → goes_on_of (row_of (instruction_at_of p o)).flow ≡ false
unfolding instruction_at_of
closed p o h =
    or_cases (eqb (byte p o) 0x01) (eqb (byte p o) 0x09) h
    (λ d. let e : byte p o ≡ 0x01 = eqb-true _ _ d in rw e)
    (λ _ d. let e : byte p o ≡ 0x09 = eqb-true _ _ d in rw e)

-- instruction x stands at offset t
abbrev Stands : List ℕ → ℕ → ℕ → Type 0
Stands p x t = (x < count_of p) × (start_of p x ≡ t)

-- with no successor, with one, and with two
module _ (p : List ℕ) (i : ℕ) where
  stays : i < count_of p → successors p (start_of p i) ≡ [] → Led p i i i
  stays h e = record {
    left_node = h;
    right_node = h;
    left_goes = inl refl;
    right_goes = inl refl;
    all = λ q m. no_one q (rw e at m);
    beside = inl refl;
  }

  one_way : (x t : ℕ) → Stands p x t → successors p (start_of p i) ≡ t ∷ [] → Led p i x x
  one_way x t s e =
      let goes : among (start_of p x) (successors p (start_of p i)) ≡ true = rw (e, s.1) (among_first t []) in
      record {
        left_node = s.0;
        right_node = s.0;
        left_goes = inr goes;
        right_goes = inr goes;
        all = λ q m. inl (rw s.1 (only_one t q (rw e at m)));
        beside = inl refl;
      }

  two_ways : (t n y : ℕ) → Stands p (i + 1) n → Stands p y t → successors p (start_of p i) ≡ t ∷ n ∷ [] → Led p i (i + 1) y
  two_ways t n y s r e = record {
    left_node = s.0;
    right_node = r.0;
    left_goes = inr (rw (e, s.1) (among_second t n));
    right_goes = inr (rw (e, r.1) (among_first t (n ∷ [])));
    all = λ q m. rw (s.1, r.1) (only_two t n q (rw e at m));
    beside = inr refl;
  }

  -- the ways by the flow; n is the offset behind the instruction
  by-flow : (numbers : List ℕ) (f : Flow) (n : ℕ) → i < count_of p → ((t : ℕ) → is_start p t ≡ true → Stands p (get_or numbers t 0) t)
      → all_among_of (targets f) (starts p) ≡ true → (goes_on_of f ≡ true → Stands p (i + 1) n)
      → successors p (start_of p i) ≡ successors_of f n → Led p i (left_of f i numbers) (right_of_flow f i numbers)
  by-flow numbers Halt n h named ts on e = stays h e
  by-flow numbers Next n h named ts on e = one_way (i + 1) n (on refl) e
  by-flow numbers (Goto t) n h named ts on e = one_way (get_or numbers t 0) t (named t (and_both (is_start p t) true ts).0) e
  by-flow numbers (Branch t) n h named ts on e = two_ways t n (get_or numbers t 0) (on refl) (named t (and_both (is_start p t) true ts).0) e

-- ---- an accepted program

-- a start's number stands in the table at the start
named-at : (p at numbers : List ℕ) → Offsets p at → Numbered at (count_of p) numbers → (t : ℕ) → is_start p t ≡ true → Stands p (get_or numbers t 0) t
named-at p at numbers offsets numbered t m =
    let s = index_of p t m in
    let e : get_or numbers t 0 ≡ s.0 = rw (offsets s.0 s.1, s.2) at (numbered s.0 s.1) in
    rw e (s.1, s.2)

module _ (p at numbers : List ℕ) {c n e : ℕ} (a : Accepted p c n e) (offsets : Offsets p at) (numbered : Numbered at (count_of p) numbers) where
  -- the instruction behind
  on-at : (i : ℕ) → i < count_of p → goes_on_of (flow_at p i) ≡ true → Stands p (i + 1) (start_of p i + length_of (byte p (start_of p i)))
  on-at i h g =
      bool_cases (closes (byte p (start_of p i)))
      (λ t. clash (goes_on_of (flow_at p i)) g (closed p (start_of p i) t))
      (λ t. next_of p a i h t)

  -- the ways of instruction i
  pub led : (i x y : ℕ) → i < count_of p → x ≡ left_of (flow_at p i) i numbers → y ≡ right_of_flow (flow_at p i) i numbers → Led p i x y
  unfolding successors
  led i x y h ex ey =
      let o = start_of p i in
      rw (ex, ey)
      (by-flow p i numbers (flow_at p i) (o + length_of (byte p o)) h (named-at p at numbers offsets numbered) (start-targets p a o (start-of p i h)) (on-at i h) refl)
