-- The loops that fill the tables: what each keeps, how it begins, what a turn makes of it, and what it comes to.
-- Assumes nothing.
use mathlib.Core.Path.{◌≡◌, refl, sym, ◌∙◌}
use mathlib.Core.List.{List, [], ◌∷◌}
use Prim.Native.Nat.{ℕ, suc, ◌+◌, ◌*◌, ◌≤◌, ◌<◌}
use native.Mathlib.Omega.{arith}
use lib.ListN.{length, get_or, set, take, length-set, length-take}
use lib.Seq.{sets, get_or-set_same, get_or-set_other, get_or-take}
use lib.Dec.{ltb}
use borrow.Author.Tests.{ltb-true, ltb-false}
use Rattle.cellset.specs.Bits.{member}
use Rattle.cellset.proofs.Sets.{member-store, member_below}
use Rattle.instruction.specs.Bytes.{byte, length_of, instruction_at_of}
use Rattle.instruction.specs.Table.{row_of, may_ref_of, must_def_of}
use Rattle.instruction.specs.declared.Instruction.{Instruction}
use Rattle.instruction.specs.declared.Flow.{Flow}
use Rattle.program.specs.Starts.{starts, first_refusal}
use Rattle.program.proofs.Tests.{bool_cases}
use Rattle.program.proofs.Left.{Left, left_here}
use Rattle.program.proofs.Walks.{whole_by, sound-next}
use Rattle.program.proofs.Accepted.{accepted, start-within}
use Rattle.graph.specs.Tables.{count_of, start_of, Passed, Offsets, Numbered, left_of, right_of_flow, Tables, Stored}
use Rattle.graph.proofs.Numbers.{start-of, starts-rise}
use Rattle.graph.proofs.Ways.{flow_at, led}

-- what held below i, and holds at i, holds below i + 1
one_more : (P : ℕ → Type 0) (i : ℕ) → ((j : ℕ) → j < i → P j) → P i → (j : ℕ) → j < i + 1 → P j
one_more P i below here j l =
    bool_cases (ltb j i)
    (λ t. below j (ltb-true _ _ t))
    (λ t. let g : i ≤ j = ltb-false _ _ t in let e : j ≡ i = omega arith in rw e here)

-- there are no more numbers than fit the tables
pub few-of : (p : List ℕ) {n : ℕ} → Passed p → n ≡ count_of p → n ≤ 512
few-of p passed e = omega (arith, (accepted p passed.is).few)

-- ---- `offsets`: i instructions passed, os still to come
pub record Listing (p at₀ at : List ℕ) (i : ℕ) (os : List ℕ) : Type 0 where
  pub sound : first_refusal p os ≡ 0
  pub size : length at ≡ length at₀
  pub count : count_of p ≡ i + length os
  pub done : (j : ℕ) → j < i → get_or at j 0 ≡ start_of p j
  pub todo : (j : ℕ) → start_of p (i + j) ≡ get_or os j 0

pub listing-first : (p at : List ℕ) → first_refusal p (starts p) ≡ 0 → Listing p at at 0 (starts p)
listing-first p at h = record {
  sound = h;
  size = refl;
  count = omega arith;
  done = λ j l. absurd (omega arith);
  todo = λ j. let e : 0 + j ≡ j = omega arith in rw e;
}

-- there is room for one more
pub listing-room : {p at₀ at : List ℕ} {i o : ℕ} → Passed p → 512 ≤ length at₀ → Left p (Listing p at₀ at i) o → o < length p
    → (i < 512) × (i < length at)
listing-room passed room l h =
    let few = (accepted _ passed.is).few in left_here _ l h (λ f q. let c = q.count in let s = q.size in (omega arith, omega arith))

-- and it is whole
pub listing-long : {p at₀ at : List ℕ} {i o n : ℕ} → Left p (Listing p at₀ at i) o → o < length p → n ≡ length_of (byte p o)
    → (0 < n) × (o + n ≤ length p)
listing-long l h e = left_here _ l h (λ f q. whole_by _ _ e (sound-next _ _ _ q.sound).0)

pub listing-turn : (p at₀ at : List ℕ) {i o : ℕ} {os : List ℕ} → i < length at → Listing p at₀ at i (o ∷ os) → Listing p at₀ (set at i o) (i + 1) os
listing-turn p at₀ at {i} {o} {os} l q = record {
  sound = (sound-next p o os q.sound).1;
  size = length-set at i o ∙ q.size;
  count = omega (arith, q.count);
  done =
      one_more (λ j. get_or (set at i o) j 0 ≡ start_of p j) i
      (λ j h. get_or-set_other at i j o 0 (λ e. omega arith) ∙ q.done j h)
      (get_or-set_same at i o 0 l ∙ sym (let e : i + 0 ≡ i = omega arith in rw e at (q.todo 0)));
  todo = λ j. let e : i + 1 + j ≡ i + suc j = omega arith in rw e (q.todo (suc j));
}

pub listing-done : (p at₀ at : List ℕ) {i : ℕ} → Listing p at₀ at i [] → (i ≡ count_of p) × Offsets p at
listing-done p at₀ at q = let c = q.count in (omega arith, λ j l. q.done j (omega arith))

-- ---- `enter`: the entries below i are made, in a table of ways

pub record Linked (g : Flow → ℕ → List ℕ → ℕ) (p numbers table : List ℕ) (i : ℕ) : Type 0 where
  pub done : (j : ℕ) → j < i → get_or table j 0 ≡ g (flow_at p j) j numbers

linked-first : (g : Flow → ℕ → List ℕ → ℕ) (p numbers table : List ℕ) → Linked g p numbers table 0
linked-first g p numbers table = record { done = λ j l. absurd (omega arith) }

linked-turn : (g : Flow → ℕ → List ℕ → ℕ) (p numbers table table' : List ℕ) (i : ℕ) → i < length table
    → table' ≡ set table i (g (flow_at p i) i numbers) → Linked g p numbers table i → Linked g p numbers table' (i + 1)
linked-turn g p numbers table table' i l e q =
    let v = g (flow_at p i) i numbers in
    rw e (record {
      done =
          one_more (λ j. get_or (set table i v) j 0 ≡ g (flow_at p j) j numbers) i
          (λ j h. get_or-set_other table i j v 0 (λ d. omega arith) ∙ q.done j h)
          (get_or-set_same table i v 0 l);
    })

-- and in a table of cells
pub record Masked (f : Instruction → ℕ → ℕ) (p table : List ℕ) (i : ℕ) : Type 0 where
  pub done : (j : ℕ) → j < i → (c : ℕ) → c < 256 → member table (4 * j) c ≡ f (instruction_at_of p (start_of p j)) c

masked-first : (f : Instruction → ℕ → ℕ) (p table : List ℕ) → Masked f p table 0
masked-first f p table = record { done = λ j l. absurd (omega arith) }

masked-turn : (f : Instruction → ℕ → ℕ) (p table table' : List ℕ) (i : ℕ) → 4 * i + 4 ≤ length table
    → Stored (f (instruction_at_of p (start_of p i))) i table table' → Masked f p table i → Masked f p table' (i + 1)
masked-turn f p table table' i l s q =
    let ws = s.words in
    rw s.stored (record {
      done =
          one_more (λ j. (c : ℕ) → c < 256 → member (sets table (4 * i) ws) (4 * j) c ≡ f (instruction_at_of p (start_of p j)) c) i
          (λ j h c b. member_below table (4 * i) ws (4 * j) c (omega arith) b ∙ q.done j h c b)
          (λ c b. member-store table (4 * i) ws c l s.is.four b ∙ s.is.members c b);
    })

-- in all four
pub record Entering (p numbers left right reads writes : List ℕ) (i : ℕ) : Type 0 where
  pub lefts : Linked left_of p numbers left i
  pub rights : Linked right_of_flow p numbers right i
  pub refs : Masked may_ref_of p reads i
  pub defs : Masked must_def_of p writes i

pub entering-first : (p numbers left right reads writes : List ℕ) → Entering p numbers left right reads writes 0
entering-first p numbers left right reads writes = record {
  lefts = linked-first left_of p numbers left;
  rights = linked-first right_of_flow p numbers right;
  refs = masked-first may_ref_of p reads;
  defs = masked-first must_def_of p writes;
}

pub entering-turn : (p at numbers left right reads writes left' right' reads' writes' : List ℕ) {i : ℕ} {ins : Instruction}
    → i < length left → i < length right → 4 * i + 4 ≤ length reads → 4 * i + 4 ≤ length writes
    → get_or at i 0 ≡ start_of p i → ins ≡ instruction_at_of p (get_or at i 0)
    → left' ≡ set left i (left_of (row_of ins).flow i numbers) → right' ≡ set right i (right_of_flow (row_of ins).flow i numbers)
    → Stored (may_ref_of ins) i reads reads' → Stored (must_def_of ins) i writes writes'
    → Entering p numbers left right reads writes i → Entering p numbers left' right' reads' writes' (i + 1)
entering-turn p at numbers left right reads writes left' right' reads' writes' {i} {ins} rl rr rs rw' eat eins el er es ew q =
    let e : ins ≡ instruction_at_of p (start_of p i) = rw eat at eins in
    record {
      lefts = linked-turn left_of p numbers left left' i rl (rw e at el) q.lefts;
      rights = linked-turn right_of_flow p numbers right right' i rr (rw e at er) q.rights;
      refs = masked-turn may_ref_of p reads reads' i rs (rw e at es) q.refs;
      defs = masked-turn must_def_of p writes writes' i rw' (rw e at ew) q.defs;
    }

pub entering-done : (p at numbers left right reads writes : List ℕ) {n i : ℕ} → Passed p → n ≡ count_of p → Offsets p at
    → Numbered at n numbers → n ≤ i → Entering p numbers left right reads writes i → Tables p at left right reads writes
entering-done p at numbers left right reads writes {n} {i} passed en offsets numbered l q =
    record {
      ways = record {
        at_is = offsets;
        led = λ j h.
            led p at numbers (accepted p passed.is) offsets (rw en at numbered) j (get_or left j 0) (get_or right j 0) h
            (q.lefts.done j (omega arith)) (q.rights.done j (omega arith));
      };
      reads_are = λ j c h b. q.refs.done j (omega arith) c b;
      writes_are = λ j c h b. q.defs.done j (omega arith) c b;
    }

-- ---- `tables`: the offsets stand in front of their table

-- as many as there are
pub front-length : (p at₀ at : List ℕ) {n : ℕ} → Passed p → 512 ≤ length at₀ → length at ≡ length at₀ → n ≡ count_of p → length (take n at) ≡ n
front-length p at₀ at {n} passed room size en = let few = few-of p passed en in length-take n at ∙ omega arith

-- and are the program's
pub front-offsets : (p at : List ℕ) {n : ℕ} → n ≡ count_of p → Offsets p at → Offsets p (take n at)
front-offsets p at {n} en offsets i h = get_or-take n at i 0 (omega arith) ∙ offsets i h

-- they are as `number` wants them
pub number-ready : (p at : List ℕ) → Passed p → length at ≡ count_of p → Offsets p at
    → (length at ≤ 512) × ((i j : ℕ) → i < j → j < length at → get_or at i 0 < get_or at j 0) × ((i : ℕ) → i < length at → get_or at i 0 < 2048)
number-ready p at passed en offsets =
    let a = accepted p passed.is in
    let few = few-of p passed en in (
      few,
      λ i j l h. omega (arith, starts-rise p a i j l (omega arith), offsets i (omega arith), offsets j (omega arith)),
      λ i h. omega (arith, (start-within p a (start_of p i) (start-of p i (omega arith))).1, a.most, offsets i (omega arith)),
    )

-- the tables do not ask what stands behind them
pub tables-front : (p at front left right reads writes : List ℕ) → Offsets p at → Tables p front left right reads writes → Tables p at left right reads writes
tables-front p at front left right reads writes offsets t = record {
  ways = record { at_is = offsets; led = t.ways.led };
  reads_are = t.reads_are;
  writes_are = t.writes_are;
}
