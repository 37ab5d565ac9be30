-- What an accepted program promises, for the crates above: each instruction is whole, its cells and its table exist, what may follow it is an instruction, and
-- the last is END or JUMP.
-- Assumes nothing.
use mathlib.Core.Path.{◌≡◌, refl, sym}
use mathlib.Core.List.{List, [], ◌∷◌}
use mathlib.Core.Bool.{Bool, true, false, cond, not, ◌||◌, or-true}
use Prim.Native.Nat.{ℕ, zero, suc, ◌+◌, ◌≤◌, ◌<◌}
use native.Mathlib.Omega.{arith}
use lib.ListN.{length}
use lib.Dec.{ltb, eqb}
use borrow.Author.Tests.{ltb-true, ltb-false, eqb-true, eqb-false, eq-eqb, not-false}
use Rattle.instruction.specs.Bytes.{byte, cells_of, length_of, instruction_at_of}
use Rattle.instruction.specs.Table.{row_of, targets, successors_of, successors, named, all_below, table_fits_of}
use Rattle.program.specs.Starts.{starts_from, starts, refusal_at_of, first_refusal, excludes, last_opcode, among, all_among_of, jumps_among}
use Rattle.program.specs.Check.{closes, check_of}
use Rattle.program.specs.Places.{is_start, Decodes}
use Rattle.program.specs.Check.{Checked}
use Rattle.program.specs.Check.{Program, Refused}
use Rattle.instruction.specs.declared.Flow.{Flow}
use Rattle.instruction.specs.declared.Flow.TheVariants.{Halt, Next, Goto, Branch}
use Rattle.program.proofs.Tests.{bool_cases, clash, or_cases, or-none, and_both}
use Rattle.program.proofs.Left.{next, ended}
use Rattle.program.proofs.Walks.{whole, sound-next}
use Rattle.program.proofs.Filling.{none-past, none_before}

-- what check tested, and the numbers of its answer
pub record Accepted (p : List ℕ) (cells instructions exclude_count : ℕ) : Type 0 where
  pub some : 0 < length p
  pub most : length p ≤ 2048
  pub sound : first_refusal p (starts p) ≡ 0
  pub few : length (starts p) ≤ 512
  pub few_excludes : excludes p (starts p) ≤ 64
  pub last : closes (last_opcode p 0 (starts p)) ≡ true
  pub jumps : jumps_among p (starts p) (starts p) ≡ true
  pub cells_are : cells ≡ cells_of p
  pub instructions_are : instructions ≡ length (starts p)
  pub excludes_are : exclude_count ≡ excludes p (starts p)

-- the next of the tests failed, or the answer is a refusal
past : {C : Type 0} {c n e : ℕ} (m : ℕ) (b : Bool) {r : Checked} → Program c n e ≡ cond b (Refused m) r → (b ≡ false → Program c n e ≡ r → C) → C
past m true h f = absurd (let z : ◌≡◌ {A = ℕ} 0 1 = cc in omega arith)
past m false h f = f refl h

pub accepted : (p : List ℕ) {c n e : ℕ} → Program c n e ≡ check_of p → Accepted p c n e
unfolding check_of
accepted p h =
    past _ (eqb (length p) 0 || ltb 2048 (length p)) h (λ h1 r1.
    past _ (not (eqb (first_refusal p (starts p)) 0)) r1 (λ h2 r2.
    past _ (ltb 512 (length (starts p)) || ltb 64 (excludes p (starts p))) r2 (λ h3 r3.
    past _ (not (closes (last_opcode p 0 (starts p)))) r3 (λ h4 r4.
    past _ (not (jumps_among p (starts p) (starts p))) r4 (λ h5 r5.
    let a = or-none (eqb (length p) 0) (ltb 2048 (length p)) h1 in
    let ne : length p ≡ 0 → ⊥ = eqb-false _ _ a.0 in
    let b = or-none (ltb 512 (length (starts p))) (ltb 64 (excludes p (starts p))) h3 in
    record {
      some = omega arith;
      most = ltb-false _ _ a.1;
      sound = eqb-true _ _ (not-false _ h2);
      few = ltb-false _ _ b.0;
      few_excludes = ltb-false _ _ b.1;
      last = not-false _ h4;
      jumps = not-false _ h5;
      cells_are = cc;
      instructions_are = cc;
      excludes_are = cc;
    })))))

-- ---- lists of offsets

-- an instruction among those with no refusal has none
sound-at : (p os : List ℕ) (o : ℕ) → first_refusal p os ≡ 0 → among o os ≡ true → refusal_at_of p o ≡ 0
unfolding among
sound-at p [] o h m = clash false m refl
sound-at p (x ∷ os) o h m =
    let s = sound-next p x os h in
    let ih = sound-at p os o s.1 in
    or_cases (eqb x o) (among o os) m (λ e. rw (eqb-true x o e) at s.0) (λ _ r. ih r)

-- its targets are starts
targets-at : (p xs os : List ℕ) (o : ℕ) → jumps_among p xs os ≡ true → among o os ≡ true → all_among_of (targets (row_of (instruction_at_of p o)).flow) xs ≡ true
unfolding among jumps_among
targets-at p xs [] o h m = clash false m refl
targets-at p xs (x ∷ os) o h m =
    let s = and_both (all_among_of (targets (row_of (instruction_at_of p x)).flow) xs) (jumps_among p xs os) h in
    let ih = targets-at p xs os o s.1 in
    or_cases (eqb x o) (among o os) m (λ e. rw (eqb-true x o e) at s.0) (λ _ r. ih r)

-- where the last instruction closes the program, and k does not, another follows
follows : (p : List ℕ) (f b k : ℕ) → length p ≤ f + b → closes (last_opcode p k (starts_from f p b)) ≡ true → closes k ≡ false → among b (starts_from f p b) ≡ true
unfolding among last_opcode
follows p f b k e l n =
    bool_cases (ltb b (length p))
    (λ t. rw (next p f b (ltb-true _ _ t) e, eq-eqb b b refl))
    (λ t. let l' : closes k ≡ true = rw (ended p f b (ltb-false _ _ t)) at l in clash (closes k) l' n)

-- what stands after an instruction that does not close the program is an instruction
next-at : (p : List ℕ) (f a k o : ℕ) → length p ≤ f + a → first_refusal p (starts_from f p a) ≡ 0 → closes (last_opcode p k (starts_from f p a)) ≡ true
    → among o (starts_from f p a) ≡ true → closes (byte p o) ≡ false → among (o + length_of (byte p o)) (starts_from f p a) ≡ true
unfolding among last_opcode starts_from
next-at p zero a k o e s l m n = clash false m refl
next-at p (suc f) a k o e s l m n =
    bool_cases (ltb a (length p))
    (λ t.
    let c = sound-next p a (starts_from f p (a + length_of (byte p a))) (rw t at s) in
    let z = (whole p a c.0).0 in
    let l' : closes (last_opcode p (byte p a) (starts_from f p (a + length_of (byte p a)))) ≡ true = rw t at l in
    let q : among (o + length_of (byte p o)) (starts_from f p (a + length_of (byte p a))) ≡ true =
    or_cases (eqb a o) (among o (starts_from f p (a + length_of (byte p a)))) (rw t at m)
    (λ d. let d' : o ≡ a = sym (eqb-true a o d) in rw d' (follows p f (a + length_of (byte p a)) (byte p a) (omega arith) l' (rw d' at n)))
    (λ _ r. next-at p f (a + length_of (byte p a)) (byte p a) o (omega arith) c.1 l' r n) in
    rw (t, q, or-true))
    (λ t. let m' : false ≡ true = rw t at m in clash false m' refl)

-- an instruction with no refusal names only cells and tables that exist
exist : (p : List ℕ) (o : ℕ) → refusal_at_of p o ≡ 0 → (all_below (cells_of p) (named (instruction_at_of p o)) ≡ true) × (table_fits_of (cells_of p) (instruction_at_of p o) ≡ true)
unfolding refusal_at_of
exist p o h =
    bool_cases (eqb (length_of (byte p o)) 0)
    (λ d. let z = rw d at h in absurd (omega arith))
    (λ d. bool_cases (ltb (length p) (o + length_of (byte p o)))
    (λ e. let z = rw (d, e) at h in absurd (omega arith))
    (λ e. bool_cases (all_below (cells_of p) (named (instruction_at_of p o)))
    (λ f. bool_cases (table_fits_of (cells_of p) (instruction_at_of p o)) (λ g. (f, g)) (λ g. let z = simp (d, e, f, g) at h in absurd (omega arith)))
    (λ f. bool_cases (table_fits_of (cells_of p) (instruction_at_of p o))
    (λ g. let z = simp (d, e, f, g) at h in absurd (omega arith))
    (λ g. let z = simp (d, e, f, g) at h in absurd (omega arith)))))

-- the opcode tells which instructions do not go on
closing : (p : List ℕ) (o : ℕ) → closes (byte p o) ≡ true → successors p o ≡ targets (row_of (instruction_at_of p o)).flow
unfolding successors instruction_at_of
closing p o h =
    or_cases (eqb (byte p o) 0x01) (eqb (byte p o) 0x09) h
    (λ d. let e : byte p o ≡ 0x01 = eqb-true _ _ d in rw e)
    (λ _ d. let e : byte p o ≡ 0x09 = eqb-true _ _ d in rw e)

-- all successors from the targets and what stands after
all_of : (f : Flow) (n : ℕ) (xs : List ℕ) → all_among_of (targets f) xs ≡ true → among n xs ≡ true → all_among_of (successors_of f n) xs ≡ true
all_of Halt n xs h k = refl
all_of Next n xs h k = rw k
all_of (Goto t) n xs h k = h
all_of (Branch t) n xs h k = rw ((and_both (among t xs) true h).0, k)

follow : (p : List ℕ) (o : ℕ) → all_among_of (targets (row_of (instruction_at_of p o)).flow) (starts p) ≡ true
    → (closes (byte p o) ≡ false → is_start p (o + length_of (byte p o)) ≡ true) → all_among_of (successors p o) (starts p) ≡ true
unfolding successors
follow p o h k =
    bool_cases (closes (byte p o))
    (λ t. rw (closing p o t) h)
    (λ t. all_of (row_of (instruction_at_of p o)).flow (o + length_of (byte p o)) (starts p) h (k t))

-- ---- an accepted program
module _ (p : List ℕ) {c n e : ℕ} (a : Accepted p c n e) where
  pub decodes-accepted : Decodes p
  decodes-accepted = record { most = a.most; sound = a.sound; few = a.few_excludes }

  -- the first instruction stands at offset 1
  pub start_first : is_start p 1 ≡ true
  unfolding starts
  start_first = follows p (length p) 1 0 (omega arith) a.last refl

  module _ (o : ℕ) (start : is_start p o ≡ true) where
    -- it is past the count of cells and before the end
    pub start-within : (1 ≤ o) × (o < length p)
    unfolding starts
    start-within = (
      bool_cases (ltb o 1) (λ t. clash (is_start p o) start (none_before p (length p) 1 o (ltb-true _ _ t))) (λ t. ltb-false _ _ t),
      bool_cases (ltb o (length p)) (λ t. ltb-true _ _ t) (λ t. clash (is_start p o) start (none-past p (length p) 1 o (ltb-false _ _ t))),
    )

    start-sound : refusal_at_of p o ≡ 0
    start-sound = sound-at p (starts p) o a.sound start

    -- its bytes are all there
    pub start-whole : (0 < length_of (byte p o)) × (o + length_of (byte p o) ≤ length p)
    start-whole = whole p o start-sound

    -- its cells and its table exist
    pub start-cells : (all_below (cells_of p) (named (instruction_at_of p o)) ≡ true) × (table_fits_of (cells_of p) (instruction_at_of p o) ≡ true)
    start-cells = exist p o start-sound

    -- where it may jump an instruction starts
    pub start-targets : all_among_of (targets (row_of (instruction_at_of p o)).flow) (starts p) ≡ true
    start-targets = targets-at p (starts p) (starts p) o a.jumps start

    -- and after it, unless it is END or JUMP
    pub start-next : closes (byte p o) ≡ false → is_start p (o + length_of (byte p o)) ≡ true
    unfolding starts
    start-next h = next-at p (length p) 1 0 o (omega arith) a.sound a.last start h

    -- so what may follow it are starts
    pub start-successors : all_among_of (successors p o) (starts p) ≡ true
    start-successors = follow p o start-targets start-next
