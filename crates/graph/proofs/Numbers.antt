-- The instructions of a program by their numbers: each start has one number, the starts rise with it, the next number is the next instruction's; and how many
-- EXCLUDEs stand before a number.
-- Assumes nothing.
use mathlib.Core.Path.{◌≡◌, refl, sym, ◌∙◌}
use mathlib.Core.List.{List, [], ◌∷◌}
use mathlib.Core.Bool.{true, false, cond, or-true}
use Prim.Native.Nat.{ℕ, zero, suc, pred, ◌+◌, ◌≤◌, ◌<◌}
use native.Mathlib.Omega.{arith}
use lib.ListN.{length, get_or, take}
use lib.Seq.{take-length}
use lib.Dec.{ltb, eqb}
use borrow.Author.Tests.{ltb-true, ltb-false, eqb-true, eqb-false, eq-eqb, ne_eqb}
use Rattle.instruction.specs.Bytes.{byte, length_of}
use Rattle.program.specs.Starts.{starts_from, starts, among, excludes}
use Rattle.program.specs.Check.{closes}
use Rattle.program.specs.Places.{excludes_before, is_start, is_exclude, exclude_number}
use Rattle.program.proofs.Tests.{bool_cases, clash, or_cases}
use Rattle.program.proofs.Accepted.{Accepted, start-whole, start-next}
use Rattle.graph.specs.Tables.{count_of, start_of}

-- ---- lists of numbers

-- an element is among them
among-at : (xs : List ℕ) (i : ℕ) → i < length xs → among (get_or xs i 0) xs ≡ true
unfolding among
among-at [] i h = absurd (omega arith)
among-at (x ∷ xs) zero h = rw (eq-eqb x x refl)
among-at (x ∷ xs) (suc i) h = rw (among-at xs i (omega arith), or-true)

-- what is among them is an element
at-among : (xs : List ℕ) (t : ℕ) → among t xs ≡ true → (i : ℕ) × (i < length xs) × (get_or xs i 0 ≡ t)
unfolding among
at-among [] t m = clash false m refl
at-among (x ∷ xs) t m =
    let ih = at-among xs t in
    or_cases (eqb x t) (among t xs) m (λ d. (0, omega arith, eqb-true x t d)) (λ _ r. let s = ih r in (suc s.0, omega (arith, s.1), s.2))

-- ---- the offsets of the instructions

-- the first is the one where the list begins
first-at : (p : List ℕ) (f a : ℕ) → 0 < length (starts_from f p a) → get_or (starts_from f p a) 0 0 ≡ a
unfolding starts_from
first-at p zero a h = absurd (omega arith)
first-at p (suc f) a h = bool_cases (ltb a (length p)) (λ t. rw t) (λ t. absurd (let z : 0 < 0 = rw t at h in omega arith))

-- each of the others is where the one before it ends
follows-at : (p : List ℕ) (f a i : ℕ) → suc i < length (starts_from f p a)
    → get_or (starts_from f p a) (suc i) 0 ≡ get_or (starts_from f p a) i 0 + length_of (byte p (get_or (starts_from f p a) i 0))
unfolding starts_from
follows-at p zero a i h = absurd (omega arith)
follows-at p (suc f) a zero h =
    bool_cases (ltb a (length p))
    (λ t. let l : 1 < suc (length (starts_from f p (a + length_of (byte p a)))) = rw t at h in rw t (first-at p f (a + length_of (byte p a)) (omega arith)))
    (λ t. absurd (let z : 1 < 0 = rw t at h in omega arith))
follows-at p (suc f) a (suc i) h =
    bool_cases (ltb a (length p))
    (λ t.
    let l : suc (suc i) < suc (length (starts_from f p (a + length_of (byte p a)))) = rw t at h in
    rw t (follows-at p f (a + length_of (byte p a)) i (omega arith)))
    (λ t. absurd (let z : suc (suc i) < 0 = rw t at h in omega arith))

-- ---- EXCLUDEs

-- those before an element that no earlier one equals
before_at : (p os : List ℕ) (i : ℕ) → i < length os → ((j : ℕ) → j < i → get_or os j 0 ≡ get_or os i 0 → ⊥)
    → excludes_before p os (get_or os i 0) ≡ excludes p (take i os)
unfolding excludes excludes_before
before_at p [] i h n = absurd (omega arith)
before_at p (o ∷ os) zero h n = rw (eq-eqb o o refl)
before_at p (o ∷ os) (suc i) h n =
    let ih = before_at p os i (omega arith) (λ j l. n (suc j) (omega arith)) in
    rw (ne_eqb o (get_or os i 0) (n 0 (omega arith)), ih)

-- with one element more
count_at : (p os : List ℕ) (i : ℕ) → i < length os → excludes p (take (suc i) os) ≡ excludes p (take i os) + cond (eqb (byte p (get_or os i 0)) 0x0D) 1 0
unfolding excludes
count_at p [] i h = absurd (omega arith)
count_at p (o ∷ os) zero h = omega arith
count_at p (o ∷ os) (suc i) h = omega (arith, count_at p os i (omega arith))

-- the EXCLUDE before which m others stand
record Nth (p os : List ℕ) (m : ℕ) : Type 0 where
  at : ℕ
  within : at < length os
  opcode : byte p (get_or os at 0) ≡ 0x0D
  before : excludes p (take at os) ≡ m

nth-later : (p : List ℕ) (o : ℕ) (os : List ℕ) (m n : ℕ) → Nth p os m → n ≡ cond (eqb (byte p o) 0x0D) 1 0 + m → Nth p (o ∷ os) n
unfolding excludes
nth-later p o os m n s e = record { at = suc s.at; within = omega (arith, s.within); opcode = s.opcode; before = omega (arith, s.before) }

nth-exclude : (p os : List ℕ) (m : ℕ) → m < excludes p os → Nth p os m
unfolding excludes
nth-exclude p [] m h = absurd (omega arith)
nth-exclude p (o ∷ os) m h =
    bool_cases (eqb (byte p o) 0x0D)
    (λ b.
    let one : ◌≡◌ {A = ℕ} (cond (eqb (byte p o) 0x0D) 1 0) 1 = rw b in
    bool_cases (eqb m 0)
    (λ z. record { at = 0; within = omega arith; opcode = eqb-true _ _ b; before = sym (eqb-true _ _ z) })
    (λ z. let ne : m ≡ 0 → ⊥ = eqb-false _ _ z in nth-later p o os (pred m) m (nth-exclude p os (pred m) (omega arith)) (omega arith)))
    (λ b. let none : ◌≡◌ {A = ℕ} (cond (eqb (byte p o) 0x0D) 1 0) 0 = rw b in nth-later p o os m m (nth-exclude p os m (omega arith)) (omega arith))

-- ---- any program

module _ (p : List ℕ) where
  -- a number's offset is a start
  pub start-of : (i : ℕ) → i < count_of p → is_start p (start_of p i) ≡ true
  start-of i h = among-at (starts p) i h

  -- a start has a number
  pub index_of : (o : ℕ) → is_start p o ≡ true → (i : ℕ) × (i < count_of p) × (start_of p i ≡ o)
  index_of o h = at-among (starts p) o h

  -- the EXCLUDEs below i + 1, from those below i
  pub excludes-take : (i : ℕ) → i < count_of p
      → excludes p (take (i + 1) (starts p)) ≡ excludes p (take i (starts p)) + cond (eqb (byte p (start_of p i)) 0x0D) 1 0
  excludes-take i h = let e : i + 1 ≡ suc i = omega arith in rw e (count_at p (starts p) i h)

  -- below all numbers are all
  pub excludes-all : excludes p (take (count_of p) (starts p)) ≡ excludes p (starts p)
  excludes-all = rw (take-length (starts p))

  -- the next instruction starts where this one ends
  start-after : (i : ℕ) → suc i < count_of p → start_of p (suc i) ≡ start_of p i + length_of (byte p (start_of p i))
  unfolding starts
  start-after i h = follows-at p (length p) 1 i h

  -- the offsets do not fall
  grow : (i j : ℕ) → i ≤ j → j < count_of p → start_of p i ≤ start_of p j
  grow i zero l h = let d : i ≡ 0 = omega arith in rw d (omega arith)
  grow i (suc j) l h =
      bool_cases (eqb i (suc j))
      (λ t. let d : i ≡ suc j = eqb-true _ _ t in rw d (omega arith))
      (λ t. let ne : i ≡ suc j → ⊥ = eqb-false _ _ t in omega (arith, grow i j (omega arith) (omega arith), start-after j h))

  -- so a higher offset has a higher number
  after_lower : (i j : ℕ) → i < count_of p → start_of p i < start_of p j → i < j
  after_lower i j h l = bool_cases (ltb i j) (λ t. ltb-true _ _ t) (λ t. absurd (omega (arith, grow j i (ltb-false _ _ t) h)))

-- ---- an accepted program

module _ (p : List ℕ) {c n e : ℕ} (a : Accepted p c n e) where
  -- the offsets rise with the numbers
  pub starts-rise : (i j : ℕ) → i < j → j < count_of p → start_of p i < start_of p j
  starts-rise i zero l h = absurd (omega arith)
  starts-rise i (suc j) l h =
      omega (arith, grow p i j (omega arith) (omega arith), start-after p j h, (start-whole p a (start_of p j) (start-of p j (omega arith))).0)

  -- and the numbers with the offsets
  not-past : (i j : ℕ) → j < count_of p → start_of p j ≤ start_of p i → j ≤ i
  not-past i j h l = bool_cases (ltb i j) (λ t. absurd (omega (arith, starts-rise i j (ltb-true _ _ t) h))) (λ t. ltb-false _ _ t)

  -- so a start has one number
  pub once : (i j : ℕ) → i < count_of p → j < count_of p → start_of p i ≡ start_of p j → i ≡ j
  once i j h k q = omega (arith, not-past i j k (omega arith), not-past j i h (omega arith))

  -- the next number is that of the instruction after it
  pub next_of : (i : ℕ) → i < count_of p → closes (byte p (start_of p i)) ≡ false
      → (i + 1 < count_of p) × (start_of p (i + 1) ≡ start_of p i + length_of (byte p (start_of p i)))
  next_of i h k =
      let m = start-of p i h in
      let w = (start-whole p a (start_of p i) m).0 in
      let s = index_of p (start_of p i + length_of (byte p (start_of p i))) (start-next p a (start_of p i) m k) in
      let b : suc i < count_of p = omega (arith, after_lower p i s.0 h (omega (arith, s.2)), s.1) in
      let d : i + 1 ≡ suc i = omega arith in
      rw d (b, start-after p i b)

  -- the EXCLUDEs before an instruction are those with a number below its own
  pub number_of : (i : ℕ) → i < count_of p → exclude_number p (start_of p i) ≡ excludes p (take i (starts p))
  number_of i h = before_at p (starts p) i h (λ j l q. omega (arith, starts-rise j i l h))

  -- each number below the count of EXCLUDEs is that of one
  pub exclude-at : (m : ℕ) → m < excludes p (starts p) → (o : ℕ) × (is_exclude p o ≡ true) × (exclude_number p o ≡ m)
  exclude-at m h =
      let s = nth-exclude p (starts p) m h in
      (start_of p s.at, rw (start-of p s.at s.within, s.opcode), number_of s.at s.within ∙ s.before)
