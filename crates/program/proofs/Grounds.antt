-- The check's answer is the one that document 01's grounds allow (`ruled`), and they allow exactly one (`one_answer`).
-- So a refusal's number is given on that number's ground, and on no other.
-- Assumes nothing.
use mathlib.Core.Path.{◌≡◌, refl, sym, ◌∙◌, ap, subst}
use mathlib.Core.Logic.{◌⊎◌, inl, inr}
use mathlib.Core.List.{List, [], ◌∷◌}
use mathlib.Core.Bool.{Bool, true, false, ◌||◌, or-true}
use Prim.Native.Nat.{ℕ, suc, ◌+◌, ◌≤◌, ◌<◌}
use native.Mathlib.Omega.{arith}
use lib.ListN.{length}
use lib.Dec.{ltb, eqb}
use borrow.Author.Tests.{lt-ltb, ltb-true, ltb-false, eqb-true, eq-eqb, ne_eqb}
use Rattle.instruction.specs.Bytes.{byte, cells_of, length_of, instruction_at_of}
use Rattle.instruction.specs.Table.{named, all_below, table_fits_of}
use Rattle.program.specs.Starts.{starts, refusal_at_of, first_refusal, excludes, last_opcode, jumps_among}
use Rattle.program.specs.Check.{Answer, answer_of, number_of, closes, check_of}
use Rattle.program.specs.Grounds.{BadAt, unknown, cut, missing, table, FirstBad, here, later, Ground, size, command, many, last, jump, Allowed, granted, denied, Ruled, CallGround, plan, words, own}
use Rattle.program.specs.Check.{Checked}
use Rattle.program.specs.Check.{Program, Refused}
use Rattle.program.proofs.Tests.{bool_cases, clash, or_cases}

-- of two numbers neither of which is below the other
order : {C : Type 0} (m n : ℕ) → (m < n → C) → (n < m → C) → (m ≡ n → C) → C
order m n f g h =
    bool_cases (ltb m n)
    (λ t. f (ltb-true _ _ t))
    (λ s. let a : n ≤ m = ltb-false _ _ s in bool_cases (ltb n m) (λ t. g (ltb-true _ _ t)) (λ t. let b : m ≤ n = ltb-false _ _ t in h (omega arith)))

-- ---- one instruction

bad-range : {p : List ℕ} {o n : ℕ} → BadAt p o n → (2 ≤ n) × (n ≤ 5)
bad-range (unknown h) = (omega arith, omega arith)
bad-range (cut h) = (omega arith, omega arith)
bad-range (missing h) = (omega arith, omega arith)
bad-range (table h) = (omega arith, omega arith)

module _ (p : List ℕ) (o : ℕ) where
  -- the tests whose numbers are below n failed, so no ground is below n
  refute-at : (n : ℕ) → (2 < n → eqb (length_of (byte p o)) 0 ≡ false) → (3 < n → ltb (length p) (o + length_of (byte p o)) ≡ false)
      → (4 < n → all_below (cells_of p) (named (instruction_at_of p o)) ≡ true) → (5 < n → table_fits_of (cells_of p) (instruction_at_of p o) ≡ true)
      → (m : ℕ) → m < n → ¬ BadAt p o m
  refute-at n a b c d m l (unknown h) = clash (eqb (length_of (byte p o)) 0) (eq-eqb _ _ h) (a l)
  refute-at n a b c d m l (cut h) = clash (ltb (length p) (o + length_of (byte p o))) (lt-ltb _ _ h) (b l)
  refute-at n a b c d m l (missing h) = clash (all_below (cells_of p) (named (instruction_at_of p o))) (c l) h
  refute-at n a b c d m l (table h) = clash (table_fits_of (cells_of p) (instruction_at_of p o)) (d l) h

  -- the instruction has no ground, or its refusal is its first
  judge : {C : Type 0} → (refusal_at_of p o ≡ 0 → ((m : ℕ) → ¬ BadAt p o m) → C)
      → ((n : ℕ) → refusal_at_of p o ≡ n → (n ≡ 0 → ⊥) → BadAt p o n → ((m : ℕ) → m < n → ¬ BadAt p o m) → C) → C
  unfolding refusal_at_of
  judge none first =
      bool_cases (eqb (length_of (byte p o)) 0)
      (λ a. first 2 (rw a) (λ z. omega arith) (unknown (eqb-true _ _ a))
      (refute-at 2 (λ l. absurd (omega arith)) (λ l. absurd (omega arith)) (λ l. absurd (omega arith)) (λ l. absurd (omega arith))))
      (λ a. bool_cases (ltb (length p) (o + length_of (byte p o)))
      (λ b. first 3 (rw (a, b)) (λ z. omega arith) (cut (ltb-true _ _ b))
      (refute-at 3 (λ l. a) (λ l. absurd (omega arith)) (λ l. absurd (omega arith)) (λ l. absurd (omega arith))))
      (λ b. bool_cases (all_below (cells_of p) (named (instruction_at_of p o)))
      (λ c. bool_cases (table_fits_of (cells_of p) (instruction_at_of p o))
      (λ d. none (rw (a, b, c, d)) (λ m h. refute-at 6 (λ l. a) (λ l. b) (λ l. c) (λ l. d) m (omega (arith, (bad-range h).1)) h))
      (λ d. first 5 (rw (a, b, c, d)) (λ z. omega arith) (table d) (refute-at 5 (λ l. a) (λ l. b) (λ l. c) (λ l. absurd (omega arith)))))
      (λ c. first 4 (rw (a, b, c)) (λ z. omega arith) (missing c)
      (refute-at 4 (λ l. a) (λ l. b) (λ l. absurd (omega arith)) (λ l. absurd (omega arith))))))

-- ---- command by command

first_range : {p : List ℕ} {n : ℕ} {os : List ℕ} → FirstBad p n os → (2 ≤ n) × (n ≤ 5)
first_range (here b h) = bad-range b
first_range (later h r) = first_range r

-- there is one first ground
first_one : {p : List ℕ} {m n : ℕ} {os : List ℕ} → FirstBad p m os → FirstBad p n os → m ≡ n
first_one {p} {m} {n} {os} (here b h) (here c k) = order m n (λ l. absurd (k m l b)) (λ l. absurd (h n l c)) (λ e. e)
first_one {p} {m} {n} {os} (here b h) (later k s) = absurd (k m b)
first_one {p} {m} {n} {os} (later h r) (here c k) = absurd (h n c)
first_one (later h r) (later k s) = first_one r s

-- no instruction has a ground, or the first refusal is the first ground
scan : {C : Type 0} (p os : List ℕ) → (first_refusal p os ≡ 0 → ((n : ℕ) → ¬ FirstBad p n os) → C)
    → ((n : ℕ) → first_refusal p os ≡ n → (n ≡ 0 → ⊥) → FirstBad p n os → C) → C
unfolding first_refusal
scan p [] none first = none refl (λ n. elim [ ])
scan p (o ∷ os) none first =
    judge p o
    (λ e h. scan p os (λ d k. none (rw (e, d)) (cases h k)) (λ n d z b. first n (rw (e, d)) z (later h b)))
    (λ n e z b h. first n (rw (e, ne_eqb n 0 z)) z (here b h))
  where
    cases : ((m : ℕ) → ¬ BadAt p o m) → ((n : ℕ) → ¬ FirstBad p n os) → (n : ℕ) → ¬ FirstBad p n (o ∷ os)
    cases h k n (here b f) = h n b
    cases h k n (later f r) = k n r

-- ---- the whole program

ground-range : {p : List ℕ} {n : ℕ} → Ground p n → (1 ≤ n) × (n ≤ 8)
ground-range (size h) = (omega arith, omega arith)
ground-range (command b) = (omega (arith, (first_range b).0), omega (arith, (first_range b).1))
ground-range (many h) = (omega arith, omega arith)
ground-range (last h) = (omega arith, omega arith)
ground-range (jump h) = (omega arith, omega arith)

-- the code's tests of the rows 1 and 6, which have two parts
abbrev too_long : List ℕ → Bool
too_long p = eqb (length p) 0 || ltb 2048 (length p)

abbrev too_many : List ℕ → Bool
too_many p = ltb 512 (length (starts p)) || ltb 64 (excludes p (starts p))

long-true : (p : List ℕ) → (length p ≡ 0) ⊎ (2048 < length p) → too_long p ≡ true
long-true p (inl h) = rw h
long-true p (inr h) = rw (lt-ltb _ _ h, or-true)

many-true : (p : List ℕ) → (512 < length (starts p)) ⊎ (64 < excludes p (starts p)) → too_many p ≡ true
many-true p (inl h) = rw (lt-ltb _ _ h)
many-true p (inr h) = rw (lt-ltb _ _ h, or-true)

-- the tests whose numbers are below n failed, so no ground is below n
refute : (p : List ℕ) (n : ℕ) → (1 < n → too_long p ≡ false) → ((m : ℕ) → m < n → ¬ FirstBad p m (starts p)) → (6 < n → too_many p ≡ false)
    → (7 < n → closes (last_opcode p 0 (starts p)) ≡ true) → (8 < n → jumps_among p (starts p) (starts p) ≡ true) → (m : ℕ) → m < n → ¬ Ground p m
refute p n a b c d e m l (size h) = clash (too_long p) (long-true p h) (a l)
refute p n a b c d e m l (command h) = b m l h
refute p n a b c d e m l (many h) = clash (too_many p) (many-true p h) (c l)
refute p n a b c d e m l (last h) = clash (closes (last_opcode p 0 (starts p))) (d l) h
refute p n a b c d e m l (jump h) = clash (jumps_among p (starts p) (starts p)) (e l) h

long-is : (p : List ℕ) → too_long p ≡ true → (length p ≡ 0) ⊎ (2048 < length p)
long-is p h = or_cases (eqb (length p) 0) (ltb 2048 (length p)) h (λ t. inl (eqb-true _ _ t)) (λ _ t. inr (ltb-true _ _ t))

many_is : (p : List ℕ) → too_many p ≡ true → (512 < length (starts p)) ⊎ (64 < excludes p (starts p))
many_is p h = or_cases (ltb 512 (length (starts p))) (ltb 64 (excludes p (starts p))) h (λ t. inl (ltb-true _ _ t)) (λ _ t. inr (ltb-true _ _ t))

-- a first ground is below the numbers of the later tests
early : {C : Type 0} {p os : List ℕ} {n : ℕ} → FirstBad p n os → (m : ℕ) → 5 < m → m < n → C
early f m h l = absurd (omega (arith, (first_range f).1))

-- the check's answer is one that the grounds allow
pub ruled : (p : List ℕ) → Ruled p (answer_of (check_of p))
unfolding check_of
ruled p =
    bool_cases (too_long p)
    (λ a. rw a (denied (size (long-is p a))
    (refute p 1 (λ l. absurd (omega arith)) (λ m l h. omega (arith, (first_range h).0)) (λ l. absurd (omega arith)) (λ l. absurd (omega arith)) (λ l. absurd (omega arith)))))
    (λ a. scan p (starts p)
    (λ b none. bool_cases (too_many p)
    (λ c. rw (a, b, c) (denied (many (many_is p c)) (refute p 6 (λ l. a) (λ m l. none m) (λ l. absurd (omega arith)) (λ l. absurd (omega arith)) (λ l. absurd (omega arith)))))
    (λ c. bool_cases (closes (last_opcode p 0 (starts p)))
    (λ d. bool_cases (jumps_among p (starts p) (starts p))
    (λ e. rw (a, b, c, d, e) (granted (λ m h. refute p 9 (λ l. a) (λ m l. none m) (λ l. c) (λ l. d) (λ l. e) m (omega (arith, (ground-range h).1)) h) refl))
    (λ e. rw (a, b, c, d, e) (denied (jump e) (refute p 8 (λ l. a) (λ m l. none m) (λ l. c) (λ l. d) (λ l. absurd (omega arith))))))
    (λ d. rw (a, b, c, d) (denied (last d) (refute p 7 (λ l. a) (λ m l. none m) (λ l. c) (λ l. absurd (omega arith)) (λ l. absurd (omega arith)))))))
    (λ n b z first. rw (a, b, ne_eqb n 0 z) (denied (command first)
    (refute p n (λ l. a) (λ m l h. omega (arith, first_one h first)) (early first 6 (omega arith)) (early first 7 (omega arith)) (early first 8 (omega arith))))))

-- where no refusal has the number 0 and the accepted values are fixed, one answer is allowed
pub one-allowed : {G : ℕ → Type 0} {Values : List ℕ → Type 0} {a b : Answer} → ¬ G 0 → ((vs ws : List ℕ) → Values vs → Values ws → vs ≡ ws) → Allowed G Values a
    → Allowed G Values b → a ≡ b
one-allowed z v (granted h x) (granted k y) = ap (λ (vs : List ℕ). record { number = 0; values = vs }) (v _ _ x y)
one-allowed z v (granted h x) (denied g k) = absurd (h _ g)
one-allowed z v (denied g k) (granted h x) = absurd (h _ g)
one-allowed z v (denied {n} f h) (denied {n = m} g k) =
    order n m (λ l. absurd (k n l f)) (λ l. absurd (h m l g)) (λ e. ap (λ (i : ℕ). record { number = i; values = [] }) e)

-- so check's is the only one
pub one_answer : (p : List ℕ) {a b : Answer} → Ruled p a → Ruled p b → a ≡ b
one_answer p = one-allowed (λ g. omega (arith, (ground-range g).0)) (λ vs ws e d. e ∙ sym d)

-- number 0 comes with the three values: no refusal has it
pub accepted-values : {p : List ℕ} {a : Answer} → Ruled p a → a.number ≡ 0 → length a.values ≡ 3
accepted-values (granted h x) e = ap length x
accepted-values (denied g h) e = absurd (omega (arith, (ground-range g).0))

-- ---- for the calls that check a plan too

-- what the number of check's answer tells: with 0 there is no ground
pub ruled-passes : {p : List ℕ} {a : Answer} → Ruled p a → a.number ≡ 0 → (m : ℕ) → ¬ Ground p m
ruled-passes (granted h x) e = h
ruled-passes (denied g h) e = absurd (omega (arith, (ground-range g).0))

-- with another it is the lowest ground
pub record Lowest (p : List ℕ) (n : ℕ) : Type 0 where
  pub ground : Ground p n
  pub below : (m : ℕ) → m < n → ¬ Ground p m
  pub most : n ≤ 8

pub ruled-refuses : {p : List ℕ} {a : Answer} → Ruled p a → ¬ (a.number ≡ 0) → Lowest p a.number
ruled-refuses (granted h x) z = absurd (z refl)
ruled-refuses (denied g h) z = record { ground = g; below = h; most = (ground-range g).1 }

number_same : (r : Checked) → (answer_of r).number ≡ number_of r
number_same (Program cells instructions excludes) = refl
number_same (Refused n) = refl

pub plan-passes : (p : List ℕ) → number_of (check_of p) ≡ 0 → (m : ℕ) → ¬ Ground p m
plan-passes p e = ruled-passes (ruled p) (number_same (check_of p) ∙ e)

pub plan-refuses : (p : List ℕ) → ¬ (number_of (check_of p) ≡ 0) → Lowest p (number_of (check_of p))
plan-refuses p z = subst (Lowest p) (number_same (check_of p)) (ruled-refuses (ruled p) (λ e. z (sym (number_same (check_of p)) ∙ e)))

-- where no ground of the three kinds is below n, none is
below : {p : List ℕ} {Short : Type 0} {Own : ℕ → Type 0} (n : ℕ) → ((m : ℕ) → m < n → ¬ Ground p m) → (9 < n → ¬ Short) → ((m : ℕ) → m < n → ¬ Own m) → (m : ℕ) → m < n
    → ¬ CallGround p Short Own m
below n a b c m l (plan g) = a m l g
below n a b c m l (words s) = b l s
below n a b c m l (own g) = c m l g

-- their answers, where their own grounds come behind 9
module _ {p : List ℕ} {Short : Type 0} {Own : ℕ → Type 0} {Values : List ℕ → Type 0} (late : (n : ℕ) → Own n → 9 < n) where
  -- check refuses
  pub by-check : {n : ℕ} → Lowest p n → Allowed (CallGround p Short Own) Values (record { number = n; values = [] })
  by-check {n} w = denied (plan w.ground) (below n w.below (λ l. absurd (omega (arith, w.most))) (λ m l g. omega (arith, w.most, late m g)))

  module _ (passes : (m : ℕ) → ¬ Ground p m) where
    -- the words are too few
    pub by-words : Short → Allowed (CallGround p Short Own) Values (record { number = 9; values = [] })
    by-words s = denied (words s) (below 9 (λ m _. passes m) (λ l. absurd (omega arith)) (λ m l g. omega (arith, late m g)))

    -- else its own grounds decide
    pub by-own : {a : Answer} → ¬ Short → Allowed Own Values a → Allowed (CallGround p Short Own) Values a
    by-own z (granted h x) = granted (λ m g. below (suc m) (λ k _. passes k) (λ _. z) (λ k _. h k) m (omega arith) g) x
    by-own z (denied {n} g h) = denied (own g) (below n (λ m _. passes m) (λ _. z) h)
