-- A call: the refusals 9 to 11 by their tests, and what a refused and what an accepted call leaves.
-- Assumes nothing.
use mathlib.Core.Path.{◌≡◌, sym, ◌∙◌, ap}
use mathlib.Core.Bool.{Bool, true, false, not}
use mathlib.Core.List.{List, ◌++◌}
use Prim.Native.Nat.{ℕ, ◌+◌, ◌≤◌, ◌<◌}
use native.Mathlib.Omega.{arith}
use borrow.Author.Tests.{lt-ltb, le-ltb, ltb-false, ne_eqb}
use lib.Dec.{ltb}
use lib.IntN.{ℤ}
use lib.ListN.{length, take, drop, take-append-drop}
use lib.Seq.{sets, sets-eq, length-take-le}
use Rattle.program.specs.Grounds.{Checks}
use Rattle.program.specs.Places.{Places}
use Rattle.program.specs.Check as checked
use Rattle.program.proofs.Accepted.{accepted}
use Rattle.program.proofs.Grounds.{accepted-values}
use Rattle.program.proofs.Tests.{bool_cases}
use Rattle.run.specs.Run.{Ended}
use Rattle.run.specs.declared.Pass.{Pass}
use Rattle.journal.specs.Format.{chip_length}
use Rattle.journal.proofs.Paging.{ChipLength, chip-length}
use Rattle.step.specs.State.{env_of, Machine, machine_of, sound_of}
use Rattle.run.specs.Run.{late_refusal_of, refusal_of, outcome, outcome_of, refused_with, run_of, call_of, started}
use Rattle.step.specs.Ready.{Legal, Ready, Good}
use Rattle.run.specs.Standing.{standing, RunIs}

-- ---- an accepted program

-- it is not empty and not too long
pub size : {p : List ℕ} → Legal p → (0 < length p) × (length p ≤ 2048)
size h = let a = accepted _ (sym h.accepted) in (a.some, a.most)

-- ---- the refusals 9 to 11

module _ (p : List ℕ) (words : ℕ) (m : Machine) where
  pub late-words : words < 512 → 9 ≡ late_refusal_of p words m
  unfolding late_refusal_of
  late-words a = rw (lt-ltb _ _ a)

  module _ (a : 512 ≤ words) (b : Bool) (is : b ≡ sound_of p m) where
    pub late-state : not b ≡ true → 10 ≡ late_refusal_of p words m
    unfolding late_refusal_of
    late-state s = rw (le-ltb _ _ a, ← is, s)

    pub late-chip : not b ≡ false → chip_length m.regs.page (length m.journal) ≡ false → 11 ≡ late_refusal_of p words m
    unfolding late_refusal_of
    late-chip s d = rw (le-ltb _ _ a, ← is, s, d)

    pub late-none : not b ≡ false → chip_length m.regs.page (length m.journal) ≡ true → 0 ≡ late_refusal_of p words m
    unfolding late_refusal_of
    late-none s d = rw (le-ltb _ _ a, ← is, s, d)

  -- none of them
  pub late-left : 0 ≡ late_refusal_of p words m → (512 ≤ words) × (sound_of p m ≡ true) × ChipLength m.regs.page (length m.journal)
  unfolding late_refusal_of
  late-left h =
      bool_cases (ltb words 512)
      (λ a. let z = rw a at h in absurd (omega arith))
      (λ a. bool_cases (sound_of p m)
      (λ b. bool_cases (chip_length m.regs.page (length m.journal))
      (λ d. (ltb-false _ _ a, b, chip-length _ _ d))
      (λ d. let z = rw (a, b, d) at h in absurd (omega arith)))
      (λ b. let z = rw (a, b) at h in absurd (omega arith)))

-- ---- the outputs

-- a buffer whose first places alone changed is the old one with these set
put_back : (xs ys : List ℤ) (n : ℕ) → length ys ≡ length xs → drop n ys ≡ drop n xs → n ≤ length xs → ys ≡ sets xs 0 (take n ys)
put_back xs ys n s h w =
    let z = length-take-le n ys (omega arith) in
    let x : 0 + length (take n ys) ≡ n = omega (arith, z) in
    let y : take n ys ++ drop n xs ≡ ys = rw (← h) (take-append-drop n ys) in
    sym (sets-eq (take n ys) xs 0 (omega (arith, z)) ∙ rw x y)

-- so what the run's end says is what the call leaves
outcome-of : (x : Ended) (b : Pass) (xs ms l : List ℕ) (outs now : List ℤ) → length now ≡ length outs → drop b.written now ≡ drop b.written outs
    → b.written ≤ length outs
    → outcome x (machine_of b.regs xs ms l) b.steps b.taken b.written now ≡ outcome_of (record { ended = x; call = standing b xs ms l now }) outs
outcome-of x b xs ms l outs now s h w =
    let z : b.written ≡ length (take b.written now) = sym (length-take-le b.written now (omega arith)) in
    let y = put_back outs now b.written s h w in
    λ i. record { ended = x; machine = machine_of b.regs xs ms l; steps = b.steps; taken = b.taken; written = z i; outputs = y i }

-- ---- a refused call

-- the number of a refusal is not 0
not-zero : {p : List ℕ} {n : ℕ} → Checks p (checked.Refused n) → n ≡ 0 → ⊥
not-zero h z = omega (arith, accepted-values h.ruled z)

module _ (p ws : List ℕ) (m : Machine) where
  -- the number of a refused program, and of an accepted one
  early : {n : ℕ} → Checks p (checked.Refused n) → n ≡ refusal_of (env_of p ws) m
  unfolding refusal_of
  early {n} h = rw (← h.is, ne_eqb n 0 (not-zero h))

  late : Legal p → late_refusal_of p (length ws) m ≡ refusal_of (env_of p ws) m
  unfolding refusal_of
  late h = rw h.accepted

  module _ (ρ : List ℤ) (budget : ℕ) (outs : List ℤ) where
    refused-call : {n : ℕ} → n ≡ refusal_of (env_of p ws) m → (n ≡ 0 → ⊥) → refused_with n m outs ≡ call_of (env_of p ws) ρ budget m outs
    unfolding call_of
    refused-call {n} h z = rw (← h, ne_eqb n 0 z)

    pub refused-early : {n : ℕ} → Checks p (checked.Refused n) → refused_with n m outs ≡ call_of (env_of p ws) ρ budget m outs
    refused-early h = refused-call (early h) (not-zero h)

    pub refused-late : {n : ℕ} → Legal p → n ≡ late_refusal_of p (length ws) m → (n ≡ 0 → ⊥) → refused_with n m outs ≡ call_of (env_of p ws) ρ budget m outs
    refused-late h k z = refused-call (k ∙ late h) z

    -- ---- an accepted call

    accepted-call : 0 ≡ refusal_of (env_of p ws) m → outcome_of (run_of (env_of p ws) ρ (length outs) budget (started m)) outs ≡ call_of (env_of p ws) ρ budget m outs
    unfolding call_of
    accepted-call h = rw (← h)

    -- what the run leaves is what the call does
    pub accepted-run : {x : Ended} {b : Pass} {xs ms l : List ℕ} {now : List ℤ} {n : ℕ} → Legal p → n ≡ late_refusal_of p (length ws) m → n ≡ 0
        → RunIs (env_of p ws) ρ budget m outs x b (standing b xs ms l now) now
        → outcome x (machine_of b.regs xs ms l) b.steps b.taken b.written now ≡ call_of (env_of p ws) ρ budget m outs
    accepted-run {x} {b} {xs} {ms} {l} {now} h k z r =
        outcome-of x b xs ms l outs now r.size r.later r.written ∙ ap (λ f. outcome_of f outs) r.finish ∙ accepted-call (sym z ∙ k ∙ late h)

  -- what the run relies on
  pub ready : {table : List ℕ} {n : ℕ} → Legal p → Places p table → n ≡ late_refusal_of p (length ws) m → n ≡ 0 → length m.cells ≡ 256 → length m.marks ≡ 256
      → Ready (env_of p ws) table × Good p m
  ready h t k z xs ms =
      let a = late-left p (length ws) m (sym z ∙ k) in (
        record { cells = h.cells; instructions = h.instructions; excludes = h.excludes; accepted = h.accepted; places = t; words = a.0 },
        record { sound = a.1; most = a.2.most; whole = a.2.whole; cells = xs; marks = ms },
      )
