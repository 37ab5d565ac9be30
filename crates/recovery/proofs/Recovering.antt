-- From what check and scan answer to what recovery leaves: the number of a refusal by its tests, the facts of the last commit, and the marks by the last EXCLUDE.
-- Assumes nothing.
use Prim.Native.Nat.{ℕ, ◌+◌, ◌*◌, ◌≤◌, ◌<◌}
use mathlib.Core.Path.{◌≡◌, refl, sym, ap, subst}
use mathlib.Core.Bool.{Bool, true, false}
use mathlib.Core.List.{List, [], ◌∷◌}
use mathlib.Core.Logic.{◌⊎◌, inl, ⊎_elim}
use native.Mathlib.Omega.{arith}
use lib.ListN.{length, replicate}
use borrow.Author.Tests.{lt-ltb, le-ltb, eq-eqb, ne_eqb}
use Rattle.instruction.specs.Bytes.{byte}
use Rattle.program.specs.Grounds.{Checks}
use Rattle.program.specs.Places.{Places, is_exclude, exclude_number}
use Rattle.program.specs.Check as checked
use Rattle.program.proofs.Grounds.{accepted-values}
use Rattle.marks.specs.Marks.{recovered_marks}
use Rattle.journal.specs.declared.Commit.{Commit}
use Rattle.journal.specs.Scanned.{Scanned}
use Rattle.journal.specs.Scanned.{BadLength, Damaged, Found}
use Rattle.journal.specs.Format.{Checkpoint, unowned, format_for, chip_length}
use Rattle.journal.specs.Reading.{Facts, facts_of, first, last_of, Rising, none, one}
use Rattle.journal.specs.Answer.{facts_in, Taken, Scans}
use Rattle.journal.proofs.Paging.{chip-length}
use Rattle.journal.proofs.Fixed.{facts-same, within}
use Rattle.step.specs.declared.Regs.{Regs}
use Rattle.step.specs.State.{env_of, Machine, machine_of}
use Rattle.step.specs.Ready.{Legal, Ready}
use Rattle.recovery.specs.Recover.{Restored, Refused}
use Rattle.recovery.specs.Recover.{refusal_of, regs_of, included, marks_by_of, outcome, Older, recover_of, Recovers, refuses, reads}

-- ---- the marks

-- an offset that is not 0 is that of an EXCLUDE
pub stands : (p : List ℕ) (x : ℕ) → (x ≡ 0) ⊎ (is_exclude p x ≡ true) → ¬ (x ≡ 0) → is_exclude p x ≡ true
stands p x h z = ⊎_elim (λ e. absurd (z e)) (λ t. t) h

module _ (p ws : List ℕ) (x : ℕ) where
  -- none was executed: all Include
  pub marks-none : x ≡ 0 → replicate 256 0 ≡ marks_by_of (env_of p ws) x
  unfolding marks_by_of included
  marks-none z = rw (eq-eqb x 0 z)

  -- by the words of its number
  pub marks-some : ¬ (x ≡ 0) → {n b : ℕ} {ms : List ℕ} → n ≡ exclude_number p x → b ≡ byte p 0 → ms ≡ recovered_marks ws (8 * n) (b + 1) (replicate 256 0)
      → ms ≡ marks_by_of (env_of p ws) x
  unfolding marks_by_of included
  marks-some z {n} k e h = rw (ne_eqb x 0 z) (rw (k, e) at h)

-- ---- the last commit

-- its EXCLUDE is none, or one of the program's
last-exclude : {F : Facts} (b : Commit) (js : List Checkpoint) → (b.exclude ≡ 0) ⊎ (F.exclude b.exclude ≡ true) → Rising F b js
    → ((last_of b js).exclude ≡ 0) ⊎ (F.exclude (last_of b js).exclude ≡ true)
unfolding last_of
last-exclude b [] h none = h
last-exclude b (s ∷ js) h (one k r) = last-exclude s.commit js k.after.exclude_is r

-- ---- the refusals

-- no refusal of a program has number 0
pub not-zero : {p : List ℕ} {n : ℕ} → Checks p (checked.Refused n) → ¬ (n ≡ 0)
not-zero h z = omega (arith, accepted-values h.ruled z)

module _ (p ws : List ℕ) (page owner : ℕ) (m : Machine) where
  -- 1 to 8: the program
  pub refused-program : {n : ℕ} → Checks p (checked.Refused n) → Recovers (env_of p ws) page owner m (outcome (Refused n) m)
  unfolding refusal_of
  refused-program {n} h = let z = not-zero h in refuses n (rw (← h.is, ne_eqb n 0 z)) (omega arith) refl

  module _ (h : Legal p) where
    -- 9: the words
    pub refused-words : length ws < 512 → Recovers (env_of p ws) page owner m (outcome (Refused 9) m)
    unfolding refusal_of
    refused-words a = refuses 9 (rw (h.accepted, lt-ltb _ _ a)) (omega arith) refl

    -- neither of them
    no-refusal : 512 ≤ length ws → refusal_of (env_of p ws) ≡ 0
    unfolding refusal_of
    no-refusal a = rw (h.accepted, le-ltb _ _ a)

-- ---- what scan answers

-- all that is known then
pub record Answered (page owner : ℕ) (p ws table chip : List ℕ) (answer : Scanned) (v : List ℕ) : Type 0 where
  pub legal : Legal p
  pub places : Places p table
  pub words : 512 ≤ length ws
  pub scans : Scans (facts_of (format_for page owner) p) chip answer v

-- what a table that is the program's own holds are the program's facts
pub table-facts : (page owner : ℕ) (p : List ℕ) {b : ℕ} (table : List ℕ) → Places p table → b ≡ byte p 0 → facts_in (format_for page owner) (b + 1) table ≡ facts_of (format_for page owner) p
table-facts page owner p table t e = rw e (facts-same (format_for page owner) p table t)

-- so that the reading is by them
pub answered : (page owner : ℕ) {p ws : List ℕ} {b : ℕ} (table chip : List ℕ) (answer : Scanned) (v : List ℕ) → Legal p → Places p table → 512 ≤ length ws → b ≡ byte p 0
    → Scans (facts_in (format_for page owner) (b + 1) table) chip answer v → Answered page owner p ws table chip answer v
answered page owner {p} table chip answer v h t a e s =
    record { legal = h; places = t; words = a; scans = subst (λ (F : Facts). Scans F chip answer v) (table-facts page owner p table t e) s }

-- and the other reading too
pub older-read : (page : ℕ) (p : List ℕ) {b n : ℕ} (table chip : List ℕ) → Places p table → b ≡ byte p 0 → Older (facts_in (format_for page unowned) (b + 1) table) chip n
    → Older (facts_of (format_for page unowned) p) chip n
older-read page p {n = n} table chip t e o = subst (λ (F : Facts). Older F chip n) (table-facts page unowned p table t e) o

-- where something is found, or the length is wrong, nothing is asked of the other reading
pub found-apart : {A : Type 0} {a : Scanned} {end torn : ℕ} {last : Commit} {own : Bool} → a ≡ Found end torn last own → a ≡ Damaged → A
found-apart e f = let z : ◌≡◌ {A = ℕ} 0 1 = cc in absurd (omega arith)

length-apart : {A : Type 0} {a : Scanned} → a ≡ BadLength → a ≡ Damaged → A
length-apart e f = let z : ◌≡◌ {A = ℕ} 0 1 = cc in absurd (omega arith)

module _ {page owner : ℕ} {p ws table chip : List ℕ} {answer : Scanned} {v : List ℕ} (a : Answered page owner p ws table chip answer v) where
  module _ (r : Regs) (xs ms : List ℕ) where
    -- what recovery makes of it
    of-answer : {b : Scanned} → answer ≡ b → (n : ℕ) → (answer ≡ Damaged → Older (facts_of (format_for page unowned) p) chip n)
        → Recovers (env_of p ws) page owner (machine_of r xs ms chip) (recover_of (env_of p ws) page owner b n v (machine_of r xs ms chip))
    of-answer e n o =
        reads (no-refusal p ws page owner (machine_of r xs ms chip) a.legal a.words) answer v a.scans n o
        (ap (λ (b : Scanned). recover_of (env_of p ws) page owner b n v (machine_of r xs ms chip)) (sym e))

    -- 11: a length that no chip has
    pub refused-length : {n : ℕ} → answer ≡ BadLength → n ≡ 11
        → Recovers (env_of p ws) page owner (machine_of r xs ms chip) (outcome (Refused n) (machine_of r xs ms chip))
    unfolding recover_of
    refused-length e h = rw h (of-answer e 0 (length-apart e))

    -- 12 or 15: a chip that is damaged as one of the owner's
    pub refused-damaged : {n : ℕ} → answer ≡ Damaged → Older (facts_of (format_for page unowned) p) chip n
        → Recovers (env_of p ws) page owner (machine_of r xs ms chip) (outcome (Refused n) (machine_of r xs ms chip))
    unfolding recover_of
    refused-damaged {n} e o = of-answer e n (λ _. o)

    -- 16: a mark of another plan
    pub refused-owner : {n end torn : ℕ} {last : Commit} {own : Bool} → answer ≡ Found end torn last own → own ≡ false → n ≡ 16
        → Recovers (env_of p ws) page owner (machine_of r xs ms chip) (outcome (Refused n) (machine_of r xs ms chip))
    unfolding recover_of
    refused-owner e f h = rw h (rw f at (of-answer e 0 (found-apart e)))

    -- the state is restored
    pub restored : {end torn : ℕ} {last : Commit} {own : Bool} {regs : Regs} {marks : List ℕ} → answer ≡ Found end torn last own → own ≡ true
        → regs ≡ regs_of end torn last page owner → marks ≡ marks_by_of (env_of p ws) last.exclude
        → Recovers (env_of p ws) page owner (machine_of r xs ms chip) (outcome Restored (machine_of regs v marks chip))
    unfolding recover_of
    restored e d f g = rw (f, g) (rw d at (of-answer e 0 (found-apart e)))

  module _ {end torn : ℕ} {last : Commit} {own : Bool} (e : answer ≡ Found end torn last own) where
    -- the journal's reading, of which it is the answer
    found : (chip_length page (length chip) ≡ true) × Taken (facts_of (format_for page owner) p) chip end torn last own v
    found = rw e at a.scans

    -- what was found is no longer than the longest chip
    pub found_within : (end ≤ 65536) × (torn ≤ 65536)
    found_within =
        let h = chip-length page (length chip) found.0 in
        let w = within h.some found.1 h.whole in
        let l = h.most in
        (omega arith, omega arith)

    -- the marks can be made by the last EXCLUDE
    pub found-exclude : Ready (env_of p ws) table × ((last.exclude ≡ 0) ⊎ (is_exclude p last.exclude ≡ true))
    found-exclude =
        let k = a.legal in
        let taken = found.1 in (
          record { cells = k.cells; instructions = k.instructions; excludes = k.excludes; accepted = k.accepted; places = a.places; words = a.words },
          rw taken.last_is (last-exclude first taken.saves (inl refl) taken.reading.sound),
        )
