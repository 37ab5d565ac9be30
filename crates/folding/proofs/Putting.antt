-- From what the parts of folding answer to what a call leaves: the refusals by their tests, and by scan's answer `folded`, `folded-older` and their refusals.
-- Assumes nothing.
use Prim.Native.Nat.{ℕ, ◌+◌, ◌≤◌, ◌<◌}
use mathlib.Core.Path.{◌≡◌, refl, sym, subst}
use mathlib.Core.Bool.{Bool, true, false, not, cond, ◌&&◌, and-false}
use mathlib.Core.List.{List}
use native.Mathlib.Omega.{arith}
use lib.ListN.{length}
use Rattle.std.proofs.Common.{Err}
use borrow.Author.Tests.{lt-ltb, le-ltb, ne_eqb}
use Rattle.instruction.specs.Bytes.{byte}
use Rattle.program.specs.Grounds.{Checks}
use Rattle.program.specs.Check as checked
use Rattle.program.proofs.Tests.{clash}
use Rattle.journal.specs.declared.Commit.{Commit}
use Rattle.journal.specs.Scanned.{Scanned}
use Rattle.journal.specs.Scanned.{BadLength, Damaged, Found, scanned_of}
use Rattle.journal.specs.declared.Unreadable.{Unreadable}
use Rattle.journal.specs.declared.Unreadable.TheVariants as unreadable
use Rattle.journal.specs.Format.{unowned, owner_of_plan, chip_length}
use Rattle.journal.specs.Reading.{Facts}
use Rattle.journal.specs.Answer.{facts_in, Scans}
use Rattle.step.specs.State.{env_of}
use Rattle.step.specs.Ready.{Legal}
use Rattle.recovery.proofs.Recovering.{not-zero, table-facts, Answered}
use Rattle.folding.specs.Fold.{Refused}
use Rattle.folding.specs.Fold.{byte_chip, byte_facts, Holds, folded_bytes, refusal_of, Outcome, outcome, Puts, Folds, FoldsOlder}

-- ---- the refusals

module _ (p ws old new : List ℕ) (k b : ℕ) where
  pub refused-program : {n : ℕ} → Checks p (checked.Refused n) → Folds (env_of p ws) old new k b (outcome (Refused n) new)
  unfolding refusal_of
  refused-program {n} h = let z = not-zero h in Folds.refuses n (rw (← h.is, ne_eqb n 0 z)) (omega arith) refl

  module _ (h : Legal p) where
    pub refused-words : length ws < 512 → Folds (env_of p ws) old new k b (outcome (Refused 9) new)
    unfolding refusal_of
    refused-words a = Folds.refuses 9 (rw (h.accepted, lt-ltb _ _ a)) (omega arith) refl

    module _ (a : 512 ≤ length ws) where
      -- 11, or none of them, by the lengths of both chips
      by_lengths : (x : Bool) → (chip_length 1 (length old) && chip_length 1 (length new)) ≡ x → refusal_of (env_of p ws) (length old) (length new) ≡ cond x 0 11
      unfolding refusal_of
      by_lengths x e = rw (h.accepted, le-ltb _ _ a, e)

      pub refused-new : (x : Bool) → x ≡ chip_length 1 (length new) → not x ≡ true → Folds (env_of p ws) old new k b (outcome (Refused 11) new)
      refused-new false e n = Folds.refuses 11 (by_lengths false (rw (← e) (and-false (chip_length 1 (length old))))) (omega arith) refl
      refused-new true e n = clash false n refl

-- the new chip has a length that a chip may have
pub new-fits : (n : ℕ) (x : Bool) → x ≡ chip_length 1 n → not x ≡ false → chip_length 1 n ≡ true
new-fits n true e h = sym e
new-fits n false e h = clash true refl h

-- ---- by what scan answers

-- by a table's facts and marks that name no plan
abbrev older_facts : (highest : ℕ) (table : List ℕ) → Facts
older_facts highest table = facts_in (byte_chip unowned) (highest + 1) table

module _ (highest : ℕ) (table old : List ℕ) (answer : Scanned) (v : List ℕ) (scans : Scans (older_facts highest table) old answer v) (owner : ℕ) (new : List ℕ) (k b : ℕ) where
  -- the reading of the old chip, of which it is the answer
  read-older : {x : Scanned} → answer ≡ x → Scans (older_facts highest table) old x v
  read-older e = rw e at scans

  -- its length is one that a chip may have
  older-length : chip_length 1 (length old) ≡ true → {r : Outcome} → answer ≡ BadLength → FoldsOlder (older_facts highest table) owner old new k b r
  older-length l e = clash _ l (read-older e).0

  older-damaged : {n : ℕ} → answer ≡ Damaged → n ≡ 12 → FoldsOlder (older_facts highest table) owner old new k b (outcome (Refused n) new)
  older-damaged e h = rw h (FoldsOlder.damaged (read-older e).1 refl)

  -- so it is damaged where it is not read
  pub older-refused : chip_length 1 (length old) ≡ true → (x : Unreadable) → answer ≡ scanned_of (Err x) → FoldsOlder (older_facts highest table) owner old new k b (outcome (Refused 12) new)
  older-refused l unreadable.BadLength e = older-length l e
  older-refused l unreadable.Damaged e = older-damaged e refl

  pub older-found : {end torn : ℕ} {last : Commit} {own : Bool} {r : Outcome} → answer ≡ Found end torn last own → Puts (folded_bytes owner end v last) new k b r
      → FoldsOlder (older_facts highest table) owner old new k b r
  older-found e q = FoldsOlder.reads (read-older e).1 q

-- by the marks that name the plan
module _ {owner : ℕ} {p ws table old : List ℕ} {answer : Scanned} {v : List ℕ} (a : Answered 1 owner p ws table old answer v) (plan : owner ≡ owner_of_plan p) (new : List ℕ) (k b : ℕ)
    (fits : chip_length 1 (length new) ≡ true) where
  -- the reading of the old chip, of which it is the answer
  read : {x : Scanned} → answer ≡ x → Scans (byte_facts (owner_of_plan p) p) old x v
  read {x} e = subst (λ (i : ℕ). Scans (byte_facts i p) old x v) plan (rw e at a.scans)

  no-refusal : chip_length 1 (length old) ≡ true → refusal_of (env_of p ws) (length old) (length new) ≡ 0
  no-refusal e = by_lengths p ws old new k b a.legal a.words true (rw (e, fits))

  pub refused-old : {n : ℕ} → answer ≡ BadLength → n ≡ 11 → Folds (env_of p ws) old new k b (outcome (Refused n) new)
  refused-old e h = rw h (Folds.refuses 11 (by_lengths p ws old new k b a.legal a.words false (rw (read e).0)) (omega arith) refl)

  -- a chip that is damaged so has a length that a chip may have
  pub damaged-length : answer ≡ Damaged → chip_length 1 (length old) ≡ true
  damaged-length e = (read e).0

  -- 12, or what was found with marks that name no plan
  folded-other : {r : Outcome} → answer ≡ Damaged → FoldsOlder (byte_facts unowned p) (owner_of_plan p) old new k b r → Folds (env_of p ws) old new k b r
  folded-other e (FoldsOlder.damaged d x) = let f = read e in Folds.damaged (no-refusal f.0) f.1 d x
  folded-other e (FoldsOlder.reads t q) = let f = read e in Folds.reads (no-refusal f.0) unowned _ _ _ _ (Holds.older f.1 t) q

  -- whose facts are the program's
  pub folded-older : {highest : ℕ} {r : Outcome} → answer ≡ Damaged → highest ≡ byte p 0
      → FoldsOlder (older_facts highest table) owner old new k b r → Folds (env_of p ws) old new k b r
  folded-older {highest} {r} e h f =
      folded-other e (subst (λ (i : ℕ). FoldsOlder (byte_facts unowned p) i old new k b r) plan
      (subst (λ (F : Facts). FoldsOlder F owner old new k b r) (table-facts 1 unowned p table a.places h) f))

  -- 16: a mark of another plan
  pub refused-owner : {n end torn : ℕ} {last : Commit} {own : Bool} → answer ≡ Found end torn last own → own ≡ false → n ≡ 16
      → Folds (env_of p ws) old new k b (outcome (Refused n) new)
  refused-owner e f h = let t = rw f at (read e) in rw h (Folds.another (no-refusal t.0) t.1 refl)

  pub folded : {end torn : ℕ} {last : Commit} {own : Bool} {r : Outcome} → answer ≡ Found end torn last own → own ≡ true → Puts (folded_bytes owner end v last) new k b r
      → Folds (env_of p ws) old new k b r
  folded {end} {torn} {last} {own} {r} e f q =
      let t = rw f at (read e) in
      Folds.reads (no-refusal t.0) (owner_of_plan p) end torn last v (Holds.today t.1) (subst (λ (i : ℕ). Puts (folded_bytes i end v last) new k b r) plan q)
