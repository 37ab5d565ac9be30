-- From what check and scan answer to what `spent` does: recovery's refusal, by its own definition, or whether a note may stand there.
-- Assumes nothing.
use Prim.Native.Nat.{ℕ, ◌+◌, ◌≤◌, ◌<◌}
use mathlib.Core.Path.{◌≡◌, refl, sym, ◌∙◌, ap, subst}
use mathlib.Core.Bool.{Bool, true, false}
use mathlib.Core.List.{List, []}
use native.Mathlib.Omega.{arith}
use lib.Dec.{ltb}
use lib.ListN.{length, replicate, length-replicate}
use Rattle.instruction.specs.Bytes.{byte}
use Rattle.program.specs.Check.{Answer}
use Rattle.program.specs.Grounds.{Allowed, granted, denied, Checks}
use Rattle.program.specs.Places.{Places}
use Rattle.program.specs.Check as checked
use Rattle.program.proofs.Tests.{bool_cases}
use Rattle.journal.specs.declared.Commit.{Commit}
use Rattle.journal.specs.Scanned.{Scanned}
use Rattle.journal.specs.Scanned.{BadLength, Damaged, Found}
use Rattle.journal.specs.Format.{unowned, format_for}
use Rattle.journal.specs.Reading.{Facts, facts_of}
use Rattle.journal.specs.Answer.{facts_in, Scans}
use Rattle.journal.specs.Parts.{Decides}
use Rattle.step.specs.declared.Regs.{Regs}
use Rattle.step.specs.State.{env_of, Machine, machine_of}
use Rattle.step.specs.Ready.{Legal}
use Rattle.recovery.specs.Recover as recovery
use Rattle.recovery.specs.Recover.{Outcome, outcome, damaged_as_of, Older, recover_of, Recovers, RecoverIs}
use Rattle.recovery.specs.Recover.{Recovered}
use Rattle.recovery.specs.Recover.{Restored, Refused}
use Rattle.recovery.proofs.Laws.{restored-apart}
use Rattle.recovery.proofs.Ruling.{recover-is}
use Rattle.recovery.proofs.Recovering.{Answered, answered, older-read, refused-program, refused-length, refused-damaged, refused-owner, restored}
use Rattle.notes.specs.Notes as told
use Rattle.notes.specs.Notes.{NotePlace, Tells, answer_of, Ground, SpentIs, ReadTo}
use Rattle.notes.proofs.Laws.{ground-some, ground-of, ground-to}

-- ---- recovery's answers

-- a number that a refusal has is not 0
damage-some : {F : Facts} {chip : List ℕ} {n : ℕ} → Older F chip n → 0 < n
damage-some o = by o.answer o.number_is
  where
    by : {n : ℕ} (a : _) → n ≡ damaged_as_of a → 0 < n
    by BadLength e = omega arith
    by Damaged e = omega arith
    by (Found end torn last own) e = bool_cases (ltb 0 end) (λ t. omega (arith, rw t at e)) (λ t. omega (arith, rw t at e))

numbers-same : {a : Recovered} {n k : ℕ} → a ≡ Refused n → a ≡ Refused k → n ≡ k
numbers-same e f = let z : Refused _ ≡ Refused _ = sym e ∙ f in cc

answer-of : {r o : Outcome} → r ≡ o → r.answer ≡ o.answer
answer-of e = ap (λ (o : Outcome). o.answer) e

module _ {p ws : List ℕ} {page owner : ℕ} {m : Machine} {r : Outcome} where
  refused-some : (n : ℕ) → Recovers (env_of p ws) page owner m r → r.answer ≡ Refused n → 0 < n
  unfolding recover_of
  refused-some n (recovery.refuses k h l e) z = omega (arith, numbers-same z (answer-of e))
  refused-some n (recovery.reads h BadLength v s k o e) z = omega (arith, numbers-same z (answer-of e))
  refused-some n (recovery.reads h Damaged v s k o e) z = omega (arith, numbers-same z (answer-of e), damage-some (o refl))
  refused-some n (recovery.reads h (Found end torn last true) v s k o e) z = absurd (restored-apart (answer-of e) z)
  refused-some n (recovery.reads h (Found end torn last false) v s k o e) z = omega (arith, numbers-same z (answer-of e))

-- ---- the answer

module _ {p ws : List ℕ} {page owner : ℕ} {m : Machine} {r : Outcome} (enough : 512 ≤ length ws) (h : RecoverIs (env_of p ws) page owner m r) (at : ℕ) where
  -- a refusal is recovery's
  denied-as : {n : ℕ} {a : Answer} {P : List ℕ → Type 0} → a ≡ record { number = n; values = [] } → 0 < n → Allowed (recovery.Ground (env_of p ws) page owner m.journal) P a
      → SpentIs p page owner m.journal at (told.Refused n)
  denied-as e l (granted k x) = absurd (omega (arith, ap (λ (a : Answer). a.number) e))
  denied-as {n} e l (denied {n = i} g k) =
      let j : i ≡ n = ap (λ (a : Answer). a.number) e in
      subst (λ (x : ℕ). SpentIs p page owner m.journal at (told.Refused x)) j (denied (ground-of ws enough i g) (λ y b d. k y b (ground-to ws enough y d)))

  pub refused-told : {n : ℕ} → r.answer ≡ Refused n → SpentIs p page owner m.journal at (told.Refused n)
  refused-told {n} e = denied-as (ap recovery.answer_of e) (refused-some n h.recovers e) h.ruled

  tells : (b : Bool) → Decides (NotePlace page owner p m.journal at) b → Tells page owner p m.journal at (answer_of (told.May b)).values
  tells true n = Tells.may n
  tells false n = Tells.may_not n

  -- no ground stands where it is accepted
  no-ground : {a : Answer} {P : List ℕ → Type 0} → a.number ≡ 0 → Allowed (recovery.Ground (env_of p ws) page owner m.journal) P a → (n : ℕ) → ¬ Ground p page owner m.journal n
  no-ground e (granted k x) n g = k n (ground-to ws enough n g)
  no-ground e (denied {n = i} g k) n d = absurd (zero-ground i e g)
    where
      zero-ground : (i : ℕ) → i ≡ 0 → ¬ recovery.Ground (env_of p ws) page owner m.journal i
      zero-ground i e g = ground-some (subst (Ground p page owner m.journal) e (ground-of ws enough i g))

  pub may-told : r.answer ≡ Restored → (b : Bool) → Decides (NotePlace page owner p m.journal at) b → SpentIs p page owner m.journal at (told.May b)
  may-told e b d = granted (no-ground (ap (λ (a : Recovered). (recovery.answer_of a).number) e) h.ruled) (tells b d)

-- ---- a recovery that nobody called: with these words and this state, of the chip

abbrev no_sets : List ℕ
no_sets = replicate 512 0

abbrev no_regs : Regs
no_regs = record { pc = 0; exclude = 0; readings = 0; outputs = 0; stop = 0; write = 0; erase = 0; saving = 0; page = 0; owner = 0 }

enough : 512 ≤ length no_sets
enough = omega (arith, length-replicate {A = ℕ} 512 0)

-- it is known as much of it as scan has answered
pub answers : (page owner : ℕ) {p : List ℕ} {b : ℕ} (table chip : List ℕ) (answer : Scanned) (v : List ℕ) → Legal p → Places p table → b ≡ byte p 0
    → Scans (facts_in (format_for page owner) (b + 1) table) chip answer v → Answered page owner p no_sets table chip answer v
answers page owner table chip answer v legal places e s = answered page owner table chip answer v legal places enough e s

module _ {page owner : ℕ} {p chip : List ℕ} (at : ℕ) where
  told-refused : {n : ℕ} → Recovers (env_of p no_sets) page owner (machine_of no_regs [] [] chip) (outcome (Refused n) (machine_of no_regs [] [] chip)) → SpentIs p page owner chip at (told.Refused n)
  told-refused x = refused-told enough (recover-is _ _ _ _ _ x) at refl

  -- 1 to 8
  pub by-program : {n : ℕ} → Checks p (checked.Refused n) → SpentIs p page owner chip at (told.Refused n)
  by-program h = told-refused (refused-program p no_sets page owner (machine_of no_regs [] [] chip) h)

  module _ {table v : List ℕ} {answer : Scanned} (a : Answered page owner p no_sets table chip answer v) where
    -- 11
    pub by_length : {n : ℕ} → answer ≡ BadLength → n ≡ 11 → SpentIs p page owner chip at (told.Refused n)
    by_length e h = told-refused (refused-length a no_regs [] [] e h)

    -- 12 or 15
    pub by-damage : {b n : ℕ} → answer ≡ Damaged → b ≡ byte p 0 → Older (facts_in (format_for page unowned) (b + 1) table) chip n → SpentIs p page owner chip at (told.Refused n)
    by-damage e h o = told-refused (refused-damaged a no_regs [] [] e (older-read page p table chip a.places h o))

    module _ {end torn : ℕ} {last : Commit} {own : Bool} (e : answer ≡ Found end torn last own) where
      -- 16
      pub by-owner : {n : ℕ} → own ≡ false → n ≡ 16 → SpentIs p page owner chip at (told.Refused n)
      by-owner f h = told-refused (refused-owner a no_regs [] [] e f h)

      -- or it is read
      pub read-to : ReadTo page owner p chip end last.place
      read-to =
          let s : Scans (facts_of (format_for page owner) p) chip (Found end torn last own) v = subst (λ (b : Scanned). Scans (facts_of (format_for page owner) p) chip b v) e a.scans in
          record { size = s.0; torn = torn; last = last; own = own; values = v; taken = s.1; place_is = refl }

      pub by-reading : own ≡ true → (b : Bool) → Decides (NotePlace page owner p chip at) b → SpentIs p page owner chip at (told.May b)
      by-reading f b d = may-told enough (recover-is _ _ _ _ _ (restored a no_regs [] [] e f refl refl)) at refl b d
