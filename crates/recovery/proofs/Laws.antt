-- Laws of recovery: it leaves one outcome, a refusal alters nothing, nothing is stored on the journal, and one of a length that no chip has is not restored. With marks that
-- name no plan no refusal is above 12 (`unowned-numbers`).
-- Assumes nothing.
use Prim.Native.Nat.{ℕ, ◌*◌, ◌^◌, ◌≤◌, ◌<◌}
use mathlib.Core.Path.{◌≡◌, refl, sym, ◌∙◌, ap, subst}
use mathlib.Core.Bool.{true, false}
use mathlib.Core.List.{List}
use native.Mathlib.Omega.{arith}
use lib.Dec.{eqb, ltb}
use lib.ListN.{length}
use borrow.Author.Tests.{eq-eqb, eqb-false}
use Rattle.program.specs.Check.{check_of, number_of}
use Rattle.program.proofs.Grounds.{plan-refuses}
use Rattle.program.proofs.Tests.{bool_cases, clash}
use Rattle.journal.specs.declared.Commit.{Commit}
use Rattle.journal.specs.Scanned.{Scanned}
use Rattle.journal.specs.Scanned.{BadLength, Damaged, Found}
use Rattle.journal.specs.Reading.{Facts, facts_of, Rising, none, one, own_all}
use Rattle.journal.specs.Answer.{Scans}
use Rattle.journal.proofs.Fixed.{scan-fixed}
use Rattle.journal.specs.Format.{Checkpoint, unowned, kind_of, format_for, chip_length}
use Rattle.step.specs.State.{Env, Machine}
use Rattle.recovery.specs.Recover.{Recovered}
use Rattle.recovery.specs.Recover.{Restored, Refused}
use Rattle.recovery.specs.Recover.{refusal_of, Outcome, outcome, damaged_as_of, Older, recover_of, Recovers, refuses, reads, answer_of}

-- the reading with marks that name no plan gives one number
older-fixed : {F : Facts} {chip : List ℕ} {n n' : ℕ} → Older F chip n → Older F chip n' → n ≡ n'
older-fixed {F} {chip} o o' =
    let f = scan-fixed F chip o.answer o'.answer o.values o'.values o.scans o'.scans in
    o.number_is ∙ ap damaged_as_of f.0 ∙ sym o'.number_is

same_number : (e : Env) (page owner : ℕ) (m : Machine) (a : Scanned) (v : List ℕ) {F : Facts} {n n' : ℕ} → (a ≡ Damaged → Older F m.journal n)
    → (a ≡ Damaged → Older F m.journal n') → recover_of e page owner a n v m ≡ recover_of e page owner a n' v m
unfolding recover_of
same_number e page owner m BadLength v o o' = refl
same_number e page owner m Damaged v o o' = ap (λ (i : ℕ). outcome (Refused i) m) (older-fixed (o refl) (o' refl))
same_number e page owner m (Found end torn last own) v o o' = refl

-- the tests refuse with one number, and else a journal has one reading
pub one-outcome : (e : Env) (page owner : ℕ) (m : Machine) (r r' : Outcome) → Recovers e page owner m r → Recovers e page owner m r' → r ≡ r'
one-outcome e page owner m r r' (refuses n h l k) (refuses n' h' l' k') = k ∙ ap (λ (i : ℕ). outcome (Refused i) m) (sym h ∙ h') ∙ sym k'
one-outcome e page owner m r r' (refuses n h l k) (reads h' a v s n' o k') = absurd (omega arith)
one-outcome e page owner m r r' (reads h a v s n o k) (refuses n' h' l' k') = absurd (omega arith)
one-outcome e page owner m r r' (reads h a v s n o k) (reads h' a' v' s' n' o' k') =
    let f = scan-fixed (facts_of (format_for page owner) e.program) m.journal a a' v v' s s' in
    k ∙ (λ i. recover_of e page owner (f.0 i) n (f.1 i) m) ∙ same_number e page owner m a' v' (λ z. o (f.0 ∙ z)) o' ∙ sym k'

-- where the state is not restored, it is the one that was lent, and the journal with it
unrestored : (e : Env) (page owner : ℕ) (m : Machine) (a : Scanned) (n : ℕ) (v : List ℕ) → ¬ ((recover_of e page owner a n v m).answer ≡ Restored)
    → (recover_of e page owner a n v m).machine ≡ m
unfolding recover_of
unrestored e page owner m BadLength n v h = refl
unrestored e page owner m Damaged n v h = refl
unrestored e page owner m (Found end torn last true) n v h = absurd (h refl)
unrestored e page owner m (Found end torn last false) n v h = refl

pub refusal-alters-nothing : (e : Env) (page owner : ℕ) (m : Machine) (r : Outcome) → Recovers e page owner m r → ¬ (r.answer ≡ Restored) → r.machine ≡ m
refusal-alters-nothing e page owner m r (refuses n h l k) z = rw k
refusal-alters-nothing e page owner m r (reads h a v s n o k) z = rw k (unrestored e page owner m a n v (rw k at z))

-- restored or not, the journal is the one that was lent
same-journal : (e : Env) (page owner : ℕ) (m : Machine) (a : Scanned) (n : ℕ) (v : List ℕ) → (recover_of e page owner a n v m).machine.journal ≡ m.journal
unfolding recover_of
same-journal e page owner m BadLength n v = refl
same-journal e page owner m Damaged n v = refl
same-journal e page owner m (Found end torn last true) n v = refl
same-journal e page owner m (Found end torn last false) n v = refl

pub journal-stays : (e : Env) (page owner : ℕ) (m : Machine) (r : Outcome) → Recovers e page owner m r → r.machine.journal ≡ m.journal
journal-stays e page owner m r (refuses n h l k) = rw k
journal-stays e page owner m r (reads h a v s n o k) = rw k (same-journal e page owner m a n v)

-- no answer is both accepted and refused
pub restored-apart : {a : Recovered} {n : ℕ} → a ≡ Restored → ¬ (a ≡ Refused n)
restored-apart x y = let z : ◌≡◌ {A = ℕ} 0 1 = cc in omega arith

-- a state is restored from a journal of a length that a chip may have, and is one for such chips
pub restored-size : (e : Env) (page owner : ℕ) (m : Machine) (r : Outcome) → Recovers e page owner m r → r.answer ≡ Restored → chip_length page (length m.journal) ≡ true
unfolding recover_of
restored-size e page owner m r (refuses n h l k) z = absurd (restored-apart z (ap (λ (o : Outcome). o.answer) k))
restored-size e page owner m r (reads h BadLength v s n o k) z = absurd (restored-apart z (ap (λ (x : Outcome). x.answer) k))
restored-size e page owner m r (reads h Damaged v s n o k) z = s.0
restored-size e page owner m r (reads h (Found end torn last own) v s n o k) z = s.0

pub restored-kind : (e : Env) (page owner : ℕ) (m : Machine) (r : Outcome) → Recovers e page owner m r → r.answer ≡ Restored
    → (r.machine.regs.page ≡ page) × (r.machine.regs.owner ≡ owner)
unfolding recover_of
restored-kind e page owner m r (refuses n h l k) z = absurd (restored-apart z (ap (λ (o : Outcome). o.answer) k))
restored-kind e page owner m r (reads h BadLength v s n o k) z = absurd (restored-apart z (ap (λ (x : Outcome). x.answer) k))
restored-kind e page owner m r (reads h Damaged v s n o k) z = absurd (restored-apart z (ap (λ (x : Outcome). x.answer) k))
restored-kind e page owner m r (reads h (Found end torn last true) v s n o k) z = (rw k, rw k)
restored-kind e page owner m r (reads h (Found end torn last false) v s n o k) z = absurd (restored-apart z (ap (λ (x : Outcome). x.answer) k))

-- ---- the recovery of document 01

-- marks that name no plan are all the owner's, so that there is no 16
pub own-none : {F : Facts} {b : Commit} {js : List Checkpoint} → F.format.kind ≡ 0 → Rising F b js → own_all unowned js ≡ true
unfolding own_all
own-none z none = refl
own-none {F} z (one {s = s} h r) =
    let g : s.commit.owner < 256 ^ 0 = subst (λ (k : ℕ). s.commit.owner < 256 ^ (4 * k)) z h.after.owner_fits in
    rw (eq-eqb s.commit.owner 0 (omega arith), own-none z r)

-- and a journal that is damaged by the one reading is so by the other, which is the same, so that there is no 15
same-damage : {F : Facts} {chip : List ℕ} {v : List ℕ} {n : ℕ} → Scans F chip Damaged v → Older F chip n → n ≡ 12
same-damage {F} {chip} {v} s o = o.number_is ∙ ap damaged_as_of (sym (scan-fixed F chip Damaged o.answer v o.values s o.scans).0)

-- the refusals by the plan and the words
few : (e : Env) → refusal_of e ≤ 9
unfolding refusal_of
few e =
    bool_cases (eqb (number_of (check_of e.program)) 0)
    (λ a. bool_cases (ltb (length e.sets) 512) (λ b. rw (a, b) (omega arith)) (λ b. rw (a, b) (omega arith)))
    (λ a. let h = plan-refuses _ (eqb-false _ _ a) in rw a (omega (arith, h.most)))

pub unowned-numbers : (e : Env) (page : ℕ) (m : Machine) (r : Outcome) → Recovers e page unowned m r → (answer_of r.answer).number ≤ 12
unfolding recover_of kind_of
unowned-numbers e page m r (refuses n h l k) = rw k (omega (arith, few e))
unowned-numbers e page m r (reads h BadLength v s n o k) = rw k (omega arith)
unowned-numbers e page m r (reads h Damaged v s n o k) = rw k (omega (arith, same-damage s (o refl)))
unowned-numbers e page m r (reads h (Found end torn last true) v s n o k) = rw k (omega arith)
unowned-numbers e page m r (reads h (Found end torn last false) v s n o k) =
    absurd (clash _ (own-none refl s.1.reading.sound) (sym s.1.own_is))
