-- Recovery's answer is the one that the documents' grounds allow.
-- Assumes nothing.
use Prim.Native.Nat.{ℕ, ◌<◌}
use mathlib.Core.Path.{◌≡◌, refl, sym, ◌∙◌, ap, subst}
use mathlib.Core.Bool.{Bool, true, false}
use mathlib.Core.List.{List, []}
use native.Mathlib.Omega.{arith}
use lib.Dec.{eqb, ltb}
use lib.ListN.{length}
use borrow.Author.Tests.{eqb-true, eqb-false, ltb-true, ltb-false}
use Rattle.program.specs.Check.{check_of, number_of}
use Rattle.program.specs.Grounds.{Allowed, granted, denied}
use Rattle.program.proofs.Grounds.{plan-passes, plan-refuses, by-check, by-words, by-own}
use Rattle.program.proofs.Tests.{bool_cases, clash}
use Rattle.journal.specs.declared.Commit.{Commit}
use Rattle.journal.specs.Scanned.{Scanned}
use Rattle.journal.specs.Scanned as scanned
use Rattle.journal.specs.Format.{chip_length, unowned, format_for}
use Rattle.journal.specs.Reading as journal
use Rattle.journal.specs.Reading.{Facts, facts_of, own_all}
use Rattle.journal.specs.Answer.{Taken, Scans}
use Rattle.journal.proofs.Back.{one-reading}
use Rattle.journal.proofs.Fixed.{apart, taken-fixed}
use Rattle.step.specs.State.{Env, Machine}
use Rattle.recovery.specs.Recover as recovery
use Rattle.recovery.specs.Recover.{refusal_of, Outcome, Older, recover_of, Recovers, refuses, reads, answer_of, Marked, ChipGround, Ground, RecoverIs}

-- the chip's grounds come behind 9
late-after : {p : List ℕ} {page owner : ℕ} {chip : List ℕ} (n : ℕ) → ChipGround p page owner chip n → 9 < n
late-after n (ChipGround.size h) = omega arith
late-after n (ChipGround.damaged h m) = omega arith
late-after n (ChipGround.older h m) = omega arith
late-after n (ChipGround.another saves rest h t o) = omega arith

-- ---- the chip's answer

module _ (p : List ℕ) (page owner : ℕ) (chip : List ℕ) where
  abbrev F : Facts
  F = facts_of (format_for page owner) p

  abbrev Old : Facts
  Old = facts_of (format_for page unowned) p

  abbrev Chip : ℕ → Type 0
  Chip i = Allowed (ChipGround p page owner chip) (λ vs. vs ≡ []) (record { number = i; values = [] })

  below-11 : (m : ℕ) → m < 11 → ¬ ChipGround p page owner chip m
  below-11 m l (ChipGround.size h) = omega arith
  below-11 m l (ChipGround.damaged h k) = omega arith
  below-11 m l (ChipGround.older h k) = omega arith
  below-11 m l (ChipGround.another saves rest h t o) = omega arith

  -- where the length is right, none is below 12, and where marks that name no plan stand there, none below 15
  below-12 : chip_length page (length chip) ≡ true → (m : ℕ) → m < 12 → ¬ ChipGround p page owner chip m
  below-12 n m l (ChipGround.size h) = clash _ n h
  below-12 n m l (ChipGround.damaged h k) = omega arith
  below-12 n m l (ChipGround.older h k) = omega arith
  below-12 n m l (ChipGround.another saves rest h t o) = omega arith

  below-15 : chip_length page (length chip) ≡ true → Marked Old chip → (m : ℕ) → m < 15 → ¬ ChipGround p page owner chip m
  below-15 n x m l (ChipGround.size h) = clash _ n h
  below-15 n x m l (ChipGround.damaged h k) = k x
  below-15 n x m l (ChipGround.older h k) = omega arith
  below-15 n x m l (ChipGround.another saves rest h t o) = omega arith

  -- where marks that name the owner stand there, none but 16
  below-16 : {end torn : ℕ} {last : Commit} {own : Bool} {v : List ℕ} → chip_length page (length chip) ≡ true → Taken F chip end torn last own v → (m : ℕ) → m < 16
      → ¬ ChipGround p page owner chip m
  below-16 n x m l (ChipGround.size h) = clash _ n h
  below-16 n x m l (ChipGround.damaged h k) = apart h x
  below-16 n x m l (ChipGround.older h k) = apart h x
  below-16 n x m l (ChipGround.another saves rest h t o) = omega arith

  unground : {end torn : ℕ} {last : Commit} {v : List ℕ} → chip_length page (length chip) ≡ true → Taken F chip end torn last true v → (m : ℕ) → ¬ ChipGround p page owner chip m
  unground n x m (ChipGround.size h) = clash _ n h
  unground n x m (ChipGround.damaged h k) = apart h x
  unground n x m (ChipGround.older h k) = apart h x
  unground n x m (ChipGround.another saves rest h t o) =
      clash _ (sym x.own_is ∙ refl) (ap (own_all owner) (one-reading x.reading h).0 ∙ o)

  -- the number of a chip that is damaged as one of the owner's
  older-ruled : {n : ℕ} (a : Scanned) (v : List ℕ) → chip_length page (length chip) ≡ true → journal.Damaged F chip → Scans Old chip a v → n ≡ recovery.damaged_as_of a → Chip n
  older-ruled scanned.BadLength v l d s e = clash _ l s.0
  older-ruled scanned.Damaged v l d s e = subst Chip (sym e) (denied (ChipGround.damaged d (λ x. apart s.1 x.taken)) (below-12 l))
  older-ruled (scanned.Found end torn last own) v l d s e =
      bool_cases (ltb 0 end)
      (λ t.
      let x : Marked Old chip = record { end = end; torn = torn; last = last; own = own; values = v; taken = s.1; some = ltb-true _ _ t } in
      subst Chip (sym (rw t at e)) (denied (ChipGround.older d x) (below-15 l x)))
      (λ t.
      subst Chip (sym (rw t at e)) (denied (ChipGround.damaged d (λ x. omega (arith, (taken-fixed s.1 x.taken).0, x.some, ltb-false 0 end t))) (below-12 l)))

  chip-ruled : (e : Env) (a : Scanned) (v : List ℕ) (n : ℕ) (m : Machine) → Scans F chip a v → (a ≡ scanned.Damaged → Older Old chip n)
      → Allowed (ChipGround p page owner chip) (λ vs. vs ≡ []) (answer_of (recover_of e page owner a n v m).answer)
  unfolding recover_of
  chip-ruled e scanned.BadLength v n m s o = denied (ChipGround.size s.0) below-11
  chip-ruled e scanned.Damaged v n m s o = let x = o refl in older-ruled x.answer x.values s.0 s.1 x.scans x.number_is
  chip-ruled e (scanned.Found end torn last true) v n m s o = granted (unground s.0 s.1) refl
  chip-ruled e (scanned.Found end torn last false) v n m s o =
      let x = s.1 in
      denied (ChipGround.another x.saves x.rest x.reading x.accepted (sym x.own_is)) (below-16 s.0 x)

-- ---- the call's

module _ (e : Env) (page owner : ℕ) (chip : List ℕ) where
  abbrev Ruled : ℕ → Type 0
  Ruled i = Allowed (Ground e page owner chip) (λ vs. vs ≡ []) (record { number = i; values = [] })

  -- a refusal by the tests
  refusal-ruled : (n : ℕ) → refusal_of e ≡ n → 0 < n → Ruled n
  unfolding refusal_of
  refusal-ruled n h l =
      bool_cases (eqb (number_of (check_of e.program)) 0)
      (λ a. bool_cases (ltb (length e.sets) 512)
      (λ b. subst Ruled (rw (a, b) at h) (by-words late-after (plan-passes _ (eqb-true _ _ a)) (ltb-true _ _ b)))
      (λ b. let z : 0 ≡ n = rw (a, b) at h in absurd (omega arith)))
      (λ a. subst Ruled (rw a at h) (by-check late-after (plan-refuses _ (eqb-false _ _ a))))

  -- where they refuse nothing, the chip decides
  by-chip : (a : Scanned) (v : List ℕ) (n : ℕ) (m : Machine) → refusal_of e ≡ 0 → Scans (facts_of (format_for page owner) e.program) chip a v
      → (a ≡ scanned.Damaged → Older (facts_of (format_for page unowned) e.program) chip n)
      → Allowed (Ground e page owner chip) (λ vs. vs ≡ []) (answer_of (recover_of e page owner a n v m).answer)
  unfolding refusal_of
  by-chip a v n m h s o =
      bool_cases (eqb (number_of (check_of e.program)) 0)
      (λ t. bool_cases (ltb (length e.sets) 512)
      (λ b. let z : ◌≡◌ {A = ℕ} 9 0 = rw (t, b) at h in absurd (omega arith))
      (λ b. by-own late-after (plan-passes _ (eqb-true _ _ t)) (λ l. omega (arith, ltb-false (length e.sets) 512 b)) (chip-ruled e.program page owner chip e a v n m s o)))
      (λ t. absurd (eqb-false _ _ t (rw t at h)))

-- THE ANSWER IS THE ONE THAT THE GROUNDS ALLOW
ruled : (e : Env) (page owner : ℕ) (m : Machine) (r : Outcome) → Recovers e page owner m r → Allowed (Ground e page owner m.journal) (λ vs. vs ≡ []) (answer_of r.answer)
ruled e page owner m r (refuses n h l k) =
    subst (λ (o : Outcome). Allowed (Ground e page owner m.journal) (λ vs. vs ≡ []) (answer_of o.answer)) (sym k) (refusal-ruled e page owner m.journal n h l)
ruled e page owner m r (reads h a v s n o k) =
    subst (λ (x : Outcome). Allowed (Ground e page owner m.journal) (λ vs. vs ≡ []) (answer_of x.answer)) (sym k) (by-chip e page owner m.journal a v n m h s o)

-- so this is what recovery promises
pub recover-is : (e : Env) (page owner : ℕ) (m : Machine) (r : Outcome) → Recovers e page owner m r → RecoverIs e page owner m r
recover-is e page owner m r x = record { recovers = x; ruled = ruled e page owner m r x }
