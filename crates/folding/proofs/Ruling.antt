-- The answer of a call is the one that the grounds allow, in rising order.
-- Assumes nothing.
use Prim.Native.Nat.{ℕ, suc, ◌≤◌, ◌<◌}
use mathlib.Core.Path.{◌≡◌, sym, subst}
use mathlib.Core.Bool.{true, false, cond, ◌&&◌}
use mathlib.Core.List.{List, [], ◌∷◌}
use native.Mathlib.Omega.{arith}
use lib.ListN.{length}
use lib.Dec.{eqb, ltb}
use borrow.Author.Tests.{eqb-true, eqb-false, ltb-true, ltb-false}
use Rattle.program.specs.Check.{Answer, check_of, number_of}
use Rattle.program.specs.Grounds.{Allowed, granted, denied}
use Rattle.program.proofs.Grounds.{plan-passes, plan-refuses, by-check, by-words, by-own}
use Rattle.program.proofs.Tests.{bool_cases, clash}
use Rattle.journal.specs.declared.Commit.{Commit}
use Rattle.journal.specs.Format.{unowned, owner_of_plan, chip_length}
use Rattle.journal.specs.Reading.{Damaged}
use Rattle.journal.specs.Answer.{Taken}
use Rattle.journal.proofs.Fixed.{apart}
use Rattle.step.specs.State.{Env}
use Rattle.folding.specs.Fold.{byte_facts, Holds, folded_bytes, refusal_of, Outcome, progress, fold_steps, Begun, Puts, Folds, answer_of, LateGround, size, damage, other, short, another, Ground, Spent, spent, FoldIs}
use Rattle.folding.proofs.Beginning.{advance}
use Rattle.folding.proofs.Contents.{holds-whole, holds-own}
use Rattle.folding.proofs.Calls.{same-save}

-- its own grounds come behind 9
late-after : {p old new : List ℕ} {k : ℕ} (n : ℕ) → LateGround p old new k n → 9 < n
late-after n (size h) = omega arith
late-after n (damage d a) = omega arith
late-after n (other t d) = omega arith
late-after n (short t l) = omega arith
late-after n (another t) = omega arith

-- of the save of whatever the old chip holds
abbrev Each : (p old : List ℕ) → (List ℕ → Type 0) → Type 0
Each p old P = (owner end torn : ℕ) (last : Commit) (values : List ℕ) → Holds p old owner end torn last values → P (folded_bytes (owner_of_plan p) end values last)

-- no whole mark of the old chip is another plan's, or it is damaged as one of the plan's
abbrev Own : (p old : List ℕ) → Type 0
Own p old = (end torn : ℕ) (last : Commit) (values : List ℕ) → ¬ Taken (byte_facts (owner_of_plan p) p) old end torn last false values

-- the tests whose numbers are below n failed, so no ground is below n
refute : (p old new : List ℕ) (k n : ℕ) → (11 < n → (chip_length 1 (length old) && chip_length 1 (length new)) ≡ true)
    → (12 < n → Damaged (byte_facts (owner_of_plan p) p) old → ¬ Damaged (byte_facts unowned p) old)
    → (13 < n → Each p old (λ save. Begun save k new)) → (14 < n → Each p old (λ save. length save ≤ length new)) → (16 < n → Own p old)
    → (m : ℕ) → m < n → ¬ LateGround p old new k m
refute p old new k n a b c d f m l (size h) = clash _ (a l) h
refute p old new k n a b c d f m l (damage g h) = b l g h
refute p old new k n a b c d f m l (other t h) = h (c l _ _ _ _ _ t)
refute p old new k n a b c d f m l (short t h) = omega (arith, d l _ _ _ _ _ t)
refute p old new k n a b c d f m l (another t) = f l _ _ _ _ t

-- ---- the answer

module _ (e : Env) (old new : List ℕ) (k budget : ℕ) where
  abbrev Ruled : Answer → Type 0
  Ruled a = Allowed (Ground e old new k) (Spent e.program old k budget) a

  -- a refusal by the tests
  refusal-ruled : (n : ℕ) → refusal_of e (length old) (length new) ≡ n → 0 < n → Ruled (record { number = n; values = [] })
  unfolding refusal_of
  refusal-ruled n h l =
      bool_cases (eqb (number_of (check_of e.program)) 0)
      (λ a. bool_cases (ltb (length e.sets) 512)
      (λ b. subst refused (rw (a, b) at h) (by-words late-after (plan-passes _ (eqb-true _ _ a)) (ltb-true _ _ b)))
      (λ b. bool_cases (chip_length 1 (length old) && chip_length 1 (length new))
      (λ c. let z : 0 ≡ n = rw (a, b, c) at h in absurd (omega arith))
      (λ c. subst refused (rw (a, b, c) at h)
      (by-own late-after (plan-passes _ (eqb-true _ _ a)) (λ s. omega (arith, ltb-false (length e.sets) 512 b)) (denied (size c) (refute e.program old new k 11 (λ l. absurd (omega arith)) (λ l. absurd (omega arith)) (λ l. absurd (omega arith)) (λ l. absurd (omega arith)) (λ l. absurd (omega arith))))))))
      (λ a. subst refused (rw a at h) (by-check late-after (plan-refuses _ (eqb-false _ _ a))))
    where
      refused : ℕ → Type 0
      refused i = Ruled (record { number = i; values = [] })

  -- where they refuse nothing, the other grounds decide
  by-late : {a : Answer} → refusal_of e (length old) (length new) ≡ 0
      → ((chip_length 1 (length old) && chip_length 1 (length new)) ≡ true → Allowed (LateGround e.program old new k) (Spent e.program old k budget) a) → Ruled a
  unfolding refusal_of
  by-late h f =
      bool_cases (eqb (number_of (check_of e.program)) 0)
      (λ a. bool_cases (ltb (length e.sets) 512)
      (λ b. let z : ◌≡◌ {A = ℕ} 9 0 = rw (a, b) at h in absurd (omega arith))
      (λ b. bool_cases (chip_length 1 (length old) && chip_length 1 (length new))
      (λ c. by-own late-after (plan-passes _ (eqb-true _ _ a)) (λ s. omega (arith, ltb-false (length e.sets) 512 b)) (f c))
      (λ c. let z : ◌≡◌ {A = ℕ} 11 0 = rw (a, b, c) at h in absurd (omega arith))))
      (λ a. absurd (eqb-false _ _ a (rw a at h)))

  module _ {owner end torn : ℕ} {last : Commit} {values : List ℕ} (t : Holds e.program old owner end torn last values) where
    -- what holds of its save holds of every one, since there is one
    each : (P : List ℕ → Type 0) → P (folded_bytes (owner_of_plan e.program) end values last) → Each e.program old P
    each P h _ _ _ _ _ t' = subst P (same-save t' t) h

    -- 13, 14, or the numbers
    put-ruled : (r : Outcome) → refusal_of e (length old) (length new) ≡ 0 → Puts (folded_bytes (owner_of_plan e.program) end values last) new k budget r → Ruled (answer_of r.answer)
    put-ruled r z (Puts.differs d x) =
        subst (λ (o : Outcome). Ruled (answer_of o.answer)) (sym x)
        (by-late z (λ fits. denied (other t d) (refute e.program old new k 13 (λ _. fits) (λ _. holds-whole t) (λ l. absurd (omega arith)) (λ l. absurd (omega arith)) (λ l. absurd (omega arith)))))
    put-ruled r z (Puts.long b l x) =
        subst (λ (o : Outcome). Ruled (answer_of o.answer)) (sym x)
        (by-late z (λ fits. denied (short t l) (refute e.program old new k 14 (λ _. fits) (λ _. holds-whole t) (λ _. each (λ save. Begun save k new) b) (λ l. absurd (omega arith)) (λ l. absurd (omega arith)))))
    put-ruled r z (Puts.stores b l x) =
        let save = folded_bytes (owner_of_plan e.program) end values last in
        let s = fold_steps save budget (progress new k) in
        let a = (advance save budget k new b l).stored_is in
        let v : Spent e.program old k budget (s.stored ∷ cond (eqb s.stored (length save)) 1 0 ∷ []) =
        subst (λ (i : ℕ). Spent e.program old k budget (i ∷ cond (eqb i (length save)) 1 0 ∷ [])) (sym a) (spent t) in
        subst (λ (o : Outcome). Ruled (answer_of o.answer)) (sym x)
        (by-late z (λ fits.
        granted (λ m. refute e.program old new k (suc m) (λ _. fits) (λ _. holds-whole t) (λ _. each (λ save. Begun save k new) b) (λ _. each (λ save. length save ≤ length new) l) (λ _ _ _ _ _. holds-own t) m (omega arith)) v))

  ruled : (r : Outcome) → Folds e old new k budget r → Ruled (answer_of r.answer)
  ruled r (Folds.refuses n z l x) = subst (λ (o : Outcome). Ruled (answer_of o.answer)) (sym x) (refusal-ruled n z l)
  ruled r (Folds.damaged z d a x) =
      subst (λ (o : Outcome). Ruled (answer_of o.answer)) (sym x)
      (by-late z (λ fits. denied (damage d a) (refute e.program old new k 12 (λ _. fits) (λ l. absurd (omega arith)) (λ l. absurd (omega arith)) (λ l. absurd (omega arith)) (λ l. absurd (omega arith)))))
  ruled r (Folds.another z t x) =
      subst (λ (o : Outcome). Ruled (answer_of o.answer)) (sym x)
      (by-late z (λ fits. denied (another t) (refute e.program old new k 16 (λ _. fits) (λ _ d. absurd (apart d t)) (λ _ _ _ _ _ _ h. absurd (holds-own h t)) (λ _ _ _ _ _ _ h. absurd (holds-own h t)) (λ l. absurd (omega arith)))))
  ruled r (Folds.reads z owner end torn last values t q) = put-ruled t r z q

  -- so this is what a call promises
  pub fold_is : (r : Outcome) → Folds e old new k budget r → FoldIs e old new k budget r
  fold_is r x = record { folds = x; ruled = ruled r x }
