-- The laws of a call: it has one outcome (`one-fold`), a refusal leaves the new chip (`refusal-alters-nothing`), and on a chip that holds something it is refused or stores bytes of the one
-- save (`call-cases`).
-- Assumes nothing.
use Prim.Native.Nat.{ℕ}
use mathlib.Core.Path.{◌≡◌, sym, ◌∙◌, ap, subst}
use mathlib.Core.Bool.{Bool}
use mathlib.Core.List.{List}
use mathlib.Core.Logic.{◌⊎◌, inl, inr, ⊎_elim}
use native.Mathlib.Omega.{arith}
use lib.ListN.{length}
use Rattle.journal.specs.declared.Commit.{Commit}
use Rattle.journal.specs.Format.{owner_of_plan}
use Rattle.journal.proofs.Fixed.{apart}
use Rattle.step.specs.State.{Env}
use Rattle.folding.specs.Fold.{Folded}
use Rattle.folding.specs.Fold.{Stored, Refused}
use Rattle.folding.specs.Fold.{Holds, folded_bytes, refusal_of, Outcome, outcome, Progress, progress, fold_steps, answered, Puts, Folds, answer_of}
use Rattle.folding.proofs.Beginning.{Advanced, advance}
use Rattle.folding.proofs.Contents.{holds-fixed, holds-whole, holds-own}

-- no answer is both accepted and refused
pub stored-apart : {a : Folded} {n k : ℕ} {f : Bool} → a ≡ Refused n → ¬ (a ≡ Stored k f)
stored-apart x y = let z : ◌≡◌ {A = ℕ} 0 1 = cc in omega arith

-- ---- one outcome

-- a chip holds one thing, so it has one save
pub same-save : {p old : List ℕ} {owner end torn owner' end' torn' : ℕ} {last last' : Commit} {values values' : List ℕ} → Holds p old owner end torn last values
    → Holds p old owner' end' torn' last' values' → folded_bytes (owner_of_plan p) end' values' last' ≡ folded_bytes (owner_of_plan p) end values last
same-save {p} h h' = let f = holds-fixed h' h in λ i. folded_bytes (owner_of_plan p) (f.1 i) (f.4 i) (f.3 i)

puts-fixed : (save new : List ℕ) (k budget : ℕ) (r r' : Outcome) → Puts save new k budget r → Puts save new k budget r' → r ≡ r'
puts-fixed save new k b r r' (Puts.differs n e) (Puts.differs n' e') = e ∙ sym e'
puts-fixed save new k b r r' (Puts.differs n e) (Puts.long h l e') = absurd (n h)
puts-fixed save new k b r r' (Puts.differs n e) (Puts.stores h l e') = absurd (n h)
puts-fixed save new k b r r' (Puts.long h l e) (Puts.differs n e') = absurd (n h)
puts-fixed save new k b r r' (Puts.long h l e) (Puts.long h' l' e') = e ∙ sym e'
puts-fixed save new k b r r' (Puts.long h l e) (Puts.stores h' l' e') = absurd (omega arith)
puts-fixed save new k b r r' (Puts.stores h l e) (Puts.differs n e') = absurd (n h)
puts-fixed save new k b r r' (Puts.stores h l e) (Puts.long h' l' e') = absurd (omega arith)
puts-fixed save new k b r r' (Puts.stores h l e) (Puts.stores h' l' e') = e ∙ sym e'

-- what a call does is done with the save that the chip has
pub puts-same : {p old new : List ℕ} {owner end torn owner' end' torn' : ℕ} {last last' : Commit} {values values' : List ℕ} {k budget : ℕ} {r : Outcome}
    → Holds p old owner end torn last values → Holds p old owner' end' torn' last' values'
    → Puts (folded_bytes (owner_of_plan p) end' values' last') new k budget r → Puts (folded_bytes (owner_of_plan p) end values last) new k budget r
puts-same {new = new} {k = k} {budget = budget} {r = r} h h' q = subst (λ (save : List ℕ). Puts save new k budget r) (same-save h h') q

-- A CALL HAS ONE OUTCOME
pub one-fold : (e : Env) (old new : List ℕ) (k budget : ℕ) (r r' : Outcome) → Folds e old new k budget r → Folds e old new k budget r' → r ≡ r'
one-fold e old new k b r r' (Folds.refuses n z l x) (Folds.refuses n' z' l' x') = x ∙ ap (λ (i : ℕ). outcome (Refused i) new) (sym z ∙ z') ∙ sym x'
one-fold e old new k b r r' (Folds.refuses n z l x) (Folds.damaged z' d a x') = absurd (omega arith)
one-fold e old new k b r r' (Folds.refuses n z l x) (Folds.another z' t x') = absurd (omega arith)
one-fold e old new k b r r' (Folds.refuses n z l x) (Folds.reads z' owner end torn last values h q) = absurd (omega arith)
one-fold e old new k b r r' (Folds.damaged z d a x) (Folds.refuses n z' l x') = absurd (omega arith)
one-fold e old new k b r r' (Folds.damaged z d a x) (Folds.damaged z' d' a' x') = x ∙ sym x'
one-fold e old new k b r r' (Folds.damaged z d a x) (Folds.another z' t x') = absurd (apart d t)
one-fold e old new k b r r' (Folds.damaged z d a x) (Folds.reads z' owner end torn last values h q) = absurd (holds-whole h d a)
one-fold e old new k b r r' (Folds.another z t x) (Folds.refuses n z' l x') = absurd (omega arith)
one-fold e old new k b r r' (Folds.another z t x) (Folds.damaged z' d a x') = absurd (apart d t)
one-fold e old new k b r r' (Folds.another z t x) (Folds.another z' t' x') = x ∙ sym x'
one-fold e old new k b r r' (Folds.another z t x) (Folds.reads z' owner end torn last values h q) = absurd (holds-own h t)
one-fold e old new k b r r' (Folds.reads z owner end torn last values h q) (Folds.refuses n z' l x') = absurd (omega arith)
one-fold e old new k b r r' (Folds.reads z owner end torn last values h q) (Folds.damaged z' d a x') = absurd (holds-whole h d a)
one-fold e old new k b r r' (Folds.reads z owner end torn last values h q) (Folds.another z' t x') = absurd (holds-own h t)
one-fold e old new k b r r' (Folds.reads z owner end torn last values h q) (Folds.reads z' owner' end' torn' last' values' h' q') =
    puts-fixed (folded_bytes (owner_of_plan e.program) end values last) new k b r r' q (puts-same h h' q')

-- ---- refused

refused-chip : {new : List ℕ} {r : Outcome} {n : ℕ} → r ≡ outcome (Refused n) new → r.chip ≡ new
refused-chip e = ap (λ (o : Outcome). o.chip) e

puts-refused : {save new : List ℕ} {k budget : ℕ} {r : Outcome} → Puts save new k budget r → ¬ ((answer_of r.answer).number ≡ 0) → r.chip ≡ new
puts-refused (Puts.differs b e) h = refused-chip e
puts-refused (Puts.long b l e) h = refused-chip e
puts-refused (Puts.stores b l e) h = absurd (h (ap (λ (o : Outcome). (answer_of o.answer).number) e))

pub refusal-alters-nothing : {e : Env} {old new : List ℕ} {k budget : ℕ} {r : Outcome} → Folds e old new k budget r → ¬ ((answer_of r.answer).number ≡ 0) → r.chip ≡ new
refusal-alters-nothing (Folds.refuses n z l x) h = refused-chip x
refusal-alters-nothing (Folds.damaged z d a x) h = refused-chip x
refusal-alters-nothing (Folds.another z t x) h = refused-chip x
refusal-alters-nothing (Folds.reads z owner end torn last values t q) h = puts-refused q h

-- and has a number, of the tests of the new chip 13 or 14
pub number_is : {new : List ℕ} {r : Outcome} {m n : ℕ} → r ≡ outcome (Refused m) new → r.answer ≡ Refused n → m ≡ n
number_is e h = sym (ap (λ (o : Outcome). (answer_of o.answer).number) e) ∙ ap (λ (a : Folded). (answer_of a).number) h

pub puts-number : {save new : List ℕ} {k budget n : ℕ} {r : Outcome} → Puts save new k budget r → r.answer ≡ Refused n → (n ≡ 13) ⊎ (n ≡ 14)
puts-number (Puts.differs b e) h = inl (sym (number_is e h))
puts-number (Puts.long b l e) h = inr (sym (number_is e h))
puts-number (Puts.stores b l e) h = absurd (stored-apart h (ap (λ (o : Outcome). o.answer) e))

pub refused-not-zero : {e : Env} {old new : List ℕ} {k budget n : ℕ} {r : Outcome} → Folds e old new k budget r → r.answer ≡ Refused n → ¬ (n ≡ 0)
refused-not-zero (Folds.refuses m i l x) h z = omega (arith, number_is x h)
refused-not-zero (Folds.damaged i d a x) h z = omega (arith, number_is x h)
refused-not-zero (Folds.another i t x) h z = omega (arith, number_is x h)
refused-not-zero (Folds.reads i owner end torn last values t q) h z = ⊎_elim (λ e. omega arith) (λ e. omega arith) (puts-number q h)

-- ---- refused, or bytes are stored

pub record Unchanged (new : List ℕ) (r : Outcome) : Type 0 where
  pub number : ℕ
  pub answer : r.answer ≡ Refused number
  pub chip : r.chip ≡ new

pub record Went (e : Env) (save old new : List ℕ) (k budget : ℕ) (r : Outcome) : Type 0 where
  pub accepted : refusal_of e (length old) (length new) ≡ 0
  pub after : Progress
  pub is : r ≡ answered save after
  pub advanced : Advanced save new k budget after

unchanged : {new : List ℕ} {r : Outcome} (n : ℕ) → r ≡ outcome (Refused n) new → Unchanged new r
unchanged n e = record { number = n; answer = ap (λ (o : Outcome). o.answer) e; chip = refused-chip e }

put-cases : {e : Env} {save old new : List ℕ} {k budget : ℕ} {r : Outcome} → refusal_of e (length old) (length new) ≡ 0 → Puts save new k budget r
    → Unchanged new r ⊎ Went e save old new k budget r
put-cases z (Puts.differs b e) = inl (unchanged 13 e)
put-cases z (Puts.long b l e) = inl (unchanged 14 e)
put-cases {e} {save} {old} {new} {k} {budget} {r} z (Puts.stores b l x) =
    inr (record { accepted = z; after = fold_steps save budget (progress new k); is = x; advanced = advance save budget k new b l })

pub call-cases : {e : Env} {old new : List ℕ} {owner end torn : ℕ} {last : Commit} {values : List ℕ} {k budget : ℕ} {r : Outcome}
    → Holds e.program old owner end torn last values → Folds e old new k budget r
    → Unchanged new r ⊎ Went e (folded_bytes (owner_of_plan e.program) end values last) old new k budget r
call-cases h (Folds.refuses n z l x) = inl (unchanged n x)
call-cases h (Folds.damaged z d a x) = inl (unchanged 12 x)
call-cases h (Folds.another z t x) = inl (unchanged 16 x)
call-cases {e} {old} h (Folds.reads z owner' end' torn' last' values' h' q) = put-cases {e = e} {old = old} z (puts-same h h' q)
