-- Analyse's answer is the one that document 01's grounds allow.
-- Assumes nothing.
use Prim.Native.Nat.{ℕ, ◌≤◌, ◌<◌}
use mathlib.Core.Path.{◌≡◌, refl, sym, ap, subst}
use mathlib.Core.List.{List, [], ◌∷◌}
use mathlib.Core.Logic.{◌⊎◌, inl, inr}
use native.Mathlib.Omega.{arith}
use lib.Dec.{ltb}
use borrow.Author.Tests.{ltb-true, ltb-false}
use Rattle.program.specs.Check as check
use Rattle.program.specs.Check.{Answer, check_of}
use Rattle.program.specs.Grounds.{Allowed, granted, Counts, Ruled}
use Rattle.program.specs.Check.{Checked}
use Rattle.program.proofs.Grounds.{ruled, one_answer, accepted-values, ruled-passes, ruled-refuses, by-check, by-words, by-own}
use Rattle.program.proofs.Tests.{bool_cases}
use Rattle.analysis.specs.Analyse.{too_short, analysed_from, analyse_of, answer_of, Ground}
use Rattle.analysis.specs.Analyse.{Analysed}

module _ (p : List ℕ) (dead sets : ℕ) where
  -- it has no grounds of its own
  none-own : (n : ℕ) → ⊥ → 9 < n
  none-own n g = absurd g

  -- both buffers have room
  enough : 2048 ≤ dead → 512 ≤ sets → ¬ ((dead < 2048) ⊎ (sets < 512))
  enough d s (inl l) = omega arith
  enough d s (inr l) = omega arith

  -- from what check answers
  from-check : (k : Checked) → Ruled p (check.answer_of k) → Allowed (Ground p dead sets) (Counts p) (answer_of (analysed_from k (too_short dead sets)))
  from-check (check.Refused n) r = by-check none-own (ruled-refuses r (λ e. omega (arith, accepted-values r e)))
  from-check (check.Program cells instructions exclude_count) r =
      let none = ruled-passes r refl in
      let three : Counts p (cells ∷ instructions ∷ exclude_count ∷ []) = ap (λ (a : Answer). a.values) (one_answer p r (granted none refl)) in
      bool_cases (ltb dead 2048)
      (λ a. rw a (by-words none-own none (inl (ltb-true _ _ a))))
      (λ a. bool_cases (ltb sets 512)
      (λ b. rw (a, b) (by-words none-own none (inr (ltb-true _ _ b))))
      (λ b. rw (a, b) (by-own none-own none (enough (ltb-false dead 2048 a) (ltb-false sets 512 b)) (granted (λ n g. g) three))))

  -- THE ANSWER IS THE ONE THAT THE GROUNDS ALLOW
  pub answer-ruled : (r : Analysed) → r ≡ analyse_of p dead sets → Allowed (Ground p dead sets) (Counts p) (answer_of r)
  unfolding analyse_of
  answer-ruled r h = subst (λ (a : Analysed). Allowed (Ground p dead sets) (Counts p) (answer_of a)) (sym h) (from-check (check_of p) (ruled p))
