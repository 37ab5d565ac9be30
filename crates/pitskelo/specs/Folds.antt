-- What pitskelo_fold leaves, over the bytes that are lent: decoding, and the definition of crate `folding`.
-- Assumes nothing.
use Rattle.std.specs.Prelude.{ℕ, ◌≡◌, List}
use Rattle.step.specs.State.{env_of}
use Rattle.folding.specs.Fold.{Outcome, FoldIs, answer_of}
use Rattle.pitskelo.specs.Calls.{leaves}
use Rattle.pitskelo.specs.Runs.{sets_in}

-- what a fold of the bytes is lent; the old chip is only read
pub record FoldLent : Type 0 where
  pub plan : List ℕ
  pub sets : List ℕ
  pub old : List ℕ
  pub new : List ℕ
  pub stored : ℕ
  pub budget : ℕ
  pub numbers : List ℕ

-- what it leaves: the result, the new chip, and the number parameters now_stored and finished
pub record FoldLeft : Type 0 where
  pub result : ℕ
  pub new : List ℕ
  pub numbers : List ℕ

-- there is one such (`fold-fixed` of proofs/FoldCalls.antt)
pub record FoldCall (l : FoldLent) (o : FoldLeft) : Type 0 where
  pub outcome : Outcome
  pub folds : FoldIs (env_of l.plan (sets_in l.sets)) l.old l.new l.stored l.budget outcome
  pub number : o.result ≡ (answer_of outcome.answer).number
  pub chip : o.new ≡ outcome.chip
  pub numbers_are : o.numbers ≡ leaves (answer_of outcome.answer) l.numbers
