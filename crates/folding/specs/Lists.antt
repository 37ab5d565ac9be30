-- Lists of calls of folding and cuts, and what holds of them: document 02, Q-6.
-- Assumes nothing.
use Rattle.std.specs.Prelude.{ℕ, ◌+◌, ◌-◌, ◌≤◌, min, ◌≡◌, true, List, ◌++◌, length, take, replicate, eqb}
use Rattle.journal.specs.declared.Commit.{Commit}
use Rattle.journal.specs.Parts.{Content}
use Rattle.journal.specs.Format.{owner_of_plan}
use Rattle.step.specs.State.{Env, env_of, Machine}
use Rattle.step.specs.Ready.{Legal}
use Rattle.recovery.specs.Recover as recovery
use Rattle.recovery.specs.Recover.{Recovers}
use Rattle.recovery.specs.Recover.{Restored}
use Rattle.folding.specs.Fold.{Stored}
use Rattle.folding.specs.Fold.{Holds, folded_bytes, Outcome, outcome, Begun, Folds, answer_of}

-- what calls bring a new chip of n bytes to, which is blank at first
pub data Folding (p old : List ℕ) (n : ℕ) : List ℕ → Type 0 where
  blank : Folding p old n (replicate n 0xFF)
  -- a call, refused or not; the number is what the one before answered, or any that the host tries
  calls : {new : List ℕ} → Folding p old n new → (words : List ℕ) (stored budget : ℕ) (r : Outcome) → Folds (env_of p words) old new stored budget r
      → Folding p old n r.chip
  -- a call that is cut ends as one with a budget of the steps done (`steps-join` of proofs/Beginning.antt), and its answer is lost
  cut : {new : List ℕ} → Folding p old n new → (words : List ℕ) (stored budget done : ℕ) (r : Outcome) → done ≤ budget
      → Folds (env_of p words) old new stored done r → Folding p old n r.chip
  -- a refused call of any content
  refused : {new : List ℕ} → Folding p old n new → (e : Env) (other : List ℕ) (stored budget : ℕ) (r : Outcome) → Folds e other new stored budget r
      → ¬ ((answer_of r.answer).number ≡ 0) → Folding p old n r.chip

-- "the same state except for write position and bytes to erase"
pub record SameState (a b : Machine) : Type 0 where
  pub cells : a.cells ≡ b.cells
  pub marks : a.marks ≡ b.marks
  pub pc : a.regs.pc ≡ b.regs.pc
  pub exclude : a.regs.exclude ≡ b.regs.exclude
  pub readings : a.regs.readings ≡ b.regs.readings
  pub outputs : a.regs.outputs ≡ b.regs.outputs
  pub stop : a.regs.stop ≡ b.regs.stop
  pub saving : a.regs.saving ≡ b.regs.saving
  pub page : a.regs.page ≡ b.regs.page

-- a call that is accepted: the number is that of the bytes which stand there now, as many more as the budget had, or all; finished is all
pub record Stores (save : List ℕ) (stored budget : ℕ) (r : Outcome) : Type 0 where
  pub after : ℕ
  pub after_is : after ≡ min (stored + budget) (length save)
  pub answer : r.answer ≡ Stored after (eqb after (length save))
  pub begun : Begun save after r.chip

-- a chip that a list of calls and cuts on a blank one has come to, whose last call answered that it is finished
pub record Finished (p old new : List ℕ) : Type 0 where
  pub size : ℕ
  pub before : List ℕ
  pub list : Folding p old size before
  pub words : List ℕ
  pub stored : ℕ
  pub budget : ℕ
  pub count : ℕ
  pub call : Folds (env_of p words) old before stored budget (outcome (Stored count true) new)

-- of an old chip whose marks name `owner` and whose save is `save`, and a new chip of n bytes that calls and cuts have brought to `new`
pub record FoldClaim (p old : List ℕ) (owner : ℕ) (save : List ℕ) (n : ℕ) (new : List ℕ) : Type 0 where
  -- "A cut during folding leaves the new chip with a beginning of that save, or the whole."
  pub size : length new ≡ n
  pub stored : ℕ
  pub most : stored ≤ length save
  pub beginning : new ≡ take stored save ++ replicate (n - stored) 0xFF
  -- "each call gets the number of bytes already stored": with any number that is right, on a chip long enough, it goes on. Where the save has `FF` bytes several are
  pub goes_on : (words : List ℕ) (stored budget : ℕ) (r : Outcome) → n ≤ 65536 → length old ≤ 65536 → 512 ≤ length words → length save ≤ n → Begun save stored new
      → Folds (env_of p words) old new stored budget r → Stores save stored budget r
  -- after a cut, with the number lost: the length of the new chip without the `FF` bytes at its end is one that is right
  pub found : (k : ℕ) → Content new k → Begun save k new
  -- finished, the new chip has the whole save
  pub finishes : (words : List ℕ) (stored budget count : ℕ) (after : List ℕ) → Folds (env_of p words) old new stored budget (outcome (Stored count true) after)
      → (count ≡ length save) × (after ≡ save ++ replicate (n - length save) 0xFF)
  -- "recovering old or finished new must give the same state except for write position and bytes to erase"; with `A2` marks "the finished chip recovers to the state
  -- that the old one gave until now", by the recovery for marks that name no plan
  pub recovers : (lent words : List ℕ) (stored budget count : ℕ) (after : List ℕ) → Folds (env_of p lent) old new stored budget (outcome (Stored count true) after)
      → (m m' : Machine) → m.journal ≡ old → m'.journal ≡ after → (a b : recovery.Outcome) → Recovers (env_of p words) 1 owner m a
      → Recovers (env_of p words) 1 (owner_of_plan p) m' b
      → a.answer ≡ Restored → (b.answer ≡ Restored) × SameState a.machine b.machine

-- for every plan, every old chip that is neither damaged nor another plan's, and every list of calls and cuts
abbrev pub Q6 : Type 0
Q6 =
    (p : List ℕ) → Legal p → (old : List ℕ) (owner end torn : ℕ) (last : Commit) (values : List ℕ) → Holds p old owner end torn last values
    → (n : ℕ) (new : List ℕ) → Folding p old n new → FoldClaim p old owner (folded_bytes (owner_of_plan p) end values last) n new
