-- Lists of calls of pitskelo_fold and cuts, over the bytes that they are lent: document 02, Q-6 and Q-8, of the calls of crate `pitskelo`.
-- Assumes nothing.
use Rattle.std.specs.Prelude.{ℕ, ◌+◌, ◌-◌, ◌≤◌, min, ◌≡◌, List, ◌++◌, length, get_or, take, drop, replicate}
use Rattle.journal.specs.declared.Commit.{Commit}
use Rattle.journal.specs.Parts.{Content}
use Rattle.journal.specs.Format.{owner_of_plan}
use Rattle.step.specs.State.{env_of, Machine}
use Rattle.step.specs.Ready.{Legal}
use Rattle.recovery.specs.Recover as recovery
use Rattle.recovery.specs.Recover.{Recovers}
use Rattle.recovery.specs.Recover.{Restored}
use Rattle.folding.specs.Fold.{Holds, folded_bytes, Begun, numbers_of}
use Rattle.layout.specs.Layout.{state_size, bytes_of_state}
use Rattle.pitskelo.specs.Runs.{sets_in, RecoverCall}
use Rattle.pitskelo.specs.Folds.{FoldLent, FoldLeft, FoldCall}

-- a call is lent the plan, the old chip, and the new chip as it stands
pub record Lends (p old new : List ℕ) (l : FoldLent) : Type 0 where
  pub plan : l.plan ≡ p
  pub old_is : l.old ≡ old
  pub new_is : l.new ≡ new

-- what calls bring a new chip of n bytes to, which is blank at first
pub data FoldCalls (p old : List ℕ) (n : ℕ) : List ℕ → Type 0 where
  blank : FoldCalls p old n (replicate n 0xFF)
  -- a call, refused or not; the number is what the one before answered, or any that the host tries
  calls : {new : List ℕ} → FoldCalls p old n new → (l : FoldLent) → Lends p old new l → (o : FoldLeft) → FoldCall l o → FoldCalls p old n o.new
  -- a call with a budget that is cut: it ends as one with a budget of the steps done, and its answer is lost
  cut : {new : List ℕ} → FoldCalls p old n new → (budget : ℕ) (l : FoldLent) → Lends p old new l → l.budget ≤ budget → (o : FoldLeft) → FoldCall l o
      → FoldCalls p old n o.new
  -- a refused call of any content
  refused : {new : List ℕ} → FoldCalls p old n new → (l : FoldLent) → l.new ≡ new → (o : FoldLeft) → FoldCall l o → ¬ (o.result ≡ 0) → FoldCalls p old n o.new

-- a call that is accepted and answers that it is finished: finished is the second of its numbers
pub record Finishes (l : FoldLent) (o : FoldLeft) : Type 0 where
  pub call : FoldCall l o
  pub accepted : o.result ≡ 0
  pub finished : get_or o.numbers 1 0 ≡ 1

-- "the same state except for write position and bytes to erase": PITSKELO_STATE_WRITE and PITSKELO_STATE_ERASE, four bytes each
pub record SameBytes (a b : List ℕ) : Type 0 where
  pub before : take 1300 a ≡ take 1300 b
  pub behind : drop 1308 a ≡ drop 1308 b

-- the bytes of the state that recovery gives of a byte chip whose marks name the owner: those that pitskelo_recover leaves where that is the plan's (`call-gives` of
-- proofs/Folding.antt), and with `unowned` those that it left until Q-8
pub record Gives (owner : ℕ) (p ws chip left : List ℕ) : Type 0 where
  pub machine : Machine
  pub chip_is_of : machine.journal ≡ chip
  pub outcome : recovery.Outcome
  pub recovers : Recovers (env_of p (sets_in ws)) 1 owner machine outcome
  pub restored : outcome.answer ≡ Restored
  pub left_is : left ≡ bytes_of_state outcome.machine

-- of an old chip whose marks name `owner` and whose save is `save`, and a new chip of n bytes that calls and cuts have brought to `new`
pub record FoldClaim (p old : List ℕ) (owner : ℕ) (save : List ℕ) (n : ℕ) (new : List ℕ) : Type 0 where
  -- "A cut during folding leaves the new chip with a beginning of that save, or the whole."
  pub size : length new ≡ n
  pub stored : ℕ
  pub most : stored ≤ length save
  pub beginning : new ≡ take stored save ++ replicate (n - stored) 0xFF
  -- "each call gets the number of bytes already stored": with any number that is right, on a chip long enough, it goes on
  pub goes_on : (l : FoldLent) → Lends p old new l → n ≤ 65536 → length old ≤ 65536 → 4096 ≤ length l.sets → length save ≤ n → Begun save l.stored new
      → (o : FoldLeft) → FoldCall l o
      → (o.result ≡ 0) × (o.numbers ≡ numbers_of save l.stored l.budget) × Begun save (min (l.stored + l.budget) (length save)) o.new
  -- after a cut, with the number lost: the length of the new chip without the `FF` bytes at its end is one that is right
  pub found : (k : ℕ) → Content new k → Begun save k new
  -- finished, the new chip has the whole save
  pub finishes : (l : FoldLent) → Lends p old new l → (o : FoldLeft) → Finishes l o
      → (get_or o.numbers 0 0 ≡ length save) × (o.new ≡ save ++ replicate (n - length save) 0xFF)
  -- "recovering old or finished new must give the same state except for write position and bytes to erase"; with `A2` marks "the finished chip recovers to the state that the
  -- old one gave until now"
  pub recovers : (l : FoldLent) → Lends p old new l → (o : FoldLeft) → Finishes l o → (ws left : List ℕ) → Gives owner p ws old left
      → (state' left' : List ℕ) (result : ℕ) → length state' ≡ state_size → RecoverCall 1 p ws o.new state' left' result → (result ≡ 0) × SameBytes left left'

-- for every plan, every old chip that is neither damaged nor another plan's, and every list of calls and cuts
abbrev pub Q6 : Type 0
Q6 =
    (p : List ℕ) → Legal p → (old : List ℕ) (owner end torn : ℕ) (last : Commit) (values : List ℕ) → Holds p old owner end torn last values
    → (n : ℕ) (new : List ℕ) → FoldCalls p old n new → FoldClaim p old owner (folded_bytes (owner_of_plan p) end values last) n new

-- a chip that a list of calls and cuts on a blank one has come to, whose last call answered that it is finished
pub record Finished (p old new : List ℕ) : Type 0 where
  pub size : ℕ
  pub chip : List ℕ
  pub list : FoldCalls p old size chip
  pub lent : FoldLent
  pub lends : Lends p old chip lent
  pub left : FoldLeft
  pub last : Finishes lent left
  pub new_is : left.new ≡ new
