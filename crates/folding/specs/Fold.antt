-- Folding: document 02, Q-6, "Folding a full chip", and Q-8, "folding reads such a byte chip and writes `A3`". What a chip holds is crate `journal`'s; here is the save that is made of it, and one call.
-- Assumes nothing.
use Rattle.std.specs.Prelude.{ℕ, zero, suc, ◌+◌, ◌≤◌, ◌<◌, min, ◌≡◌, Bool, true, false, cond, ◌&&◌, List, [], ◌∷◌, ◌++◌, length, get_or, set, take, replicate, eqb, ltb, Result, Ok, Err}
use Rattle.cellset.specs.Bits.{is}
use Rattle.program.specs.Check.{Answer, check_of, number_of}
use Rattle.program.specs.Grounds.{Allowed, CallGround}
use Rattle.journal.specs.declared.Commit.{Commit}
use Rattle.journal.specs.Format.{Format, unowned, owner_of_plan, format_for, chip_length, Checkpoint, padded}
use Rattle.journal.specs.Reading.{Facts, facts_of, Damaged}
use Rattle.journal.specs.Writing.{records_of}
use Rattle.journal.specs.Answer.{Taken}
use Rattle.step.specs.State.{Env}
use Rattle.program.specs.Refusal.{refusal_number}
use Rattle.program.specs.declared.refusal.Refusal.{Refusal}
use Rattle.folding.specs.declared.Standing.{Standing}

-- ---- the save

-- "Both are byte chips", the marks of the one naming the plan or none, those of the other naming the plan
abbrev pub byte_chip : (owner : ℕ) → Format
byte_chip owner = format_for 1 owner

-- what such a chip is read by
abbrev pub byte_facts : (owner : ℕ) → (p : List ℕ) → Facts
byte_facts owner p = facts_of (byte_chip owner) p

-- what an old chip holds: read with marks that name the plan, every one of them the plan's; or, where it is damaged so, with marks that name no plan, `A2`
pub data Holds (p old : List ℕ) : (owner end torn : ℕ) → Commit → (values : List ℕ) → Type 0 where
  today : {end torn : ℕ} {last : Commit} {values : List ℕ} → Taken (byte_facts (owner_of_plan p) p) old end torn last true values → Holds p old (owner_of_plan p) end torn last values
  older : {end torn : ℕ} {last : Commit} {own : Bool} {values : List ℕ} → Damaged (byte_facts (owner_of_plan p) p) old → Taken (byte_facts unowned p) old end torn last own values
      → Holds p old unowned end torn last values

-- of the k cells from a on those whose value is not 0, rising
unfoldable pub held_from : (values : List ℕ) (a k : ℕ) → List ℕ
held_from values a zero = []
held_from values a (suc k) = cond (eqb (get_or values a 0) 0) (held_from values (suc a) k) (a ∷ held_from values (suc a) k)

-- a mark's fields, in the owner's name
abbrev pub named_for : (owner : ℕ) → Commit → Commit
named_for owner c = record { place = c.place; exclude = c.exclude; readings = c.readings; outputs = c.outputs; owner = owner }

-- "one save on the new chip: every cell whose recovered value is not 0, rising, and the last mark's fields", with the plan's length and sum
abbrev pub folded_save : (owner : ℕ) → (values : List ℕ) → Commit → Checkpoint
folded_save owner values last = record { records = records_of (held_from values 0 256) values; commit = named_for owner last }

-- its bytes; "An old chip with no whole save leaves the new one blank": its whole saves end at 0
unfoldable pub folded_bytes : (owner end : ℕ) (values : List ℕ) → Commit → List ℕ
folded_bytes owner end values last = cond (eqb end 0) [] (padded (byte_chip owner) (folded_save owner values last))

-- ---- one call

-- "checked as recovery checks but without a state": 1 to 8 of the plan, 9 the words; "11 covers both chips", whose lengths are given; 0 where none of them stands
unfoldable pub refusal_of : Env → (old new : ℕ) → ℕ
refusal_of e old new =
    let n = number_of (check_of e.program) in
    cond (eqb n 0) (cond (ltb (length e.sets) 512) 9 (cond (chip_length 1 old && chip_length 1 new) 0 11)) n

-- what folding gives: how many bytes of the save now stand on the new chip and whether these are all, or the number of a refusal
pub data Folded : Type 0 where
  Stored : (stored : ℕ) (finished : Bool) → Folded
  Refused : ℕ → Folded

abbrev pub folded_of : Result Standing Refusal → Folded
folded_of (Ok s) = Stored s.stored s.finished
folded_of (Err r) = Refused (refusal_number r)

-- what a call leaves: the answer, and the new chip; the old one is only read
pub record Outcome : Type 0 where
  pub answer : Folded
  pub chip : List ℕ

abbrev pub outcome : Folded → List ℕ → Outcome
outcome a chip = record { answer = a; chip = chip }

-- the new chip, and how many bytes of the save stand on it
pub record Progress : Type 0 where
  pub chip : List ℕ
  pub stored : ℕ

abbrev pub progress : List ℕ → ℕ → Progress
progress chip stored = record { chip = chip; stored = stored }

-- "Folding works by steps of one byte"; a call "stores the next bytes upward until budget or save is spent"
unfoldable pub fold_steps : (save : List ℕ) (budget : ℕ) → Progress → Progress
fold_steps save zero s = s
fold_steps save (suc b) s =
    cond (ltb s.stored (length save)) (fold_steps save b (progress (set s.chip s.stored (get_or save s.stored 0)) (suc s.stored))) s

-- "that many bytes of the save and then `FF`"
pub record Begun (save : List ℕ) (stored : ℕ) (chip : List ℕ) : Type 0 where
  pub most : stored ≤ length save
  pub free : ℕ
  pub bytes : chip ≡ take stored save ++ replicate free 0xFF

-- "answers the new number and whether it is finished"
abbrev pub answered : (save : List ℕ) → Progress → Outcome
answered save s = outcome (Stored s.stored (eqb s.stored (length save))) s.chip

-- what a call makes of the new chip, for this save, "the number of bytes already stored .. and a budget"
pub data Puts (save new : List ℕ) (stored budget : ℕ) (r : Outcome) : Type 0 where
  -- "After 12 come 13, new chip other than that many bytes of the save and then `FF`"
  differs : ¬ Begun save stored new → r ≡ outcome (Refused 13) new → Puts save new stored budget r
  -- "and 14, save longer than the new chip"
  long : Begun save stored new → length new < length save → r ≡ outcome (Refused 14) new → Puts save new stored budget r
  stores : Begun save stored new → length save ≤ length new → r ≡ answered save (fold_steps save budget (progress new stored)) → Puts save new stored budget r

-- what a call leaves for the program and the words e. A chip has one reading (`scan-fixed` of crate `journal`), so this is one outcome (`one-fold` of proofs/Calls.antt)
pub data Folds (e : Env) (old new : List ℕ) (stored budget : ℕ) (r : Outcome) : Type 0 where
  refuses : (n : ℕ) → refusal_of e (length old) (length new) ≡ n → 0 < n → r ≡ outcome (Refused n) new → Folds e old new stored budget r
  -- "so 12 is no longer recovery's alone", as 01's "Only recovery gives 12" had it; here it is for a chip that is damaged read either way
  damaged : refusal_of e (length old) (length new) ≡ 0 → Damaged (byte_facts (owner_of_plan e.program) e.program) old → Damaged (byte_facts unowned e.program) old
      → r ≡ outcome (Refused 12) new → Folds e old new stored budget r
  -- "folding gives only 16, before 13"
  another : refusal_of e (length old) (length new) ≡ 0 → {end torn : ℕ} {last : Commit} {values : List ℕ}
      → Taken (byte_facts (owner_of_plan e.program) e.program) old end torn last false values → r ≡ outcome (Refused 16) new → Folds e old new stored budget r
  reads : refusal_of e (length old) (length new) ≡ 0 → (owner end torn : ℕ) (last : Commit) (values : List ℕ)
      → Holds e.program old owner end torn last values → Puts (folded_bytes (owner_of_plan e.program) end values last) new stored budget r → Folds e old new stored budget r

-- ---- the answer by its grounds

-- 01's number of an answer, 0 where it is accepted, and its values: the new number, and 1 where it is finished
abbrev pub answer_of : Folded → Answer
answer_of (Stored stored finished) = record { number = 0; values = stored ∷ cond finished 1 0 ∷ [] }
answer_of (Refused n) = record { number = n; values = [] }

-- the grounds of its own refusals: 11 either chip, 12 and 16 the old one; "otherwise only 13 and 14 test the new one", for an old chip that is the plan's
pub data LateGround (p old new : List ℕ) (stored : ℕ) : ℕ → Type 0 where
  size : (chip_length 1 (length old) && chip_length 1 (length new)) ≡ false → LateGround p old new stored 11
  damage : Damaged (byte_facts (owner_of_plan p) p) old → Damaged (byte_facts unowned p) old → LateGround p old new stored 12
  other : {owner end torn : ℕ} {last : Commit} {values : List ℕ} → Holds p old owner end torn last values → ¬ Begun (folded_bytes (owner_of_plan p) end values last) stored new
      → LateGround p old new stored 13
  short : {owner end torn : ℕ} {last : Commit} {values : List ℕ} → Holds p old owner end torn last values → length new < length (folded_bytes (owner_of_plan p) end values last)
      → LateGround p old new stored 14
  another : {end torn : ℕ} {last : Commit} {values : List ℕ} → Taken (byte_facts (owner_of_plan p) p) old end torn last false values → LateGround p old new stored 16

-- with 1 to 8 check's, and 9 "a word buffer too short"
abbrev pub Ground : Env → (old new : List ℕ) → (stored : ℕ) → ℕ → Type 0
Ground e old new stored = CallGround e.program (length e.sets < 512) (LateGround e.program old new stored)

-- the numbers of an accepted call: how many bytes stand on the new chip when budget or save is spent, and 1 where these are all
abbrev pub numbers_of : (save : List ℕ) (stored budget : ℕ) → List ℕ
numbers_of save stored budget = let after = min (stored + budget) (length save) in after ∷ cond (eqb after (length save)) 1 0 ∷ []

pub data Spent (p old : List ℕ) (stored budget : ℕ) : List ℕ → Type 0 where
  spent : {owner end torn : ℕ} {last : Commit} {values : List ℕ} → Holds p old owner end torn last values
      → Spent p old stored budget (numbers_of (folded_bytes (owner_of_plan p) end values last) stored budget)

-- THE CONTRACT OF A CALL: its outcome is the defined one, and in 01's terms the answer is the one that the grounds allow, in rising order
pub record FoldIs (e : Env) (old new : List ℕ) (stored budget : ℕ) (r : Outcome) : Type 0 where
  pub folds : Folds e old new stored budget r
  pub ruled : Allowed (Ground e old new stored) (Spent e.program old stored budget) (answer_of r.answer)

-- ---- parts of the code

-- what is made of an old chip that is damaged as one of the plan's: F reads it with marks that name none
pub data FoldsOlder (F : Facts) (owner : ℕ) (old new : List ℕ) (stored budget : ℕ) (r : Outcome) : Type 0 where
  damaged : Damaged F old → r ≡ outcome (Refused 12) new → FoldsOlder F owner old new stored budget r
  reads : {end torn : ℕ} {last : Commit} {own : Bool} {values : List ℕ} → Taken F old end torn last own values → Puts (folded_bytes owner end values last) new stored budget r
      → FoldsOlder F owner old new stored budget r

-- 1 where the value of cell c is not 0
abbrev pub held_bit : (values : List ℕ) → ℕ → ℕ
held_bit values c = cond (eqb (get_or values c 0) 0) 0 1

-- 1 where x is the cell c and its value is not 0
abbrev pub cell_if_of : (c value : ℕ) → ℕ → ℕ
cell_if_of c value x = cond (eqb value 0) 0 (is c x)

-- all bytes of l from k on are FF
abbrev pub BlankFrom : (l : List ℕ) (k : ℕ) → Type 0
BlankFrom l k = (j : ℕ) → k ≤ j → j < length l → get_or l j 0 ≡ 0xFF
