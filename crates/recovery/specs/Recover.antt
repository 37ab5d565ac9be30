-- Recovery: document 01, "Recovery reads saves from byte 0." What the journal holds is crate `journal`'s; here is the state that is made of it.
-- Assumes nothing.
use Rattle.std.specs.Prelude.{ℕ, ◌*◌, ◌<◌, ◌≡◌, Bool, false, cond, List, [], length, replicate, eqb, ltb, Result, Ok, Err}
use Rattle.instruction.specs.Bytes.{cells_of}
use Rattle.program.specs.Check.{Answer, check_of, number_of}
use Rattle.program.specs.Grounds.{Allowed, CallGround}
use Rattle.program.specs.Places.{exclude_number}
use Rattle.marks.specs.Marks.{recovered_marks}
use Rattle.journal.specs.declared.Commit.{Commit}
use Rattle.journal.specs.Scanned.{Scanned}
use Rattle.journal.specs.Scanned.{BadLength, Damaged, Found}
use Rattle.journal.specs.Format.{Checkpoint, chip_length, unowned, format_for}
use Rattle.journal.specs.Reading as journal
use Rattle.journal.specs.Reading.{Facts, facts_of, first, last_of, Reading, Torn, own_all}
use Rattle.journal.specs.Answer.{Taken, Scans}
use Rattle.step.specs.declared.Regs.{Regs}
use Rattle.step.specs.declared.State.{State}
use Rattle.step.specs.State.{Env, Machine, machine_of}
use Rattle.program.specs.Refusal.{refusal_number}
use Rattle.program.specs.declared.refusal.Refusal.{Refusal}

-- "Rising order": 1 to 8 of the plan, 9 the words; 0 where none of them stands, and the chip is read. "Recovery overwrites the lent state, of which it tests
-- only the length": a state here has its length, so there is no 10
unfoldable pub refusal_of : Env → ℕ
refusal_of e =
    let n = number_of (check_of e.program) in
    cond (eqb n 0) (cond (ltb (length e.sets) 512) 9 0) n

-- "the last mark's offset and counts, or offset 1 and zeros" (`last`), not stopped; the next page goes behind the whole saves, and those with torn bytes are to be erased
abbrev pub regs_of : (end torn : ℕ) → Commit → (page owner : ℕ) → Regs
regs_of end torn last page owner =
    record {
      pc = last.place;
      exclude = last.exclude;
      readings = last.readings;
      outputs = last.outputs;
      stop = 0;
      write = end;
      erase = torn;
      saving = 0;
      page = page;
      owner = owner;
    }

-- all Include
unfoldable pub included : List ℕ
included = replicate 256 0

-- "marks Dead for DE, else Kept for RO, else Include, by the last EXCLUDE, all Include if 0"; "bits of missing cells count as 0"
unfoldable pub marks_by_of : Env → (exclude : ℕ) → List ℕ
marks_by_of e x =
    cond (eqb x 0) included
    (recovered_marks e.sets (8 * exclude_number e.program x) (cells_of e.program) included)

-- what recovery gives: the state is restored, or the number of a refusal
pub data Recovered : Type 0 where
  Restored : Recovered
  Refused : ℕ → Recovered

-- what a call leaves: the answer, and the state with the journal
pub record Outcome : Type 0 where
  pub answer : Recovered
  pub machine : Machine

abbrev pub outcome : Recovered → Machine → Outcome
outcome a m = record { answer = a; machine = m }

-- what the code's answer leaves of the machine m: a refusal "alters nothing lent", and recovery "stores nothing on the chip"
abbrev pub recovered : Machine → Result State Refusal → Outcome
recovered m (Ok s) = outcome Restored (machine_of s.regs s.cells s.marks m.journal)
recovered m (Err r) = outcome (Refused (refusal_number r)) m

-- the number of a chip that is damaged as one whose marks name the owner, by its reading with marks that name no plan: "15 where every mark is `A2`", of which one is whole,
-- else 12, since "a chip with both marks is damaged" and "a chip whose only mark is a torn `A2` is damaged for recovery"
abbrev pub damaged_as_of : Scanned → ℕ
damaged_as_of BadLength = 12
damaged_as_of Damaged = 12
damaged_as_of (Found end torn last own) = cond (ltb 0 end) 15 12

-- n is that number, F having the marks that name no plan
pub record Older (F : Facts) (chip : List ℕ) (n : ℕ) : Type 0 where
  pub answer : Scanned
  pub values : List ℕ
  pub scans : Scans F chip answer values
  pub number_is : n ≡ damaged_as_of answer

-- from what the journal reads as, and its values ("each cell's last saved value in whole saves, or 0"): a length that no chip of such pages has, 11, a chip that is damaged, n,
-- or "16 where a whole mark's length or sum is not the plan's", which alter nothing lent; else the state, and recovery "stores nothing on the chip"
unfoldable pub recover_of : Env → (page owner : ℕ) → Scanned → (n : ℕ) → (values : List ℕ) → Machine → Outcome
recover_of e page owner BadLength n values m = outcome (Refused 11) m
recover_of e page owner Damaged n values m = outcome (Refused n) m
recover_of e page owner (Found end torn last own) n values m =
    cond own (outcome Restored (machine_of (regs_of end torn last page owner) values (marks_by_of e last.exclude) m.journal)) (outcome (Refused 16) m)

-- what recovery makes of the state and the journal m, for the program and the words e and a chip with pages of so many bytes and marks that name the owner. A journal has one
-- reading (`scan-fixed` of crate `journal`), so this leaves one outcome (`one-outcome` of proofs/Laws.antt). With `unowned` it is the recovery of document 01, which gives
-- neither 15 nor 16 (`unowned-numbers` there)
pub data Recovers (e : Env) (page owner : ℕ) (m : Machine) (r : Outcome) : Type 0 where
  refuses : (n : ℕ) → refusal_of e ≡ n → 0 < n → r ≡ outcome (Refused n) m → Recovers e page owner m r
  reads : refusal_of e ≡ 0 → (a : Scanned) (values : List ℕ) → Scans (facts_of (format_for page owner) e.program) m.journal a values → (n : ℕ)
      → (a ≡ Damaged → Older (facts_of (format_for page unowned) e.program) m.journal n) → r ≡ recover_of e page owner a n values m → Recovers e page owner m r

-- 01's number of an answer, 0 where it is accepted; it has no values
abbrev pub answer_of : Recovered → Answer
answer_of Restored = record { number = 0; values = [] }
answer_of (Refused n) = record { number = n; values = [] }

-- the chip reads by F, and has a whole mark
pub record Marked (F : Facts) (chip : List ℕ) : Type 0 where
  pub end : ℕ
  pub torn : ℕ
  pub last : Commit
  pub own : Bool
  pub values : List ℕ
  pub taken : Taken F chip end torn last own values
  pub some : 0 < end

-- the grounds for refusing a chip: 11 "chip over 65,536 bytes" and Q-4's "length not divisible"; 12 "chip damaged": it reads neither with marks that name the owner nor, with a
-- whole one, with marks that name no plan; 15 "where every mark is `A2`"; 16 "where a whole mark's length or sum is not the plan's"
pub data ChipGround (p : List ℕ) (page owner : ℕ) (chip : List ℕ) : ℕ → Type 0 where
  size : chip_length page (length chip) ≡ false → ChipGround p page owner chip 11
  damaged : journal.Damaged (facts_of (format_for page owner) p) chip → ¬ Marked (facts_of (format_for page unowned) p) chip → ChipGround p page owner chip 12
  older : journal.Damaged (facts_of (format_for page owner) p) chip → Marked (facts_of (format_for page unowned) p) chip → ChipGround p page owner chip 15
  another : (saves : List Checkpoint) (rest : List ℕ) → Reading (facts_of (format_for page owner) p) chip saves rest
      → Torn (facts_of (format_for page owner) p) (last_of first saves) rest → own_all owner saves ≡ false → ChipGround p page owner chip 16

-- the grounds of recovery's refusals, from the rows of document 01's table: 1 to 8 check's, 9 "a word buffer too short", and the chip's
abbrev pub Ground : Env → (page owner : ℕ) → (chip : List ℕ) → ℕ → Type 0
Ground e page owner chip = CallGround e.program (length e.sets < 512) (ChipGround e.program page owner chip)

-- what recovery promises of its outcome: it is the defined one, and in 01's terms the answer is the one that the grounds allow, in rising order; it has no values
pub record RecoverIs (e : Env) (page owner : ℕ) (m : Machine) (r : Outcome) : Type 0 where
  pub recovers : Recovers e page owner m r
  pub ruled : Allowed (Ground e page owner m.journal) (λ vs. vs ≡ []) (answer_of r.answer)
