-- Document 01's rows marked (M), section "A small plan", and those of document 02's requests, as one table. Each row claims something of the definitions that the contracts cite; all of them hold,
-- by one test that computes over the table (`rows-hold` of proofs/Rows.antt).
-- Assumes nothing.
use Rattle.std.specs.Prelude.{ℕ, ◌≤◌, ◌≡◌, Bool, true, false, List, [], ◌∷◌, map, ◌++◌, ℤ, pos, negsuc, length, get_or, take, replicate}
use Rattle.word.specs.Word.{bits_of}
use Rattle.instruction.specs.declared.Instruction.{Instruction}
use Rattle.instruction.specs.declared.Instruction.TheVariants.{Add, Div, Put}
use Rattle.execution.specs.Effects.{Effect, writes, effect_of, cells_in}
use Rattle.analysis.specs.Rows as analysis
use Rattle.analysis.specs.Rows.{row, dead_before, de_of_set, ro_of_set}
use Rattle.marks.specs.declared.Mark.{Mark}
use Rattle.marks.specs.declared.Mark.TheVariants.{Pending, Dead}
use Rattle.marks.specs.Marks.{excluded}
use Rattle.journal.specs.Format.{unowned, owner_of_plan}
use Rattle.step.specs.State.{Env, env_of, Machine}
use Rattle.run.specs.Run.{Outcome, call_of}
use Rattle.run.specs.Run.{Ended}
use Rattle.run.specs.Run.{NoReading, Spent}
use Rattle.recovery.specs.Recover as recovery
use Rattle.recovery.specs.Recover.{Recovers}
use Rattle.recovery.specs.Recover.{Restored, Refused}
use Rattle.restart.specs.Reference.{zeros, numbered_from, emitted}
use Rattle.restart.specs.History.{wrote}

-- ---- runs

-- a first run: a plan and the words of its sets, the length of the chip, which is erased, and of its pages, what its marks name, the readings lent, the budget, and the places for outputs
pub record Trial : Type 0 where
  pub program : List ℕ
  pub words : List ℕ
  pub chip : ℕ
  pub page : ℕ
  pub owner : ℕ
  pub readings : List ℤ
  pub budget : ℕ
  pub places : List ℤ

abbrev pub env_in : Trial → Env
env_in t = env_of t.program t.words

-- what the run leaves, from a machine
unfoldable pub ran_from : Trial → Machine → Outcome
ran_from t m = call_of (env_in t) t.readings t.budget m t.places

-- recovery with this chip and any state: it has an outcome, and each is accepted and leaves a machine that Q holds of
abbrev pub AfterRecovery : Env → (page owner : ℕ) → List ℕ → (Machine → Type 0) → Type 0
AfterRecovery e page owner chip Q =
    (m : Machine) → m.journal ≡ chip
    → ((r : recovery.Outcome) × Recovers e page owner m r) × ((r : recovery.Outcome) → Recovers e page owner m r → (r.answer ≡ Restored) × Q r.machine)

-- "Every run begins with recovery, on an erased chip too": from the machine that it leaves, the run ends with x, and Q holds of that machine and of what the run leaves
abbrev pub AfterRun : Trial → Ended → (Machine → Outcome → Type 0) → Type 0
AfterRun t x Q = AfterRecovery (env_in t) t.page t.owner (replicate t.chip 0xFF) (λ m. ((ran_from t m).ended ≡ x) × Q m (ran_from t m))

-- ---- rows

-- a constructor to a kind of row
pub data Row : Type 0 where
  -- the cells of a set
  set_is : (r : analysis.Row) → Row
  -- a run that takes all readings gives these outputs, numbered from 0, and so does the uncut run after so many commands or more
  outputs_are : (t : Trial) (commands : ℕ) (values : List ℤ) → Row
  -- it leaves a chip that begins with these bytes, or a chip of exactly these
  chip_begins : (t : Trial) (bytes : List ℕ) → Row
  chip_is : (t : Trial) (bytes : List ℕ) → Row
  -- a run that the budget ends after it has stored so many bytes: recovery with that chip gives cell c the value v, and these counts
  cut_after : (t : Trial) (stored c : ℕ) (v : ℤ) (readings outputs : ℕ) → Row
  -- recovery refuses the chip with this number
  chip_refused : (t : Trial) (number : ℕ) → Row
  -- an EXCLUDE sets a mark, of a cell that is in DE and RO or not
  mark_becomes : (mark : Mark) (de ro : Bool) (after : Mark) → Row
  -- the effect of an instruction where the first cells have these values
  effect_is_of : (i : Instruction) (values : List ℤ) (e : Effect) → Row

-- what a row claims
abbrev pub Holds : Row → Type 0
Holds (set_is r) = analysis.Holds r
Holds (outputs_are t n vs) =
    AfterRun t NoReading (λ m o. wrote m o ≡ numbered_from 0 vs)
    × ((k : ℕ) → n ≤ k → emitted t.program t.readings zeros 0 k ≡ numbered_from 0 vs)
Holds (chip_begins t bytes) = AfterRun t NoReading (λ m o. take (length bytes) o.machine.journal ≡ bytes)
Holds (chip_is t bytes) = AfterRun t NoReading (λ m o. o.machine.journal ≡ bytes)
Holds (cut_after t n c v i j) =
    AfterRun t Spent (λ m o.
    (o.machine.regs.write ≡ n)
    × AfterRecovery (env_in t) t.page t.owner o.machine.journal (λ m'.
    (get_or m'.cells c 0 ≡ bits_of v) × (m'.regs.readings ≡ i) × (m'.regs.outputs ≡ j)))
Holds (chip_refused t n) =
    (m : Machine) → m.journal ≡ replicate t.chip 0xFF
    → ((r : recovery.Outcome) × Recovers (env_in t) t.page t.owner m r) × ((r : recovery.Outcome) → Recovers (env_in t) t.page t.owner m r → r.answer ≡ Refused n)
Holds (mark_becomes k de ro after) = excluded k de ro ≡ after
Holds (effect_is_of i vs e) = effect_of i (pos 0) 0 0 (cells_in (map bits_of vs)) ≡ e

-- each of the rows holds
abbrev pub Hold : List Row → Type 0
Hold [] = Unit
Hold (r ∷ rs) = Holds r × Hold rs

-- ---- the table; `negsuc n` is −1 − n

-- "`02 02 00 00 00 00 00 07 01 04 00 00 01 08 00 0D 0E 09 07 00`, 20 bytes"
abbrev pub small : List ℕ
small = 0x02 ∷ 0x02 ∷ 0 ∷ 0 ∷ 0 ∷ 0 ∷ 0 ∷ 0x07 ∷ 0x01 ∷ 0x04 ∷ 0 ∷ 0 ∷ 0x01 ∷ 0x08 ∷ 0 ∷ 0x0D ∷ 0x0E ∷ 0x09 ∷ 0x07 ∷ 0 ∷ []

-- its sets: bits 1 and 2 for DE, bit 2 for RO, in words 0 and 4 of 512
unfoldable pub small_sets : List ℕ
small_sets = 6 ∷ 0 ∷ 0 ∷ 0 ∷ 4 ∷ 0 ∷ 0 ∷ 0 ∷ replicate 504 0

-- it on a chip of n bytes with such pages and marks and so much budget, the readings 5, 7, −2, and places enough
abbrev pub trial_on : (page owner n budget : ℕ) → Trial
trial_on page owner n budget =
    record {
      program = small;
      words = small_sets;
      chip = n;
      page = page;
      owner = owner;
      readings = pos 5 ∷ pos 7 ∷ negsuc 1 ∷ [];
      budget = budget;
      places = replicate 8 (pos 0);
    }

-- on a byte chip whose marks name the plan, and on one as document 01 has it
abbrev pub trial : (n budget : ℕ) → Trial
trial n budget = trial_on 1 (owner_of_plan small) n budget

abbrev pub trial_until : (n budget : ℕ) → Trial
trial_until n budget = trial_on 1 unowned n budget

-- the bytes of the row "first save" up to the last one, with the mark's first byte, and then its end: "now ends `14 00 44 00 5A`"
abbrev save_begins : (lead : ℕ) → List ℕ
save_begins lead =
    0xA1 ∷ 0x00 ∷ 0x05 ∷ 0x00 ∷ 0x00 ∷ 0x00 ∷ lead ∷ 0x11 ∷ 0x00 ∷ 0x0F ∷ 0x00 ∷ 0x01 ∷ 0x00 ∷ 0x00 ∷ 0x00 ∷ 0x01 ∷ 0x00 ∷ 0x00 ∷ 0x00 ∷ []

abbrev pub first_save : List ℕ
first_save = save_begins 0xA3 ++ 0x14 ∷ 0x00 ∷ 0x44 ∷ 0x00 ∷ 0x5A ∷ []

abbrev pub first_until : List ℕ
first_until = save_begins 0xA2 ++ 0x5A ∷ []

-- EXCLUDE, CHECKPOINT, PUT 1 len 0 0, EMIT 1, END: a PUT at offset 3 into the table of cells 1 to len, which are the last ones, and cell 1 is read behind it
abbrev pub put_into : (len : ℕ) → List ℕ
put_into len = len ∷ 0x0D ∷ 0x0E ∷ 0x0C ∷ 1 ∷ len ∷ 0 ∷ 0 ∷ 0x08 ∷ 1 ∷ 0x01 ∷ []

-- a line of 01 to a comment
abbrev pub rows : List Row
rows =
    -- "the sets above": "15 dead 1 2 fixed 2 saved 0"
    set_is (row small (de_of_set 15) (1 ∷ 2 ∷ []))
    ∷ set_is (row small (ro_of_set 15) (2 ∷ []))
    -- "dead before offset 9: cell 2 only"
    ∷ set_is (row small (dead_before 9) (2 ∷ []))
    -- "`00 0D 01`: DE empty, RO cell 0"
    ∷ set_is (row (0x00 ∷ 0x0D ∷ 0x01 ∷ []) (de_of_set 1) [])
    ∷ set_is (row (0x00 ∷ 0x0D ∷ 0x01 ∷ []) (ro_of_set 1) (0 ∷ []))
    -- Q-3: a PUT with len 1 must write its base, so cell 1 is dead before it and in DE; RO does not have it, since it may be written
    ∷ set_is (row (put_into 1) (dead_before 3) (1 ∷ []))
    ∷ set_is (row (put_into 1) (de_of_set 1) (1 ∷ []))
    ∷ set_is (row (put_into 1) (ro_of_set 1) (0 ∷ []))
    -- "longer tables remain as 01 has them": with len 2 cell 1 is live; cell 2 is dead, since nothing reads it
    ∷ set_is (row (put_into 2) (dead_before 3) (2 ∷ []))
    ∷ set_is (row (put_into 2) (de_of_set 1) (2 ∷ []))
    ∷ set_is (row (put_into 2) (ro_of_set 1) (0 ∷ []))
    -- "readings 5, 7, −2: outputs 5, 12, 10"
    ∷ outputs_are (trial 72 1000) 19 (pos 5 ∷ pos 12 ∷ pos 10 ∷ [])
    -- Q-8: "The first save of 01's plan now ends `14 00 44 00 5A` and has 24 bytes; 24 bytes of chip hold it, 23 none"
    ∷ chip_begins (trial 72 1000) first_save
    ∷ chip_is (trial 24 1000) first_save
    ∷ chip_is (trial 23 1000) (replicate 23 0xFF)
    -- Q-4: on a page chip 32 bytes hold it, filled, and 16 none; 31 are not divisible by 16
    ∷ chip_is (trial_on 16 (owner_of_plan small) 32 1000) (first_save ++ replicate 8 0xFF)
    ∷ chip_is (trial_on 16 (owner_of_plan small) 16 1000) (replicate 16 0xFF)
    ∷ chip_refused (trial_on 16 (owner_of_plan small) 31 1000) 11
    -- "Cuts fall between pages": a cut between its two pages, the 7th step stores the first, recovers to the start
    ∷ cut_after (trial_on 16 (owner_of_plan small) 32 7) 16 0 (pos 0) 0 0
    -- "cut after 33 bytes: cell 0 is 5, both counts 1"; the 45th step stores the 33rd byte
    ∷ cut_after (trial 72 45) 33 0 (pos 5) 1 1
    -- the same with the marks that 01 has: "first save `A1 00 05 00 00 00 A2 11 00 0F 00 01 00 00 00 01 00 00 00 5A`", "20 bytes of chip hold it, 19 none"
    ∷ chip_begins (trial_until 60 1000) first_until
    ∷ chip_is (trial_until 20 1000) first_until
    ∷ chip_is (trial_until 19 1000) (replicate 19 0xFF)
    ∷ cut_after (trial_until 60 45) 33 0 (pos 5) 1 1
    -- "Dead, in RO alone: Pending"
    ∷ mark_becomes Dead false true Pending
    -- "7 / −2 = −3"
    ∷ effect_is_of (Div 0 0 1) (pos 7 ∷ negsuc 1 ∷ []) (writes 0 (bits_of (negsuc 2)))
    -- "2,147,483,647 + 1 = −2,147,483,648"
    ∷ effect_is_of (Add 0 0 1) (pos 2147483647 ∷ pos 1 ∷ []) (writes 0 (bits_of (negsuc 2147483647)))
    -- "index −1 of 4 is place 3": PUT stores cell 5 in the table of cells 0 to 3, by the index in cell 4
    ∷ effect_is_of (Put 0 4 4 5) (pos 0 ∷ pos 0 ∷ pos 0 ∷ pos 0 ∷ negsuc 0 ∷ pos 9 ∷ []) (writes 3 (bits_of (pos 9)))
    ∷ []
