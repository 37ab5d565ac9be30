-- Lists of calls that follow one another on one batch, between which notes are put in spent cells of its chip: document 02, Q-14.
-- Assumes nothing.
use Rattle.std.specs.Prelude.{ℕ, max, ◌≡◌, List, [], ◌++◌, Bool, ℤ, length}
use Rattle.restart.specs.Reference.{Frame, frame_of, Numbered}
use Rattle.restart.specs.History.{System, History}
use Rattle.restart.specs.Claim.{Plan, Erased, Claim, Names}
use Rattle.journal.specs.declared.Commit.{Commit}
use Rattle.journal.specs.Format.{owner_of_plan, format_for}
use Rattle.journal.specs.Reading.{facts_of}
use Rattle.journal.specs.Answer.{Taken}
use Rattle.step.specs.State.{env_of, Machine}
use Rattle.recovery.specs.Recover as recovery
use Rattle.recovery.specs.Recover.{Recovers}
use Rattle.recovery.specs.Recover.{Restored}
use Rattle.folding.specs.Lists.{Finished}
use Rattle.notes.specs.Notes.{Noted}
use Rattle.batch.specs.Until.{EitherSets}
use Rattle.batch.specs.Batch.{BatchClaim, Foldable}

-- what is done with a chip, whose marks name `owner`, between two lists, as often as is wanted: nothing; or it is folded onto another ("Both are byte chips"), whose marks then
-- name the plan ("folding reads such a byte chip and writes `A3`"); or a note is put on it ("change the four value bytes of any record, in a whole save, whose cell is dead at the
-- CHECKPOINT of the last whole save")
pub data NotedPassed (page : ℕ) (p : List ℕ) (owner : ℕ) (chip : List ℕ) : (named : ℕ) → List ℕ → Type 0 where
  as_left : NotedPassed page p owner chip owner chip
  folded : {named : ℕ} {l new : List ℕ} → NotedPassed page p owner chip named l → page ≡ 1 → Finished p l new → NotedPassed page p owner chip (owner_of_plan p) new
  noted : {named : ℕ} {l new : List ℕ} → NotedPassed page p owner chip named l → Noted page named p l new → NotedPassed page p owner chip named new

-- lists one after the other, of which the last has come to a system, as `Batch` has them, with notes too
module _ (p : List ℕ) (ρ : List ℤ) (page : ℕ) (Words : List ℕ → Type 0) where
  pub data NotedBatch : (owner n t₀ : ℕ) (before : List Numbered) (high : ℕ) → System → Type 0 where
    begins : {owner n : ℕ} {s : System} → Names p owner → History p ρ page owner n 0 (Erased n) Words s → NotedBatch owner n 0 [] 0 s
    onward : {owner n t₀ high : ℕ} {before : List Numbered} {s : System} → NotedBatch owner n t₀ before high s → (named : ℕ) (chip : List ℕ)
        → NotedPassed page p owner s.machine.journal named chip
        → {s' : System} → History p ρ page named (length chip) s.tally.committed (λ l. l ≡ chip) Words s'
        → NotedBatch named (length chip) s.tally.committed (before ++ s.outputs) (max high s.tally.highest) s'

-- whatever is folded and noted between the lists, on chips of whatever lengths, with either kind of mark at first and under the sets of either day, no output is skipped, and they
-- are the uncut run's
abbrev pub NotedBatches : (page : ℕ) → Type 0
NotedBatches page =
    (p : List ℕ) → Plan p → (ρ : List ℤ) (owner n t₀ high : ℕ) (before : List Numbered) (s : System) → NotedBatch p ρ page (EitherSets p) owner n t₀ before high s
    → BatchClaim p ρ page owner n t₀ (EitherSets p) before high s

-- every chip that such lists have left can be folded, folded or noted before or not
abbrev pub NotedFoldable : Type 0
NotedFoldable =
    (p : List ℕ) → Plan p → (ρ : List ℤ) (owner n t₀ high : ℕ) (before : List Numbered) (s : System) → NotedBatch p ρ 1 (EitherSets p) owner n t₀ before high s
    → (named : ℕ) (chip : List ℕ) → NotedPassed 1 p owner s.machine.journal named chip → Foldable p chip

-- "the cells, place and counts" as a chip reads, in a run that has not stopped
abbrev pub frame_read : Commit → (values : List ℕ) → Frame
frame_read last values = record { cells = values; pc = last.place; readings = last.readings; outputs = last.outputs; stop = 0 }

-- a chip with a note, begun with the cells, place and counts that the unchanged one reads as. `Q14Read 1` is the byte chip's, `Q14Read 16` the page chip's
abbrev pub Q14Read : (page : ℕ) → Type 0
Q14Read page =
    (p : List ℕ) → Plan p → (ρ : List ℤ) (owner n t₀ high : ℕ) (before : List Numbered) (s : System)
    -- "on a chip left by a list as 01 has it under the plan offered, or folded from such a chip under that plan": its marks name the plan or, `A2`, none
    → NotedBatch p ρ page (EitherSets p) owner n t₀ before high s → (named : ℕ) (chip : List ℕ) → NotedPassed page p owner s.machine.journal named chip
    -- what it reads as
    → (end torn : ℕ) (last : Commit) (own : Bool) (values : List ℕ) → Taken (facts_of (format_for page named) p) chip end torn last own values
    -- "change the four value bytes of any record, in a whole save, whose cell is dead at the CHECKPOINT of the last whole save"; "no other byte differs at the start"
    → (changed : List ℕ) → Noted page named p chip changed
    -- "one with `A2` marks once it is folded under that plan", and with more notes
    → (after : ℕ) (onward : List ℕ) → NotedPassed page p named changed after onward
    -- "as the list goes on from there, under all later cuts"; "Readings are the same on both sides"
    → (s' : System) → History p ρ page after (length onward) 0 (λ l. l ≡ onward) (EitherSets p) s'
    -- "Recovery still accepts the chip" (`taken_up`), "no output is skipped, and the outputs' numbers and values and the kind of stop are those of 01's uncut run" (`outputs`,
    -- `all`, `stops`), begun there; "the steps between may differ", and `steps` bounds them
    → Claim p ρ (frame_read last values) (length onward) 0 (EitherSets p) page after s'

-- the same, "begun with the cells, place and counts recovered from the unchanged chip". Where `named` is the plan's owner that is today's recovery; where it is `unowned` it is
-- document 01's, which a chip with `A2` marks had until Q-8: the list goes on with the chip once it is folded (`NotedPassed.folded`)
abbrev pub Q14 : (page : ℕ) → Type 0
Q14 page =
    (p : List ℕ) → Plan p → (ρ : List ℤ) (owner n t₀ high : ℕ) (before : List Numbered) (s : System)
    → NotedBatch p ρ page (EitherSets p) owner n t₀ before high s → (named : ℕ) (chip : List ℕ) → NotedPassed page p owner s.machine.journal named chip
    → (m : Machine) → m.journal ≡ chip → (words : List ℕ) (a : recovery.Outcome) → Recovers (env_of p words) page named m a → a.answer ≡ Restored
    → (changed : List ℕ) → Noted page named p chip changed → (after : ℕ) (onward : List ℕ) → NotedPassed page p named changed after onward
    → (s' : System) → History p ρ page after (length onward) 0 (λ l. l ≡ onward) (EitherSets p) s'
    → Claim p ρ (frame_of a.machine) (length onward) 0 (EitherSets p) page after s'
