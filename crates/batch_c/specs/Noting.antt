-- Lists of C calls that follow one another on one batch, between which notes are put in spent cells of its chip: document 02, Q-14, of the calls of crate `restart_c`.
-- Assumes nothing.
use Rattle.std.specs.Prelude.{ℕ, max, ◌≡◌, List, [], ◌++◌, ℤ, length}
use Rattle.journal.specs.Format.{unowned, owner_of_plan}
use Rattle.step.specs.State.{env_of, Machine}
use Rattle.recovery.specs.Recover as recovery
use Rattle.recovery.specs.Recover.{Recovers}
use Rattle.recovery.specs.Recover.{Restored}
use Rattle.notes.specs.Notes.{Noted}
use Rattle.layout.specs.Layout.{machine_in}
use Rattle.pitskelo.specs.Runs.{sets_in, RecoverCall}
use Rattle.restart.specs.Reference.{Frame, frame_of, Numbered}
use Rattle.restart.specs.History.{System}
use Rattle.restart.specs.Claim.{Plan, Erased, Claim}
use Rattle.restart_c.specs.Calls.{Board, system_of, Calls, Answers}
use Rattle.restart_c.specs.From.{AnswersFrom}
use Rattle.batch.specs.Batch.{BatchClaim}
use Rattle.batch.specs.Noting as batch
use Rattle.batch_c.specs.Fold.{Finished}
use Rattle.batch_c.specs.Batch.{EitherSets, Used, NeverRefused}

-- what is done with a chip, whose marks name `owner`, between two lists, as often as is wanted: nothing, or pitskelo_fold is called until it is finished, or a note is put on it
-- ("change the four value bytes of any record, in a whole save, whose cell is dead at the CHECKPOINT of the last whole save")
pub data NotedPassed (page : ℕ) (p : List ℕ) (owner : ℕ) (chip : List ℕ) : (named : ℕ) → List ℕ → Type 0 where
  as_left : NotedPassed page p owner chip owner chip
  folded : {named : ℕ} {l new : List ℕ} → NotedPassed page p owner chip named l → page ≡ 1 → Finished p l new → NotedPassed page p owner chip (owner_of_plan p) new
  noted : {named : ℕ} {l new : List ℕ} → NotedPassed page p owner chip named l → Noted page named p l new → NotedPassed page p owner chip named new

-- lists one after the other, of which the last has come to a board, as `Batch` has them, with notes too
module _ (page : ℕ) (p : List ℕ) (ρ : List ℤ) (Sets : List ℕ → Type 0) where
  pub data NotedBatch : (n t₀ : ℕ) (before : List Numbered) (high : ℕ) → Board → Type 0 where
    begins : {n : ℕ} {b : Board} → Calls page p ρ Sets n 0 (Erased n) b → NotedBatch n 0 [] 0 b
    -- on a chip that lists until Q-8 have left, whose marks are `A2` and name no plan, and that is passed on in the plan's name: so pitskelo_fold has folded it
    upgraded : {n t₀ high : ℕ} {before : List Numbered} {s : System} → batch.NotedBatch p ρ page (Used Sets) unowned n t₀ before high s → (chip : List ℕ)
        → NotedPassed page p unowned s.machine.journal (owner_of_plan p) chip → {b : Board} → Calls page p ρ Sets (length chip) s.tally.committed (λ l. l ≡ chip) b
        → NotedBatch (length chip) s.tally.committed (before ++ s.outputs) (max high s.tally.highest) b
    onward : {n t₀ high : ℕ} {before : List Numbered} {b : Board} → NotedBatch n t₀ before high b → (chip : List ℕ)
        → NotedPassed page p (owner_of_plan p) b.chip (owner_of_plan p) chip
        → {b' : Board} → Calls page p ρ Sets (length chip) b.tally.committed (λ l. l ≡ chip) b'
        → NotedBatch (length chip) b.tally.committed (before ++ b.outputs) (max high b.tally.highest) b'

-- whatever is folded and noted between the lists, on chips of whatever lengths, with either kind of mark at first and under the sets of either day, no output is skipped, and they
-- are the uncut run's
abbrev pub NotedBatches : (page : ℕ) → Type 0
NotedBatches page =
    (p : List ℕ) → Plan p → (ρ : List ℤ) (n t₀ high : ℕ) (before : List Numbered) (b : Board) → NotedBatch page p ρ (EitherSets p) n t₀ before high b
    → BatchClaim p ρ page (owner_of_plan p) n t₀ (Used (EitherSets p)) before high (system_of page (owner_of_plan p) b) × Answers page p ρ (EitherSets p) n b

-- pitskelo_fold never refuses with 12, 15 or 16 a chip that such lists have left, folded or noted before or not
abbrev pub NotedFoldable : Type 0
NotedFoldable =
    (p : List ℕ) → Plan p → (ρ : List ℤ) (n t₀ high : ℕ) (before : List Numbered) (b : Board) → NotedBatch 1 p ρ (EitherSets p) n t₀ before high b
    → (chip : List ℕ) → NotedPassed 1 p (owner_of_plan p) b.chip (owner_of_plan p) chip → NeverRefused p chip

-- of a list of calls that has come to b, on a chip of n bytes, where the uncut run begins at f: "no output is skipped, and the outputs' numbers and values and the kind of stop
-- are those of 01's uncut run", and "Recovery still accepts the chip" (`restores`)
abbrev pub GoesOn : (page : ℕ) (p : List ℕ) (ρ : List ℤ) (f : Frame) (n : ℕ) → Board → Type 0
GoesOn page p ρ f n b = Claim p ρ f n 0 (Used (EitherSets p)) page (owner_of_plan p) (system_of page (owner_of_plan p) b) × AnswersFrom page p ρ f (EitherSets p) n b

-- `Q14 1` is that of pitskelo_recover and pitskelo_run, `Q14 16` that of the page chip's entries
abbrev pub Q14 : (page : ℕ) → Type 0
Q14 page =
    (p : List ℕ) → Plan p → (ρ : List ℤ) (n t₀ high : ℕ) (before : List Numbered) (b : Board)
    -- "on a chip left by a list as 01 has it under the plan offered, or folded from such a chip under that plan"
    → NotedBatch page p ρ (EitherSets p) n t₀ before high b → (chip : List ℕ) → NotedPassed page p (owner_of_plan p) b.chip (owner_of_plan p) chip
    -- "recovered from the unchanged chip": the call is accepted, and leaves these bytes
    → (ws : List ℕ) → EitherSets p ws → (state left : List ℕ) → RecoverCall page p ws chip state left 0
    -- "change the four value bytes .."; "no other byte differs at the start"
    → (changed : List ℕ) → Noted page (owner_of_plan p) p chip changed → (onward : List ℕ) → NotedPassed page p (owner_of_plan p) changed (owner_of_plan p) onward
    -- "as the list goes on from there, under all later cuts", "begun with the cells, place and counts recovered"
    → (b' : Board) → Calls page p ρ (EitherSets p) (length onward) 0 (λ l. l ≡ onward) b'
    → GoesOn page p ρ (frame_of (machine_in page (owner_of_plan p) left chip)) (length onward) b'

-- "one with `A2` marks once it is folded under that plan": begun with what document 01's recovery, which such a chip had until Q-8, makes of the unchanged chip
abbrev pub Q14Until : (page : ℕ) → Type 0
Q14Until page =
    (p : List ℕ) → Plan p → (ρ : List ℤ) (n t₀ high : ℕ) (before : List Numbered) (s : System)
    → batch.NotedBatch p ρ page (Used (EitherSets p)) unowned n t₀ before high s → (chip : List ℕ) → NotedPassed page p unowned s.machine.journal unowned chip
    → (m : Machine) → m.journal ≡ chip → (ws : List ℕ) (a : recovery.Outcome) → Recovers (env_of p (sets_in ws)) page unowned m a → a.answer ≡ Restored
    → (changed : List ℕ) → Noted page unowned p chip changed → (onward : List ℕ) → NotedPassed page p unowned changed (owner_of_plan p) onward
    → (b' : Board) → Calls page p ρ (EitherSets p) (length onward) 0 (λ l. l ≡ onward) b' → GoesOn page p ρ (frame_of a.machine) (length onward) b'
