-- Lists of C calls that follow one another on one batch, over the bytes that they are lent: document 02, Q-3, Q-6 and Q-8, of the calls of crate `restart_c`.
-- Assumes nothing.
use Rattle.std.specs.Prelude.{ℕ, ◌≤◌, max, ◌≡◌, List, [], ◌++◌, ◌⊎◌, ℤ, length}
use Rattle.journal.specs.Format.{unowned, owner_of_plan}
use Rattle.layout.specs.Layout.{state_size}
use Rattle.pitskelo.specs.Calls.{words_of}
use Rattle.pitskelo.specs.Runs.{sets_in, RecoverCall}
use Rattle.pitskelo.specs.Folds.{FoldLent, FoldLeft, FoldCall}
use Rattle.restart.specs.Reference.{Numbered, zeros}
use Rattle.restart.specs.History.{System, History}
use Rattle.restart.specs.Claim.{Plan, Erased, Claim}
use Rattle.restart_c.specs.Calls.{Board, system_of, Calls, Found, Answers}
use Rattle.batch.specs.Until as until
use Rattle.batch.specs.Until.{must_until}
use Rattle.batch.specs.Batch as batch
use Rattle.batch.specs.Batch.{BatchClaim}
use Rattle.batch_c.specs.Fold.{Finished, Gives, SameBytes}

-- the bytes of the sets that pitskelo_analyse found until Q-3: the words that stand in them are by document 01's rule
abbrev pub FoundUntil : (p ws : List ℕ) → Type 0
FoundUntil p ws = until.FoundBy must_until p (words_of ws)

-- those found today, or until Q-3
abbrev pub EitherSets : (p ws : List ℕ) → Type 0
EitherSets p ws = Found p ws ⊎ FoundUntil p ws

-- the words that calls use of such bytes
abbrev pub Used : (List ℕ → Type 0) → List ℕ → Type 0
Used Sets w = (ws : List ℕ) × Sets ws × (w ≡ sets_in ws)

-- "A chip saved until now by a list as 01 has it is recovered under the new sets, and the outputs, as the list goes on, must still be those of the uncut run": b is where an old list
-- of calls ended, b' where the list is that goes on with its chip. `Q3 1` is that of pitskelo_recover and pitskelo_run, `Q3 16` that of the page chip's entries
abbrev pub Q3 : (page : ℕ) → Type 0
Q3 page =
    (p : List ℕ) → Plan p → (ρ : List ℤ) (n : ℕ) (old new : List ℕ) → FoundUntil p old → Found p new → (b : Board)
    → Calls page p ρ (λ ws. ws ≡ old) n 0 (Erased n) b → (b' : Board)
    → Calls page p ρ (λ ws. ws ≡ new) n b.tally.committed (λ l. l ≡ b.chip) b'
    → BatchClaim p ρ page (owner_of_plan p) n b.tally.committed (λ w. w ≡ sets_in new) b.outputs b.tally.highest (system_of page (owner_of_plan p) b')
    × Answers page p ρ (λ ws. ws ≡ new) n b'

-- wider than the request: one list of calls, and the sets of either day lent to any of them
abbrev pub Q3AnyTime : (page : ℕ) → Type 0
Q3AnyTime page =
    (p : List ℕ) → Plan p → (ρ : List ℤ) (n : ℕ) (b : Board) → Calls page p ρ (EitherSets p) n 0 (Erased n) b
    → Claim p ρ zeros n 0 (Used (EitherSets p)) page (owner_of_plan p) (system_of page (owner_of_plan p) b) × Answers page p ρ (EitherSets p) n b

-- ---- Q-6 and Q-8

-- what is done with a chip between two lists: nothing, or pitskelo_fold is called, as often as is wanted
pub data Passed (page : ℕ) (p chip : List ℕ) : List ℕ → Type 0 where
  as_left : Passed page p chip chip
  folded : {l new : List ℕ} → Passed page p chip l → page ≡ 1 → Finished p l new → Passed page p chip new

-- lists one after the other, of which the last has come to a board: n and t₀ are its chip's length and its tally at first, `before` the outputs of the lists before it and `high`
-- their highest tally
module _ (page : ℕ) (p : List ℕ) (ρ : List ℤ) (Sets : List ℕ → Type 0) where
  pub data Batch : (n t₀ : ℕ) (before : List Numbered) (high : ℕ) → Board → Type 0 where
    begins : {n : ℕ} {b : Board} → Calls page p ρ Sets n 0 (Erased n) b → Batch n 0 [] 0 b
    -- on a chip that lists until Q-8 have left, whose marks are `A2` and name no plan, and that pitskelo_fold has folded
    upgraded : {n t₀ high : ℕ} {before : List Numbered} {s : System} → page ≡ 1 → batch.Batch p ρ page (Used Sets) unowned n t₀ before high s → (chip : List ℕ)
        → Finished p s.machine.journal chip → {b : Board} → Calls page p ρ Sets (length chip) s.tally.committed (λ l. l ≡ chip) b
        → Batch (length chip) s.tally.committed (before ++ s.outputs) (max high s.tally.highest) b
    onward : {n t₀ high : ℕ} {before : List Numbered} {b : Board} → Batch n t₀ before high b → (chip : List ℕ) → Passed page p b.chip chip
        → {b' : Board} → Calls page p ρ Sets (length chip) b.tally.committed (λ l. l ≡ chip) b'
        → Batch (length chip) b.tally.committed (before ++ b.outputs) (max high b.tally.highest) b'

-- whatever is folded between the lists, on chips of whatever lengths, with either kind of mark at first and under the sets of either day, no output is skipped, and they are the
-- uncut run's
abbrev pub Batches : (page : ℕ) → Type 0
Batches page =
    (p : List ℕ) → Plan p → (ρ : List ℤ) (n t₀ high : ℕ) (before : List Numbered) (b : Board) → Batch page p ρ (EitherSets p) n t₀ before high b
    → BatchClaim p ρ page (owner_of_plan p) n t₀ (Used (EitherSets p)) before high (system_of page (owner_of_plan p) b) × Answers page p ρ (EitherSets p) n b

-- a chip that pitskelo_fold never refuses with 12, 15 or 16
abbrev pub NeverRefused : (p chip : List ℕ) → Type 0
NeverRefused p chip =
    (k : ℕ) → (k ≡ 12) ⊎ (15 ≤ k) → (l : FoldLent) → l.plan ≡ p → l.old ≡ chip → (o : FoldLeft) → FoldCall l o → ¬ (o.result ≡ k)

-- such are those that lists have left, folded before or not
abbrev pub AlwaysFoldable : Type 0
AlwaysFoldable =
    (p : List ℕ) → Plan p → (ρ : List ℤ) (n t₀ high : ℕ) (before : List Numbered) (b : Board) → Batch 1 p ρ (EitherSets p) n t₀ before high b
    → (chip : List ℕ) → Passed 1 p b.chip chip → NeverRefused p chip

-- of a list as document 01 has it, whose marks are `A2` and name no plan, that has come to s: "so no batch on one is lost"
pub record NotLost (p : List ℕ) (ρ : List ℤ) (s : System) : Type 0 where
  -- its chip can be folded
  pub foldable : NeverRefused p s.machine.journal
  -- "the finished chip recovers to the state that the old one gave until now, write position and bytes to erase aside"
  pub recovers : (chip : List ℕ) → Finished p s.machine.journal chip → (ws left : List ℕ) → Gives unowned p ws s.machine.journal left
      → (state' left' : List ℕ) (result : ℕ) → length state' ≡ state_size → RecoverCall 1 p ws chip state' left' result → (result ≡ 0) × SameBytes left left'
  -- and the batch goes on with it: no output is skipped, and they are the uncut run's
  pub goes_on : (chip : List ℕ) → Finished p s.machine.journal chip → (b : Board) → Calls 1 p ρ (EitherSets p) (length chip) s.tally.committed (λ l. l ≡ chip) b
      → BatchClaim p ρ 1 (owner_of_plan p) (length chip) s.tally.committed (Used (EitherSets p)) s.outputs s.tally.highest (system_of 1 (owner_of_plan p) b)
      × Answers 1 p ρ (EitherSets p) (length chip) b

-- for every such list, under the sets of either day, and every list of calls of pitskelo_fold and cuts
abbrev pub Q8 : Type 0
Q8 =
    (p : List ℕ) → Plan p → (ρ : List ℤ) (n : ℕ) (s : System) → History p ρ 1 unowned n 0 (Erased n) (Used (EitherSets p)) s → NotLost p ρ s
