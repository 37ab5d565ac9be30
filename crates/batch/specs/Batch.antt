-- Lists of calls that follow one another on one batch: a list goes on with the chip that the list before it left, as it is or folded. Document 02, Q-3, Q-6 and Q-8.
-- Assumes nothing.
use Rattle.std.specs.Prelude.{ℕ, ◌≤◌, max, ◌≡◌, List, [], ◌++◌, ◌⊎◌, ℤ, length}
use Rattle.restart.specs.Reference.{Numbered, zeros, ref_at, emitted}
use Rattle.restart.specs.History.{System, History}
use Rattle.restart.specs.Claim.{Plan, Erased, distinct, Found, Claim, Names}
use Rattle.journal.specs.declared.Commit.{Commit}
use Rattle.journal.specs.Format.{unowned, owner_of_plan}
use Rattle.step.specs.State.{env_of, Machine}
use Rattle.recovery.specs.Recover as recovery
use Rattle.recovery.specs.Recover.{Recovers}
use Rattle.recovery.specs.Recover.{Restored}
use Rattle.folding.specs.Fold.{Refused}
use Rattle.folding.specs.Fold.{Holds, Outcome, Folds}
use Rattle.folding.specs.Lists.{SameState, Finished}
use Rattle.batch.specs.Until.{must_until, FoundBy, EitherSets}

-- of a list that goes on at the tally t₀ with a chip that lists before it left, whose outputs were `before` and whose highest tally was `high`
pub record BatchClaim (p : List ℕ) (ρ : List ℤ) (page owner n t₀ : ℕ) (Words : List ℕ → Type 0) (before : List Numbered) (high : ℕ) (s : System) : Type 0 where
  -- demand 3 of the list
  pub claim : Claim p ρ zeros n t₀ Words page owner s
  -- "Repetitions aside, the outputs so far are the uncut run's up to the highest tally, after a stop all of them": of all the lists together, so none is skipped between them
  pub outputs : distinct [] (before ++ s.outputs) ≡ emitted p ρ zeros 0 (max high s.tally.highest)
  pub all : ¬ ((ref_at p ρ zeros (max high s.tally.highest)).stop ≡ 0) → (k : ℕ) → max high s.tally.highest ≤ k
      → distinct [] (before ++ s.outputs) ≡ emitted p ρ zeros 0 k

-- "A chip saved until now by a list as 01 has it is recovered under the new sets, and the outputs, as the list goes on, must still be those of the uncut run": s is where the
-- old list ended, s' where the list is that goes on with its chip; it begins with a recovery, as every list does, and sets the tally back to the last final byte. `Q3 1` is the
-- byte chip's, `Q3 16` the page chip's
abbrev pub Q3 : (page : ℕ) → Type 0
Q3 page =
    (p : List ℕ) → Plan p → (owner : ℕ) → Names p owner → (ρ : List ℤ) (n : ℕ) (old new : List ℕ) → FoundBy must_until p old → Found p new → (s : System)
    → History p ρ page owner n 0 (Erased n) (λ w. w ≡ old) s → (s' : System)
    → History p ρ page owner n s.tally.committed (λ l. l ≡ s.machine.journal) (λ w. w ≡ new) s'
    → BatchClaim p ρ page owner n s.tally.committed (λ w. w ≡ new) s.outputs s.tally.highest s'

-- wider than the request: one list, and the sets of either day lent to any call, so that a list goes on with a state that an old run left too
abbrev pub Q3AnyTime : (page : ℕ) → Type 0
Q3AnyTime page =
    (p : List ℕ) → Plan p → (owner : ℕ) → Names p owner → (ρ : List ℤ) (n : ℕ) (s : System) → History p ρ page owner n 0 (Erased n) (EitherSets p) s
    → Claim p ρ zeros n 0 (EitherSets p) page owner s

-- ---- Q-6 and Q-8

-- what is done with a chip, whose marks name `owner`, between two lists: nothing, or it is folded onto another ("Both are byte chips"), as often as is wanted, whose marks then
-- name the plan ("folding reads such a byte chip and writes `A3`")
pub data Passed (page : ℕ) (p : List ℕ) (owner : ℕ) (chip : List ℕ) : (named : ℕ) → List ℕ → Type 0 where
  as_left : Passed page p owner chip owner chip
  folded : {named : ℕ} {l new : List ℕ} → Passed page p owner chip named l → page ≡ 1 → Finished p l new → Passed page p owner chip (owner_of_plan p) new

-- lists one after the other, of which the last has come to a system: `owner` is what its chip's marks name, n and t₀ are its chip's length and its tally at first, `before` the
-- outputs of the lists before it and `high` their highest tally
module _ (p : List ℕ) (ρ : List ℤ) (page : ℕ) (Words : List ℕ → Type 0) where
  pub data Batch : (owner n t₀ : ℕ) (before : List Numbered) (high : ℕ) → System → Type 0 where
    begins : {owner n : ℕ} {s : System} → Names p owner → History p ρ page owner n 0 (Erased n) Words s → Batch owner n 0 [] 0 s
    onward : {owner n t₀ high : ℕ} {before : List Numbered} {s : System} → Batch owner n t₀ before high s → (named : ℕ) (chip : List ℕ)
        → Passed page p owner s.machine.journal named chip
        → {s' : System} → History p ρ page named (length chip) s.tally.committed (λ l. l ≡ chip) Words s'
        → Batch named (length chip) s.tally.committed (before ++ s.outputs) (max high s.tally.highest) s'

-- "recovering old or finished new must give the same state", so a batch goes on with the new chip: whatever is folded between the lists, on chips of whatever lengths, with either
-- kind of mark at first and under the sets of either day, no output is skipped, and they are the uncut run's
abbrev pub Batches : (page : ℕ) → Type 0
Batches page =
    (p : List ℕ) → Plan p → (ρ : List ℤ) (owner n t₀ high : ℕ) (before : List Numbered) (s : System) → Batch p ρ page (EitherSets p) owner n t₀ before high s
    → BatchClaim p ρ page owner n t₀ (EitherSets p) before high s

-- a chip that can be folded: it holds something, so that `Q6` of crate `folding` speaks of it, and folding never refuses it with 12, 15 or 16
pub record Foldable (p chip : List ℕ) : Type 0 where
  pub owner : ℕ
  pub end : ℕ
  pub torn : ℕ
  pub last : Commit
  pub values : List ℕ
  pub holds : Holds p chip owner end torn last values
  pub never : (k : ℕ) → (k ≡ 12) ⊎ (15 ≤ k) → (words new : List ℕ) (stored budget : ℕ) (r : Outcome) → Folds (env_of p words) chip new stored budget r → ¬ (r.answer ≡ Refused k)

-- every chip that lists have left is one, folded before or not
abbrev pub AlwaysFoldable : Type 0
AlwaysFoldable =
    (p : List ℕ) → Plan p → (ρ : List ℤ) (owner n t₀ high : ℕ) (before : List Numbered) (s : System) → Batch p ρ 1 (EitherSets p) owner n t₀ before high s
    → (named : ℕ) (chip : List ℕ) → Passed 1 p owner s.machine.journal named chip → Foldable p chip

-- of a list as document 01 has it, whose marks are `A2` and name no plan, that has come to s: "so no batch on one is lost"
pub record NotLost (p : List ℕ) (ρ : List ℤ) (s : System) : Type 0 where
  -- its chip can be folded
  pub foldable : Foldable p s.machine.journal
  -- "the finished chip recovers to the state that the old one gave until now, write position and bytes to erase aside"
  pub recovers : (chip : List ℕ) → Finished p s.machine.journal chip → (words : List ℕ) (m m' : Machine) → m.journal ≡ s.machine.journal → m'.journal ≡ chip
      → (a b : recovery.Outcome) → Recovers (env_of p words) 1 unowned m a → Recovers (env_of p words) 1 (owner_of_plan p) m' b → a.answer ≡ Restored
      → (b.answer ≡ Restored) × SameState a.machine b.machine
  -- and the batch goes on with it: no output is skipped, and they are the uncut run's
  pub goes_on : (chip : List ℕ) → Finished p s.machine.journal chip → (s' : System)
      → History p ρ 1 (owner_of_plan p) (length chip) s.tally.committed (λ l. l ≡ chip) (EitherSets p) s'
      → BatchClaim p ρ 1 (owner_of_plan p) (length chip) s.tally.committed (EitherSets p) s.outputs s.tally.highest s'

-- for every such list, under the sets of either day, and every list of calls of folding and cuts
abbrev pub Q8 : Type 0
Q8 =
    (p : List ℕ) → Plan p → (ρ : List ℤ) (n : ℕ) (s : System) → History p ρ 1 unowned n 0 (Erased n) (EitherSets p) s → NotLost p ρ s
