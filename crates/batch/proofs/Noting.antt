-- A list may go on with a chip that has a note: where a chip can be taken up, one with a note in a spent cell can be too, at the same place (`noted-taken`). Chips that are passed on
-- without notes, and batches without them, are among those with notes (`passed-noted`, `batch-noted`).
-- Assumes nothing.
use Prim.Native.Nat.{ℕ}
use mathlib.Core.Path.{◌≡◌, sym, ◌∙◌, ap, subst}
use mathlib.Core.List.{List}
use lib.IntN.{ℤ}
use Rattle.analysis.specs.Paths.{Live, Region}
use Rattle.journal.specs.declared.Commit.{Commit}
use Rattle.journal.specs.Reading.{first, last_of, saved_value}
use Rattle.journal.specs.Format.{Checkpoint}
use Rattle.restart.specs.Reference.{Frame, Numbered}
use Rattle.restart.specs.History.{System}
use Rattle.restart.specs.Claim.{Plan, Resumes, TakenUp}
use Rattle.notes.specs.Notes.{Noted}
use Rattle.notes.proofs.Noting.{noted-kept}
use Rattle.batch.specs.Batch.{Passed, Batch}
use Rattle.batch.specs.Noting.{NotedPassed, NotedBatch}

-- checkpoints with the same last commit, and the same values of the cells that are live there, take a run up at the same place
resumes-kept : {p : List ℕ} {f : Frame} {js js' : List Checkpoint} → last_of first js' ≡ last_of first js
    → ((c : ℕ) → Live p c (last_of first js).place → saved_value c js' 0 ≡ saved_value c js 0) → Resumes p js f → Resumes p js' f
resumes-kept {p} {f} e v h = record {
  place = ap (λ (x : Commit). x.place) e ∙ h.place;
  readings = ap (λ (x : Commit). x.readings) e ∙ h.readings;
  outputs = ap (λ (x : Commit). x.outputs) e ∙ h.outputs;
  runs = h.runs;
  size = h.size;
  cells = λ c l. v c (subst (Live p c) (sym h.place) l) ∙ h.cells c l;
  region = subst (λ (x : Commit). ¬ (x.exclude ≡ 0) → Region p x.exclude f.pc) (sym e) h.region;
}

-- A CHIP WITH A NOTE CAN BE TAKEN UP WHERE IT COULD BE WITHOUT
pub noted-taken : {page owner : ℕ} {p chip l : List ℕ} → Plan p → (f : Frame) → TakenUp page owner p f chip → Noted page owner p chip l → TakenUp page owner p f l
noted-taken {owner = owner} plan f u n =
    let k = noted-kept plan.legal u.shape n in
    record {
      saves = k.noted;
      torn = k.torn;
      shape = k.shape;
      owned = record { all = k.own owner ∙ u.owned.all; fits = u.owned.fits };
      resumes = resumes-kept k.last k.values u.resumes;
    }

-- ---- without notes

-- a chip that is passed on without notes
pub passed-noted : {page : ℕ} {p : List ℕ} {owner : ℕ} {chip : List ℕ} {named : ℕ} {l : List ℕ} → Passed page p owner chip named l → NotedPassed page p owner chip named l
passed-noted Passed.as_left = NotedPassed.as_left
passed-noted (Passed.folded h e d) = NotedPassed.folded (passed-noted h) e d

-- lists between which there are none
pub batch-noted : {p : List ℕ} {ρ : List ℤ} {page : ℕ} {Words : List ℕ → Type 0} {owner n t₀ : ℕ} {before : List Numbered} {high : ℕ} {s : System}
    → Batch p ρ page Words owner n t₀ before high s → NotedBatch p ρ page Words owner n t₀ before high s
batch-noted (Batch.begins names h) = NotedBatch.begins names h
batch-noted (Batch.onward b named chip g h) = NotedBatch.onward (batch-noted b) named chip (passed-noted g) h
