-- THE CLAIMS OF Q-3, Q-6, Q-8 AND Q-14 OF THE C CALLS: every list of them is a history of crate `restart` (`history` of crate `restart_c`), so that the claims of crate `batch` hold.
-- `noted-batches`, `noted-foldable`, `q-14` and `q-14-until` are of lists with notes between them; `batches` and `always-foldable` follow from the first two.
-- Assumes nothing.
use Prim.Native.Nat.{ℕ, ◌<◌, max}
use mathlib.Core.Path.{◌≡◌, refl, sym, ◌∙◌, ap, subst}
use native.Mathlib.Omega.{arith}
use mathlib.Core.List.{List, ◌++◌}
use mathlib.Core.Logic.{inl, inr, ⊎_elim}
use Rattle.journal.specs.Format.{unowned, owner_of_plan}
use Rattle.journal.proofs.Naming.{owner-small}
use Rattle.step.specs.State.{Machine}
use Rattle.notes.specs.Notes.{Noted}
use Rattle.layout.specs.Layout.{machine_in}
use Rattle.pitskelo.specs.Runs.{sets_in}
use lib.IntN.{ℤ}
use lib.ListN.{length}
use Rattle.restart.specs.Reference.{Frame, frame_of, Numbered, zeros, ref_at}
use Rattle.restart.specs.History as list
use Rattle.restart.specs.History.{System}
use Rattle.restart.specs.Claim.{Plan, Safe, TakenUp, Erased}
use Rattle.restart.proofs.Theorem.{erased-taken}
use Rattle.restart_c.specs.Calls.{Board, fresh, system_of, Calls, Answers}
use Rattle.restart_c.proofs.FoundSets.{used-safe, sets-safe}
use Rattle.restart_c.proofs.Calling.{accepted-size, accepted-restored}
use Rattle.restart_c.proofs.Theorem.{recovered-back, claims-from, answers-from, history, claims, answers}
use Rattle.batch.proofs.Growing as growing
use Rattle.batch.proofs.Taking.{left-taken, takes-up, Reads, restored-read}
use Rattle.batch.proofs.Theorem.{lasts, goes_on, noted-onward-takes, noted-batch-names, noted-batch-lasts, noted-batch-claim, noted-takes}
use Rattle.batch.specs.Batch.{Foldable}
use Rattle.batch.specs.Noting as batch
use Rattle.batch.specs.Noting.{frame_read}
use Rattle.batch.proofs.Noting as noting
use Rattle.batch.proofs.Folding.{noted-passed-taken, folded-taken, taken-foldable, folded-recovers}
use Rattle.folding.specs.Fold.{Folded}
use Rattle.folding.specs.Fold.{Stored, Refused}
use Rattle.folding.specs.Fold.{answer_of}
use Rattle.batch_c.specs.Batch.{FoundUntil, EitherSets, Used, Q3, Q3AnyTime, Passed, Batch, Batches, NeverRefused, AlwaysFoldable, Q8}
use Rattle.batch_c.specs.Noting.{NotedPassed, NotedBatch, NotedBatches, NotedFoldable, GoesOn, Q14, Q14Until}
use Rattle.batch_c.proofs.Folding.{folds-of, finished-of, same_left}

module _ {p : List ℕ} (plan : Plan p) where
  -- the words used of old bytes are safe
  until-safe : (ws : List ℕ) → FoundUntil p ws → Safe p (sets_in ws)
  until-safe ws f = used-safe plan ws (growing.until-safe plan f)

  -- and those of either day's
  used-either : (w : List ℕ) → Used (EitherSets p) w → Safe p w
  used-either w u = subst (Safe p) (sym u.2) (⊎_elim (λ f. sets-safe plan f) (λ f. until-safe u.0 f) u.1)

-- bytes that are these hold these words
own-words : (own ws : List ℕ) → ws ≡ own → sets_in ws ≡ sets_in own
own-words own ws e = ap sets_in e

-- which are safe where those are
own-safe : {p : List ℕ} (own : List ℕ) → Safe p (sets_in own) → (w : List ℕ) → w ≡ sets_in own → Safe p w
own-safe {p} own s w e = subst (Safe p) (sym e) s

pub q_3 : (page : ℕ) → Q3 page
q_3 page p plan ρ n old new until today b c b' c' =
    let so = own-safe old (until-safe plan old until) in
    let sn = own-safe new (sets-safe plan today) in
    let t = b.tally.committed in
    let h = history page p plan ρ (λ ws. ws ≡ old) (λ w. w ≡ sets_in old) (own-words old) so n 0 (Erased n) (erased-taken p ρ page (owner_of_plan p) n (owner-small p)) c in
    let l = lasts p ρ plan page (owner_of_plan p) n 0 (Erased n) (erased-taken p ρ page (owner_of_plan p) n (owner-small p)) (λ w. w ≡ sets_in old) so h in
    let up : (l : List ℕ) → l ≡ b.chip → TakenUp page (owner_of_plan p) p (ref_at p ρ zeros t) l = takes-up p ρ zeros page (owner_of_plan p) t b.chip (left-taken l) in
    let h' = history page p plan ρ (λ ws. ws ≡ new) (λ w. w ≡ sets_in new) (own-words new) sn n t (λ l. l ≡ b.chip) up c' in (
      goes_on p ρ plan page (owner_of_plan p) n t (λ l. l ≡ b.chip) up (λ w. w ≡ sets_in new) sn b.outputs b.tally.highest l.outputs l.high h',
      answers page p plan ρ (λ ws. ws ≡ new) (λ w. w ≡ sets_in new) (own-words new) sn n t (λ l. l ≡ b.chip) up c',
    )

pub q-3-any-time : (page : ℕ) → Q3AnyTime page
q-3-any-time page p plan ρ n b c =
    let words : (ws : List ℕ) → EitherSets p ws → Used (EitherSets p) (sets_in ws) = λ ws e. (ws, e, refl) in (
      claims page p plan ρ (EitherSets p) (Used (EitherSets p)) words (used-either plan) n 0 (Erased n) (erased-taken p ρ page (owner_of_plan p) n (owner-small p)) c,
      answers page p plan ρ (EitherSets p) (Used (EitherSets p)) words (used-either plan) n 0 (Erased n) (erased-taken p ρ page (owner_of_plan p) n (owner-small p)) c,
    )

-- ---- Q-6, Q-8 and Q-14

-- a chip that is passed on by C calls is by those of crate `folding`
passed-of : {page owner : ℕ} {p chip : List ℕ} {named : ℕ} {l : List ℕ} → NotedPassed page p owner chip named l → batch.NotedPassed page p owner chip named l
passed-of NotedPassed.as_left = batch.NotedPassed.as_left
passed-of (NotedPassed.folded h e f) = batch.NotedPassed.folded (passed-of h) e (finished-of f)
passed-of (NotedPassed.noted h n) = batch.NotedPassed.noted (passed-of h) n

module _ (page : ℕ) (p : List ℕ) (plan : Plan p) (ρ : List ℤ) where
  -- the words of either day's sets
  abbrev Either : List ℕ → Type 0
  Either = Used (EitherSets p)

  either-words : (ws : List ℕ) → EitherSets p ws → Either (sets_in ws)
  either-words ws e = (ws, e, refl)

  -- what a list that goes on takes up, in the plan's name
  goes-up : {owner n t₀ high : ℕ} {before : List Numbered} {s : System} → batch.NotedBatch p ρ page Either owner n t₀ before high s → (chip : List ℕ)
      → batch.NotedPassed page p owner s.machine.journal (owner_of_plan p) chip → (l : List ℕ) → l ≡ chip → TakenUp page (owner_of_plan p) p (ref_at p ρ zeros s.tally.committed) l
  goes-up h chip g =
      noted-onward-takes p ρ plan page Either (used-either plan) (noted-batch-names p ρ plan page Either (used-either plan) h) (noted-batch-lasts p ρ plan page Either (used-either plan) h) chip g

  -- a list of calls that goes on so is one of crate `batch`, and answers
  module _ {owner n t₀ high : ℕ} {before : List Numbered} {s : System} (h : batch.NotedBatch p ρ page Either owner n t₀ before high s) (chip : List ℕ)
      (g : batch.NotedPassed page p owner s.machine.journal (owner_of_plan p) chip) {b : Board} (c : Calls page p ρ (EitherSets p) (length chip) s.tally.committed (λ l. l ≡ chip) b) where
    onward-of : batch.NotedBatch p ρ page Either (owner_of_plan p) (length chip) s.tally.committed (before ++ s.outputs) (max high s.tally.highest) (system_of page (owner_of_plan p) b)
    onward-of =
        batch.onward h (owner_of_plan p) chip g
        (history page p plan ρ (EitherSets p) Either either-words (used-either plan) (length chip) s.tally.committed (λ l. l ≡ chip) (goes-up h chip g) c)

    onward-answers : Answers page p ρ (EitherSets p) (length chip) b
    onward-answers = answers page p plan ρ (EitherSets p) Either either-words (used-either plan) (length chip) s.tally.committed (λ l. l ≡ chip) (goes-up h chip g) c

  -- lists of calls are lists of crate `batch`
  batch-of : {n t₀ high : ℕ} {before : List Numbered} {b : Board} → NotedBatch page p ρ (EitherSets p) n t₀ before high b
      → batch.NotedBatch p ρ page Either (owner_of_plan p) n t₀ before high (system_of page (owner_of_plan p) b)
  batch-of (NotedBatch.begins {n} c) =
      batch.begins (inl refl) (history page p plan ρ (EitherSets p) Either either-words (used-either plan) n 0 (Erased n) (erased-taken p ρ page (owner_of_plan p) n (owner-small p)) c)
  batch-of (NotedBatch.upgraded h chip g c) = onward-of h chip (passed-of g) c
  batch-of (NotedBatch.onward h chip g c) = onward-of (batch-of h) chip (passed-of g) c

  -- and the last of them answers
  batch-answers : {n t₀ high : ℕ} {before : List Numbered} {b : Board} → NotedBatch page p ρ (EitherSets p) n t₀ before high b → Answers page p ρ (EitherSets p) n b
  batch-answers (NotedBatch.begins {n} c) =
      answers page p plan ρ (EitherSets p) Either either-words (used-either plan) n 0 (Erased n) (erased-taken p ρ page (owner_of_plan p) n (owner-small p)) c
  batch-answers (NotedBatch.upgraded h chip g c) = onward-answers h chip (passed-of g) c
  batch-answers (NotedBatch.onward h chip g c) = onward-answers (batch-of h) chip (passed-of g) c

pub noted-batches : (page : ℕ) → NotedBatches page
noted-batches page p plan ρ n t₀ high before b h =
    (noted-batch-claim p ρ plan page (Used (EitherSets p)) (used-either plan) (batch-of page p plan ρ h), batch-answers page p plan ρ h)

-- a refusal's number tells it
number-refused : (a : Folded) (k : ℕ) → 0 < k → (answer_of a).number ≡ k → a ≡ Refused k
number-refused (Stored i f) k l h = absurd (omega arith)
number-refused (Refused n) k l h = ap Refused h

-- what crate `batch` can fold the entry does not refuse
never-refused : {p chip : List ℕ} → Foldable p chip → NeverRefused p chip
never-refused {p} {chip} f k z l e d o x y =
    let some : 0 < k = ⊎_elim (λ a. omega arith) (λ a. omega arith) z in
    f.never k z (sets_in l.sets) l.new l.stored l.budget x.outcome
    (folds-of {p = p} {old = chip} {new = l.new} {l = l} {o = o} (record { plan = e; old_is = d; new_is = refl }) x)
    (number-refused x.outcome.answer k some (sym x.number ∙ y))

pub noted-foldable : NotedFoldable
noted-foldable p plan ρ n t₀ high before b h chip g =
    let u = batch-of 1 p plan ρ h in
    let lasting = noted-batch-lasts p ρ plan 1 (Used (EitherSets p)) (used-either plan) u in
    let f = ref_at p ρ zeros b.tally.committed in
    never-refused (taken-foldable plan (inl refl) (noted-passed-taken plan f (inl refl) (left-taken lasting) (passed-of g)))

-- ---- without notes

-- a chip that is passed on without notes
passed-noted : {page : ℕ} {p chip l : List ℕ} → Passed page p chip l → NotedPassed page p (owner_of_plan p) chip (owner_of_plan p) l
passed-noted Passed.as_left = NotedPassed.as_left
passed-noted (Passed.folded h e f) = NotedPassed.folded (passed-noted h) e f

-- lists between which there are none
batch-noted : {page : ℕ} {p : List ℕ} {ρ : List ℤ} {Sets : List ℕ → Type 0} {n t₀ : ℕ} {before : List Numbered} {high : ℕ} {b : Board}
    → Batch page p ρ Sets n t₀ before high b → NotedBatch page p ρ Sets n t₀ before high b
batch-noted (Batch.begins c) = NotedBatch.begins c
batch-noted (Batch.upgraded e h chip f c) = NotedBatch.upgraded (noting.batch-noted h) chip (NotedPassed.folded NotedPassed.as_left e f) c
batch-noted (Batch.onward h chip g c) = NotedBatch.onward (batch-noted h) chip (passed-noted g) c

pub batches : (page : ℕ) → Batches page
batches page p plan ρ n t₀ high before b h = noted-batches page p plan ρ n t₀ high before b (batch-noted h)

pub always-foldable : AlwaysFoldable
always-foldable p plan ρ n t₀ high before b h chip g = noted-foldable p plan ρ n t₀ high before b (batch-noted h) chip (passed-noted g)

-- ---- Q-8

pub q-8 : Q8
q-8 p plan ρ n s h =
    let Words = Used (EitherSets p) in
    let safe = used-either plan in
    let t = s.tally.committed in
    let l = lasts p ρ plan 1 unowned n 0 (Erased n) (erased-taken p ρ 1 unowned n (omega arith)) Words safe h in
    let u = left-taken l in
    record {
      foldable = never-refused (taken-foldable plan (inr refl) u);
      recovers = λ chip d ws left x state' left' result size y.
          same_left x size y
          (folded-recovers plan (inr refl) u (finished-of d) (sets_in ws) x.machine (machine_in 1 (owner_of_plan p) state' chip) x.chip_is_of refl x.outcome y.outcome x.recovers
          (y.recovers size) x.restored);
      goes_on = λ chip d b c.
          let up = takes-up p ρ zeros 1 (owner_of_plan p) t chip (folded-taken plan (ref_at p ρ zeros t) (inr refl) u (finished-of d)) in
          let h' = history 1 p plan ρ (EitherSets p) Words (either-words 1 p plan ρ) safe (length chip) t (λ k. k ≡ chip) up c in (
            goes_on p ρ plan 1 (owner_of_plan p) (length chip) t (λ k. k ≡ chip) up Words safe s.outputs s.tally.highest l.outputs l.high h',
            answers 1 p plan ρ (EitherSets p) Words (either-words 1 p plan ρ) safe (length chip) t (λ k. k ≡ chip) up c,
          );
    }

-- ---- Q-14, begun with what the unchanged chip gives

module _ (page : ℕ) (p : List ℕ) (plan : Plan p) (ρ : List ℤ) {owner n t₀ high : ℕ} {before : List Numbered} {s : System}
    (h : batch.NotedBatch p ρ page (Used (EitherSets p)) owner n t₀ before high s) {named : ℕ} {chip : List ℕ} (g : batch.NotedPassed page p owner s.machine.journal named chip) where
  -- a list of calls that goes on with a note, the uncut run beginning at the frame that the unchanged chip reads as
  noted-calls : {f : Frame} {changed : List ℕ} → Reads page named p chip f → Noted page named p chip changed → (next : List ℕ) → batch.NotedPassed page p named changed (owner_of_plan p) next
      → (b : Board) → Calls page p ρ (EitherSets p) (length next) 0 (λ l. l ≡ next) b → GoesOn page p ρ f (length next) b
  noted-calls r d next k b c =
      let Words = Used (EitherSets p) in
      let safe = used-either plan in
      let at = frame_read r.last r.values in
      let up = noted-takes p ρ plan page Words safe h g r.taken d next k in
      subst (λ (f : Frame). GoesOn page p ρ f (length next) b) r.frame_is (
        claims-from page p plan ρ at (EitherSets p) Words (either-words page p plan ρ) safe (length next) 0 (λ l. l ≡ next) up c,
        answers-from page p plan ρ at (EitherSets p) Words (either-words page p plan ρ) safe (length next) 0 (λ l. l ≡ next) up c,
      )

pub q-14 : (page : ℕ) → Q14 page
q-14 page p plan ρ n t₀ high before b h chip g ws w state left x changed d next k b' c =
    let u = batch-of page p plan ρ h in
    let i = passed-of g in
    let t = b.tally.committed in
    let back = recovered-back page p plan ρ zeros (EitherSets p) (Used (EitherSets p)) (either-words page p plan ρ) (used-either plan) (length chip) t (λ l. l ≡ chip)
    (goes-up page p plan ρ u chip i) {b = fresh t state chip} (list.begins (machine_in page (owner_of_plan p) state chip) refl refl) ws w left x in
    let r = restored-read p (sets_in ws) page (owner_of_plan p) (machine_in page (owner_of_plan p) state chip) x.outcome (x.recovers (accepted-size x)) (accepted-restored x) in
    subst (λ (m : Machine). GoesOn page p ρ (frame_of m) (length next) b') (sym back) (noted-calls page p plan ρ u i r d next (passed-of k) b' c)

pub q-14-until : (page : ℕ) → Q14Until page
q-14-until page p plan ρ n t₀ high before s h chip g m j ws a x z changed d next k b' c =
    let r = subst (λ (l : List ℕ). Reads page unowned p l (frame_of a.machine)) j (restored-read p (sets_in ws) page unowned m a x z) in
    noted-calls page p plan ρ h (passed-of g) r d next (passed-of k) b' c
