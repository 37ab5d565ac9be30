-- A note in a spent cell, computed, so that Q-14 speaks of something: cell 1 of the plan of `Examples` is dead at its CHECKPOINT, and the old list saved it. The desk writes the four
-- letters of NOTE over its value (`old-noted`); the chip is folded with it, so that the folded save has a record of cell 1 (`note-facts`), and the list that goes on gives the outputs 5
-- and 7 all the same (`noted-facts`, `noted-claim`), which are those of the uncut run from where document 01's recovery of the unchanged chip stands (`noted-from`). The same note on a
-- page chip, whose marks name the plan: its list goes on with it as it is (`page-noted`, `page-facts`, `page-claim`).
-- Assumes nothing.
use Prim.Native.Nat.{ℕ, zero, suc, ◌<◌, max}
use mathlib.Core.Path.{◌≡◌, refl, subst, sym}
use mathlib.Core.Bool.{true}
use mathlib.Core.List.{List, [], ◌∷◌, ◌++◌}
use mathlib.Core.Logic.{inl, inr}
use native.Mathlib.Omega.{arith}
use lib.IntN.{pos}
use lib.ListN.{length, get_or, take, drop, replicate}
use lib.Seq.{sets}
use Rattle.journal.specs.Format.{Checkpoint, unowned, owner_of_plan, format_for, image, padded}
use Rattle.journal.specs.Reading.{facts_of, Reading}
use Rattle.journal.specs.Shape.{Shape}
use Rattle.journal.proofs.Torn.{trimmed-nil}
use Rattle.journal.proofs.Back.{shape-whole}
use Rattle.step.specs.State.{env_of, Machine}
use Rattle.recovery.specs.Recover as recovery
use Rattle.recovery.specs.Recover.{Recovers}
use Rattle.recovery.specs.Recover.{Restored}
use Rattle.folding.specs.Fold.{Stored}
use Rattle.folding.specs.Fold as fold
use Rattle.folding.specs.Fold.{byte_chip, byte_facts, held_from, folded_bytes, fold_steps, outcome, Puts, Folds}
use Rattle.folding.specs.Lists.{Folding, Finished}
use Rattle.notes.specs.Notes.{RecordAt, ValueAt, Noted}
use Rattle.restart.specs.Reference.{frame_of}
use Rattle.restart.specs.History.{System, crashed, ran, History, runs, crashed_run}
use Rattle.restart.specs.Claim.{Claim, Erased}
use Rattle.restart.specs.Rows.{Trial}
use Rattle.restart.proofs.Outcomes.{values_of}
use Rattle.restart.proofs.Computing.{computing}
use Rattle.restart.proofs.Shaped.{shape-by}
use Rattle.restart.proofs.Examples.{spoiled, tally_of, output, begun, request, beginning}
use Rattle.batch.specs.Until.{EitherSets}
use Rattle.batch.specs.Batch.{BatchClaim}
use Rattle.batch.specs.Noting.{NotedPassed, NotedBatch}
use Rattle.batch.proofs.Taking.{widens}
use Rattle.batch.proofs.Theorem.{noted-batches, q-14}
use Rattle.batch.proofs.Examples.{set_point, set-point-plan, now-dead, old_sets, old-found, new_sets, new-found, trial_on, trial_with, set_point_readings, save_both, save_one, old_cut, old-list, torn-trimmed}
use Rattle.batch.proofs.FoldExamples.{old_last, both-holds, old_chip, old-shape, Onward, begun_on, begun-on}

-- ---- the note

-- NOTE, and the number of these four bytes
abbrev pub letters : List ℕ
letters = 0x4E ∷ 0x4F ∷ 0x54 ∷ 0x45 ∷ []

abbrev pub note_value : ℕ
note_value = 0x45544F4E

letters-bytes : (k : ℕ) → get_or letters k 0 < 256
letters-bytes zero = omega arith
letters-bytes (suc zero) = omega arith
letters-bytes (suc (suc zero)) = omega arith
letters-bytes (suc (suc (suc zero))) = omega arith
letters-bytes (suc (suc (suc (suc k)))) = omega arith

-- over the value of the second record of a chip with one whole save of both cells
value-noted : (page owner : ℕ) (chip q : List ℕ) → Reading (facts_of (format_for page owner) set_point) chip (save_both owner 5 0 1 0 ∷ []) q → Noted page owner set_point chip (sets chip 8 letters)
unfolding computing
value-noted page owner chip q reading = record {
  at = 8;
  place =
      record {
        saves = save_both owner 5 0 1 0 ∷ [];
        rest = q;
        reading = reading;
        cell = 1;
        stands = ValueAt.within (RecordAt.later (RecordAt.here refl refl));
        dead = (now-dead 1).0 refl;
      };
  note = letters;
  four = refl;
  bytes = letters-bytes;
  is = refl;
}

unfoldable pub noted_chip : List ℕ
noted_chip = sets old_chip 8 letters

pub old-noted : Noted 1 unowned set_point old_chip noted_chip
unfolding noted_chip
old-noted = value-noted 1 unowned old_chip _ (shape-whole old-shape torn-trimmed)

-- ---- folded with the note: cell 1 is not 0, so there are two records

unfoldable pub noted_values : List ℕ
noted_values = values_of (save_both unowned 5 note_value 1 0 ∷ [])

-- the save that it is folded to, in the plan's name
abbrev pub note_save : Checkpoint
note_save = save_both (owner_of_plan set_point) 5 note_value 1 0

pub note-facts : folded_bytes (owner_of_plan set_point) 26 noted_values old_last ≡ image (byte_chip (owner_of_plan set_point)) note_save
unfolding computing held_from folded_bytes noted_values
note-facts = refl

noted-shape : Shape (byte_facts unowned set_point) noted_chip (save_both unowned 5 note_value 1 0 ∷ []) (take 10 (image (byte_chip unowned) (save_both unowned 7 5 2 1)))
unfolding computing old_sets old_cut old_chip noted_chip
noted-shape = shape-by (byte_facts unowned set_point) noted_chip (save_both unowned 5 note_value 1 0 ∷ []) (save_both unowned 7 5 2 1) 10 refl

-- onto 54 bytes, by one call
unfoldable pub note_folded : List ℕ
note_folded = image (byte_chip (owner_of_plan set_point)) note_save ++ replicate 24 0xFF

fold-call : Folds (env_of set_point new_sets) noted_chip (replicate 54 0xFF) 0 100 (outcome (Stored 30 true) note_folded)
unfolding computing held_from folded_bytes fold.refusal_of fold_steps old_sets new_sets old_cut old_chip noted_chip noted_values note_folded
fold-call =
    Folds.reads refl unowned 26 10 old_last noted_values (both-holds noted_chip note_value noted-shape)
    (Puts.stores (record { most = omega arith; free = 54; bytes = refl }) (omega arith) refl)

pub note-finished : Finished set_point noted_chip note_folded
note-finished = record { size = 54; before = replicate 54 0xFF; list = Folding.blank; words = new_sets; stored = 0; budget = 100; count = 30; call = fold-call }

-- from the chip that the old list left
pub note-passed : NotedPassed 1 set_point unowned old_chip (owner_of_plan set_point) note_folded
note-passed = NotedPassed.folded (NotedPassed.noted NotedPassed.as_left old-noted) refl note-finished

-- ---- the list that goes on with it

unfoldable pub noted_begun : System
noted_begun = begun_on 1 old_cut.tally.committed note_folded note_save

unfoldable pub noted_done : System
noted_done = ran set_point set_point_readings noted_begun (request (trial_with (owner_of_plan set_point) new_sets 1000))

noted-begun : Onward 1 old_cut.tally.committed note_folded noted_begun
unfolding computing old_sets new_sets old_cut note_folded noted_begun
noted-begun = begun-on 1 old_cut.tally.committed note_folded note_save (shape-by (byte_facts (owner_of_plan set_point) set_point) note_folded (note_save ∷ []) note_save 0 refl) refl refl

pub noted-list : Onward 1 old_cut.tally.committed note_folded noted_done
unfolding computing old_sets new_sets old_cut note_folded noted_begun noted_done
noted-list = runs noted-begun refl (request (trial_with (owner_of_plan set_point) new_sets 1000)) (inl new-found) tt

-- cell 1 holds the note after recovery; the outputs are those without it, and the next save stands behind the folded one
pub noted-facts : (get_or noted_begun.machine.cells 1 0 ≡ note_value)
    × (noted_done.tally ≡ tally_of 12 9 12)
    × (noted_done.outputs ≡ output 0 (pos 5) ∷ output 1 (pos 7) ∷ [])
    × (take 30 noted_done.machine.journal ≡ image (byte_chip (owner_of_plan set_point)) note_save)
    × (drop 30 noted_done.machine.journal ≡ image (byte_chip (owner_of_plan set_point)) (save_one (owner_of_plan set_point) 7 2 1))
unfolding computing old_sets new_sets old_cut note_folded noted_begun noted_done
noted-facts = (refl, refl, refl, refl, refl)

-- ---- what the claims say of it

-- its words are those found until Q-3
old-words : (w : List ℕ) → w ≡ old_sets → EitherSets set_point w
old-words w e = subst (EitherSets set_point) (sym e) (inr old-found)

-- the old list is a batch
old-batch : NotedBatch set_point set_point_readings 1 (EitherSets set_point) unowned 60 0 [] 0 old_cut
old-batch = NotedBatch.begins (inr refl) (widens old-words old-list)

-- both lists are one, and together they give 5 and 7, as the uncut run does
pub noted-claim : BatchClaim set_point set_point_readings 1 (owner_of_plan set_point) (length note_folded) old_cut.tally.committed (EitherSets set_point) ([] ++ old_cut.outputs) (max 0 old_cut.tally.highest) noted_done
unfolding old_chip
noted-claim =
    noted-batches 1 set_point set-point-plan set_point_readings (owner_of_plan set_point) (length note_folded) old_cut.tally.committed (max 0 old_cut.tally.highest) ([] ++ old_cut.outputs) noted_done
    (NotedBatch.onward old-batch (owner_of_plan set_point) note_folded note-passed noted-list)

-- every list that goes on with the folded chip gives what the uncut run gives from the state that document 01's recovery makes of the chip without the note
pub noted-from : (m : Machine) → m.journal ≡ old_chip → (a : recovery.Outcome) → Recovers (env_of set_point new_sets) 1 unowned m a → a.answer ≡ Restored
    → (s : System) → History set_point set_point_readings 1 (owner_of_plan set_point) (length note_folded) 0 (λ l. l ≡ note_folded) (EitherSets set_point) s
    → Claim set_point set_point_readings (frame_of a.machine) (length note_folded) 0 (EitherSets set_point) 1 (owner_of_plan set_point) s
unfolding old_chip
noted-from m j a x r s h =
    q-14 1 set_point set-point-plan set_point_readings unowned 60 0 0 [] old_cut old-batch unowned old_chip NotedPassed.as_left m j new_sets a x r noted_chip old-noted (owner_of_plan set_point)
    note_folded (NotedPassed.folded NotedPassed.as_left refl note-finished) s h

-- ---- on a page chip, whose marks name the plan

-- a run with the sets until Q-3 on 96 bytes that is cut behind 7 steps, when the output is given; the save takes two pages
abbrev page_trial : Trial
page_trial = trial_on 96 16 (owner_of_plan set_point) old_sets 7

unfoldable pub page_cut : System
page_cut = crashed (ran set_point set_point_readings (begun page_trial) (request page_trial)) (spoiled [])

page-list : History set_point set_point_readings 16 (owner_of_plan set_point) 96 0 (Erased 96) (λ w. w ≡ old_sets) page_cut
unfolding computing old_sets page_cut
page-list = crashed_run (beginning page_trial refl) refl (request page_trial) refl tt (spoiled [])

unfoldable pub page_chip : List ℕ
page_chip = page_cut.machine.journal

unfoldable pub page_noted : List ℕ
page_noted = sets page_chip 8 letters

pub page-noted : Noted 16 (owner_of_plan set_point) set_point page_chip page_noted
unfolding computing old_sets page_cut page_chip page_noted
page-noted =
    let save = save_both (owner_of_plan set_point) 5 0 1 0 in
    value-noted 16 (owner_of_plan set_point) page_chip [] (shape-whole (shape-by (facts_of (format_for 16 (owner_of_plan set_point)) set_point) page_chip (save ∷ []) save 0 refl) trimmed-nil)

-- the list that goes on with it
unfoldable pub page_begun : System
page_begun = begun_on 16 page_cut.tally.committed page_noted note_save

unfoldable pub page_done : System
page_done = ran set_point set_point_readings page_begun (request (trial_on 96 16 (owner_of_plan set_point) new_sets 1000))

page-begun : Onward 16 page_cut.tally.committed page_noted page_begun
unfolding computing old_sets new_sets page_cut page_chip page_noted page_begun
page-begun =
    begun-on 16 page_cut.tally.committed page_noted note_save
    (shape-by (facts_of (format_for 16 (owner_of_plan set_point)) set_point) page_noted (note_save ∷ []) note_save 0 refl) refl refl

pub page-onward : Onward 16 page_cut.tally.committed page_noted page_done
unfolding computing old_sets new_sets page_cut page_chip page_noted page_begun page_done
page-onward = runs page-begun refl (request (trial_on 96 16 (owner_of_plan set_point) new_sets 1000)) (inl new-found) tt

-- one output before the cut, and both behind the note; the next save stands on the pages behind the noted one
pub page-facts : (page_cut.outputs ≡ output 0 (pos 5) ∷ [])
    × (get_or page_begun.machine.cells 1 0 ≡ note_value)
    × (page_done.outputs ≡ output 0 (pos 5) ∷ output 1 (pos 7) ∷ [])
    × (take 32 page_done.machine.journal ≡ padded (format_for 16 (owner_of_plan set_point)) note_save)
    × (take 32 (drop 32 page_done.machine.journal) ≡ padded (format_for 16 (owner_of_plan set_point)) (save_one (owner_of_plan set_point) 7 2 1))
unfolding computing old_sets new_sets page_cut page_chip page_noted page_begun page_done
page-facts = (refl, refl, refl, refl, refl)

pub page-claim : BatchClaim set_point set_point_readings 16 (owner_of_plan set_point) (length page_noted) page_cut.tally.committed (EitherSets set_point) ([] ++ page_cut.outputs) (max 0 page_cut.tally.highest) page_done
unfolding page_chip
page-claim =
    noted-batches 16 set_point set-point-plan set_point_readings (owner_of_plan set_point) (length page_noted) page_cut.tally.committed (max 0 page_cut.tally.highest) ([] ++ page_cut.outputs) page_done
    (NotedBatch.onward (NotedBatch.begins (inl refl) (widens old-words page-list)) (owner_of_plan set_point) page_noted (NotedPassed.noted NotedPassed.as_left page-noted) page-onward)
