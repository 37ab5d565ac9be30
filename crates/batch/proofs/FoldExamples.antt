-- A chip that is folded, and a list that goes on with it, computed, so that Q-6 and Q-8 speak of something: the chip that the old list of `Examples` left, with one whole save,
-- whose mark is `A2`, and 10 torn bytes, is folded onto 48 bytes, with a cut after 7 and a refused call behind it (`fold-list`, `fold-facts`); the list that goes on with it gives the
-- output again and the next one, and its save, whose mark is `A3` as that of the folded one, fits the new chip (`onward-facts`, `folded-claim`).
-- Assumes nothing.
use Prim.Native.Nat.{ℕ, max}
use mathlib.Core.Path.{◌≡◌, refl, subst, sym}
use mathlib.Core.Bool.{true, false}
use mathlib.Core.List.{List, [], ◌∷◌, ◌++◌, cons-ne-nil}
use mathlib.Core.Logic.{inl, inr, ⊎_elim}
use native.Mathlib.Omega.{arith}
use lib.IntN.{pos}
use lib.ListN.{length, take, replicate}
use Rattle.journal.specs.declared.Commit.{Commit}
use Rattle.journal.specs.Format.{Checkpoint, unowned, owner_of_plan, format_for, filled_of, image}
use Rattle.journal.specs.Reading.{facts_of, Damaged, own_all}
use Rattle.journal.specs.Answer.{Taken}
use Rattle.journal.specs.Shape.{Shape}
use Rattle.journal.proofs.Torn.{trimmed-nil}
use Rattle.journal.proofs.Back.{shape-whole, read_back}
use Rattle.journal.proofs.Apart.{other-kind}
use Rattle.step.specs.State.{env_of}
use Rattle.folding.specs.Fold.{Stored, Refused}
use Rattle.folding.specs.Fold as fold
use Rattle.folding.specs.Fold.{byte_chip, byte_facts, Holds, held_from, folded_bytes, fold_steps, outcome, Begun, Puts, Folds}
use Rattle.folding.specs.Lists.{Folding, Finished}
use Rattle.restart.specs.History.{System, unused, ran, History, begins, recovers, runs}
use Rattle.restart.proofs.Outcomes.{refusal_of, values_of, values-some, outcome-is}
use Rattle.restart.proofs.Computing.{computing}
use Rattle.restart.proofs.Shaped.{shape-by}
use Rattle.restart.proofs.Examples.{spoiled, tally_of, output, recovered, request}
use Rattle.batch.specs.Until.{EitherSets}
use Rattle.batch.specs.Batch.{BatchClaim, Passed, Batch}
use Rattle.batch.proofs.Taking.{widens}
use Rattle.batch.proofs.Theorem.{batches}
use Rattle.batch.proofs.Examples.{set_point, set-point-plan, old_sets, old-found, new_sets, new-found, trial_on, trial_with, set_point_readings, save_both, save_one, old_cut, old-list, torn-trimmed}

-- ---- chips with one whole save of both cells, whose mark is `A2`, and 10 torn bytes

abbrev pub old_last : Commit
old_last = (save_both unowned 5 0 1 0).commit

-- whatever the save has of cell 1, they are damaged as chips whose marks name the plan, and hold what the `A2` mark says, with 10 bytes to erase
module _ (chip : List ℕ) (point : ℕ)
    (shape : Shape (byte_facts unowned set_point) chip (save_both unowned 5 point 1 0 ∷ []) (take 10 (image (byte_chip unowned) (save_both unowned 7 5 2 1)))) where
  pub both-taken : Taken (byte_facts unowned set_point) chip 26 10 old_last true (values_of (save_both unowned 5 point 1 0 ∷ []))
  unfolding computing
  both-taken =
      let js = save_both unowned 5 point 1 0 ∷ [] in
      let reading = shape-whole shape torn-trimmed in
      record {
        saves = js;
        rest = take 10 (image (byte_chip unowned) (save_both unowned 7 5 2 1));
        reading = reading;
        accepted = (read_back shape reading).1;
        end_is = refl;
        torn_is = refl;
        last_is = refl;
        own_is = refl;
        cells = (values-some js).size;
        values_are = (values-some js).values_are;
      }

  both-damaged : Damaged (byte_facts (owner_of_plan set_point) set_point) chip
  unfolding computing
  both-damaged =
      ⊎_elim (λ d. d) (λ k. absurd (cons-ne-nil _ _ k.0))
      (other-kind (byte_chip unowned) (byte_chip (owner_of_plan set_point)) set_point (omega arith) (λ (e : ◌≡◌ {A = ℕ} 0 1). omega arith) shape)

  pub both-holds : Holds set_point chip unowned 26 10 old_last (values_of (save_both unowned 5 point 1 0 ∷ []))
  both-holds = Holds.older both-damaged both-taken

-- ---- the old chip

unfoldable pub old_chip : List ℕ
old_chip = old_cut.machine.journal

unfoldable pub old_values : List ℕ
old_values = values_of (save_both unowned 5 0 1 0 ∷ [])

pub old-shape : Shape (byte_facts unowned set_point) old_chip (save_both unowned 5 0 1 0 ∷ []) (take 10 (image (byte_chip unowned) (save_both unowned 7 5 2 1)))
unfolding computing old_sets old_cut old_chip
old-shape = shape-by (byte_facts unowned set_point) old_chip (save_both unowned 5 0 1 0 ∷ []) (save_both unowned 7 5 2 1) 10 refl

-- it reads as the first save, with 10 bytes to erase
pub old-taken : Taken (byte_facts unowned set_point) old_chip 26 10 old_last true old_values
unfolding old_values
old-taken = both-taken old_chip 0 old-shape

pub old-holds : Holds set_point old_chip unowned 26 10 old_last old_values
unfolding old_values
old-holds = both-holds old_chip 0 old-shape

-- ---- its save: cell 1 is 0, so there is one record

pub fold-facts : folded_bytes (owner_of_plan set_point) 26 old_values old_last ≡ image (byte_chip (owner_of_plan set_point)) (save_one (owner_of_plan set_point) 5 1 0)
unfolding computing held_from folded_bytes old_values
fold-facts = refl

-- ---- folded onto 48 bytes

-- what the calls leave: 7 bytes, and all
abbrev cut_chip : List ℕ
cut_chip = 0xA1 ∷ 0 ∷ 5 ∷ 0 ∷ 0 ∷ 0 ∷ 0xA3 ∷ replicate 41 0xFF

unfoldable pub new_chip : List ℕ
new_chip = image (byte_chip (owner_of_plan set_point)) (save_one (owner_of_plan set_point) 5 1 0) ++ replicate 24 0xFF

-- a call that is cut after 7 steps
cut-call : Folds (env_of set_point new_sets) old_chip (replicate 48 0xFF) 0 7 (outcome (Stored 7 false) cut_chip)
unfolding computing held_from folded_bytes fold.refusal_of fold_steps old_sets new_sets old_cut old_chip old_values
cut-call = Folds.reads refl unowned 26 10 old_last old_values old-holds (Puts.stores (record { most = omega arith; free = 48; bytes = refl }) (omega arith) refl)

-- one that is told 25, more than the save has
high-call : Folds (env_of set_point new_sets) old_chip cut_chip 25 100 (outcome (Refused 13) cut_chip)
unfolding computing held_from folded_bytes fold.refusal_of old_sets new_sets old_cut old_chip old_values
high-call = Folds.reads refl unowned 26 10 old_last old_values old-holds (Puts.differs (λ (b : Begun (folded_bytes (owner_of_plan set_point) 26 old_values old_last) 25 cut_chip). omega (arith, b.most)) refl)

-- one that is told 7 stores the other 17
last-call : Folds (env_of set_point new_sets) old_chip cut_chip 7 100 (outcome (Stored 24 true) new_chip)
unfolding computing held_from folded_bytes fold.refusal_of fold_steps old_sets new_sets old_cut old_chip old_values new_chip
last-call = Folds.reads refl unowned 26 10 old_last old_values old-holds (Puts.stores (record { most = omega arith; free = 41; bytes = refl }) (omega arith) refl)

pub fold-list : Folding set_point old_chip 48 cut_chip
fold-list =
    Folding.refused (Folding.cut Folding.blank new_sets 0 100 7 (outcome (Stored 7 false) cut_chip) (omega arith) cut-call) (env_of set_point new_sets) old_chip 25 100
    (outcome (Refused 13) cut_chip) high-call (λ e. omega arith)

pub fold-finished : Finished set_point old_chip new_chip
fold-finished = record { size = 48; before = cut_chip; list = fold-list; words = new_sets; stored = 7; budget = 100; count = 24; call = last-call }

-- ---- lists that go on with a chip of one save, under today's sets

abbrev pub Onward : (page t₀ : ℕ) (chip : List ℕ) → System → Type 0
Onward page t₀ chip = History set_point set_point_readings page (owner_of_plan set_point) (length chip) t₀ (λ l. l ≡ chip) (EitherSets set_point)

-- a recovery finds the save, and nothing torn
module _ (page t₀ : ℕ) (chip : List ℕ) (save : Checkpoint) where
  abbrev pub begun_on : System
  begun_on = recovered (trial_on (length chip) page (owner_of_plan set_point) new_sets 1000) (unused t₀ (spoiled chip)) (save ∷ []) (filled_of page 0)

  pub begun-on : Shape (facts_of (format_for page (owner_of_plan set_point)) set_point) chip (save ∷ []) [] → own_all (owner_of_plan set_point) (save ∷ []) ≡ true
      → refusal_of (env_of set_point new_sets) page (length chip) ≡ 0 → Onward page t₀ chip begun_on
  begun-on shape own z =
      recovers (begins (spoiled chip) refl refl) new_sets (inl new-found) _
      (outcome-is (env_of set_point new_sets) page (owner_of_plan set_point) (spoiled chip) (save ∷ []) own [] shape z trimmed-nil (values_of (save ∷ [])) (values-some (save ∷ [])))
      refl

-- ---- the list that goes on with it

unfoldable pub folded_begun : System
folded_begun = begun_on 1 old_cut.tally.committed new_chip (save_one (owner_of_plan set_point) 5 1 0)

-- and a run takes the reading that is left
unfoldable pub folded_done : System
folded_done = ran set_point set_point_readings folded_begun (request (trial_with (owner_of_plan set_point) new_sets 1000))

folded-begun : Onward 1 old_cut.tally.committed new_chip folded_begun
unfolding computing old_sets new_sets old_cut new_chip folded_begun
folded-begun =
    let save = save_one (owner_of_plan set_point) 5 1 0 in
    begun-on 1 old_cut.tally.committed new_chip save (shape-by (byte_facts (owner_of_plan set_point) set_point) new_chip (save ∷ []) save 0 refl) refl refl

pub folded-list : Onward 1 old_cut.tally.committed new_chip folded_done
unfolding computing old_sets new_sets old_cut new_chip folded_begun folded_done
folded-list = runs folded-begun refl (request (trial_with (owner_of_plan set_point) new_sets 1000)) (inl new-found) tt

-- the output is given again, with the next one, and the next save stands behind the folded one
pub onward-facts : (folded_done.tally ≡ tally_of 12 9 12)
    × (folded_done.outputs ≡ output 0 (pos 5) ∷ output 1 (pos 7) ∷ [])
    × (folded_done.machine.journal ≡ image (byte_chip (owner_of_plan set_point)) (save_one (owner_of_plan set_point) 5 1 0) ++ image (byte_chip (owner_of_plan set_point)) (save_one (owner_of_plan set_point) 7 2 1))
unfolding computing old_sets new_sets old_cut new_chip folded_begun folded_done
onward-facts = (refl, refl, refl)

-- both lists are a batch
pub folded-batch : Batch set_point set_point_readings 1 (EitherSets set_point) (owner_of_plan set_point) (length new_chip) old_cut.tally.committed ([] ++ old_cut.outputs) (max 0 old_cut.tally.highest) folded_done
unfolding old_chip
folded-batch =
    Batch.onward (Batch.begins (inr refl) (widens (λ w e. subst (EitherSets set_point) (sym e) (inr old-found)) old-list)) (owner_of_plan set_point) new_chip (Passed.folded Passed.as_left refl fold-finished) folded-list

-- and together they give 5 and 7, as the uncut run does
pub folded-claim : BatchClaim set_point set_point_readings 1 (owner_of_plan set_point) (length new_chip) old_cut.tally.committed (EitherSets set_point) ([] ++ old_cut.outputs) (max 0 old_cut.tally.highest) folded_done
folded-claim =
    batches 1 set_point set-point-plan set_point_readings (owner_of_plan set_point) (length new_chip) old_cut.tally.committed (max 0 old_cut.tally.highest) ([] ++ old_cut.outputs) folded_done folded-batch
