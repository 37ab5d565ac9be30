-- Lists that follow one another, computed, so that Q-3 speaks of something; their marks are those of document 01. A plan keeps a set point in a table of one cell. A list with the sets until Q-3 saves that cell and
-- is cut inside its second save; the list that goes on with the chip under today's sets takes the first save up, erases the torn bytes, gives the output again and the next
-- one, and saves without the cell (`old-facts`, `new-facts`, `set-point-claim`).
-- Assumes nothing.
use Prim.Native.Nat.{ℕ, zero, suc, ◌+◌, ◌*◌, ◌/◌, ◌%◌, ◌<◌}
use mathlib.Core.Path.{◌≡◌, refl, sym, ◌∙◌, ap, subst}
use mathlib.Core.Bool.{true, false, not, ◌||◌}
use mathlib.Core.List.{List, [], ◌∷◌, ◌++◌}
use mathlib.Core.Logic.{inr}
use native.Mathlib.Omega.{arith}
use lib.IntN.{ℤ, pos}
use lib.ListN.{length, take, drop, replicate, length-replicate}
use lib.Dec.{eqb}
use borrow.Author.Tests.{eqb-true}
use Rattle.cellset.specs.Bits.{bit, member}
use Rattle.cellset.proofs.Bits.{bit-of-zero}
use Rattle.instruction.specs.Bytes.{byte}
use Rattle.program.specs.Starts.{starts}
use Rattle.program.specs.Places.{is_start, is_exclude, exclude_number}
use Rattle.program.proofs.Tests.{clash, or_cases, and_both}
use Rattle.analysis.specs.Paths.{LiveBy, reads, later, Region, first, onward, LiveSaveBy, live_at, Written}
use Rattle.analysis.specs.Rows as rows
use Rattle.analysis.proofs.Table.{row-holds}
use Rattle.analysis.proofs.Certificates.{all-at}
use Rattle.analysis.proofs.Computed.{analyses-by}
use Rattle.journal.specs.Format.{Checkpoint, unowned, format_for, image}
use Rattle.journal.specs.Reading.{facts_of}
use Rattle.journal.proofs.Torn.{Trimmed, trimmed-snoc}
use Rattle.step.specs.State.{env_of}
use Rattle.restart.specs.History.{System, unused, crashed, ran, History, begins, recovers, runs, crashed_run}
use Rattle.restart.specs.Claim.{Plan, Found, Erased}
use Rattle.restart.specs.Rows.{Trial}
use Rattle.restart.proofs.Outcomes.{values_of, values-some, outcome-is}
use Rattle.restart.proofs.Lists.{zeros-at}
use Rattle.restart.proofs.Computing.{computing}
use Rattle.restart.proofs.Shaped.{shape-by}
use Rattle.restart.proofs.Examples.{plan-by, in_four, spoiled, tally_of, output, recovered, begun, request, beginning}
use Rattle.batch.specs.Until.{must_until, FoundBy}
use Rattle.batch.specs.Batch.{BatchClaim}
use Rattle.batch.proofs.Theorem.{q_3}

-- ---- the plan

-- READ 0, EXCLUDE, CHECKPOINT, PUT 1 1 0 0, EMIT 1, JUMP 1, with two cells
abbrev pub set_point : List ℕ
set_point = 0x01 ∷ 0x07 ∷ 0 ∷ 0x0D ∷ 0x0E ∷ 0x0C ∷ 1 ∷ 1 ∷ 0 ∷ 0 ∷ 0x08 ∷ 1 ∷ 0x09 ∷ 1 ∷ 0 ∷ []

pub set-point-plan : Plan set_point
unfolding computing
set-point-plan = plan-by set_point refl refl

-- cell 1 is dead at the CHECKPOINT, and was live there until Q-3
pub now-dead : rows.Holds (rows.row set_point (rows.dead_before 4) (1 ∷ []))
unfolding computing
now-dead = row-holds (rows.row set_point (rows.dead_before 4) (1 ∷ [])) refl

pub was-live : LiveBy must_until set_point 1 4
unfolding computing
was-live = later {q = 5} refl refl (later {q = 10} refl refl (reads refl))

-- ---- its sets

-- those that analyse finds: DE is cell 1, RO is empty
unfoldable pub new_sets : List ℕ
new_sets = 2 ∷ 0 ∷ 0 ∷ 0 ∷ 0 ∷ 0 ∷ 0 ∷ 0 ∷ replicate 504 0

new_dead : List ℕ
new_dead = in_four (3 ∷ 2 ∷ 2 ∷ 2 ∷ 1 ∷ 3 ∷ []) ++ replicate 2024 0

pub new-found : Found set_point new_sets
unfolding computing new_sets new_dead
new-found = record {
  lent = new_sets;
  dead_lent = new_dead;
  dead = new_dead;
  cells = 2;
  instructions = 6;
  excludes = 1;
  analyses = analyses-by set_point new_dead new_sets refl refl;
}

-- those found until Q-3: DE is empty too
unfoldable pub old_sets : List ℕ
old_sets = replicate 512 0

old-length : length old_sets ≡ 512
unfolding old_sets
old-length = length-replicate {A = ℕ} 512 0

-- no word of them has a bit
old-none : (at c : ℕ) → member old_sets at c ≡ 0
unfolding old_sets
old-none at c = ap (λ (x : ℕ). bit x (c % 64)) (zeros-at 512 (at + c / 64)) ∙ bit-of-zero (c % 64)

-- its one EXCLUDE stands at 3
one-exclude : (e : ℕ) → is_exclude set_point e ≡ true → e ≡ 3
unfolding computing
one-exclude e h =
    let b = and_both (is_start set_point e) (eqb (byte set_point e) 0x0D) h in
    let t : not (eqb (byte set_point e) 0x0D) || eqb e 3 ≡ true = all-at (λ o. not (eqb (byte set_point o) 0x0D) || eqb o 3) (starts set_point) e refl b.0 in
    or_cases (not (eqb (byte set_point e) 0x0D)) (eqb e 3) t (λ n. clash false (rw b.1 at n) refl) (λ _ t. eqb-true _ _ t)

-- in its region stands the CHECKPOINT
saves-there : Region set_point 3 4
unfolding computing
saves-there = first refl

-- cell 0 and cell 1 are live there by 01's rule
live-until : (c : ℕ) → c < 2 → LiveBy must_until set_point c 4
unfolding computing
live-until zero l = later {q = 5} refl refl (reads refl)
live-until (suc zero) l = was-live
live-until (suc (suc c)) l = absurd (omega arith)

-- and an instruction of the region writes either
written-there : (c : ℕ) → c < 2 → Written set_point 3 c
unfolding computing
written-there zero l =
    let put = onward {o = 4} {q = 5} saves-there (λ e. omega arith) refl in
    let jump = onward {o = 10} {q = 12} (onward {o = 5} {q = 10} put (λ e. omega arith) refl) (λ e. omega arith) refl in
    record { place = 1; within = onward {o = 12} jump (λ e. omega arith) refl; writes = refl }
written-there (suc zero) l = record { place = 5; within = onward {o = 4} saves-there (λ e. omega arith) refl; writes = refl }
written-there (suc (suc c)) l = absurd (omega arith)

pub old-found : FoundBy must_until set_point old_sets
old-found = record {
  lent = old_sets;
  enough = omega (arith, old-length);
  sets =
      record {
        size = refl;
        de = λ e c is l b. absurd (omega (arith, old-none (8 * exclude_number set_point e) c, b));
        no_de = λ e c is l b. subst (λ (x : ℕ). LiveSaveBy must_until set_point x c) (sym (one-exclude e is)) (live_at 4 saves-there refl (live-until c l));
        ro = λ e c is l b. absurd (omega (arith, old-none (8 * exclude_number set_point e + 4) c, b));
        no_ro = λ e c is l b. subst (λ (x : ℕ). Written set_point x c) (sym (one-exclude e is)) (written-there c l);
        rest = λ k l. refl;
      };
}

-- ---- the old list

-- on a chip of so many bytes, with such pages, whose marks name the owner, the readings 5 and 7, and places enough
abbrev pub trial_on : (chip page owner : ℕ) (words : List ℕ) (budget : ℕ) → Trial
trial_on chip page owner words budget =
    record { program = set_point; words = words; chip = chip; page = page; owner = owner; readings = pos 5 ∷ pos 7 ∷ []; budget = budget; places = replicate 4 (pos 0) }

-- a byte chip of 60 bytes
abbrev pub trial_with : (owner : ℕ) (words : List ℕ) (budget : ℕ) → Trial
trial_with owner words budget = trial_on 60 1 owner words budget

abbrev pub set_point_readings : List ℤ
set_point_readings = (trial_with unowned old_sets 0).readings

-- the checkpoint of both cells, and that of cell 0 alone
abbrev pub save_both : (owner value point readings outputs : ℕ) → Checkpoint
save_both owner v w n m =
    record {
      records = record { cell = 0; value = v } ∷ record { cell = 1; value = w } ∷ [];
      commit = record { place = 5; exclude = 3; readings = n; outputs = m; owner = owner };
    }

abbrev pub save_one : (owner value readings outputs : ℕ) → Checkpoint
save_one owner v n m =
    record { records = record { cell = 0; value = v } ∷ []; commit = record { place = 5; exclude = 3; readings = n; outputs = m; owner = owner } }

-- a run that is cut behind 45 steps, when 10 bytes of its second save are stored; the state is lost
unfoldable pub old_cut : System
old_cut = crashed (ran set_point set_point_readings (begun (trial_with unowned old_sets 45)) (request (trial_with unowned old_sets 45))) (spoiled [])

pub old-list : History set_point set_point_readings 1 unowned 60 0 (Erased 60) (λ w. w ≡ old_sets) old_cut
unfolding computing old_sets old_cut
old-list = crashed_run (beginning (trial_with unowned old_sets 45) refl) refl (request (trial_with unowned old_sets 45)) refl tt (spoiled [])

-- of 8 commands executed 3 are committed, one output is given, and both saves have the set point
pub old-facts : (old_cut.tally ≡ tally_of 8 3 8)
    × (old_cut.outputs ≡ output 0 (pos 5) ∷ [])
    × (take 26 old_cut.machine.journal ≡ image (format_for 1 unowned) (save_both unowned 5 0 1 0))
    × (take 10 (drop 26 old_cut.machine.journal) ≡ take 10 (image (format_for 1 unowned) (save_both unowned 7 5 2 1)))
    × (drop 36 old_cut.machine.journal ≡ replicate 24 0xFF)
unfolding computing old_sets old_cut
old-facts = (refl, refl, refl, refl, refl)

-- ---- the list that goes on

-- a recovery under today's sets, which finds the first save and 10 torn bytes
unfoldable pub new_begun : System
new_begun = recovered (trial_with unowned new_sets 1000) (unused old_cut.tally.committed (spoiled old_cut.machine.journal)) (save_both unowned 5 0 1 0 ∷ []) 10

-- and a run that takes the reading that is left
unfoldable pub new_done : System
new_done = ran set_point set_point_readings new_begun (request (trial_with unowned new_sets 1000))

-- the torn bytes do not end in FF
pub torn-trimmed : Trimmed (take 10 (image (format_for 1 unowned) (save_both unowned 7 5 2 1)))
unfolding computing
torn-trimmed = trimmed-snoc (take 9 (image (format_for 1 unowned) (save_both unowned 7 5 2 1))) 0 (λ e. omega arith)

-- the lists that go on with the old chip
abbrev Onward : System → Type 0
Onward = History set_point set_point_readings 1 unowned 60 old_cut.tally.committed (λ l. l ≡ old_cut.machine.journal) (λ w. w ≡ new_sets)

old-size : length old_cut.machine.journal ≡ 60
unfolding computing old_sets old_cut
old-size = refl

new-begun : Onward new_begun
unfolding computing old_sets new_sets old_cut new_begun
new-begun =
    let chip = old_cut.machine.journal in
    let shape = shape-by (facts_of (format_for 1 unowned) set_point) chip (save_both unowned 5 0 1 0 ∷ []) (save_both unowned 7 5 2 1) 10 refl in
    recovers (begins (spoiled chip) old-size refl) new_sets refl _
    (outcome-is (env_of set_point new_sets) 1 unowned (spoiled chip) (save_both unowned 5 0 1 0 ∷ []) refl (take 10 (image (format_for 1 unowned) (save_both unowned 7 5 2 1))) shape refl torn-trimmed
    (values_of (save_both unowned 5 0 1 0 ∷ [])) (values-some (save_both unowned 5 0 1 0 ∷ [])))
    refl

pub new-list : Onward new_done
unfolding computing old_sets new_sets old_cut new_begun new_done
new-list = runs new-begun refl (request (trial_with unowned new_sets 1000)) refl tt

-- the output is given again, with the next one, and the save behind the old one leaves the set point out
pub new-facts : (new_begun.machine.regs.erase ≡ 10)
    × (new_done.tally ≡ tally_of 12 9 12)
    × (new_done.outputs ≡ output 0 (pos 5) ∷ output 1 (pos 7) ∷ [])
    × (take 20 (drop 26 new_done.machine.journal) ≡ image (format_for 1 unowned) (save_one unowned 7 2 1))
    × (drop 46 new_done.machine.journal ≡ replicate 14 0xFF)
unfolding computing old_sets new_sets old_cut new_begun new_done
new-facts = (refl, refl, refl, refl, refl)

-- Q-3 of both lists: together they give 5 and 7, as the uncut run does
pub set-point-claim : BatchClaim set_point set_point_readings 1 unowned 60 old_cut.tally.committed (λ w. w ≡ new_sets) old_cut.outputs old_cut.tally.highest new_done
set-point-claim = q_3 1 set_point set-point-plan unowned (inr refl) set_point_readings 60 old_sets new_sets old-found new-found old_cut old-list new_done new-list
