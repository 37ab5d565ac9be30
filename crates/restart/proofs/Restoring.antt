-- What recovery makes of a journal that can be taken up: it is accepted, and its state is where the last whole checkpoint was made.
-- Assumes nothing.
use Prim.Native.Nat.{ℕ, ◌+◌, ◌-◌, ◌*◌, ◌^◌, ◌≤◌, ◌<◌}
use mathlib.Core.Path.{◌≡◌, refl, sym, ◌∙◌, ap, subst}
use mathlib.Core.Bool.{true, false}
use mathlib.Core.List.{List}
use mathlib.Core.Logic.{⊎_elim}
use native.Mathlib.Omega.{arith}
use lib.IntN.{ℤ}
use lib.ListN.{length, get_or, get_or-eq_default}
use lib.Dec.{eqb}
use borrow.Author.Tests.{le-ltb}
use Rattle.cellset.proofs.Bits.{le-or-lt}
use Rattle.instruction.specs.Bytes.{cells_of}
use Rattle.program.specs.Places.{exclude_number}
use Rattle.program.proofs.Tests.{bool_cases, clash}
use Rattle.marks.specs.Marks.{recovered_marks}
use Rattle.marks.proofs.Laws.{recovered-out, recovered-length, recovered-small}
use Rattle.journal.specs.declared.Commit.{Commit}
use Rattle.journal.specs.Scanned.{BadLength, Damaged, Found}
use Rattle.journal.specs.Format.{Checkpoint, format_for, filled_of, chip_length, images}
use Rattle.journal.specs.Reading.{Facts, facts_of, first, Rising, last_of, own_all, saved_value}
use Rattle.journal.specs.Shape.{Shape}
use Rattle.journal.proofs.Paging.{ChipLength, chip-length, whole_sub, fill-whole, fill-least}
use Rattle.journal.proofs.Decoding.{images-whole}
use Rattle.journal.proofs.Storing.{shape-length}
use Rattle.journal.proofs.Back.{read-shape, not_damaged}
use Rattle.step.specs.State.{env_of, Machine}
use Rattle.step.specs.Ready.{Good}
use Rattle.step.proofs.Facts.{facts-sound, zero-from, marks-from}
use Rattle.recovery.specs.Recover as recovery
use Rattle.recovery.specs.Recover.{included, marks_by_of, Outcome, recover_of, Recovers}
use Rattle.recovery.specs.Recover.{Restored, Refused}
use Rattle.recovery.proofs.Laws.{restored-apart, restored-size}
use Rattle.restart.specs.Reference.{Frame, ref_at}
use Rattle.restart.specs.History.{Tally, set_back}
use Rattle.restart.specs.Claim.{Plan, Safe, Resumes, Owned}
use Rattle.restart.proofs.Lists.{included-zero, included-length}
use Rattle.restart.proofs.Outcomes as outcomes
use Rattle.restart.proofs.Outcomes.{refusal_of, Values, state_of, outcome-made}
use Rattle.restart.proofs.Invariant.{Small, idle, Inv}
use Rattle.journal.proofs.Saves.{last_has, saved-has}
use Rattle.restart.proofs.Commits.{last-exclude, last-start}
use Rattle.restart.proofs.Leaving.{held-restored}

-- ---- what recovered states are made of

-- what the marks of an EXCLUDE have, and those of none, recovery's marks have
marks-by : (P : List ℕ → Type 0) (p words : List ℕ) (x : ℕ) → P included → ((at : ℕ) → P (recovered_marks words at (cells_of p) included))
    → P (marks_by_of (env_of p words) x)
unfolding marks_by_of
marks-by P p words x h f = bool_cases (eqb x 0) (λ t. rw t h) (λ t. rw t (f (8 * exclude_number p x)))

module _ (p words : List ℕ) (x : ℕ) where
  -- there are 256
  pub marks-length : length (marks_by_of (env_of p words) x) ≡ 256
  marks-length =
      marks-by (λ (l : List ℕ). length l ≡ 256) p words x included-length (λ at. recovered-length words at (cells_of p) included ∙ included-length)

  -- they are marks
  marks_small : (c : ℕ) → get_or (marks_by_of (env_of p words) x) c 0 ≤ 3
  marks_small c =
      let none : (c : ℕ) → get_or included c 0 ≤ 3 = λ c. omega (arith, included-zero c) in
      marks-by (λ (l : List ℕ). get_or l c 0 ≤ 3) p words x (none c) (λ at. recovered-small words at (cells_of p) included none c)

  -- and those of cells that do not exist are Include
  marks-out : (c : ℕ) → cells_of p ≤ c → get_or (marks_by_of (env_of p words) x) c 0 ≡ 0
  marks-out c h =
      marks-by (λ (l : List ℕ). get_or l c 0 ≡ 0) p words x (included-zero c)
      (λ at. recovered-out words at (cells_of p) included c h ∙ included-zero c)

-- the checkpoints and the pages with what follows them fit the journal
shape-fits : {F : Facts} {chip : List ℕ} {js : List Checkpoint} {q : List ℕ} → ChipLength F.format.page (length chip) → Shape F chip js q
    → length (images F.format js) + filled_of F.format.page (length q) ≤ length chip
shape-fits {F} {chip} {js = js} {q = q} w s =
    let L = F.format.page in
    let i = images F.format js in
    let l = shape-length s in
    let f = fill-least L (length q) (length chip - length i) w.some (omega arith)
    (whole_sub L (length chip) (length i) w.whole (images-whole F.format w.some js)) in
    omega (arith, f, l)

-- a saved value is a pattern of 32 bits
saved-small : {F : Facts} {js : List Checkpoint} (c : ℕ) → Rising F first js → saved_value c js 0 < 2 ^ 32
saved-small c r = saved-has c (λ (v : ℕ). v < 2 ^ 32) (λ s cell value e. value) r 0 (omega arith)

-- that of a cell that does not exist is 0
saved-out : {F : Facts} {js : List Checkpoint} (c : ℕ) → F.cells ≤ c → Rising F first js → saved_value c js 0 ≡ 0
saved-out c h r = saved-has c (λ (v : ℕ). v ≡ 0) (λ s cell value e. absurd (omega arith)) r 0 refl

-- ---- the state

module _ (p words : List ℕ) (plan : Plan p) (safe : Safe p words) (page owner : ℕ) (chip : List ℕ) (js : List Checkpoint) (q : List ℕ)
    (shape : Shape (facts_of (format_for page owner) p) chip js q) (owned : Owned owner js) (values : List ℕ) (saved : Values js values) where
  abbrev state : Machine
  state = state_of (env_of p words) page owner js (filled_of page (length q)) values chip

  -- values and counts are small
  state-small : Small state
  state-small = record {
    values =
        λ c. ⊎_elim
        (λ (h : 256 ≤ c). omega (arith, get_or-eq_default values 0 {n = c} (omega (arith, saved.size))))
        (λ (h : c < 256). rw (saved.values_are c h) (saved-small c shape.rising))
        (le-or-lt 256 c);
    readings = last_has (λ (c : Commit). c.readings < 2 ^ 32) (λ b c a. a.readings_fit) (omega arith) shape.rising;
    outputs = last_has (λ (c : Commit). c.outputs < 2 ^ 32) (λ b c a. a.outputs_fit) (omega arith) shape.rising;
  }

  -- it is sound
  state-good : ChipLength page (length chip) → Good p state
  state-good w =
      let x = (last_of first js).exclude in
      record {
        sound =
            facts-sound {p = p} (record {
              stop_small = omega arith;
              marks_small = marks-from _ 0 256 (λ j a b. marks_small p words x j);
              stands = last-start p plan.legal shape.rising;
              exclude_is = last-exclude p shape.rising;
              cells_clear_of =
                  zero-from values (cells_of p) _ (λ j a b. saved.values_are j (omega (arith, plan.bytes 0)) ∙ saved-out j a shape.rising);
              marks_clear_of = zero-from _ (cells_of p) _ (λ j a b. marks-out p words x j a);
              fits = shape-fits w shape;
              paged = record {
                some = w.some;
                few = w.few;
                write = images-whole (format_for page owner) w.some js;
                erase = fill-whole page (length q) w.some;
              };
              saves = λ s. absurd (omega arith);
            });
        most = w.most;
        whole = w.whole;
        cells = saved.size;
        marks = marks-length p words x;
      }

  -- it is at the tally of the last whole checkpoint
  state-inv : (ρ : List ℤ) (f₀ : Frame) (n : ℕ) (t : Tally) → Resumes p js (ref_at p ρ f₀ t.committed) → t.committed ≤ t.highest → length chip ≡ n
      → ChipLength page (length chip) → Inv p ρ f₀ n state (set_back t) 0
  state-inv ρ f₀ n t h c l w = record {
    saves = js;
    held =
        held-restored p ρ f₀ plan words safe js t.committed shape.rising h values saved.size saved.values_are (length (images (format_for page owner) js)) (filled_of page (length q)) page owner chip;
    phase = idle q shape refl refl (omega arith);
    owned = owned;
    good = state-good w;
    small = state-small;
    size = l;
    order = omega arith;
    high = c;
    paid = omega (arith, shape-fits w shape);
  }

-- ---- the outcome

module _ (p words : List ℕ) (plan : Plan p) (safe : Safe p words) (page owner : ℕ) (m : Machine) (js : List Checkpoint) (q : List ℕ)
    (shape : Shape (facts_of (format_for page owner) p) m.journal js q) (owned : Owned owner js) where
  -- the journal is read
  read : recovery.refusal_of (env_of p words) ≡ 0
  unfolding recovery.refusal_of
  read = rw (plan.legal.accepted, le-ltb (length words) 512 safe.enough)

  -- and not refused if a chip may have its length
  readable : chip_length page (length m.journal) ≡ true → refusal_of (env_of p words) page (length m.journal) ≡ 0
  readable h = rw (read, h)

  -- there is an outcome
  pub outcome-some : chip_length page (length m.journal) ≡ true → (r : Outcome) × Recovers (env_of p words) page owner m r
  outcome-some h = outcomes.outcome-some (env_of p words) page owner m js owned.all q shape (readable h)

  -- each is accepted
  pub outcome-restored : chip_length page (length m.journal) ≡ true → (r : Outcome) → Recovers (env_of p words) page owner m r → r.answer ≡ Restored
  outcome-restored h r x = ap (λ (o : Outcome). o.answer) (outcome-made (env_of p words) page owner m js owned.all q shape (readable h) r x).is

  -- and on no length is the journal damaged, or one with marks that name another owner
  pub outcome-sound : (r : Outcome) → Recovers (env_of p words) page owner m r → (k : ℕ) → 12 ≤ k → ¬ (r.answer ≡ Refused k)
  unfolding recover_of
  outcome-sound r (Recovers.refuses n z l e) k h d = omega (arith, read)
  outcome-sound r (Recovers.reads z BadLength values s n o e) k h d =
      let y : Refused 11 ≡ Refused k = sym (ap (λ (o : Outcome). o.answer) e) ∙ d in
      let x : 11 ≡ k = cc in
      omega arith
  outcome-sound r (Recovers.reads z Damaged values s n o e) k h d = not_damaged shape s.1
  outcome-sound r (Recovers.reads z (Found end torn last true) values s n o e) k h d = restored-apart (ap (λ (o : Outcome). o.answer) e) d
  outcome-sound r (Recovers.reads z (Found end torn last false) values s n o e) k h d =
      clash _ (ap (own_all owner) (read-shape shape s.1.reading).0 ∙ owned.all) (sym s.1.own_is)

  -- an accepted one is at the tally of the last whole checkpoint
  pub restored-inv : (ρ : List ℤ) (f₀ : Frame) (n : ℕ) (t : Tally) → Resumes p js (ref_at p ρ f₀ t.committed) → t.committed ≤ t.highest
      → length m.journal ≡ n → (r : Outcome) → Recovers (env_of p words) page owner m r → r.answer ≡ Restored → Inv p ρ f₀ n r.machine (set_back t) 0
  restored-inv ρ f₀ n t h c l r x a =
      let size = restored-size (env_of p words) page owner m r x a in
      let g = outcome-made (env_of p words) page owner m js owned.all q shape (readable size) r x in
      subst (λ (o : Outcome). Inv p ρ f₀ n o.machine (set_back t) 0) (sym g.is)
      (state-inv p words plan safe page owner m.journal js g.rest g.shape owned g.values g.saved ρ f₀ n t h c l (chip-length _ _ size))
