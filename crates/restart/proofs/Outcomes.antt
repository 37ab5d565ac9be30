-- What recovery makes of a journal that has the engine's shape, whatever the words: it has an outcome (`outcome-some`), which is known where the torn bytes do not
-- end in FF (`outcome-is`), and each outcome is a state made of the journal's checkpoints (`outcome-made`).
-- Assumes nothing.
use Prim.Native.Nat.{ℕ, ◌≤◌, ◌<◌}
use mathlib.Core.Path.{◌≡◌, refl, sym, ◌∙◌, ap}
use mathlib.Core.Bool.{true, false, cond}
use mathlib.Core.List.{List}
use native.Mathlib.Nat.{zero-add}
use native.Mathlib.Omega.{arith}
use lib.ListN.{length, get_or, replicate, length-append, length-replicate}
use lib.Dec.{eqb}
use borrow.Author.Tests.{eqb-true, eqb-false}
use Rattle.program.proofs.Tests.{bool_cases, clash}
use Rattle.journal.specs.Scanned.{BadLength, Damaged, Found}
use Rattle.journal.specs.Format.{Checkpoint, format_for, filled_of, chip_length, images}
use Rattle.journal.specs.Reading.{Facts, facts_of, first, last_of, own_all, saved_value}
use Rattle.journal.specs.Answer.{Taken}
use Rattle.journal.specs.Shape.{Shape}
use Rattle.journal.proofs.Torn.{Trimmed}
use Rattle.journal.proofs.Back.{one-reading, shape-whole, shape-reads, read-shape, read_back, not_damaged}
use Rattle.step.specs.State.{Env, Machine, machine_of}
use Rattle.recovery.specs.Recover as recovery
use Rattle.recovery.specs.Recover.{regs_of, marks_by_of, Outcome, outcome, recover_of, Recovers, refuses, reads}
use Rattle.recovery.specs.Recover.{Restored, Refused}
use Rattle.restart.proofs.Lists.{zeros-at}
use Rattle.step.proofs.Tables.{tabulated, tabulated-length, tabulated-at}

-- the refusal of recovery with so many bytes of chip that are not damaged, 0 if there is none: its tests, and then the chip's length
abbrev pub refusal_of : Env → (page len : ℕ) → ℕ
refusal_of e page len = cond (eqb (recovery.refusal_of e) 0) (cond (chip_length page len) 0 11) (recovery.refusal_of e)

-- where there is none, the chip is read, and has a length that a chip may have
accepted-chip : (e : Env) (page len : ℕ) → refusal_of e page len ≡ 0 → (recovery.refusal_of e ≡ 0) × (chip_length page len ≡ true)
accepted-chip e page len h =
    bool_cases (eqb (recovery.refusal_of e) 0)
    (λ a. bool_cases (chip_length page len)
    (λ b. (eqb-true _ _ a, b))
    (λ b. let z : ◌≡◌ {A = ℕ} 11 0 = rw (a, b) at h in absurd (omega arith)))
    (λ a. absurd (eqb-false _ _ a (rw a at h)))

-- the values are those saved
pub record Values (js : List Checkpoint) (values : List ℕ) : Type 0 where
  pub size : length values ≡ 256
  pub values_are : (c : ℕ) → c < 256 → get_or values c 0 ≡ saved_value c js 0

-- there are such values
unfoldable pub values_of : List Checkpoint → List ℕ
values_of js = tabulated (λ c. saved_value c js 0) 0 256

pub values-some : (js : List Checkpoint) → Values js (values_of js)
unfolding values_of
values-some js =
    let f : ℕ → ℕ = λ c. saved_value c js 0 in
    record { size = tabulated-length f 0 256; values_are = λ c h. tabulated-at f 0 256 c h ∙ ap f (zero-add c) }

-- what recovery makes of checkpoints, of values, and of as many bytes to erase
abbrev pub state_of : Env → (page owner : ℕ) → List Checkpoint → (torn : ℕ) → (values chip : List ℕ) → Machine
state_of e page owner js torn values chip =
    machine_of (regs_of (length (images (format_for page owner) js)) torn (last_of first js) page owner) values (marks_by_of e (last_of first js).exclude) chip

-- the outcome is such a state; the chip has the shape with the torn bytes that were found, no more than q
pub record Made (e : Env) (page owner : ℕ) (chip : List ℕ) (js : List Checkpoint) (q : List ℕ) (r : Outcome) : Type 0 where
  pub rest : List ℕ
  pub less : length rest ≤ length q
  pub shape : Shape (facts_of (format_for page owner) e.program) chip js rest
  pub values : List ℕ
  pub saved : Values js values
  pub is : r ≡ outcome Restored (state_of e page owner js (filled_of page (length rest)) values chip)

module _ (e : Env) (page owner : ℕ) (m : Machine) (js : List Checkpoint) (own : own_all owner js ≡ true) where
  abbrev F : Facts
  F = facts_of (format_for page owner) e.program

  -- where the torn bytes do not end in FF, it is so with all of them
  pub outcome-is : (q : List ℕ) → Shape F m.journal js q → refusal_of e page (length m.journal) ≡ 0 → Trimmed q → (v : List ℕ) → Values js v
      → Recovers e page owner m (outcome Restored (state_of e page owner js (filled_of page (length q)) v m.journal))
  unfolding recover_of
  outcome-is q shape accepted t v s =
      let taken : Taken F m.journal (length (images (format_for page owner) js)) (filled_of page (length q)) (last_of first js) true v =
      record {
        saves = js;
        rest = q;
        reading = shape-whole shape t;
        accepted = (read_back shape (shape-whole shape t)).1;
        end_is = refl;
        torn_is = refl;
        last_is = refl;
        own_is = sym own;
        cells = s.size;
        values_are = s.values_are;
      } in
      let chip = accepted-chip e page (length m.journal) accepted in
      reads chip.0 (Found (length (images (format_for page owner) js)) (filled_of page (length q)) (last_of first js) true) v (chip.1, taken) 0
      (λ z. let y : ◌≡◌ {A = ℕ} 0 1 = cc in absurd (omega arith)) refl

  module _ (q : List ℕ) (shape : Shape F m.journal js q) (accepted : refusal_of e page (length m.journal) ≡ 0) where
    -- there is an outcome
    pub outcome-some : (r : Outcome) × Recovers e page owner m r
    outcome-some =
        let t = (shape-reads shape).reading in
        (_, outcome-is _ (read-shape shape t).1 accepted t.trimmed (values_of js) (values-some js))

    -- each is accepted, and is such a state
    pub outcome-made : (r : Outcome) → Recovers e page owner m r → Made e page owner m.journal js q r
    unfolding recover_of
    outcome-made r (refuses n z l is) = absurd (omega (arith, (accepted-chip e page (length m.journal) accepted).0))
    outcome-made r (reads z BadLength values s n o is) = clash _ (accepted-chip e page (length m.journal) accepted).1 s.0
    outcome-made r (reads z Damaged values s n o is) = absurd (not_damaged shape s.1)
    outcome-made r (reads z (Found end torn last own') values (most, s) n older is) =
        let g = read-shape shape s.reading in
        let x : end ≡ length (images (format_for page owner) js) = s.end_is ∙ ap (λ (l : List Checkpoint). length (images (format_for page owner) l)) g.0 in
        let y : last ≡ last_of first js = s.last_is ∙ ap (last_of first) g.0 in
        let w : own' ≡ true = s.own_is ∙ ap (own_all owner) g.0 ∙ own in
        let t = shape-reads shape in
        let o = one-reading s.reading t.reading in
        record {
          rest = s.rest;
          less = omega (arith, ap length o.1, ap length t.bytes, length-append t.left (replicate t.cut 0xFF));
          shape = g.1;
          values = values;
          saved = record { size = s.cells; values_are = λ c h. s.values_are c h ∙ ap (λ (l : List Checkpoint). saved_value c l 0) g.0 };
          is = is
              ∙ (λ i. cond (w i) (outcome Restored (machine_of (regs_of (x i) (s.torn_is i) (y i) page owner) values (marks_by_of e (y i).exclude) m.journal))
              (outcome (Refused 16) m));
        }

-- ---- a length that no chip has

module _ (e : Env) (page owner : ℕ) (m : Machine) (read : recovery.refusal_of e ≡ 0) (other : chip_length page (length m.journal) ≡ false) where
  -- there is an outcome
  pub refused-length : (r : Outcome) × Recovers e page owner m r
  unfolding recover_of
  refused-length = (_, reads read BadLength (replicate 256 0) (other, record { cells = length-replicate {A = ℕ} 256 0; values_are = λ c. zeros-at 256 c }) 0 (λ z. let y : ◌≡◌ {A = ℕ} 0 1 = cc in absurd (omega arith)) refl)

  -- each is 11
  pub refused-11 : (r : Outcome) → Recovers e page owner m r → r.answer ≡ Refused 11
  unfolding recover_of
  refused-11 r (refuses n z l is) = absurd (omega (arith, read))
  refused-11 r (reads z BadLength values s n o is) = ap (λ (o : Outcome). o.answer) is
  refused-11 r (reads z Damaged values s n o is) = clash _ s.0 other
  refused-11 r (reads z (Found end torn last own) values s n o is) = clash _ s.0 other
