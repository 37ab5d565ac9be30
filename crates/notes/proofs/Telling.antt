-- Whether a note may stand at a place, from what the parts of `spent` find: a bit of the dead sets (`dead-told`), and the one record whose value stands there (`place-told`).
-- Assumes nothing.
use Prim.Native.Nat.{ℕ, ◌+◌, ◌-◌, ◌*◌, ◌/◌, ◌%◌, ◌≤◌, ◌<◌}
use mathlib.Core.Path.{◌≡◌, sym, ◌∙◌, ap, subst}
use mathlib.Core.Bool.{Bool, true, false}
use mathlib.Core.List.{List, ◌++◌, append_assoc}
use mathlib.Core.Logic.{◌⊎◌, inl, inr}
use native.Mathlib.Omega.{arith}
use Rattle.std.proofs.Common.{Option, None, Some}
use lib.ListN.{length, get_or, take, drop, replicate, length-append}
use lib.Dec.{eqb}
use borrow.Author.Tests.{eq-eqb, ne_eqb}
use Rattle.cellset.specs.Bits.{has, member}
use Rattle.cellset.proofs.Bits.{bit-cases}
use Rattle.cellset.proofs.Sets.{has-load}
use Rattle.instruction.specs.Bytes.{cells_of}
use Rattle.program.specs.Places.{is_start, after_checkpoint}
use Rattle.program.proofs.Accepted.{accepted}
use Rattle.program.proofs.AfterLaws.{checkpoint-before}
use Rattle.graph.specs.Tables.{count_of, start_of}
use Rattle.analysis.specs.Paths.{Live, Dead}
use Rattle.analysis.specs.Analyse.{DeadSets, analyse_of, Analyses}
use Rattle.analysis.specs.Analyse.{Analysed}
use Rattle.journal.specs.declared.Commit.{Commit}
use Rattle.journal.specs.Format.{Format, kind_of, format_of, format_for, Saved, Checkpoint, images}
use Rattle.journal.specs.Reading.{Facts, facts_of, Once, Rising, last_of}
use Rattle.journal.specs.Parts.{Decides}
use Rattle.journal.proofs.Back.{one-reading}
use Rattle.step.specs.Ready.{Legal}
use Rattle.notes.specs.Notes.{RecordAt, ValueAt, last_checkpoint, NotePlace, CellAt, ReadTo}
use Rattle.notes.proofs.Noting.{last-place}
use Rattle.notes.proofs.Finding.{records-end}

-- ---- dead cells

-- the dead sets of an accepted program
found : {p d₀ s₀ d s : List ℕ} {a : Analysed} → Legal p → length d₀ ≡ 2048 → length s₀ ≡ 512 → Analyses p d₀ s₀ d s a → DeadSets p d₀ d
unfolding analyse_of
found {p} legal m n h =
    (h.filled legal.cells legal.instructions legal.excludes (h.answer ∙ rw (legal.accepted, m, n))).0

pub dead-size : {p d₀ s₀ d s : List ℕ} {a : Analysed} → Legal p → length d₀ ≡ 2048 → length s₀ ≡ 512 → Analyses p d₀ s₀ d s a → length d ≡ 2048
dead-size legal m n h = (found legal m n h).size ∙ m

bit-told : {P : Type 0} (b : ℕ) {r : Bool} → (b ≡ 0) ⊎ (b ≡ 1) → r ≡ eqb b 1 → (b ≡ 1 → P) → (b ≡ 0 → ¬ P) → Decides P r
bit-told {P} b (inl z) e is not_is = subst (Decides P) (sym (e ∙ ne_eqb b 1 (λ y. omega arith))) (not_is z)
bit-told {P} b (inr z) e is not_is = subst (Decides P) (sym (e ∙ eq-eqb b 1 z)) (is z)

pub dead-told : {p d₀ s₀ d s : List ℕ} {a : Analysed} {number o cell : ℕ} {words : List ℕ} {r : Bool} → Legal p → length d₀ ≡ 2048 → length s₀ ≡ 512 → Analyses p d₀ s₀ d s a
    → number < count_of p → start_of p number ≡ o → cell < 256 → cell < cells_of p → words ≡ take 4 (drop (4 * number) d) → r ≡ eqb (has words cell) 1 → Decides (Dead p cell o) r
dead-told {p} {d = d} {number = number} {o} {cell} {words} legal m n h l e few small w t =
    let g = found legal m n h in
    let b = member d (4 * number) cell in
    let same : has words cell ≡ b = ap (λ (ws : List ℕ). has ws cell) w ∙ has-load d (4 * number) cell few in
    bit-told b (bit-cases (get_or d (4 * number + cell / 64) 0) (cell % 64)) (t ∙ ap (λ (x : ℕ). eqb x 1) same) (λ z. subst (Dead p cell) e (g.dead number cell l few z))
    (λ z k. k.unread (subst (Live p cell) e (g.live number cell l small z)))

-- ---- the record

-- a record's value lies behind the place where the records begin, and before the one where they end
record-lies : {c at from : ℕ} {rs : List Saved} → RecordAt c at from rs → (from + 2 ≤ at) × (at < from + 6 * length rs)
record-lies (RecordAt.here e a) = (omega arith, omega arith)
record-lies (RecordAt.later v) = let h = record-lies v in (omega (arith, h), omega (arith, h))

value-lies : {G : Format} {c at from : ℕ} {js : List Checkpoint} → ValueAt G c at from js → from + 2 ≤ at
value-lies (ValueAt.within v) = (record-lies v).0
value-lies (ValueAt.behind v) = omega (arith, value-lies v)

-- one record's value stands at a place
record-one : {c d at from : ℕ} {rs : List Saved} → RecordAt c at from rs → RecordAt d at from rs → c ≡ d
record-one (RecordAt.here e a) (RecordAt.here f b) = e ∙ sym f
record-one (RecordAt.here e a) (RecordAt.later w) = absurd (omega (arith, record-lies w))
record-one (RecordAt.later v) (RecordAt.here f b) = absurd (omega (arith, record-lies v))
record-one (RecordAt.later v) (RecordAt.later w) = record-one v w

value-one : {G : Format} {c d at from : ℕ} {js : List Checkpoint} → ValueAt G c at from js → ValueAt G d at from js → c ≡ d
value-one (ValueAt.within v) (ValueAt.within w) = record-one v w
value-one {G} (ValueAt.within {s = s} v) (ValueAt.behind w) = absurd (omega (arith, record-lies v, value-lies w, records-end G s))
value-one {G} (ValueAt.behind {s = s} v) (ValueAt.within w) = absurd (omega (arith, record-lies w, value-lies v, records-end G s))
value-one (ValueAt.behind v) (ValueAt.behind w) = value-one v w

-- its cell exists
record-exists : {n c at from : ℕ} {rs : List Saved} → Once n rs → RecordAt c at from rs → c < n
record-exists Once.none r = elim r [ ]
record-exists (Once.one small fit a o) (RecordAt.here e b) = omega arith
record-exists {from = from} (Once.one small fit a o) (RecordAt.later v) = record-exists {from = from + 6} o v

value-exists : (F : Facts) {G : Format} {b : Commit} {c at from : ℕ} {js : List Checkpoint} → Rising F b js → ValueAt G c at from js → c < F.cells
value-exists F Rising.none v = elim v [ ]
value-exists F (Rising.one h r) (ValueAt.within v) = record-exists h.once v
value-exists F (Rising.one h r) (ValueAt.behind v) = value-exists F r v

-- where there is one, the last save has the offset after a CHECKPOINT
value-place : {F : Facts} {G : Format} {b : Commit} {c at from : ℕ} {js : List Checkpoint} → Rising F b js → ValueAt G c at from js → F.place (last_of b js).place ≡ true
unfolding last_of
value-place Rising.none v = elim v [ ]
value-place (Rising.one h r) v = last-place h.after.place_is r

-- ---- the place

module _ {page owner : ℕ} {p chip : List ℕ} {end place : ℕ} (t : ReadTo page owner p chip end place) where
  -- what a walk over the whole saves needs
  pub bytes_of : (chip ≡ images (format_for page owner) t.taken.saves ++ (t.taken.rest ++ replicate t.taken.reading.erased 0xFF))
      × (end ≡ length (images (format_for page owner) t.taken.saves)) × (end ≤ length chip)
  bytes_of =
      let r = t.taken.reading in
      let b = r.bytes ∙ append_assoc (images (format_for page owner) t.taken.saves) t.taken.rest _ in
      (b, t.taken.end_is, omega (arith, t.taken.end_is, ap length b, length-append (images (format_for page owner) t.taken.saves) (t.taken.rest ++ replicate r.erased 0xFF)))

  -- what the walk finds
  pub cell-found : {kind : ℕ} (at : ℕ) (cell : Option ℕ) → kind ≡ kind_of owner
      → ((o : ℕ) (saves : List Checkpoint) (rest : List ℕ) → chip ≡ images (format_of page kind o) saves ++ rest → end ≡ length (images (format_of page kind o) saves)
      → CellAt (format_of page kind o) saves at cell) → CellAt (format_for page owner) t.taken.saves at cell
  cell-found {kind} at cell e f =
      let g : (saves : List Checkpoint) (rest : List ℕ) → chip ≡ images (format_for page owner) saves ++ rest → end ≡ length (images (format_for page owner) saves)
      → CellAt (format_for page owner) saves at cell =
      subst (λ (k : ℕ). (saves : List Checkpoint) (rest : List ℕ) → chip ≡ images (format_of page k owner) saves ++ rest → end ≡ length (images (format_of page k owner) saves)
      → CellAt (format_of page k owner) saves at cell) e (f owner) in
      g _ _ bytes_of.0 bytes_of.1

  module _ {at : ℕ} where
    -- no record's value stands there
    pub none_told : CellAt (format_for page owner) t.taken.saves at None → ¬ NotePlace page owner p chip at
    none_told none n = none n.cell (subst (ValueAt (format_for page owner) n.cell at 0) (one-reading n.reading t.taken.reading).0 n.stands)

    -- a record's does
    module _ {cell : ℕ} (v : CellAt (format_for page owner) t.taken.saves at (Some cell)) where
      pub cell-exists : cell < cells_of p
      cell-exists = value-exists (facts_of (format_for page owner) p) t.taken.reading.sound v

      -- the CHECKPOINT of the last save is an instruction
      pub checkpoint-starts : Legal p → (1 ≤ place) × (is_start p (place - 1) ≡ true)
      checkpoint-starts legal =
          let a : after_checkpoint p place ≡ true =
          subst (λ (o : ℕ). after_checkpoint p o ≡ true) (sym (t.place_is ∙ ap (λ (c : Commit). c.place) t.taken.last_is)) (value-place t.taken.reading.sound v) in
          let b = checkpoint-before p (accepted p (sym legal.accepted)) place a in
          let e : b.0 ≡ place - 1 = omega (arith, b.3) in
          (omega (arith, b.3), subst (λ (o : ℕ). is_start p o ≡ true) e b.1)

      place_same : place - 1 ≡ last_checkpoint t.taken.saves
      place_same = ap (λ (o : ℕ). o - 1) (t.place_is ∙ ap (λ (c : Commit). c.place) t.taken.last_is)

      -- so its cell decides
      pub place-told : (r : Bool) → Decides (Dead p cell (place - 1)) r → Decides (NotePlace page owner p chip at) r
      place-told true d = record {
        saves = t.taken.saves;
        rest = t.taken.rest;
        reading = t.taken.reading;
        cell = cell;
        stands = v;
        dead = subst (Dead p cell) place_same d;
      }
      place-told false d = λ n.
          let e = (one-reading n.reading t.taken.reading).0 in
          let c : n.cell ≡ cell = value-one (subst (ValueAt (format_for page owner) n.cell at 0) e n.stands) v in
          let o : last_checkpoint n.saves ≡ place - 1 = ap last_checkpoint e ∙ sym place_same in
          d (subst (Dead p cell) o (subst (λ (x : ℕ). Dead p x (last_checkpoint n.saves)) c n.dead))
