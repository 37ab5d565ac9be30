-- A chip of the engine's shape with a note has that shape again, with the same commits and the same saved values of the cells that are live behind the last save (`noted-kept`), and
-- the same places for notes (`places-stay`): of any page length, with marks of either kind.
-- Assumes nothing.
use Prim.Native.Nat.{ℕ, ◌+◌, ◌-◌, ◌^◌, ◌<◌}
use mathlib.Core.Path.{◌≡◌, refl, sym, ◌∙◌, ap, subst}
use mathlib.Core.Bool.{Bool, true, cond, ◌&&◌}
use mathlib.Core.List.{List, [], ◌∷◌, ◌++◌, append_assoc}
use native.Mathlib.Omega.{arith}
use lib.ListN.{length, get_or, replicate, length-append}
use lib.Seq.{sets}
use lib.Dec.{eqb}
use borrow.Author.Tests.{eq-eqb, ne_eqb}
use Rattle.word.specs.Bytes.{bytes_of, number_of}
use Rattle.word.proofs.Bytes.{length-bytes, bytes-number, number_lt}
use Rattle.instruction.specs.Bytes.{byte, length_of, instruction_at_of}
use Rattle.instruction.specs.Table.{access, must_def_of, successors}
use Rattle.program.specs.Starts.{among}
use Rattle.program.specs.Places.{after_checkpoint}
use Rattle.program.proofs.Accepted.{accepted}
use Rattle.program.proofs.AfterLaws.{checkpoint-before}
use Rattle.analysis.specs.Paths.{Follows, Live, later, Dead}
use Rattle.journal.specs.declared.Commit.{Commit}
use Rattle.journal.specs.Format.{Format, format_for, fill_of, filled_of, Saved, Checkpoint, record_image, commit_image, records_image, image, padded, images}
use Rattle.journal.specs.Reading.{Facts, facts_of, first, Absent, Once, Rising, last_of, own_all, saved_in, saved_value}
use Rattle.journal.specs.Shape.{Cut, Shape}
use Rattle.journal.proofs.Storing.{over}
use Rattle.journal.proofs.Written.{padded-length, records-append, records-length}
use Rattle.journal.proofs.Back.{shape-reads, read-shape}
use Rattle.step.specs.Ready.{Legal}
use Rattle.notes.specs.Notes.{RecordAt, ValueAt, last_checkpoint, NotePlace, Noted}

-- ---- records and saves with notes

-- records of which some, of spent cells, have another value
data NotedRecords (S : ℕ → Type 0) : List Saved → List Saved → Type 0 where
  none : NotedRecords S [] []
  same : {r : Saved} {rs rs' : List Saved} → NotedRecords S rs rs' → NotedRecords S (r ∷ rs) (r ∷ rs')
  changed : {r : Saved} {rs rs' : List Saved} → S r.cell → (v : ℕ) → v < 2 ^ 32 → NotedRecords S rs rs'
      → NotedRecords S (r ∷ rs) (record { cell = r.cell; value = v } ∷ rs')

-- saves with such records; their commits are the same
data NotedSaves (S : ℕ → Type 0) : List Checkpoint → List Checkpoint → Type 0 where
  none : NotedSaves S [] []
  save : {s : Checkpoint} {rs : List Saved} {js js' : List Checkpoint} → NotedRecords S s.records rs → NotedSaves S js js'
      → NotedSaves S (s ∷ js) (record { records = rs; commit = s.commit } ∷ js')

-- with none
records-same : {S : ℕ → Type 0} (rs : List Saved) → NotedRecords S rs rs
records-same [] = NotedRecords.none
records-same (r ∷ rs) = NotedRecords.same (records-same rs)

saves-same : {S : ℕ → Type 0} (js : List Checkpoint) → NotedSaves S js js
saves-same [] = NotedSaves.none
saves-same (s ∷ js) = NotedSaves.save (records-same s.records) (saves-same js)

-- as many records, of the same cells
notes-length : {S : ℕ → Type 0} {rs rs' : List Saved} → NotedRecords S rs rs' → length rs' ≡ length rs
notes-length NotedRecords.none = refl
notes-length (NotedRecords.same t) = omega (arith, notes-length t)
notes-length (NotedRecords.changed d v l t) = omega (arith, notes-length t)

notes-absent : {S : ℕ → Type 0} {rs rs' : List Saved} → NotedRecords S rs rs' → (c : ℕ) → Absent c rs → Absent c rs'
notes-absent NotedRecords.none c a = a
notes-absent (NotedRecords.same t) c (Absent.other n a) = Absent.other n (notes-absent t c a)
notes-absent (NotedRecords.changed d v l t) c (Absent.other n a) = Absent.other n (notes-absent t c a)

notes-once : {S : ℕ → Type 0} {n : ℕ} {rs rs' : List Saved} → NotedRecords S rs rs' → Once n rs → Once n rs'
notes-once NotedRecords.none o = o
notes-once (NotedRecords.same {r} t) (Once.one cell value absent more) = Once.one cell value (notes-absent t r.cell absent) (notes-once t more)
notes-once (NotedRecords.changed {r} d v l t) (Once.one cell value absent more) = Once.one cell l (notes-absent t r.cell absent) (notes-once t more)

notes-rising : {S : ℕ → Type 0} {F : Facts} {b : Commit} {js js' : List Checkpoint} → NotedSaves S js js' → Rising F b js → Rising F b js'
notes-rising NotedSaves.none r = Rising.none
notes-rising (NotedSaves.save t ts) (Rising.one sound more) = Rising.one (record { once = notes-once t sound.once; after = sound.after }) (notes-rising ts more)

notes-last : {S : ℕ → Type 0} {js js' : List Checkpoint} → NotedSaves S js js' → (b : Commit) → last_of b js' ≡ last_of b js
unfolding last_of
notes-last NotedSaves.none b = refl
notes-last (NotedSaves.save {s} t ts) b = notes-last ts s.commit

notes-own : {S : ℕ → Type 0} {js js' : List Checkpoint} → NotedSaves S js js' → (o : ℕ) → own_all o js' ≡ own_all o js
unfolding own_all
notes-own NotedSaves.none o = refl
notes-own (NotedSaves.save {s} t ts) o = ap (λ (b : Bool). eqb s.commit.owner o && b) (notes-own ts o)

-- a cell that is not spent keeps its value
notes-in : {S : ℕ → Type 0} {rs rs' : List Saved} → NotedRecords S rs rs' → (c : ℕ) → ¬ S c → (v : ℕ) → saved_in c rs' v ≡ saved_in c rs v
unfolding saved_in
notes-in NotedRecords.none c n v = refl
notes-in (NotedRecords.same {r} t) c n v = notes-in t c n (cond (eqb c r.cell) r.value v)
notes-in {S} (NotedRecords.changed {r} d w l t) c n v =
    let e : eqb c r.cell ≡ Bool.false = ne_eqb c r.cell (λ (i : c ≡ r.cell). n (subst S (sym i) d)) in
    rw e (notes-in t c n v)

notes-value : {S : ℕ → Type 0} {js js' : List Checkpoint} → NotedSaves S js js' → (c : ℕ) → ¬ S c → (v : ℕ) → saved_value c js' v ≡ saved_value c js v
unfolding saved_value
notes-value NotedSaves.none c n v = refl
notes-value (NotedSaves.save {s} {rs} {js} {js'} t ts) c n v =
    ap (λ (x : ℕ). saved_value c js' x) (notes-in t c n v) ∙ notes-value ts c n (saved_in c s.records v)

-- ---- the CHECKPOINT of the last whole save

-- a CHECKPOINT goes to the next offset, and writes no cell
checkpoint-next : (p : List ℕ) (o : ℕ) → byte p o ≡ 0x0E → Follows p o (o + 1)
unfolding successors length_of among instruction_at_of
checkpoint-next p o k = rw (k, eq-eqb (o + 1) (o + 1) refl)

checkpoint-must : (p : List ℕ) (o c : ℕ) → byte p o ≡ 0x0E → must_def_of (instruction_at_of p o) c ≡ 0
unfolding instruction_at_of access
checkpoint-must p o c k = rw k

-- so a cell that is live behind it is live at it
live_at : {p : List ℕ} → Legal p → (t o c : ℕ) → after_checkpoint p t ≡ true → o ≡ t - 1 → Live p c t → Live p c o
live_at {p} l t o c a e v =
    let b = checkpoint-before p (accepted p (sym l.accepted)) t a in
    let i : b.0 ≡ o = omega (arith, b.3) in
    subst (Live p c) i (later (checkpoint-must p b.0 c b.2) (checkpoint-next p b.0 b.2) (subst (Live p c) b.3 v))

-- where there is a save the last commit's place is one behind a CHECKPOINT
pub last-place : {F : Facts} {b : Commit} {js : List Checkpoint} → F.place b.place ≡ true → Rising F b js → F.place (last_of b js).place ≡ true
unfolding last_of
last-place h Rising.none = h
last-place h (Rising.one sound more) = last-place sound.after.place_is more

-- so a cell that is live there is not spent
not-spent : {G : Format} {p : List ℕ} → Legal p → {b : Commit} {s : Checkpoint} {js : List Checkpoint} → Rising (facts_of G p) b (s ∷ js) → (c : ℕ)
    → Live p c (last_of first (s ∷ js)).place → ¬ Dead p c (last_checkpoint (s ∷ js))
unfolding last_of
not-spent l {s = s} {js = js} (Rising.one sound more) c v d =
    d.unread (live_at l (last_of s.commit js).place (last_checkpoint (s ∷ js)) c (last-place sound.after.place_is more) (omega arith) v)

-- ---- the bytes of a note

-- records that stand from `from` on, with a note at `at`: whatever stands before and behind them
record RecordsWith (S : ℕ → Type 0) (at : ℕ) (note : List ℕ) (from : ℕ) (rs : List Saved) : Type 0 where
  pub noted : List Saved
  pub notes : NotedRecords S rs noted
  pub bytes : (u m : List ℕ) → length u ≡ from → sets (u ++ records_image rs m) at note ≡ u ++ records_image noted m

-- saves
record SavesWith (S : ℕ → Type 0) (G : Format) (at : ℕ) (note : List ℕ) (from : ℕ) (js : List Checkpoint) : Type 0 where
  pub noted : List Checkpoint
  pub notes : NotedSaves S js noted
  pub bytes : (u x : List ℕ) → length u ≡ from → sets (u ++ (images G js ++ x)) at note ≡ u ++ (images G noted ++ x)

-- a save's records, and what stands behind them
save-behind : (G : Format) (s : Checkpoint) (m x : List ℕ)
    → padded G s ++ m ++ x ≡ records_image s.records (commit_image G s.commit ++ (replicate (fill_of G.page (length (image G s))) 0xFF ++ (m ++ x)))
unfolding padded image
save-behind G s m x =
    let c = commit_image G s.commit in
    let f : List ℕ = replicate (fill_of G.page (length (image G s))) 0xFF in
    append_assoc (image G s ++ f) m x ∙ append_assoc (image G s) f (m ++ x) ∙ records-append s.records c (f ++ (m ++ x))

-- as many records have as many bytes
image-same : (G : Format) (s : Checkpoint) (rs : List Saved) → length rs ≡ length s.records → length (image G (record { records = rs; commit = s.commit })) ≡ length (image G s)
unfolding image
image-same G s rs e =
    let c = commit_image G s.commit in
    omega (arith, records-length rs c, records-length s.records c)

-- four bytes are the value of a number
note-is : (note : List ℕ) → length note ≡ 4 → ((k : ℕ) → get_or note k 0 < 256) → bytes_of 4 (number_of note) ≡ note
note-is note n h = rw n at (bytes-number note h)

note-fits : (note : List ℕ) → length note ≡ 4 → ((k : ℕ) → get_or note k 0 < 256) → number_of note < 2 ^ 32
note-fits note n h = omega (arith, n, rw n at (number_lt note h))

module _ (note : List ℕ) (four : length note ≡ 4) (few : (k : ℕ) → get_or note k 0 < 256) where
  -- a note in the first record
  first-noted : (r : Saved) (rs : List Saved) (from at : ℕ) → at ≡ from + 2 → (u m : List ℕ) → length u ≡ from
      → sets (u ++ records_image (r ∷ rs) m) at note ≡ u ++ records_image (record { cell = r.cell; value = number_of note } ∷ rs) m
  unfolding records_image
  first-noted r rs from at e u m i =
      let lead : List ℕ = 0xA1 ∷ r.cell ∷ [] in
      let old = bytes_of 4 r.value in
      let t = records_image rs m in
      let k : length (u ++ lead) ≡ at = omega (arith, length-append u lead) in
      ap (λ (l : List ℕ). sets l at note) (sym (append_assoc u lead (old ++ t)) ∙ sym (append_assoc (u ++ lead) old t))
      ∙ over (u ++ lead) old note t at (length-bytes 4 r.value ∙ sym four) k
      ∙ append_assoc (u ++ lead) note t
      ∙ append_assoc u lead (note ++ t)
      ∙ ap (λ (l : List ℕ). u ++ (lead ++ (l ++ t))) (sym (note-is note four few))

  module _ (S : ℕ → Type 0) {c at : ℕ} (spent : S c) where
    records-noted : {from : ℕ} {rs : List Saved} → RecordAt c at from rs → RecordsWith S at note from rs
    unfolding records_image
    records-noted (RecordAt.here {from} {r} {rs} i e) =
        record {
          noted = record { cell = r.cell; value = number_of note } ∷ rs;
          notes = NotedRecords.changed (subst S i spent) (number_of note) (note-fits note four few) (records-same rs);
          bytes = first-noted r rs from at (omega (arith, e));
        }
    records-noted (RecordAt.later {from} {r} {rs} h) =
        let w = records-noted h in
        record {
          noted = r ∷ w.noted;
          notes = NotedRecords.same w.notes;
          bytes = λ u m i.
              let j : length (u ++ record_image r) ≡ from + 6 = omega (arith, length-append u (record_image r), length-bytes 4 r.value) in
              ap (λ (l : List ℕ). sets l at note) (sym (append_assoc u (record_image r) (records_image rs m)))
              ∙ w.bytes (u ++ record_image r) m j
              ∙ append_assoc u (record_image r) (records_image w.noted m);
        }

    saves-noted : {G : Format} {from : ℕ} {js : List Checkpoint} → ValueAt G c at from js → SavesWith S G at note from js
    unfolding images
    saves-noted {G} (ValueAt.within {from} {s} {js} h) =
        let w = records-noted h in
        let s' : Checkpoint = record { records = w.noted; commit = s.commit } in
        record {
          noted = s' ∷ js;
          notes = NotedSaves.save w.notes (saves-same js);
          bytes = λ u x i.
              ap (λ (l : List ℕ). sets (u ++ l) at note) (save-behind G s (images G js) x)
              ∙ w.bytes u _ i
              ∙ ap (λ (n : ℕ). u ++ records_image w.noted (commit_image G s.commit ++ (replicate n 0xFF ++ (images G js ++ x)))) (ap (fill_of G.page) (sym (image-same G s w.noted (notes-length w.notes))))
              ∙ sym (ap (λ (l : List ℕ). u ++ l) (save-behind G s' (images G js) x));
        }
    saves-noted {G} (ValueAt.behind {from} {s} {js} h) =
        let w = saves-noted h in
        let b = padded G s in
        record {
          noted = s ∷ w.noted;
          notes = NotedSaves.save (records-same s.records) w.notes;
          bytes = λ u x i.
              ap (λ (l : List ℕ). sets l at note) (ap (λ (l : List ℕ). u ++ l) (append_assoc b (images G js) x) ∙ sym (append_assoc u b (images G js ++ x)))
              ∙ w.bytes (u ++ b) x (length-append u b ∙ ap (λ (n : ℕ). n + length b) i)
              ∙ append_assoc u b (images G w.noted ++ x)
              ∙ ap (λ (l : List ℕ). u ++ l) (sym (append_assoc b (images G w.noted) x));
        }

-- ---- the places of notes

-- each record stands where it stood
notes-record : {S : ℕ → Type 0} {rs rs' : List Saved} → NotedRecords S rs rs' → {c at from : ℕ} → RecordAt c at from rs → RecordAt c at from rs'
notes-record NotedRecords.none r = elim r [ ]
notes-record (NotedRecords.same t) (RecordAt.here i e) = RecordAt.here i e
notes-record (NotedRecords.same t) (RecordAt.later h) = RecordAt.later (notes-record t h)
notes-record (NotedRecords.changed d v l t) (RecordAt.here i e) = RecordAt.here i e
notes-record (NotedRecords.changed d v l t) (RecordAt.later h) = RecordAt.later (notes-record t h)

-- and each save
save-length : (G : Format) (s : Checkpoint) (rs : List Saved) → length rs ≡ length s.records → length (padded G (record { records = rs; commit = s.commit })) ≡ length (padded G s)
save-length G s rs e = padded-length G (record { records = rs; commit = s.commit }) ∙ ap (filled_of G.page) (image-same G s rs e) ∙ sym (padded-length G s)

notes-stand : {S : ℕ → Type 0} {G : Format} {js js' : List Checkpoint} → NotedSaves S js js' → {c at from : ℕ} → ValueAt G c at from js → ValueAt G c at from js'
notes-stand NotedSaves.none v = elim v [ ]
notes-stand (NotedSaves.save t ts) (ValueAt.within h) = ValueAt.within (notes-record t h)
notes-stand {G = G} (NotedSaves.save {s} {rs} {js} {js'} t ts) {c} {at} {from} (ValueAt.behind h) =
    ValueAt.behind (subst (λ (n : ℕ). ValueAt G c at (from + n) js') (sym (save-length G s rs (notes-length t))) (notes-stand ts h))

-- ---- the chip

-- what stands on the chip l, that was a chip of the saves js: saves with the same commits, the same values of the cells that are live behind the last, and each record where it stood
pub record Kept (F : Facts) (p : List ℕ) (js : List Checkpoint) (l : List ℕ) : Type 0 where
  pub noted : List Checkpoint
  pub torn : List ℕ
  pub shape : Shape F l noted torn
  pub last : last_of first noted ≡ last_of first js
  pub own : (owner : ℕ) → own_all owner noted ≡ own_all owner js
  pub values : (c : ℕ) → Live p c (last_of first js).place → saved_value c noted 0 ≡ saved_value c js 0
  pub places : (c at : ℕ) → ValueAt F.format c at 0 js → ValueAt F.format c at 0 noted

-- the saved value of a cell that is live behind the last save
live-value : {G : Format} {p : List ℕ} → Legal p → {b : Commit} {js js' : List Checkpoint} → NotedSaves (λ c. Dead p c (last_checkpoint js)) js js' → Rising (facts_of G p) b js → (c : ℕ)
    → Live p c (last_of first js).place → saved_value c js' 0 ≡ saved_value c js 0
live-value legal NotedSaves.none r c v = refl
live-value legal (NotedSaves.save t ts) r c v = notes-value (NotedSaves.save t ts) c (not-spent legal r c v) 0

-- A CHIP WITH A NOTE HAS THE SHAPE THAT IT HAD WITHOUT
pub noted-kept : {page owner : ℕ} {p chip l q : List ℕ} {js : List Checkpoint} → Legal p → Shape (facts_of (format_for page owner) p) chip js q → Noted page owner p chip l
    → Kept (facts_of (format_for page owner) p) p js l
noted-kept {page} {owner} {p} {chip} {l} {q} {js} legal shape n =
    let F = facts_of (format_for page owner) p in
    let G = format_for page owner in
    let place = n.place in
    let g = read-shape shape place.reading in
    let at = n.at in
    let note = n.note in
    let S : ℕ → Type 0 = λ c. Dead p c (last_checkpoint js) in
    let dead = subst (λ (x : List Checkpoint). Dead p place.cell (last_checkpoint x)) g.0 place.dead in
    let stands = subst (ValueAt G place.cell at 0) g.0 place.stands in
    let w = saves-noted note (omega (arith, n.four)) n.bytes S dead stands in
    let t = place.rest ++ replicate g.1.free 0xFF in
    let e = notes-last w.notes first in
    record {
      noted = w.noted;
      torn = place.rest;
      shape =
          record {
            free = g.1.free;
            rising = notes-rising w.notes g.1.rising;
            cut = subst (λ (x : Commit). Cut F x place.rest) (sym e) g.1.cut;
            bytes =
                n.is
                ∙ ap (λ (x : List ℕ). sets x at note) (g.1.bytes ∙ append_assoc (images G js) place.rest _)
                ∙ w.bytes [] t refl
                ∙ sym (append_assoc (images G w.noted) place.rest _);
          };
      last = e;
      own = notes-own w.notes;
      values = live-value legal w.notes g.1.rising;
      places = λ c at v. notes-stand w.notes v;
    }

-- so a place at which a note may stand stays one when another is written: a desk that has listed the places of a chip may write them all
pub places-stay : {page owner : ℕ} {p chip l q : List ℕ} {js : List Checkpoint} → Legal p → Shape (facts_of (format_for page owner) p) chip js q → Noted page owner p chip l → (at : ℕ)
    → NotePlace page owner p chip at → NotePlace page owner p l at
places-stay {page} {owner} {p} {js = js} legal shape n at place =
    let G = format_for page owner in
    let k = noted-kept legal shape n in
    let r = shape-reads k.shape in
    let e = (read-shape shape place.reading).0 in
    let same : last_checkpoint place.saves ≡ last_checkpoint k.noted = ap last_checkpoint e ∙ ap (λ (c : Commit). c.place - 1) (sym k.last) in
    record {
      saves = k.noted;
      rest = r.left;
      reading = r.reading;
      cell = place.cell;
      stands = k.places place.cell at (subst (ValueAt G place.cell at 0) e place.stands);
      dead = subst (Dead p place.cell) same place.dead;
    }
