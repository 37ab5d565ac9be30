-- Bytes that are stored one after the other in a buffer: a record, a commit, and the whole checkpoint as `image_into` fills it in, cell by cell.
-- Assumes nothing.
use Rattle.std.proofs.Common.{◌≡◌, ℕ, zero, suc, ◌+◌, ◌-◌, ◌*◌, ◌<◌, ◌≤◌, Bool, true, false, cond, eqb, List, [], ◌∷◌, ◌++◌, length, get_or, take, drop, set, replicate, sym, refl, ap, ◌∙◌, append_assoc, add-zero, add-one, arith, length-append, drop-drop}
use lib.Seq.{sets, sets-eq}
use lib.ListN.{length-replicate}
use borrow.Rule.Slice.PartMut.{mid_of, put_mid, mid_len}
use Rattle.word.specs.Bytes.{bytes_of, store_of}
use Rattle.word.proofs.Bytes.{length-bytes}
use Rattle.cellset.specs.Bits.{has}
use Rattle.cellset.specs.Members.{members_from, members}
use Rattle.journal.specs.declared.Commit.{Commit}
use Rattle.journal.specs.Format.{Format, owner_width, mark_lead, mark_length, Saved, fill_of, record_image, fields_image, commit_image, records_image, image, padded}
use Rattle.journal.specs.Writing.{records_of, checkpoint_of}
use Rattle.journal.proofs.Decoding.{padded-length}
use Rattle.journal.proofs.Images.{record-length, commit-length}

-- to store bytes, and others from where they end, is to store both
sets_then : (l : List ℕ) (at next : ℕ) (a b : List ℕ) → next ≡ at + length a → sets (sets l at a) next b ≡ sets l at (a ++ b)
sets_then l at next [] b e = rw (e, add-zero at)
sets_then l at next (x ∷ a) b e = sets_then (set l at x) (suc at) next a b (omega arith)

-- ---- a record

pub record-stored : (l : List ℕ) (at cell value : ℕ) {t : List ℕ} → t ≡ store_of 4 (set (set l at 0xA1) (at + 1) cell) (at + 2) value
    → t ≡ sets l at (record_image (record { cell = cell; value = value }))
unfolding store_of
record-stored l at cell value e =
    let two : at + 2 ≡ suc (suc at) = omega arith in
    rw (two, add-one at) at e

-- ---- a commit

-- a number that is stored, and then what follows it
store_then : (n v : ℕ) (l : List ℕ) (at next : ℕ) (rest : List ℕ) {t : List ℕ} → t ≡ store_of n l at v → next ≡ at + n
    → sets t next rest ≡ sets l at (bytes_of n v ++ rest)
unfolding store_of
store_then n v l at next rest e f =
    ap (λ (u : List ℕ). sets u next rest) e ∙ sets_then l at next (bytes_of n v) rest (omega (arith, length-bytes n v))

pub commit-stored : (G : Format) (l : List ℕ) (at : ℕ) (c : Commit) {t u v w x : List ℕ} → t ≡ store_of 2 (set l at (mark_lead G)) (at + 1) c.place
    → u ≡ store_of 2 t (at + 3) c.exclude → v ≡ store_of 4 u (at + 5) c.readings → w ≡ store_of 4 v (at + 9) c.outputs
    → x ≡ sets w (at + 13) (bytes_of (owner_width G) c.owner ++ (0x5A ∷ [])) → x ≡ sets l at (commit_image G c)
unfolding fields_image
commit-stored G l at c {t} {u} {v} {w} d e f g h =
    let end : List ℕ = bytes_of (owner_width G) c.owner ++ (0x5A ∷ []) in
    let outputs : List ℕ = bytes_of 4 c.outputs ++ end in
    let readings : List ℕ = bytes_of 4 c.readings ++ outputs in
    let exclude : List ℕ = bytes_of 2 c.exclude ++ readings in
    let place : List ℕ = bytes_of 2 c.place ++ exclude in
    h
    ∙ store_then 4 c.outputs v (at + 9) (at + 13) end g (omega arith)
    ∙ store_then 4 c.readings u (at + 5) (at + 9) outputs f (omega arith)
    ∙ store_then 2 c.exclude t (at + 3) (at + 5) readings e (omega arith)
    ∙ store_then 2 c.place (set l at (mark_lead G)) (at + 1) (at + 3) exclude d (omega arith)
    ∙ ap (λ (k : ℕ). sets (set l at (mark_lead G)) k place) (add-one at)

-- kind 0 ends there, kind 1 has the owner before its last byte
pub ends-here : (l : List ℕ) (at owner : ℕ) {kind : ℕ} → kind ≡ 0 → set l at 0x5A ≡ sets l at (bytes_of (4 * kind) owner ++ (0x5A ∷ []))
unfolding bytes_of
ends-here l at owner e = rw e

pub ends-owned : (l : List ℕ) (at next owner : ℕ) {kind : ℕ} {t : List ℕ} → kind ≡ 1 → next ≡ at + 4 → t ≡ store_of 4 l at owner
    → set t next 0x5A ≡ sets l at (bytes_of (4 * kind) owner ++ (0x5A ∷ []))
ends-owned l at next owner z n e =
    rw z (store_then 4 owner l at next (0x5A ∷ []) e n)

-- ---- the filling

-- a part of the buffer that is filled with a byte, whatever way its start is written
pub part-filled : (l : List ℕ) (from to v : ℕ) {start : ℕ} {part : List ℕ} → start ≡ from → from ≤ to → to ≤ length l
    → part ≡ replicate (length (mid_of start (to - start) l)) v → put_mid start (to - start) l part ≡ sets l from (replicate (to - from) v)
part-filled l from to v {part = part} s h m e =
    let n = to - from in
    let r : part ≡ replicate n v = rw s at e ∙ ap (λ (k : ℕ). replicate k v) (mid_len from to l m) in
    let k : length (replicate n v) ≡ n = length-replicate n v in
    ap (λ (x : ℕ). put_mid x (to - x) l part) s
    ∙ ap (λ (x : List ℕ). put_mid from n l x) r
    ∙ ap (λ (x : List ℕ). take from l ++ (replicate n v ++ x)) (drop-drop n from l ∙ ap (λ (x : ℕ). drop (from + x) l) (sym k))
    ∙ sym (append_assoc (take from l) (replicate n v) (drop (from + length (replicate n v)) l))
    ∙ sym (sets-eq (replicate n v) l from (omega (arith, k, h, m)))

-- ---- the checkpoint

-- the cells of the set from `cell` on
abbrev pub cells_from : List ℕ → ℕ → List ℕ
cells_from s cell = members_from s cell (256 - cell)

-- their records, then the commit
abbrev pub rest_of : Format → List ℕ → Commit → List ℕ → List ℕ
rest_of G values c cells = records_image (records_of cells values) (commit_image G c)

-- `image_into`: the text stands in the buffer, and the records of the cells from `cell` on and the commit are to follow it
pub record Filling (G : Format) (s values : List ℕ) (c : Commit) (before now : List ℕ) (at cell : ℕ) : Type 0 where
  pub text : List ℕ
  pub stored : now ≡ sets before 0 text
  pub offset : at ≡ length text
  pub whole : image G (checkpoint_of s values c) ≡ text ++ rest_of G values c (cells_from s cell)
  pub most : at ≤ 6 * cell
  pub below : cell ≤ 256

pub filling-first : (G : Format) (s values : List ℕ) (c : Commit) (l : List ℕ) → Filling G s values c l l 0 0
unfolding image checkpoint_of members
filling-first G s values c l =
    record { text = []; stored = refl; offset = refl; whole = refl; most = omega arith; below = omega arith }

-- the next cell stands before the others where it is one of the set
cells-next : (s : List ℕ) (cell : ℕ) (b : Bool) → cell < 256 → eqb (has s cell) 1 ≡ b
    → cells_from s cell ≡ cond b (cell ∷ cells_from s (cell + 1)) (cells_from s (cell + 1))
unfolding members_from
cells-next s cell b h e =
    let n : 256 - cell ≡ suc (256 - (cell + 1)) = omega arith in
    rw (n, e, add-one cell)

-- where the set has none of the k cells from `cell` on, there is none
cells-none : (s : List ℕ) (cell k : ℕ) → ((j : ℕ) → cell ≤ j → j < cell + k → has s j ≡ 0) → members_from s cell k ≡ []
unfolding members_from
cells-none s cell zero h = refl
cells-none s cell (suc k) h = rw (h cell (omega arith) (omega arith)) (cells-none s (suc cell) k (λ j a b. h j (omega arith) (omega arith)))

module _ {G : Format} {s values : List ℕ} {c : Commit} {before now : List ℕ} {at cell : ℕ} (f : Filling G s values c before now at cell) where
  -- more bytes stand behind the text
  filling-sets : (more : List ℕ) {t : List ℕ} → t ≡ sets now at more → t ≡ sets before 0 (f.text ++ more)
  filling-sets more e =
      e
      ∙ ap (λ (l : List ℕ). sets l at more) f.stored
      ∙ sets_then before 0 at f.text more (omega (arith, f.offset))

  -- a cell of the set: its record follows
  pub filling-in : cell < 256 → eqb (has s cell) 1 ≡ true → {t : List ℕ} {next : ℕ}
      → t ≡ sets now at (record_image (record { cell = cell; value = get_or values cell 0 })) → next ≡ at + 6 → Filling G s values c before t next (cell + 1)
  unfolding records_image records_of
  filling-in h b e n =
      let r : Saved = record { cell = cell; value = get_or values cell 0 } in
      record {
        text = f.text ++ record_image r;
        stored = filling-sets (record_image r) e;
        offset = omega (arith, f.offset, length-append f.text (record_image r), record-length r);
        whole = f.whole
            ∙ ap (λ (cells : List ℕ). f.text ++ rest_of G values c cells) (cells-next s cell true h b)
            ∙ sym (append_assoc f.text (record_image r) (rest_of G values c (cells_from s (cell + 1))));
        most = omega (arith, n, f.most);
        below = omega arith;
      }

  -- no cell of the set
  pub filling-out : cell < 256 → eqb (has s cell) 1 ≡ false → {t : List ℕ} {next : ℕ} → t ≡ now → next ≡ at → Filling G s values c before t next (cell + 1)
  filling-out h b e n = record {
    text = f.text;
    stored = e ∙ f.stored;
    offset = n ∙ f.offset;
    whole = f.whole ∙ ap (λ (cells : List ℕ). f.text ++ rest_of G values c cells) (cells-next s cell false h b);
    most = omega (arith, n, f.most);
    below = omega arith;
  }

  module _ {n : ℕ} (h : n ≤ cell) (none : (j : ℕ) → n ≤ j → j < 256 → has s j ≡ 0) where
    -- past the last cell the commit alone is to follow
    filling-end : image G (checkpoint_of s values c) ≡ f.text ++ commit_image G c
    unfolding records_image records_of
    filling-end =
        f.whole
        ∙ ap (λ (cells : List ℕ). f.text ++ rest_of G values c cells) (cells-none s cell (256 - cell) (λ j a b. none j (omega arith) (omega (arith, f.below))))

    -- and then the filling
    pub filling-done : {t u : List ℕ} {k : ℕ} → t ≡ sets now at (commit_image G c) → k ≡ fill_of G.page (at + mark_length G)
        → u ≡ sets t (at + mark_length G) (replicate (at + mark_length G + k - (at + mark_length G)) 0xFF)
        → (at + mark_length G + k ≡ length (padded G (checkpoint_of s values c))) × (u ≡ sets before 0 (padded G (checkpoint_of s values c)))
    unfolding padded
    filling-done {t} {k = k} e g d =
        let end = at + mark_length G in
        let page = G.page in
        let i = image G (checkpoint_of s values c) in
        let n : end ≡ length i = omega (arith, f.offset, ap length filling-end, length-append f.text (commit_image G c), commit-length G c) in
        let z : k ≡ fill_of page (length i) = g ∙ ap (fill_of page) n in
        let m : end + k - end ≡ fill_of page (length i) = omega arith in (
          omega (arith, padded-length G (checkpoint_of s values c)),
          d
              ∙ ap (λ (x : ℕ). sets t end (replicate x 0xFF)) m
              ∙ ap (λ (x : List ℕ). sets x end (replicate (fill_of page (length i)) 0xFF)) (filling-sets (commit_image G c) e ∙ ap (sets before 0) (sym filling-end))
              ∙ sets_then before 0 end i (replicate (fill_of page (length i)) 0xFF) (omega arith),
        )
