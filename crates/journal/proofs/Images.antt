-- The image of a checkpoint: how many bytes a record (6), a commit (14) and records take, which byte stands where, and records before what follows them.
-- Assumes nothing.
use Rattle.std.proofs.Common.{◌≡◌, ℕ, zero, suc, ◌+◌, ◌-◌, ◌*◌, ◌/◌, ◌%◌, ◌<◌, ◌≤◌, List, [], ◌∷◌, ◌++◌, length, get_or, take, sym, refl, ap, ◌∙◌, ⊎_elim, append_assoc, arith, length-append, get_or-append-add}
use lib.ListN.{get_or-append, get_or-eq_default}
use Rattle.word.specs.Bytes.{byte_of, bytes_of}
use Rattle.word.proofs.Bytes.{length-bytes, bytes-at}
use Rattle.cellset.proofs.Bits.{le-or-lt}
use Rattle.journal.specs.declared.Commit.{Commit}
use Rattle.journal.specs.Format.{Format, owner_width, mark_lead, mark_length, Saved, Field, record_image, fields_of, fields_image, commit_image, records_image}

-- ---- two lists, one after the other

-- past the first, whose length is n, the second is read
get_d_past : (l r : List ℕ) (n k j : ℕ) → length l ≡ n → k ≡ n + j → get_or (l ++ r) k 0 ≡ get_or r j 0
get_d_past l r n k j e f =
    let i : k ≡ length l + j = omega arith in
    ap (λ (x : ℕ). get_or (l ++ r) x 0) i ∙ get_or-append-add l r j 0

-- ---- a record

pub record-length : (r : Saved) → length (record_image r) ≡ 6
record-length r = omega (arith, length-bytes 4 r.value)

-- its value stands behind the tag and the cell
pub record-bytes : (cell value k x : ℕ) → ¬ (k ≡ 0) → ¬ (k ≡ 1) → k < 6 → x ≡ byte_of value (k - 2)
    → x ≡ get_or (record_image (record { cell = cell; value = value })) k 0
record-bytes cell value k x a b l e =
    let i : k ≡ 2 + (k - 2) = omega arith in
    e ∙ sym (bytes-at 4 value (k - 2) (omega arith)) ∙ sym (get_d_past (0xA1 ∷ cell ∷ []) (bytes_of 4 value) 2 k (k - 2) refl i)

-- nothing stands behind that
pub record-past : (cell value k : ℕ) → 6 ≤ k → 0 ≡ get_or (record_image (record { cell = cell; value = value })) k 0
record-past cell value k l =
    let r : Saved = record { cell = cell; value = value } in
    sym (get_or-eq_default (record_image r) 0 {n = k} (omega (arith, record-length r)))

-- ---- a commit

-- how many bytes fields take
widths : List Field → ℕ
widths [] = 0
widths (f ∷ fs) = f.width + widths fs

fields-length : (fs : List Field) (end : ℕ) → length (fields_image fs end) ≡ suc (widths fs)
unfolding fields_image widths
fields-length [] end = refl
fields-length (f ∷ fs) end =
    omega (arith, length-append (bytes_of f.width f.number) (fields_image fs end), length-bytes f.width f.number, fields-length fs end)

-- the bytes of the first field, and those behind it
field-first : (f : Field) (fs : List Field) (end k : ℕ) → k < f.width → get_or (fields_image (f ∷ fs) end) k 0 ≡ byte_of f.number k
unfolding fields_image
field-first f fs end k l =
    get_or-append (bytes_of f.width f.number) (fields_image fs end) 0 k (omega (arith, length-bytes f.width f.number))
    ∙ bytes-at f.width f.number k l

field_past : (f : Field) (fs : List Field) (end k j : ℕ) → k ≡ f.width + j → get_or (fields_image (f ∷ fs) end) k 0 ≡ get_or (fields_image fs end) j 0
unfolding fields_image
field_past f fs end k j e = get_d_past (bytes_of f.width f.number) (fields_image fs end) f.width k j (length-bytes f.width f.number) e

-- where there is no field
pub no_field : Field
no_field = record { width = 0; number = 0 }

-- the bytes of field i
field_at : (fs : List Field) (i end k j : ℕ) → i < length fs → k ≡ widths (take i fs) + j → j < (get_or fs i no_field).width
    → get_or (fields_image fs end) k 0 ≡ byte_of (get_or fs i no_field).number j
unfolding widths
field_at [] i end k j h e l = absurd (omega arith)
field_at (f ∷ fs) zero end k j h e l = let z : j ≡ k = omega arith in rw z (field-first f fs end k (omega arith))
field_at (f ∷ fs) (suc i) end k j h e l =
    field_past f fs end k (widths (take i fs) + j) (omega arith) ∙ field_at fs i end (widths (take i fs) + j) j (omega arith) refl l

-- the byte behind the last
fields-last : (fs : List Field) (end : ℕ) → get_or (fields_image fs end) (widths fs) 0 ≡ end
unfolding fields_image widths
fields-last [] end = refl
fields-last (f ∷ fs) end = field_past f fs end (f.width + widths fs) (widths fs) refl ∙ fields-last fs end

pub commit-length : (G : Format) (c : Commit) → length (commit_image G c) ≡ mark_length G
unfolding widths
commit-length G c = omega (arith, fields-length (fields_of G c) 0x5A)

-- field i of a commit, whose first byte stands at n
commit-field : (G : Format) (c : Commit) (i n k x : ℕ) → i < 5 → n ≡ suc (widths (take i (fields_of G c))) → n ≤ k
    → k < n + (get_or (fields_of G c) i no_field).width → x ≡ byte_of (get_or (fields_of G c) i no_field).number (k - n) → x ≡ get_or (commit_image G c) k 0
commit-field G c i n k x h w l m e =
    let t : k ≡ suc (k - 1) = omega arith in
    e
    ∙ sym (field_at (fields_of G c) i 0x5A (k - 1) (k - n) h (omega arith) (omega arith))
    ∙ ap (λ (y : ℕ). get_or (commit_image G c) y 0) (sym t)

-- the five of them
module _ (G : Format) (c : Commit) (k x : ℕ) where
  pub commit-place : ¬ (k ≡ 0) → k < 3 → x ≡ byte_of c.place (k - 1) → x ≡ get_or (commit_image G c) k 0
  unfolding widths
  commit-place l h e = commit-field G c 0 1 k x (omega arith) refl (omega arith) h e

  pub commit-exclude : 3 ≤ k → k < 5 → x ≡ byte_of c.exclude (k - 3) → x ≡ get_or (commit_image G c) k 0
  unfolding widths
  commit-exclude l h e = commit-field G c 1 3 k x (omega arith) refl l h e

  pub commit-readings : 5 ≤ k → k < 9 → x ≡ byte_of c.readings (k - 5) → x ≡ get_or (commit_image G c) k 0
  unfolding widths
  commit-readings l h e = commit-field G c 2 5 k x (omega arith) refl l h e

  pub commit-outputs : 9 ≤ k → k < 13 → x ≡ byte_of c.outputs (k - 9) → x ≡ get_or (commit_image G c) k 0
  unfolding widths
  commit-outputs l h e = commit-field G c 3 9 k x (omega arith) refl l h e

  pub commit-owner : 13 ≤ k → k < 13 + owner_width G → x ≡ byte_of c.owner (k - 13) → x ≡ get_or (commit_image G c) k 0
  unfolding widths
  commit-owner l h e = commit-field G c 4 13 k x (omega arith) refl l h e

-- the first byte
pub commit-lead : (G : Format) (c : Commit) (k : ℕ) → k ≡ 0 → mark_lead G ≡ get_or (commit_image G c) k 0
commit-lead G c k e = ap (λ (y : ℕ). get_or (commit_image G c) y 0) (sym e)

-- the last byte, and nothing behind it
pub commit-last : (G : Format) (c : Commit) (k : ℕ) → k ≡ 13 + owner_width G → 0x5A ≡ get_or (commit_image G c) k 0
unfolding widths
commit-last G c k e =
    let z : k ≡ suc (widths (fields_of G c)) = omega arith in
    sym (fields-last (fields_of G c) 0x5A) ∙ ap (λ (y : ℕ). get_or (commit_image G c) y 0) (sym z)

pub commit-past : (G : Format) (c : Commit) (k : ℕ) → 13 + owner_width G ≤ k → ¬ (k ≡ 13 + owner_width G) → 0 ≡ get_or (commit_image G c) k 0
commit-past G c k l h = sym (get_or-eq_default (commit_image G c) 0 {n = k} (omega (arith, commit-length G c)))

-- ---- records

-- what follows the bytes stands behind the records too
pub records-append : (rs : List Saved) (m t : List ℕ) → records_image rs m ++ t ≡ records_image rs (m ++ t)
unfolding records_image
records-append [] m t = refl
records-append (r ∷ rs) m t = append_assoc (record_image r) (records_image rs m) t ∙ ap (λ (l : List ℕ). record_image r ++ l) (records-append rs m t)

-- records behind records
pub records-join : (rs more : List Saved) (m : List ℕ) → records_image (rs ++ more) m ≡ records_image rs (records_image more m)
unfolding records_image
records-join [] more m = refl
records-join (r ∷ rs) more m = ap (λ (l : List ℕ). record_image r ++ l) (records-join rs more m)

-- six bytes for each record
pub records-length : (rs : List Saved) (m : List ℕ) → length (records_image rs m) ≡ 6 * length rs + length m
unfolding records_image
records-length [] m = omega arith
records-length (r ∷ rs) m = omega (arith, length-append (record_image r) (records_image rs m), record-length r, records-length rs m)

-- the byte k stands in the record number k / 6
pub records-at : (rs : List Saved) (m : List ℕ) (k : ℕ) (d : Saved) → k < 6 * length rs
    → get_or (records_image rs m) k 0 ≡ get_or (record_image (get_or rs (k / 6) d)) (k % 6) 0
unfolding records_image
records-at [] m k d l = absurd (omega arith)
records-at (r ∷ rs) m k d l =
    ⊎_elim
    (λ (h : 6 ≤ k).
    let q : suc ((k - 6) / 6) ≡ k / 6 = omega arith in
    let p : (k - 6) % 6 ≡ k % 6 = omega arith in
    get_d_past (record_image r) (records_image rs m) 6 k (k - 6) (record-length r) (omega arith)
    ∙ records-at rs m (k - 6) d (omega arith)
    ∙ (λ i. get_or (record_image (get_or (r ∷ rs) (q i) d)) (p i) 0))
    (λ (h : k < 6).
    let q : 0 ≡ k / 6 = omega arith in
    let p : k ≡ k % 6 = omega arith in
    get_or-append (record_image r) (records_image rs m) 0 k (omega (arith, record-length r))
    ∙ (λ i. get_or (record_image (get_or (r ∷ rs) (q i) d)) (p i) 0))
    (le-or-lt 6 k)

-- or behind them all
pub records-past : (rs : List Saved) (m : List ℕ) (k j : ℕ) → k ≡ 6 * length rs + j → get_or (records_image rs m) k 0 ≡ get_or m j 0
records-past rs m k j e =
    ap (λ (l : List ℕ). get_or l k 0) (sym (records-append rs [] m))
    ∙ get_d_past (records_image rs []) m (6 * length rs) k j (omega (arith, records-length rs [])) e
