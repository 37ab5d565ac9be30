-- The values that `restore` gives the cells: at each turn of its loop the records that are left give the values now what all of them give the values before
-- (`Restoring`).
-- Assumes nothing.
use Rattle.std.proofs.Common.{◌≡◌, ℕ, ◌+◌, ◌*◌, ◌^◌, ◌<◌, ◌≤◌, List, [], ◌∷◌, ◌++◌, length, get_or, drop, set, sym, refl, ap, ◌∙◌, ap₂, arith, get_or-drop, drop-drop, drop_at}
use Rattle.word.specs.Bytes.{bytes_of, load_of}
use Rattle.journal.specs.Format.{Saved, record_image, records_image}
use Rattle.journal.specs.Reading.{Once, saved_in}
use Rattle.journal.specs.Parts.{Restored}
use Rattle.journal.proofs.Images.{record-length}
use Rattle.journal.proofs.Meeting.{whole_meets}
use Rattle.journal.proofs.Numbers.{meets-load}
use Rattle.journal.proofs.Passing.{set_value}

-- of the records rs, those in l from i to `end` are left
pub record Remains (n : ℕ) (l : List ℕ) (end : ℕ) (rs : List Saved) (old new : List ℕ) (i : ℕ) : Type 0 where
  pub left : List Saved
  pub once : Once n left
  pub bytes : drop i l ≡ records_image left (drop end l)
  pub end_is : end ≡ i + 6 * length left
  pub values : (c : ℕ) → c < 256 → saved_in c left (get_or new c 0) ≡ saved_in c rs (get_or old c 0)

abbrev pub Restoring : List ℕ → (at end : ℕ) → (old new : List ℕ) → ℕ → Type 0
Restoring l at end old new i = (n : ℕ) (rs : List Saved) → n ≤ 256 → Once n rs → drop at l ≡ records_image rs (drop end l) → end ≡ at + 6 * length rs
    → Remains n l end rs old new i

pub restoring-first : (l : List ℕ) (at end : ℕ) (old : List ℕ) → Restoring l at end old old at
restoring-first l at end old n rs s o b e = record { left = rs; once = o; bytes = b; end_is = e; values = λ c k. refl }

-- the record whose bytes stand at i
record_is : (r : Saved) (l t : List ℕ) (i : ℕ) → i + 6 ≤ length l → r.value < 2 ^ 32 → drop i l ≡ record_image r ++ t
    → (get_or l (i + 1) 0 ≡ r.cell) × (load_of 4 l (i + 2) ≡ r.value) × (drop (i + 6) l ≡ t)
record_is r l t i h f e = (
  sym (get_or-drop i l 1 0) ∙ ap (λ (k : List ℕ). get_or k 1 0) e,
  meets-load 4 r.value l (i + 2) f (omega arith) (whole_meets (bytes_of 4 r.value) t (sym (drop-drop 2 i l) ∙ ap (drop 2) e)),
  sym (drop-drop 6 i l) ∙ ap (drop 6) e ∙ drop_at (record_image r) t 6 (record-length r),
)

remains-turn : {n : ℕ} {l : List ℕ} {end : ℕ} {rs : List Saved} {old : List ℕ} (new : List ℕ) (i : ℕ) (left : List Saved) → n ≤ 256 → end ≤ length l
    → i + 6 ≤ end → length new ≡ 256 → Once n left → drop i l ≡ records_image left (drop end l) → end ≡ i + 6 * length left
    → ((c : ℕ) → c < 256 → saved_in c left (get_or new c 0) ≡ saved_in c rs (get_or old c 0))
    → Remains n l end rs old (set new (get_or l (i + 1) 0) (load_of 4 l (i + 2))) (i + 6)
unfolding records_image saved_in
remains-turn new i [] s h k z o b e v = absurd (omega arith)
remains-turn {n} {l} {end} new i (r ∷ left) s h k z (Once.one small fit a o) b e v =
    let q = record_is r l (records_image left (drop end l)) i (omega arith) fit b in
    record {
      left = left;
      once = o;
      bytes = q.2;
      end_is = omega arith;
      values =
          λ c j.
          ap (saved_in c left)
          (ap₂ {A = ℕ} (λ x y. get_or (set new x y) c 0) q.0 q.1 ∙ set_value new r.cell r.value c (omega arith)) ∙ v c j;
    }

pub restoring-turn : (l : List ℕ) (at end : ℕ) (old new : List ℕ) (i v : ℕ) → Restoring l at end old new i → end ≤ length l → i + 6 ≤ end → length new ≡ 256
    → v ≡ load_of 4 l (i + 2) → Restoring l at end old (set new (get_or l (i + 1) 0) v) (i + 6)
restoring-turn l at end old new i v g h k z ev n rs s o b e =
    let m = g n rs s o b e in
    rw ev (remains-turn new i m.left s h k z m.once m.bytes m.end_is m.values)

remains-done : (end i : ℕ) (rs : List Saved) (old new : List ℕ) (left : List Saved) → end < i + 6 → end ≡ i + 6 * length left
    → ((c : ℕ) → c < 256 → saved_in c left (get_or new c 0) ≡ saved_in c rs (get_or old c 0)) → (c : ℕ) → c < 256 → get_or new c 0 ≡ saved_in c rs (get_or old c 0)
unfolding saved_in
remains-done end i rs old new [] h e v = v
remains-done end i rs old new (r ∷ left) h e v = absurd (omega arith)

pub restoring-done : (l : List ℕ) (at end : ℕ) (old new : List ℕ) (i : ℕ) → Restoring l at end old new i → end < i + 6 → Restored l at end old new
restoring-done l at end old new i g h n rs s o b e =
    let m = g n rs s o b e in
    remains-done end i rs old new m.left h m.end_is m.values
