-- Reading back: whole checkpoints, then nothing or a part of one, then FF (`Shape`) read back as exactly those checkpoints (`read_back`), and are never
-- damaged (`not_damaged`). Any journal has at most one reading (`one-reading`). What was read of such bytes has the shape again (`read-shape`).
-- Assumes nothing.
use Rattle.std.proofs.Common.{◌≡◌, ℕ, zero, suc, ◌+◌, ◌<◌, ◌≤◌, List, [], ◌∷◌, ◌++◌, length, replicate, sym, refl, ap, ◌∙◌, subst, ap₂, inl, inr, ⊎_elim, append_assoc, append-nil, arith}
use mathlib.Core.List.{head-eq_of_cons-eq, tail-eq_of_cons-eq, cons-ne-nil}
use Rattle.cellset.proofs.Bits.{le-or-lt}
use Rattle.journal.specs.declared.Commit.{Commit}
use Rattle.journal.specs.Format.{Checkpoint, images}
use Rattle.journal.specs.Reading.{Facts, first, Rising, last_of, Whole, Reading, Torn, Damaged}
use Rattle.journal.proofs.Decoding.{same-saves}
pub use Rattle.journal.specs.Shape.{Shape}
use Rattle.journal.proofs.Torn.{Cut, part-begins, part-less, nested, never-whole, erased-not-whole, ff-join, Trimmed, trim}

-- an erased chip has no checkpoint and nothing torn
pub erased-shape : {F : Facts} (n : ℕ) → Shape F (replicate n 0xFF) [] []
unfolding images
erased-shape n = record { free = n; rising = Rising.none; cut = inl refl; bytes = refl }

-- ---- one reading

-- what stands before FF bytes is FF bytes where all are
ff-part : (k : ℕ) (u t : List ℕ) → replicate k 0xFF ≡ u ++ t → (n : ℕ) × (u ≡ replicate n 0xFF)
ff-part k [] t e = (0, refl)
ff-part zero (x ∷ u) t e = absurd (cons-ne-nil _ _ (sym e))
ff-part (suc k) (x ∷ u) t e =
    let r = ff-part k u t (tail-eq_of_cons-eq e) in
    (suc r.0, ap₂ {A = ℕ} (λ i l. i ∷ l) (sym (head-eq_of_cons-eq e)) r.1)

ff-snoc : (n : ℕ) → replicate {A = ℕ} (suc n) 0xFF ≡ replicate n 0xFF ++ (0xFF ∷ [])
ff-snoc zero = refl
ff-snoc (suc n) = ap (λ (l : List ℕ). 0xFF ∷ l) (ff-snoc n)

trimmed-least : (q t : List ℕ) (k n : ℕ) → Trimmed t → q ++ replicate k 0xFF ≡ t ++ replicate n 0xFF → length q ≤ length t → q ≡ t
trimmed-least q t k n h e l =
    let r = nested q t (replicate k 0xFF) (replicate n 0xFF) e l in
    let f = ff-part k r.0 (replicate n 0xFF) r.2 in
    go f.0 (r.1 ∙ ap (λ (x : List ℕ). q ++ x) f.1)
  where
    go : (m : ℕ) → t ≡ q ++ replicate m 0xFF → q ≡ t
    go zero g = sym (g ∙ append-nil q)
    go (suc m) g =
        absurd (h (q ++ replicate m 0xFF) (g ∙ ap (λ (x : List ℕ). q ++ x) (ff-snoc m) ∙ sym (append_assoc q (replicate m 0xFF) (0xFF ∷ []))))

-- bytes without their trailing FF bytes are told by them
trimmed-same : (q t : List ℕ) (k n : ℕ) → Trimmed q → Trimmed t → q ++ replicate k 0xFF ≡ t ++ replicate n 0xFF → q ≡ t
trimmed-same q t k n h g e =
    ⊎_elim
    (λ (l : length q ≤ length t). trimmed-least q t k n g e l)
    (λ (l : length t < length q). sym (trimmed-least t q n k h (sym e) (omega arith)))
    (le-or-lt (length q) (length t))

pub one-reading : {F : Facts} {chip : List ℕ} {js js' : List Checkpoint} {q q' : List ℕ} → Reading F chip js q → Reading F chip js' q' → (js ≡ js') × (q ≡ q')
one-reading {F} {chip} {js} {js'} {q} {q'} r r' =
    let k = r.erased in
    let n = r'.erased in
    let i = images F.format js in
    let j = images F.format js' in
    let e = sym (append_assoc i q (replicate k 0xFF)) ∙ sym r.bytes ∙ r'.bytes ∙ append_assoc j q' (replicate n 0xFF) in
    let s = same-saves (q ++ replicate k 0xFF) (q' ++ replicate n 0xFF) r.sound r'.sound e r.no_more r'.no_more in
    (s.0, trimmed-same q q' k n r.trimmed r'.trimmed s.1)

-- ---- the reading of a shape

-- the reading of chip: js, and q without its trailing FF bytes
pub record Reads (F : Facts) (chip : List ℕ) (js : List Checkpoint) (q : List ℕ) : Type 0 where
  pub left : List ℕ
  pub cut : ℕ
  pub bytes : q ≡ left ++ replicate cut 0xFF
  pub reading : Reading F chip js left

-- nothing, or a part, and FF bytes begin with no whole checkpoint
cut-not-whole : {F : Facts} {b : Commit} → (q : List ℕ) (m : ℕ) → Cut F b q → ¬ Whole F b (q ++ replicate m 0xFF)
cut-not-whole {F} {b} q m c =
    ⊎_elim (λ e. subst (λ (x : List ℕ). ¬ Whole F b (x ++ replicate m 0xFF)) (sym e) (erased-not-whole m)) (λ p. never-whole q m p) c

-- what is left of it is nothing or a part
pub cut-less : {F : Facts} {b : Commit} (q u : List ℕ) → Cut F b (q ++ u) → Cut F b q
cut-less {F} {b} q u c = ⊎_elim (λ e. inl (nothing q e)) (λ p. inr (part-less q u p)) c
  where
    nothing : (l : List ℕ) → l ++ u ≡ [] → l ≡ []
    nothing [] e = refl
    nothing (x ∷ l) e = absurd (cons-ne-nil _ _ e)

-- where q does not end in FF, the shape is the reading itself
pub shape-whole : {F : Facts} {chip : List ℕ} {js : List Checkpoint} {q : List ℕ} → Shape F chip js q → Trimmed q → Reading F chip js q
shape-whole {q = q} s t = record {
  erased = s.free;
  sound = s.rising;
  bytes = s.bytes;
  no_more = cut-not-whole q s.free s.cut;
  trimmed = t;
}

pub shape-reads : {F : Facts} {chip : List ℕ} {js : List Checkpoint} {q : List ℕ} → Shape F chip js q → Reads F chip js q
shape-reads {F} {chip} {js} {q} s =
    let t = trim q in
    let i = images F.format js in
    let k = t.kept in
    let z : List ℕ = replicate s.free 0xFF in
    let j : q ++ z ≡ k ++ replicate (t.cut + s.free) 0xFF = ap (λ (l : List ℕ). l ++ z) t.bytes ∙ ff-join k t.cut s.free in
    record {
      left = k;
      cut = t.cut;
      bytes = t.bytes;
      reading =
          record {
            erased = t.cut + s.free;
            sound = s.rising;
            bytes = s.bytes ∙ append_assoc i q z ∙ ap (λ (l : List ℕ). i ++ l) j ∙ sym (append_assoc i k (replicate (t.cut + s.free) 0xFF));
            no_more = subst (λ (l : List ℕ). ¬ Whole F (last_of first js) l) j (cut-not-whole q s.free s.cut);
            trimmed = t.trimmed;
          };
    }

-- every reading of such bytes has these checkpoints, and has the shape again: nothing or a part is left
pub read-shape : {F : Facts} {chip : List ℕ} {js js' : List Checkpoint} {q q' : List ℕ} → Shape F chip js q → Reading F chip js' q'
    → (js' ≡ js) × Shape F chip js q'
read-shape {F} {chip} {js} {js'} {q} {q'} s r =
    let t = shape-reads s in
    let o = one-reading r t.reading in
    let c : Cut F (last_of first js) (t.left ++ replicate t.cut 0xFF) = subst (λ (l : List ℕ). Cut F (last_of first js) l) t.bytes s.cut in
    let d = cut-less t.left (replicate t.cut 0xFF) c in
    let g : Shape F chip js t.left = record { free = t.reading.erased; rising = s.rising; cut = d; bytes = t.reading.bytes } in
    (o.0, subst (λ (l : List ℕ). Shape F chip js l) (sym o.1) g)

-- so its remainder is torn at most
pub read_back : {F : Facts} {chip : List ℕ} {js js' : List Checkpoint} {q q' : List ℕ} → Shape F chip js q → Reading F chip js' q'
    → (js' ≡ js) × Torn F (last_of first js') q'
read_back {F} {chip} {js} {js'} {q} {q'} s r =
    let g = read-shape s r in
    let t : Torn F (last_of first js) q' = ⊎_elim (λ e. inl e) (λ p. inr (part-begins p)) g.1.cut in
    (g.0, subst (λ (x : List Checkpoint). Torn F (last_of first x) q') (sym g.0) t)

pub not_damaged : {F : Facts} {chip : List ℕ} {js : List Checkpoint} {q : List ℕ} → Shape F chip js q → ¬ Damaged F chip
not_damaged s d = d.refused (read_back s d.reading).1
