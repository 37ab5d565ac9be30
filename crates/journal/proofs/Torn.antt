-- A torn checkpoint, cut short of its image, is never taken for whole, however many FF bytes follow it (`never-whole`), and a shorter part of one is a part
-- too (`part-less`). Only unique decoding is used, and that an image ends in 5A.
-- Assumes nothing.
use Rattle.std.proofs.Common.{◌≡◌, ℕ, zero, suc, ◌+◌, ◌<◌, ◌≤◌, eqb, List, [], ◌∷◌, ◌++◌, length, get_or, replicate, sym, refl, ap, ◌∙◌, ap₂, ⊎_elim, append_assoc, append-nil, arith, length-append, eqb-true}
use mathlib.Core.List.{head-eq_of_cons-eq, tail-eq_of_cons-eq, cons-ne-nil, concat-ne-nil}
use lib.ListN.{replicate-append-replicate}
use lib.Seq.{get_or_at}
use borrow.Author.Tests.{eqb-false}
use Rattle.cellset.proofs.Bits.{le-or-lt}
use Rattle.program.proofs.Tests.{bool_cases}
use Rattle.journal.specs.declared.Commit.{Commit}
use Rattle.journal.specs.Format.{Format, Checkpoint, image, fill_of, padded}
use Rattle.journal.specs.Reading.{Facts, Sound, Begins, Whole}
use Rattle.journal.proofs.Decoding.{unique, image-end, image-some}
pub use Rattle.journal.specs.Shape.{Part, Cut}

-- a part is a beginning, and a beginning that is not whole is a part
pub part-begins : {F : Facts} {b : Commit} {q : List ℕ} → Part F b q → Begins F b q
part-begins p = record { save = p.save; sound = p.sound; rest = p.more; bytes = p.bytes }

-- what is left of a part is one
pub part-less : {F : Facts} {b : Commit} (q u : List ℕ) → Part F b (q ++ u) → Part F b q
part-less q u p = record {
  save = p.save;
  sound = p.sound;
  more = u ++ p.more;
  bytes = p.bytes ∙ append_assoc q u p.more;
  short = (let h = p.short in omega (arith, length-append u p.more));
}

-- ---- never whole

-- of two beginnings of one list the shorter begins the other
pub nested : (a b s t : List ℕ) → a ++ s ≡ b ++ t → length a ≤ length b → (u : List ℕ) × (b ≡ a ++ u) × (s ≡ u ++ t)
nested [] b s t e h = (b, refl, e)
nested (x ∷ a) [] s t e h = absurd (omega arith)
nested (x ∷ a) (y ∷ b) s t e h =
    let r = nested a b s t (tail-eq_of_cons-eq e) (omega arith) in
    (r.0, ap₂ {A = ℕ} (λ i l. i ∷ l) (sym (head-eq_of_cons-eq e)) r.1, r.2)

-- FF bytes hold no 5A
no_end : (m : ℕ) (u t : List ℕ) → ¬ (replicate m 0xFF ≡ u ++ 0x5A ∷ t)
no_end zero [] t e = cons-ne-nil _ _ (sym e)
no_end zero (x ∷ u) t e = cons-ne-nil _ _ (sym e)
no_end (suc m) [] t e = let z : ◌≡◌ {A = ℕ} 0xFF 0x5A = head-eq_of_cons-eq e in omega arith
no_end (suc m) (x ∷ u) t e = no_end m u t (tail-eq_of_cons-eq e)

-- an image does not end among FF bytes
reaches : (G : Format) (s : Checkpoint) (q t : List ℕ) (m : ℕ) → q ++ replicate m 0xFF ≡ image G s ++ t → length (image G s) ≤ length q
reaches G s q t m e =
    let z = image-end G s in
    let g : q ++ replicate m 0xFF ≡ z.front ++ 0x5A ∷ t = e ∙ ap (λ (l : List ℕ). l ++ t) z.bytes ∙ append_assoc z.front (0x5A ∷ []) t in
    let n = ap length z.bytes ∙ length-append z.front (0x5A ∷ []) in
    ⊎_elim
    (λ l. l)
    (λ (l : length q < length (image G s)).
    let r = nested q z.front (replicate m 0xFF) (0x5A ∷ t) g (omega arith) in
    absurd (no_end m r.0 t r.2))
    (le-or-lt (length (image G s)) (length q))

-- l begins with the image of a checkpoint that is sound after b, whether its page is filled or not
pub record Front (F : Facts) (b : Commit) (l : List ℕ) : Type 0 where
  pub save : Checkpoint
  pub sound : Sound F b save
  pub rest : List ℕ
  pub bytes : l ≡ image F.format save ++ rest

pub whole-front : {F : Facts} {b : Commit} {l : List ℕ} → Whole F b l → Front F b l
unfolding padded
whole-front {F} w =
    let fill : List ℕ = replicate (fill_of F.format.page (length (image F.format w.save))) 0xFF in
    record { save = w.save; sound = w.sound; rest = fill ++ w.rest; bytes = w.bytes ∙ append_assoc (image F.format w.save) fill w.rest }

-- the image at the front of bytes and FF bytes is one of the bytes alone
pub front-within : {F : Facts} {b : Commit} (q : List ℕ) (m : ℕ) → Front F b (q ++ replicate m 0xFF) → Front F b q
front-within {F} q m w =
    let n = nested (image F.format w.save) q w.rest (replicate m 0xFF) (sym w.bytes) (reaches F.format w.save q w.rest m w.bytes) in
    record { save = w.save; sound = w.sound; rest = n.0; bytes = n.1 }

-- where no image stands at the front, no whole checkpoint does, whatever FF bytes follow
pub no_front : {F : Facts} {b : Commit} (q : List ℕ) → ¬ Front F b q → (m : ℕ) → ¬ Whole F b (q ++ replicate m 0xFF)
no_front q n m w = n (front-within q m (whole-front w))

-- a part and FF bytes after it begin with no whole checkpoint
pub never-whole : {F : Facts} {b b' : Commit} → (q : List ℕ) (m : ℕ) → Part F b q → ¬ Whole F b' (q ++ replicate m 0xFF)
never-whole {F} q m p w =
    let v = front-within q m (whole-front w) in
    let i = image F.format v.save in
    let e = ap (λ (l : List ℕ). l ++ p.more) v.bytes ∙ append_assoc i v.rest p.more in
    let g : image F.format p.save ++ [] ≡ i ++ (v.rest ++ p.more) = append-nil (image F.format p.save) ∙ p.bytes ∙ e in
    let z : [] ≡ v.rest ++ p.more = (unique p.save v.save [] (v.rest ++ p.more) p.sound v.sound g).1 in
    let h = p.short in
    omega (arith, ap length z, length-append v.rest p.more)

-- nor do FF bytes alone
pub erased-not-whole : {F : Facts} {b : Commit} (m : ℕ) → ¬ Whole F b (replicate m 0xFF)
erased-not-whole {F} m w = let f = whole-front w in omega (arith, reaches F.format f.save [] f.rest m f.bytes, image-some F.format f.save)

-- ---- without trailing FF bytes

-- FF bytes behind FF bytes
pub ff-join : (l : List ℕ) (n m : ℕ) → l ++ replicate n 0xFF ++ replicate m 0xFF ≡ l ++ replicate (n + m) 0xFF
ff-join l n m = append_assoc l (replicate n 0xFF) (replicate m 0xFF) ∙ ap (λ (x : List ℕ). l ++ x) (replicate-append-replicate n m 0xFF)

abbrev pub Trimmed : List ℕ → Type 0
Trimmed q = (l : List ℕ) → ¬ (q ≡ l ++ (0xFF ∷ []))

-- q as what is kept of it and FF bytes, as many as there are
pub record Trim (q : List ℕ) : Type 0 where
  pub kept : List ℕ
  pub cut : ℕ
  pub bytes : q ≡ kept ++ replicate cut 0xFF
  pub trimmed : Trimmed kept

pub trimmed-nil : Trimmed []
trimmed-nil l e = concat-ne-nil 0xFF l (sym e)

-- bytes that end in another byte do not end in FF
pub trimmed-snoc : (l : List ℕ) (x : ℕ) → ¬ (x ≡ 0xFF) → Trimmed (l ++ (x ∷ []))
trimmed-snoc l x h k e =
    let n : length l ≡ length k = omega (arith, ap length e, length-append l (x ∷ []), length-append k (0xFF ∷ [])) in
    h (sym (get_or_at l x [] 0 (length l) refl) ∙ ap (λ (m : List ℕ). get_or m (length l) 0) e ∙ get_or_at k 0xFF [] 0 (length l) (sym n))

trimmed-cons : (x y : ℕ) (l : List ℕ) → Trimmed (y ∷ l) → Trimmed (x ∷ y ∷ l)
trimmed-cons x y l h [] e = cons-ne-nil _ _ (tail-eq_of_cons-eq e)
trimmed-cons x y l h (z ∷ k) e = h k (tail-eq_of_cons-eq e)

pub trim : (q : List ℕ) → Trim q
trim [] = record { kept = []; cut = 0; bytes = refl; trimmed = trimmed-nil }
trim (x ∷ q) = go (trim q).kept (trim q).cut (trim q).bytes (trim q).trimmed
  where
    go : (k : List ℕ) (n : ℕ) → q ≡ k ++ replicate n 0xFF → Trimmed k → Trim (x ∷ q)
    go [] n e h =
        bool_cases (eqb x 0xFF)
        (λ t. record { kept = []; cut = suc n; bytes = ap₂ {A = ℕ} (λ i l. i ∷ l) (eqb-true _ _ t) e; trimmed = trimmed-nil })
        (λ t. record { kept = x ∷ []; cut = n; bytes = ap (λ (l : List ℕ). x ∷ l) e; trimmed = trimmed-snoc [] x (eqb-false _ _ t) })
    go (y ∷ k) n e h = record { kept = x ∷ y ∷ k; cut = n; bytes = ap (λ (l : List ℕ). x ∷ l) e; trimmed = trimmed-cons x y k h }
