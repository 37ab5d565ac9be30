-- Unique decoding: bytes that begin with the image of a sound checkpoint begin with no other's, so bytes hold one list of sound checkpoints, as many as
-- there are. An image ends in 5A, so not in FF, and is not empty. A commit enters by its fields alone: another layout changes `commit-alike` and `commit-eq`.
-- Assumes nothing.
use Rattle.std.proofs.Common.{◌≡◌, ℕ, ◌+◌, ◌^◌, ◌<◌, List, [], ◌∷◌, ◌++◌, length, get_or, take, drop, replicate, sym, refl, ap, ◌∙◌, ap₂, append_assoc, append-nil, arith, length-append, take_at, drop_at}
use mathlib.Core.List.{append_cancel_left, head-eq_of_cons-eq, tail-eq_of_cons-eq}
use lib.ListN.{length-replicate}
use Rattle.word.specs.Bytes.{bytes_of, number_of}
use Rattle.word.proofs.Bytes.{length-bytes, number-bytes}
use Rattle.journal.specs.declared.Commit.{Commit}
use Rattle.journal.specs.Format.{mark_lead, Saved, Field, Checkpoint, fields_of, fields_image, commit_image, records_image, image, fill_of, filled_of, Format, padded, images}
use Rattle.journal.specs.Reading.{Facts, Once, After, Sound, Rising, last_of, Whole}
use Rattle.journal.proofs.Images.{records-append, no_field}
use Rattle.journal.proofs.Paging as pages
use Rattle.journal.proofs.Paging.{whole-none, whole-add, fill-whole}

-- ---- a number

-- numbers of one width are told by their bytes, whatever follows
pub number_same : (n v w : ℕ) (s t : List ℕ) → v < 256 ^ n → w < 256 ^ n → bytes_of n v ++ s ≡ bytes_of n w ++ t → (v ≡ w) × (s ≡ t)
number_same n v w s t h k e =
    let p = length-bytes n v in
    let q = length-bytes n w in
    let b : bytes_of n v ≡ bytes_of n w = sym (take_at (bytes_of n v) s n p) ∙ ap (take n) e ∙ take_at (bytes_of n w) t n q in (
      sym (number-bytes n v h) ∙ ap number_of b ∙ number-bytes n w k,
      sym (drop_at (bytes_of n v) s n p) ∙ ap (drop n) e ∙ drop_at (bytes_of n w) t n q,
    )

-- ---- fields

-- fields of the same widths, each with a number that it holds
pub data Alike : List Field → List Field → Type 0 where
  none : Alike [] []
  one : {n v w : ℕ} {fs gs : List Field} → v < 256 ^ n → w < 256 ^ n → Alike fs gs
      → Alike (record { width = n; number = v } ∷ fs) (record { width = n; number = w } ∷ gs)

pub fields-same : {fs gs : List Field} (end : ℕ) (s t : List ℕ) → Alike fs gs → fields_image fs end ++ s ≡ fields_image gs end ++ t → (fs ≡ gs) × (s ≡ t)
unfolding fields_image
fields-same end s t none e = (refl, tail-eq_of_cons-eq e)
fields-same end s t (one {n} {v} {w} {fs} {gs} h k a) e =
    let x = fields_image fs end in
    let y = fields_image gs end in
    let d = number_same n v w (x ++ s) (y ++ t) h k (sym (append_assoc (bytes_of n v) x s) ∙ e ∙ append_assoc (bytes_of n w) y t) in
    let u = fields-same end s t a d.1 in
    let ev : v ≡ w = d.0 in
    let es : fs ≡ gs = u.0 in
    ((λ i. record { width = n; number = ev i } ∷ es i), u.1)

-- ---- a commit

commit-alike : {F : Facts} {b b' c c' : Commit} → After F b c → After F b' c' → Alike (fields_of F.format c) (fields_of F.format c')
commit-alike h k =
    one h.place_fits k.place_fits
    (one h.exclude_fits k.exclude_fits (one h.readings_fit k.readings_fit (one h.outputs_fit k.outputs_fit
    (one h.owner_fits k.owner_fits none))))

commit-eq : (G : Format) {c c' : Commit} → fields_of G c ≡ fields_of G c' → c ≡ c'
commit-eq G {c} {c'} e =
    let place : c.place ≡ c'.place = number_at 0 in
    let exclude : c.exclude ≡ c'.exclude = number_at 1 in
    let readings : c.readings ≡ c'.readings = number_at 2 in
    let outputs : c.outputs ≡ c'.outputs = number_at 3 in
    let owner : c.owner ≡ c'.owner = number_at 4 in
    λ i. record { place = place i; exclude = exclude i; readings = readings i; outputs = outputs i; owner = owner i }
  where
    number_at : (k : ℕ) → (get_or (fields_of G c) k no_field).number ≡ (get_or (fields_of G c') k no_field).number
    number_at k = ap (λ (fs : List Field). (get_or fs k no_field).number) e

-- ---- a checkpoint

-- records before another byte than A1 begin with the records that their bytes begin with
pub peel : {n n' : ℕ} {rs rs' : List Saved} (x : ℕ) (m t : List ℕ) → Once n rs → Once n' rs' → records_image rs' ((0xA2 + x) ∷ t) ≡ records_image rs m
    → (more : List Saved) × (rs' ≡ rs ++ more) × (records_image more ((0xA2 + x) ∷ t) ≡ m)
unfolding records_image
peel {rs' = rs'} x m t Once.none k e = (rs', refl, e)
peel x m t (Once.one i j a o) Once.none e = absurd (let z : 0xA2 + x ≡ 0xA1 = head-eq_of_cons-eq e in omega arith)
peel x m t (Once.one {r} {rs} i j a o) (Once.one {r = r'} {rs = rs'} i' j' a' o') e =
    let f = tail-eq_of_cons-eq e in
    let d = number_same 4 r'.value r.value (records_image rs' ((0xA2 + x) ∷ t)) (records_image rs m) j' j (tail-eq_of_cons-eq f) in
    let u = peel x m t o o' d.1 in
    let cell : r'.cell ≡ r.cell = head-eq_of_cons-eq f in
    let value : r'.value ≡ r.value = d.0 in
    let all : rs' ≡ rs ++ u.0 = u.1 in
    (u.0, (λ i. record { cell = cell i; value = value i } ∷ all i), u.2)

-- and a commit behind them is the same
records-same : {F : Facts} {n n' : ℕ} {b b' c c' : Commit} {rs rs' : List Saved} (s t : List ℕ) → Once n rs → Once n' rs'
    → After F b c → After F b' c' → records_image rs (commit_image F.format c) ++ s ≡ records_image rs' (commit_image F.format c') ++ t
    → (rs ≡ rs') × (c ≡ c') × (s ≡ t)
unfolding records_image
records-same {F} {c = c} {c' = c'} {rs = rs} {rs' = rs'} s t o o' h k e =
    let G = F.format in
    let p = peel G.kind (commit_image G c ++ s) _ o o' (sym (records-append rs' (commit_image G c') t) ∙ sym e ∙ records-append rs (commit_image G c) s) in
    go p.0 p.1 p.2
  where
    go : (more : List Saved) → rs' ≡ rs ++ more → records_image more (commit_image F.format c' ++ t) ≡ commit_image F.format c ++ s → (rs ≡ rs') × (c ≡ c') × (s ≡ t)
    go [] a f =
        let d = fields-same 0x5A s t (commit-alike h k) (sym (tail-eq_of_cons-eq f)) in
        (sym (a ∙ append-nil rs), commit-eq F.format d.0, d.1)
    go (r ∷ more) a f = absurd (let z : 0xA1 ≡ 0xA2 + F.format.kind = head-eq_of_cons-eq f in omega arith)

-- bytes that begin with the image of a sound checkpoint decode to it and to nothing else
pub unique : {F : Facts} {b b' : Commit} → (x y : Checkpoint) (s t : List ℕ) → Sound F b x → Sound F b' y
    → image F.format x ++ s ≡ image F.format y ++ t → (x ≡ y) × (s ≡ t)
unfolding image
unique x y s t h k e =
    let d = records-same s t h.once k.once h.after k.after e in
    let records : x.records ≡ y.records = d.0 in
    let commit : x.commit ≡ y.commit = d.1 in
    ((λ i. record { records = records i; commit = commit i }), d.2)

-- and so do bytes that begin with what is stored of it
pub unique-stored : {F : Facts} {b b' : Commit} → (x y : Checkpoint) (s t : List ℕ) → Sound F b x → Sound F b' y
    → padded F.format x ++ s ≡ padded F.format y ++ t → (x ≡ y) × (s ≡ t)
unfolding padded
unique-stored {F} x y s t h k e =
    let G = F.format in
    let fill : Checkpoint → List ℕ = λ z. replicate (fill_of G.page (length (image G z))) 0xFF in
    let u = unique x y (fill x ++ s) (fill y ++ t) h k (sym (append_assoc (image G x) (fill x) s) ∙ e ∙ append_assoc (image G y) (fill y) t) in
    (u.0, append_cancel_left (fill x) s t (u.1 ∙ ap (λ (z : Checkpoint). fill z ++ t) (sym u.0)))

-- ---- checkpoints one after the other

-- bytes with a sound checkpoint at their front begin with a whole one
front-whole : {F : Facts} {b : Commit} (x : Checkpoint) (l s t : List ℕ) → Sound F b x → s ≡ padded F.format x ++ l ++ t → Whole F b s
front-whole {F} x l s t h e = record { save = x; sound = h; rest = l ++ t; bytes = e ∙ append_assoc (padded F.format x) l t }

-- bytes hold one list of sound checkpoints after which no whole one comes
pub same-saves : {F : Facts} {b : Commit} {js js' : List Checkpoint} → (s t : List ℕ) → Rising F b js → Rising F b js'
    → images F.format js ++ s ≡ images F.format js' ++ t
    → ¬ Whole F (last_of b js) s → ¬ Whole F (last_of b js') t → (js ≡ js') × (s ≡ t)
unfolding images last_of
same-saves s t Rising.none Rising.none e m n = (refl, e)
same-saves {F} s t Rising.none (Rising.one {s = x} {js = js} h r) e m n =
    absurd (m (front-whole x (images F.format js) s t h e))
same-saves {F} s t (Rising.one {s = x} {js = js} h r) Rising.none e m n =
    absurd (n (front-whole x (images F.format js) t s h (sym e)))
same-saves {F} s t (Rising.one {s = x} {js = js} h r) (Rising.one {s = y} {js = js'} k r') e m n =
    let G = F.format in
    let i = images G js in
    let j = images G js' in
    let u = unique-stored x y (i ++ s) (j ++ t) h k (sym (append_assoc (padded G x) i s) ∙ e ∙ append_assoc (padded G y) j t) in
    let rise : Rising F x.commit js' = rw u.0 r' in
    let v = same-saves s t r rise u.1 m (rw u.0 n) in
    (ap₂ {A = Checkpoint} (λ j l. j ∷ l) u.0 v.0, v.1)

-- ---- the end of an image

-- l is something and then the byte z
pub record EndsIn (z : ℕ) (l : List ℕ) : Type 0 where
  pub front : List ℕ
  pub bytes : l ≡ front ++ (z ∷ [])

ends-append : {z : ℕ} (a : List ℕ) {l : List ℕ} → EndsIn z l → EndsIn z (a ++ l)
ends-append {z} a e = record { front = a ++ e.front; bytes = ap (λ (x : List ℕ). a ++ x) e.bytes ∙ sym (append_assoc a e.front (z ∷ [])) }

fields-end : (fs : List Field) (end : ℕ) → EndsIn end (fields_image fs end)
unfolding fields_image
fields-end [] end = record { front = []; bytes = refl }
fields-end (f ∷ fs) end = ends-append (bytes_of f.width f.number) (fields-end fs end)

records-end : {z : ℕ} (rs : List Saved) {l : List ℕ} → EndsIn z l → EndsIn z (records_image rs l)
unfolding records_image
records-end [] e = e
records-end (r ∷ rs) e = ends-append (0xA1 ∷ r.cell ∷ bytes_of 4 r.value) (records-end rs e)

-- an image ends in 5A
pub image-end : (G : Format) (s : Checkpoint) → EndsIn 0x5A (image G s)
unfolding image
image-end G s = records-end s.records (ends-append (mark_lead G ∷ []) (fields-end (fields_of G s.commit) 0x5A))

-- so it is not empty
pub image-some : (G : Format) (s : Checkpoint) → 0 < length (image G s)
image-some G s = let e = image-end G s in omega (arith, ap length e.bytes, length-append e.front (0x5A ∷ []))

-- ---- whole pages

pub padded-length : (G : Format) (s : Checkpoint) → length (padded G s) ≡ filled_of G.page (length (image G s))
unfolding padded
padded-length G s =
    let n = fill_of G.page (length (image G s)) in
    let f : length (replicate {A = ℕ} n 0xFF) ≡ n = length-replicate n 0xFF in
    omega (arith, length-append (image G s) (replicate n 0xFF))

pub padded-whole : (G : Format) → 0 < G.page → (s : Checkpoint) → pages.Whole G.page (length (padded G s))
padded-whole G h s = rw (padded-length G s) (fill-whole G.page (length (image G s)) h)

pub images-whole : (G : Format) → 0 < G.page → (js : List Checkpoint) → pages.Whole G.page (length (images G js))
unfolding images
images-whole G h [] = whole-none G.page
images-whole G h (s ∷ js) =
    rw (length-append (padded G s) (images G js)) (whole-add G.page (length (padded G s)) (length (images G js)) (padded-whole G h s) (images-whole G h js))
