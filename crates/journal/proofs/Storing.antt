-- What a store and an erase do to whole checkpoints, a part of one and FF: a store of its next bytes makes the part longer (`stored`), the one that ends it
-- adds it to the whole ones (`completed`), and an erase of the highest torn bytes makes the part shorter (`erased`). Below the same for one page, of any
-- length.
-- Assumes nothing.
use Rattle.std.proofs.Common.{◌≡◌, ℕ, ◌+◌, ◌-◌, ◌<◌, ◌≤◌, Bool, ◌&&◌, eqb, List, [], ◌∷◌, ◌++◌, length, take, drop, replicate, sym, refl, ap, ◌∙◌, subst, inl, inr, ⊎_elim, append_assoc, append-nil, arith, length-append, length-drop, take-append-drop, length-take-le, take_all, take_at, take-add, drop_at}
use mathlib.Core.Bool.{and-true, and_assoc}
use lib.ListN.{length-replicate, replicate-append-replicate}
use lib.Seq.{sets, sets-eq, take-append-le, take-append-add, drop-append-le, drop-append-add}
use Rattle.cellset.proofs.Bits.{le-or-lt}
use Rattle.journal.specs.declared.Commit.{Commit}
use Rattle.journal.specs.Format.{Format, Checkpoint, image, fill_of, padded, images}
use Rattle.journal.specs.Reading.{Facts, first, Sound, Rising, last_of, own_all, saved_in, saved_value}
use Rattle.journal.proofs.Paging.{Whole, whole-add, whole-page, whole-next, fill-lt}
use Rattle.journal.proofs.Decoding.{padded-length, padded-whole}
use Rattle.journal.proofs.Torn.{ff-join}
use Rattle.journal.specs.Shape.{Cut}
use Rattle.journal.proofs.Back.{Shape, cut-less}

-- ---- one checkpoint more

pub images-snoc : (G : Format) (js : List Checkpoint) (s : Checkpoint) → images G (js ++ (s ∷ [])) ≡ images G js ++ padded G s
unfolding images
images-snoc G [] s = append-nil (padded G s)
images-snoc G (j ∷ js) s = ap (λ (l : List ℕ). padded G j ++ l) (images-snoc G js s) ∙ sym (append_assoc (padded G j) (images G js) (padded G s))

pub rising_snoc : {F : Facts} {b : Commit} {js : List Checkpoint} (s : Checkpoint) → Rising F b js → Sound F (last_of b js) s → Rising F b (js ++ (s ∷ []))
unfolding last_of
rising_snoc s Rising.none h = Rising.one h Rising.none
rising_snoc s (Rising.one g r) h = Rising.one g (rising_snoc s r h)

pub last_snoc : (b : Commit) (js : List Checkpoint) (s : Checkpoint) → last_of b (js ++ (s ∷ [])) ≡ s.commit
unfolding last_of
last_snoc b [] s = refl
last_snoc b (j ∷ js) s = last_snoc j.commit js s

pub saved-snoc : (c : ℕ) (js : List Checkpoint) (s : Checkpoint) (v : ℕ) → saved_value c (js ++ (s ∷ [])) v ≡ saved_in c s.records (saved_value c js v)
unfolding saved_value
saved-snoc c [] s v = refl
saved-snoc c (j ∷ js) s v = saved-snoc c js s (saved_in c j.records v)

pub own-snoc : (owner : ℕ) (js : List Checkpoint) (s : Checkpoint) → own_all owner (js ++ (s ∷ [])) ≡ (own_all owner js && eqb s.commit.owner owner)
unfolding own_all
own-snoc owner [] s = and-true (eqb s.commit.owner owner)
own-snoc owner (j ∷ js) s =
    ap (λ (b : Bool). eqb j.commit.owner owner && b) (own-snoc owner js s)
    ∙ sym (and_assoc (eqb j.commit.owner owner) (own_all owner js) (eqb s.commit.owner owner))

-- ---- bytes

-- a store over as many bytes
pub over : (p old new t : List ℕ) (at : ℕ) → length old ≡ length new → length p ≡ at → sets (p ++ old ++ t) at new ≡ p ++ new ++ t
over p old new t at n e =
    let l = length-append (p ++ old) t in
    let k = length-append p old in
    let a : take at (p ++ old ++ t) ≡ p = ap (take at) (append_assoc p old t) ∙ take_at p (old ++ t) at e in
    let b : drop (at + length new) (p ++ old ++ t) ≡ t = drop_at (p ++ old) t (at + length new) (omega arith) in
    sets-eq new (p ++ old ++ t) at (omega arith)
    ∙ ap (λ (x : List ℕ). x ++ new ++ drop (at + length new) (p ++ old ++ t)) a
    ∙ ap (λ (x : List ℕ). p ++ new ++ x) b

-- u stored over FF bytes behind p and q
put : (p q u : List ℕ) (m : ℕ) → sets (p ++ q ++ replicate (length u + m) 0xFF) (length p + length q) u ≡ p ++ (q ++ u) ++ replicate m 0xFF
put p q u m =
    ap (λ (x : List ℕ). sets x (length p + length q) u) (sym (ff-join (p ++ q) (length u) m))
    ∙ over (p ++ q) (replicate (length u) 0xFF) u (replicate m 0xFF) (length p + length q) (length-replicate (length u) 0xFF) (length-append p q)
    ∙ ap (λ (x : List ℕ). x ++ replicate m 0xFF) (append_assoc p q u)

ff-length : (n : ℕ) → length (replicate {A = ℕ} n 0xFF) ≡ n
ff-length n = length-replicate n 0xFF

-- n FF bytes stored over those of l from k on, behind p
over-ff : (p l : List ℕ) (k n : ℕ) → k + n ≤ length l
    → sets (p ++ l) (length p + k) (replicate n 0xFF) ≡ p ++ (take k l ++ (replicate n 0xFF ++ drop (k + n) l))
over-ff p l k n h =
    let z : List ℕ = replicate n 0xFF in
    let m : length p + k + length z ≡ length p + (k + n) = omega (arith, ff-length n) in
    sets-eq z (p ++ l) (length p + k) (omega (arith, length-append p l, ff-length n))
    ∙ ap (λ (x : List ℕ). x ++ z ++ drop (length p + k + length z) (p ++ l)) (take-append-add p l k)
    ∙ ap (λ (x : List ℕ). (p ++ take k l) ++ z ++ x) (ap (λ (i : ℕ). drop i (p ++ l)) m ∙ drop-append-add p l (k + n))
    ∙ append_assoc (p ++ take k l) z (drop (k + n) l)
    ∙ append_assoc p (take k l) (z ++ drop (k + n) l)

-- FF bytes are these and the others
ff-split : (k n : ℕ) → k ≤ n → replicate {A = ℕ} n 0xFF ≡ replicate k 0xFF ++ replicate (n - k) 0xFF
ff-split k n h = let e : n ≡ k + (n - k) = omega arith in ap (λ (i : ℕ). replicate i 0xFF) e ∙ sym (replicate-append-replicate k (n - k) 0xFF)

-- the first k of bytes and FF bytes behind them, and what follows where they are all FF
take-ff : (q : List ℕ) (k f : ℕ) → k ≤ length q + f → take k (q ++ replicate f 0xFF) ≡ take k q ++ replicate (k - length q) 0xFF
take-ff q k f h =
    ⊎_elim
    (λ (l : k ≤ length q).
    let z : 0 ≡ k - length q = omega arith in
    take-append-le k q (replicate f 0xFF) l ∙ sym (append-nil (take k q)) ∙ ap (λ (n : ℕ). take k q ++ replicate n 0xFF) z)
    (λ (l : length q < k).
    let j : ℕ = k - length q in
    let e : k ≡ length q + j = omega arith in
    let s = ff-split j f (omega arith) in
    ap (λ (i : ℕ). take i (q ++ replicate f 0xFF)) e
    ∙ take-append-add q (replicate f 0xFF) j
    ∙ ap (λ (x : List ℕ). q ++ x) (ap (take j) s ∙ take_at (replicate j 0xFF) (replicate (f - j) 0xFF) j (ff-length j))
    ∙ ap (λ (x : List ℕ). x ++ replicate j 0xFF) (sym (take_all k q (omega arith))))
    (le-or-lt k (length q))

drop-ff : (q : List ℕ) (n f : ℕ) → length q ≤ n → n ≤ length q + f → drop n (q ++ replicate f 0xFF) ≡ replicate (length q + f - n) 0xFF
drop-ff q n f h l =
    let j : ℕ = n - length q in
    let e : n ≡ length q + j = omega arith in
    let r : f - j ≡ length q + f - n = omega arith in
    let s = ff-split j f (omega arith) in
    ap (λ (i : ℕ). drop i (q ++ replicate f 0xFF)) e
    ∙ drop-append-add q (replicate f 0xFF) j
    ∙ ap (drop j) s
    ∙ drop_at (replicate j 0xFF) (replicate (f - j) 0xFF) j (ff-length j)
    ∙ ap (λ (i : ℕ). replicate i 0xFF) r

-- ---- a store and an erase

pub shape-length : {F : Facts} {chip : List ℕ} {js : List Checkpoint} {q : List ℕ} (h : Shape F chip js q)
    → length chip ≡ length (images F.format js) + length q + h.free
shape-length {F} {js = js} {q = q} h =
    let i = images F.format js in
    let f : length (replicate {A = ℕ} h.free 0xFF) ≡ h.free = length-replicate h.free 0xFF in
    omega (arith, ap length h.bytes, length-append (i ++ q) (replicate h.free 0xFF), length-append i q)

-- the bytes after a store of u behind q
stored_bytes : {F : Facts} {chip : List ℕ} {js : List Checkpoint} {q : List ℕ} (h : Shape F chip js q) (u : List ℕ)
    → length (images F.format js) + length q + length u ≤ length chip
    → sets chip (length (images F.format js) + length q) u ≡ images F.format js ++ (q ++ u) ++ replicate (h.free - length u) 0xFF
stored_bytes {F} {chip} {js} {q} h u r =
    let i = images F.format js in
    let f : h.free ≡ length u + (h.free - length u) = omega (arith, shape-length h) in
    ap (λ (x : List ℕ). sets x (length i + length q) u) (h.bytes ∙ ap (λ (n : ℕ). i ++ q ++ replicate n 0xFF) f)
    ∙ put i q u (h.free - length u)

-- the next bytes of the checkpoint s, not the last
pub stored : {F : Facts} {chip : List ℕ} {js : List Checkpoint} {q : List ℕ} → Shape F chip js q → (s : Checkpoint) (u more : List ℕ)
    → Sound F (last_of first js) s → image F.format s ≡ q ++ u ++ more → 0 < length more → length (images F.format js) + length q + length u ≤ length chip
    → Shape F (sets chip (length (images F.format js) + length q) u) js (q ++ u)
stored h s u more g e l r = record {
  free = h.free - length u;
  rising = h.rising;
  cut = inr (record { save = s; sound = g; more = more; bytes = e; short = l });
  bytes = stored_bytes h u r;
}

-- the last bytes of it: one more whole checkpoint, and nothing torn
pub completed : {F : Facts} {chip : List ℕ} {js : List Checkpoint} {q : List ℕ} → Shape F chip js q → (s : Checkpoint) (u : List ℕ)
    → Sound F (last_of first js) s → padded F.format s ≡ q ++ u → length (images F.format js) + length q + length u ≤ length chip
    → Shape F (sets chip (length (images F.format js) + length q) u) (js ++ (s ∷ [])) []
completed {F} {js = js} {q = q} h s u g e r =
    let G = F.format in
    let n = ap (λ (x : List ℕ). images G js ++ x) (sym e) ∙ sym (images-snoc G js s) in
    let i : images G js ++ (q ++ u) ≡ images G (js ++ (s ∷ [])) ++ [] = n ∙ sym (append-nil (images G (js ++ (s ∷ [])))) in
    record {
      free = h.free - length u;
      rising = rising_snoc s h.rising g;
      cut = inl refl;
      bytes = stored_bytes h u r ∙ ap (λ (x : List ℕ). x ++ replicate (h.free - length u) 0xFF) i;
    }

-- FF bytes from k on, as far as the torn ones reach
pub erased : {F : Facts} {chip : List ℕ} {js : List Checkpoint} {q : List ℕ} → Shape F chip js q → (k n : ℕ) → length q ≤ k + n
    → length (images F.format js) + k + n ≤ length chip
    → Shape F (sets chip (length (images F.format js) + k) (replicate n 0xFF)) js (take k q)
erased {F} {chip} {js} {q} h k n l r =
    let i = images F.format js in
    let f : k + n ≤ length q + h.free = omega (arith, shape-length h) in
    let w : ℕ = length q + h.free - (k + n) in
    let at = ap (λ (x : List ℕ). sets x (length i + k) (replicate n 0xFF)) (h.bytes ∙ append_assoc i q (replicate h.free 0xFF)) in
    record {
      free = k - length q + (n + w);
      rising = h.rising;
      cut = cut-less (take k q) (drop k q) (subst (λ (x : List ℕ). Cut F (last_of first js) x) (sym (take-append-drop k q)) h.cut);
      bytes =
          at
          ∙ over-ff i (q ++ replicate h.free 0xFF) k n (omega (arith, length-append q (replicate h.free 0xFF), ff-length h.free))
          ∙ ap (λ (x : List ℕ). i ++ (x ++ (replicate n 0xFF ++ drop (k + n) (q ++ replicate h.free 0xFF)))) (take-ff q k h.free (omega arith))
          ∙ ap (λ (x : List ℕ). i ++ ((take k q ++ replicate (k - length q) 0xFF) ++ (replicate n 0xFF ++ x))) (drop-ff q (k + n) h.free l f)
          ∙ ap (λ (x : List ℕ). i ++ ((take k q ++ replicate (k - length q) 0xFF) ++ x)) (replicate-append-replicate n w 0xFF)
          ∙ ap (λ (x : List ℕ). i ++ x) (ff-join (take k q) (k - length q) (n + w))
          ∙ sym (append_assoc i (take k q) (replicate (k - length q + (n + w)) 0xFF));
    }

-- ---- one page

-- the page from k on
abbrev pub page_at : Format → Checkpoint → ℕ → List ℕ
page_at G s k = take G.page (drop k (padded G s))

-- whole pages of what is stored of a checkpoint, and one page more: short of the end, they are pages of its image
page-within : (G : Format) (s : Checkpoint) (k : ℕ) → 0 < G.page → Whole G.page k → k + G.page < length (padded G s) → k + G.page < length (image G s)
page-within G s k h w l =
    let L = G.page in
    let n = whole-next L (k + L) (length (padded G s)) (whole-add L k L w (whole-page L)) (padded-whole G h s) l in
    omega (arith, n, padded-length G s, fill-lt L (length (image G s)) h)

-- the filling
fill : Format → Checkpoint → List ℕ
fill G s = replicate (fill_of G.page (length (image G s))) 0xFF

padded-is : (G : Format) (s : Checkpoint) → padded G s ≡ image G s ++ fill G s
unfolding padded fill
padded-is G s = refl

-- the page number k / L of the checkpoint s, not its last
pub stored-page : {F : Facts} {chip : List ℕ} {js : List Checkpoint} (s : Checkpoint) (k : ℕ) → 0 < F.format.page → Whole F.format.page k
    → Shape F chip js (take k (image F.format s)) → Sound F (last_of first js) s → k + F.format.page < length (padded F.format s)
    → length (images F.format js) + k + F.format.page ≤ length chip
    → Shape F (sets chip (length (images F.format js) + k) (page_at F.format s k)) js (take (k + F.format.page) (image F.format s))
stored-page {F} {chip} {js} s k pos w h g l r =
    let G = F.format in
    let L = G.page in
    let i = image G s in
    let m = page-within G s k pos w l in
    let n : length (take k i) ≡ k = length-take-le k i (omega arith) in
    let d : L ≤ length (drop k i) = omega (arith, length-drop k i) in
    let u : page_at G s k ≡ take L (drop k i) =
    ap (λ (x : List ℕ). take L (drop k x)) (padded-is G s) ∙ ap (take L) (drop-append-le k i (fill G s) (omega arith)) ∙ take-append-le L (drop k i) (fill G s) d in
    let t : take (k + L) i ≡ take k i ++ page_at G s k = take-add k L i ∙ ap (λ (x : List ℕ). take k i ++ x) (sym u) in
    let e : i ≡ take k i ++ page_at G s k ++ drop (k + L) i = sym (take-append-drop (k + L) i) ∙ ap (λ (x : List ℕ). x ++ drop (k + L) i) t in
    let c : 0 < length (drop (k + L) i) = omega (arith, length-drop (k + L) i) in
    let v : length (page_at G s k) ≡ L = ap length u ∙ length-take-le L (drop k i) d in
    let z = stored h s (page_at G s k) (drop (k + L) i) g e c (omega arith) in
    subst (λ (x : List ℕ). Shape F (sets chip (length (images G js) + k) (page_at G s k)) js x) (sym t)
    (subst (λ (a : ℕ). Shape F (sets chip (length (images G js) + a) (page_at G s k)) js (take k i ++ page_at G s k)) n z)

-- its last page
pub completed-page : {F : Facts} {chip : List ℕ} {js : List Checkpoint} (s : Checkpoint) (k : ℕ) → 0 < F.format.page → Shape F chip js (take k (image F.format s))
    → Sound F (last_of first js) s → k + F.format.page ≡ length (padded F.format s)
    → length (images F.format js) + k + F.format.page ≤ length chip
    → Shape F (sets chip (length (images F.format js) + k) (page_at F.format s k)) (js ++ (s ∷ [])) []
completed-page {F} {chip} {js} s k pos h g l r =
    let G = F.format in
    let L = G.page in
    let i = image G s in
    let m : k ≤ length i = omega (arith, padded-length G s, fill-lt L (length i) pos) in
    let n : length (take k i) ≡ k = length-take-le k i m in
    let d : length (drop k (padded G s)) ≡ L = omega (arith, length-drop k (padded G s)) in
    let u : page_at G s k ≡ drop k (padded G s) = take_all L (drop k (padded G s)) (omega arith) in
    let t : take k (padded G s) ≡ take k i = ap (take k) (padded-is G s) ∙ take-append-le k i (fill G s) m in
    let e : padded G s ≡ take k i ++ page_at G s k =
    sym (take-append-drop k (padded G s)) ∙ ap (λ (x : List ℕ). x ++ drop k (padded G s)) t ∙ ap (λ (x : List ℕ). take k i ++ x) (sym u) in
    let v : length (page_at G s k) ≡ L = ap length u ∙ d in
    subst (λ (a : ℕ). Shape F (sets chip (length (images G js) + a) (page_at G s k)) (js ++ (s ∷ [])) []) n
    (completed h s (page_at G s k) g e (omega arith))
