-- Laws of the answer of `scan`. A journal has one answer (`scan-fixed`, `taken-fixed`): of a length that no chip has where it is (`length_found`), else damaged where the chip is damaged
-- (`damaged-found`), and what the engine leaves reads back as exactly its checkpoints (`shape-found`), an erased chip as none (`erased-found`). What is found
-- lies within the chip (`within`). A program's own table holds the program's facts (`facts-same`).
-- Assumes nothing.
use Rattle.std.proofs.Common.{◌≡◌, ℕ, ◌+◌, ◌-◌, ◌<◌, ◌≤◌, Bool, true, false, cond, ltb, List, [], ◌∷◌, ◌++◌, length, get_or, replicate, sym, refl, ap, ◌∙◌, subst, ⊎_elim, arith, length-append, ext_get_or, lt-ltb}
use lib.ListN.{length-replicate, get_or-eq_default}
use Rattle.cellset.proofs.Bits.{le-or-lt}
use Rattle.instruction.specs.Bytes.{cells_of}
use Rattle.program.specs.Grounds.{Allowed, granted, denied}
use Rattle.program.proofs.Tests.{clash}
use Rattle.program.specs.Places.{Place}
use Rattle.program.specs.Places.{is_exclude, exclude_number, entry_at, read_place, after_checkpoint, Places}
use Rattle.program.proofs.PlaceLaws.{place_read}
use Rattle.journal.specs.declared.Commit.{Commit}
use Rattle.journal.specs.Scanned.{Scanned}
use Rattle.journal.specs.Scanned as scanned
use Rattle.journal.specs.Format.{Format, Checkpoint, filled_of, chip_length, images}
use Rattle.journal.specs.Reading.{Facts, facts_of, first, last_of, Torn, Damaged, own_all, saved_value}
use Rattle.journal.specs.Answer.{facts_in, Taken, Blank, Scans, answer_of, Ground, size, damaged, Read, reads, ScanIs}
use Rattle.journal.proofs.Paging.{Whole, whole-none, whole_sub, fill_none, fill-whole, fill-least}
use Rattle.journal.proofs.Decoding.{images-whole}
use Rattle.journal.proofs.Back.{Shape, erased-shape, one-reading, shape-reads, not_damaged}

-- ---- the facts of a program

-- the table has 0 where no EXCLUDE stands, and only there
marked : (b : Bool) (n : ℕ) → ltb 0 (cond b (n + 1) 0) ≡ b
marked true n = lt-ltb 0 (n + 1) (omega arith)
marked false n = refl

-- the facts that a program's table of places holds are the program's
pub facts-same : (G : Format) (p table : List ℕ) → Places p table → facts_in G (cells_of p) table ≡ facts_of G p
facts-same G p table h = λ i. record { format = G; cells = cells_of p; place = λ t. place t i; exclude = λ t. exclude t i }
  where
    place : (t : ℕ) → (read_place (entry_at table t)).after ≡ after_checkpoint p t
    place t = ap (λ (x : Place). x.after) (place_read p table h t)

    exclude : (t : ℕ) → ltb 0 (read_place (entry_at table t)).exclude ≡ is_exclude p t
    exclude t = ap (λ (x : Place). ltb 0 x.exclude) (place_read p table h t) ∙ marked (is_exclude p t) (exclude_number p t)

-- ---- one answer

-- a damaged chip has no reading that is accepted
pub apart : {F : Facts} {chip : List ℕ} {end torn : ℕ} {last : Commit} {own : Bool} {values : List ℕ} → Damaged F chip → ¬ Taken F chip end torn last own values
apart {F} d t =
    let o = one-reading t.reading d.reading in
    let g = subst (λ (js : List Checkpoint). Torn F (last_of first js) t.rest) o.0 t.accepted in
    d.refused (subst (λ (q : List ℕ). Torn F (last_of first d.saves) q) o.1 g)

-- all 0 in both
blank-same : {v v' : List ℕ} → Blank v → Blank v' → v ≡ v'
blank-same {v} {v'} b b' = ext_get_or 0 v v' (b.cells ∙ sym b'.cells) (λ c _. b.values_are c ∙ sym (b'.values_are c))

-- what an accepted reading gives is fixed
pub taken-fixed : {F : Facts} {chip : List ℕ} {end torn end' torn' : ℕ} {last last' : Commit} {own own' : Bool} {v v' : List ℕ} → Taken F chip end torn last own v
    → Taken F chip end' torn' last' own' v' → (end ≡ end') × (torn ≡ torn') × (last ≡ last') × (own ≡ own') × (v ≡ v')
taken-fixed {F} {v = v} {v' = v'} x y =
    let o = one-reading x.reading y.reading in (
      x.end_is ∙ ap (λ (js : List Checkpoint). length (images F.format js)) o.0 ∙ sym y.end_is,
      x.torn_is ∙ ap (λ (q : List ℕ). filled_of F.format.page (length q)) o.1 ∙ sym y.torn_is,
      x.last_is ∙ ap (last_of first) o.0 ∙ sym y.last_is,
      x.own_is ∙ ap (own_all F.format.owner) o.0 ∙ sym y.own_is,
      ext_get_or 0 v v' (x.cells ∙ sym y.cells) λ c h.
          let k : c < 256 = omega (arith, h, x.cells) in
          x.values_are c k ∙ ap (λ (js : List Checkpoint). saved_value c js 0) o.0 ∙ sym (y.values_are c k),
    )

-- a journal's answer and its values are fixed
pub scan-fixed : (F : Facts) (chip : List ℕ) (a a' : Scanned) (v v' : List ℕ) → Scans F chip a v → Scans F chip a' v' → (a ≡ a') × (v ≡ v')
scan-fixed F chip scanned.BadLength scanned.BadLength v v' x y = (refl, blank-same x.1 y.1)
scan-fixed F chip scanned.BadLength scanned.Damaged v v' x y = clash _ y.0 x.0
scan-fixed F chip scanned.BadLength (scanned.Found end torn last own) v v' x y = clash _ y.0 x.0
scan-fixed F chip scanned.Damaged scanned.BadLength v v' x y = clash _ x.0 y.0
scan-fixed F chip scanned.Damaged scanned.Damaged v v' x y = (refl, blank-same x.2 y.2)
scan-fixed F chip scanned.Damaged (scanned.Found end torn last own) v v' x y = absurd (apart x.1 y.1)
scan-fixed F chip (scanned.Found end torn last own) scanned.BadLength v v' x y = clash _ x.0 y.0
scan-fixed F chip (scanned.Found end torn last own) scanned.Damaged v v' x y = absurd (apart y.1 x.1)
scan-fixed F chip (scanned.Found end torn last own) (scanned.Found end' torn' last' own') v v' (_, x) (_, y) =
    let f = taken-fixed x y in
    ((λ i. scanned.Found (f.0 i) (f.1 i) (f.2 i) (f.3 i)), f.4)

-- a chip of a length that no chip has is answered so, damaged or not; that no other is, is `Scans` itself
pub length_found : (F : Facts) (chip : List ℕ) (a : Scanned) (v : List ℕ) → chip_length F.format.page (length chip) ≡ false → Scans F chip a v
    → a ≡ scanned.BadLength
length_found F chip scanned.BadLength v l x = refl
length_found F chip scanned.Damaged v l x = clash _ x.0 l
length_found F chip (scanned.Found end torn last own) v l x = clash _ x.0 l

-- likewise another that is damaged
pub damaged-found : {F : Facts} {chip : List ℕ} (a : Scanned) (v : List ℕ) → chip_length F.format.page (length chip) ≡ true → Damaged F chip → Scans F chip a v
    → a ≡ scanned.Damaged
damaged-found scanned.BadLength v m d x = clash _ m x.0
damaged-found scanned.Damaged v m d x = refl
damaged-found (scanned.Found end torn last own) v m d x = absurd (apart d x.1)

-- ---- the answer in 01's terms

-- no ground is below 11, and where the length is right none is below 12
below-11 : {F : Facts} {chip : List ℕ} (m : ℕ) → m < 11 → ¬ Ground F chip m
below-11 m l (size h) = omega arith
below-11 m l (damaged d) = omega arith

below-12 : {F : Facts} {chip : List ℕ} → chip_length F.format.page (length chip) ≡ true → (m : ℕ) → m < 12 → ¬ Ground F chip m
below-12 n m l (size h) = clash _ n h
below-12 n m l (damaged d) = omega arith

-- an accepted chip has none
unground : {F : Facts} {chip : List ℕ} {end torn : ℕ} {last : Commit} {own : Bool} {values : List ℕ} → chip_length F.format.page (length chip) ≡ true → Taken F chip end torn last own values
    → (m : ℕ) → ¬ Ground F chip m
unground n t m (size h) = clash _ n h
unground n t m (damaged d) = apart d t

-- the answer is the one that the grounds allow
pub scan-ruled : (F : Facts) (chip : List ℕ) (a : Scanned) (v : List ℕ) → Scans F chip a v → Allowed (Ground F chip) (Read F chip) (answer_of a)
scan-ruled F chip scanned.BadLength v x = denied (size x.0) below-11
scan-ruled F chip scanned.Damaged v x = denied (damaged x.1) (below-12 x.0)
scan-ruled F chip (scanned.Found end torn last own) v (n, x) =
    let vs : Read F chip (end ∷ torn ∷ last.place ∷ last.exclude ∷ last.readings ∷ last.outputs ∷ last.owner ∷ cond own 1 0 ∷ []) =
    rw (x.end_is, x.torn_is, x.last_is, x.own_is) (reads x.saves x.rest x.reading x.accepted) in
    granted (unground n x) vs

-- so this is what scan promises
pub scan-is : (F : Facts) (chip : List ℕ) (a : Scanned) (v : List ℕ) → Scans F chip a v → ScanIs F chip a v
scan-is F chip a v x = record { scans = x; ruled = scan-ruled F chip a v x }

-- the whole saves end with a page, the torn bytes are whole pages, and both are part of a chip of whole pages
module _ {F : Facts} {chip : List ℕ} {end torn : ℕ} {last : Commit} {own : Bool} {values : List ℕ} (pos : 0 < F.format.page) (t : Taken F chip end torn last own values) where
  pub end_whole : Whole F.format.page end
  end_whole = rw t.end_is (images-whole F.format pos t.saves)

  pub torn-whole : Whole F.format.page torn
  torn-whole = rw t.torn_is (fill-whole F.format.page (length t.rest) pos)

  pub within : Whole F.format.page (length chip) → end + torn ≤ length chip
  within w =
      let L = F.format.page in
      let i = images F.format t.saves in
      let ff = replicate {A = ℕ} t.reading.erased 0xFF in
      let m : end + length t.rest ≤ length chip =
      omega (arith, t.end_is, ap length t.reading.bytes, length-append (i ++ t.rest) ff, length-append i t.rest) in
      let r : length t.rest ≤ length chip - end = omega arith in
      let f = fill-least L (length t.rest) (length chip - end) pos r (whole_sub L (length chip) end w end_whole) in
      omega (arith, t.torn_is, m, f)

-- ---- what the engine leaves

-- whole checkpoints, then nothing or a part of one, then FF are answered with those checkpoints, and with no more torn bytes than there are
pub shape-found : {F : Facts} {chip : List ℕ} {js : List Checkpoint} {q : List ℕ} (a : Scanned) (v : List ℕ)
    → chip_length F.format.page (length chip) ≡ true → Shape F chip js q → Scans F chip a v
    → (k : ℕ) × (k ≤ length q) × (a ≡ scanned.Found (length (images F.format js)) (filled_of F.format.page k) (last_of first js) (own_all F.format.owner js))
    × ((c : ℕ) → c < 256 → get_or v c 0 ≡ saved_value c js 0)
shape-found scanned.BadLength v m s x = clash _ m x.0
shape-found scanned.Damaged v m s x = absurd (not_damaged s x.1)
shape-found {F} {js = js} (scanned.Found end torn last own) v m s (_, x) =
    let r = shape-reads s in
    let o = one-reading x.reading r.reading in
    let e : end ≡ length (images F.format js) = x.end_is ∙ ap (λ (l : List Checkpoint). length (images F.format l)) o.0 in
    let t : torn ≡ filled_of F.format.page (length x.rest) = x.torn_is in
    let l : last ≡ last_of first js = x.last_is ∙ ap (last_of first) o.0 in
    let w : own ≡ own_all F.format.owner js = x.own_is ∙ ap (own_all F.format.owner) o.0 in
    let n = length-append r.left (replicate r.cut 0xFF) in (
      length x.rest,
      omega (arith, ap length o.1, ap length r.bytes, n),
      (λ i. scanned.Found (e i) (t i) (l i) (w i)),
      (λ c h. x.values_are c h ∙ ap (λ (l : List Checkpoint). saved_value c l 0) o.0),
    )

-- an answer has 256 values
value-count : (F : Facts) (chip : List ℕ) (a : Scanned) (v : List ℕ) → Scans F chip a v → length v ≡ 256
value-count F chip scanned.BadLength v x = x.1.cells
value-count F chip scanned.Damaged v x = x.2.cells
value-count F chip (scanned.Found end torn last own) v x = x.1.cells

-- an erased chip has no checkpoint
pub erased-found : (F : Facts) (n : ℕ) (a : Scanned) (v : List ℕ) → chip_length F.format.page n ≡ true → Scans F (replicate n 0xFF) a v → (a ≡ scanned.Found 0 0 first true) × Blank v
unfolding images last_of saved_value own_all
erased-found F n a v m x =
    let f = shape-found a v (ap (chip_length F.format.page) (length-replicate {A = ℕ} n 0xFF) ∙ m) (erased-shape n) x in
    let z : f.0 ≡ 0 = omega (arith, f.1) in
    let none : filled_of F.format.page f.0 ≡ 0 =
    ap (filled_of F.format.page) z ∙ omega (arith, fill_none F.format.page 0 (whole-none F.format.page)) in
    let count = value-count F (replicate n 0xFF) a v x in (
      f.2 ∙ ap (λ (k : ℕ). scanned.Found 0 k first true) none,
      record { cells = count; values_are = λ c. ⊎_elim (λ (h : 256 ≤ c). get_or-eq_default v 0 (omega arith)) (f.3 c) (le-or-lt 256 c) },
    )
