-- What the bytes at hand tell of a number that they begin: all of it where they are all there, and elsewhere how large it can be.
-- Assumes nothing.
use Rattle.std.proofs.Common.{◌≡◌, ℕ, zero, suc, ◌+◌, ◌*◌, ◌/◌, ◌%◌, ◌^◌, ◌<◌, ◌≤◌, leb, List, [], ◌∷◌, length, get_or, take, drop, sym, refl, ap, ◌∙◌, ⊎_elim, div-lt_iff_lt-mul, pow-suc, add-one, arith, drop_of_length-le, get_or-drop, drop-cons, take_at, le-leb, leb-true}
use mathlib.Core.List.{head-eq_of_cons-eq}
use lib.ListN.{get_or-eq_default}
use Rattle.word.specs.Bytes.{bytes_of, number_of, load_of}
use Rattle.word.proofs.Bytes.{length-bytes, number-bytes, bytes-number, number_lt, load_lt, load-number}
use Rattle.cellset.proofs.Bits.{le-or-lt}
use Rattle.journal.specs.Parts.{Decides, Meets, Number, byte_at}
use Rattle.journal.proofs.Meeting.{decides, meets_at, meets-first, meets-cons}

-- each is a byte
abbrev pub Small : List ℕ → Type 0
Small l = (k : ℕ) → get_or l k 0 < 256

pub small-drop : (i : ℕ) (l : List ℕ) → Small l → Small (drop i l)
small-drop i l h k = rw (get_or-drop i l k 0) (h (i + k))

-- ---- all of it

-- the bytes of a number, all there, load as it
pub meets-load : (w v : ℕ) (l : List ℕ) (i : ℕ) → v < 256 ^ w → i + w ≤ length l → Meets (bytes_of w v) (drop i l) → load_of w l i ≡ v
meets-load w v l i f h m =
    let n = length-bytes w v in
    load-number w l i h
    ∙ ap (λ (s : List ℕ). number_of (take w s)) (meets_at l i w m n h)
    ∙ ap number_of (take_at (bytes_of w v) (drop (i + w) l) w n)
    ∙ number-bytes w v f

-- what is loaded has the bytes there
pub load-meets : (w : ℕ) (l : List ℕ) (i : ℕ) → Small l → i + w ≤ length l → Meets (bytes_of w (load_of w l i)) (drop i l)
unfolding bytes_of load_of
load-meets zero l i small h = Meets.ends
load-meets (suc w) l i small h =
    let x = get_or l i 0 in
    let m = load_of w l (i + 1) in
    let low : x ≡ (x + 256 * m) % 256 = omega (arith, small i) in
    let high : (x + 256 * m) / 256 ≡ m = omega (arith, small i) in
    meets-first l i ((x + 256 * m) % 256) (omega arith) low (rw high (load-meets w l (i + 1) small (omega arith)))

module _ {P : ℕ → Type 0} (w : ℕ) (l : List ℕ) (i : ℕ) (h : i + w ≤ length l) where
  pub number-loaded : Number P w (drop i l) → P (load_of w l i)
  number-loaded n = rw (meets-load w n.number l i n.fits h n.meets) n.holds

  pub loaded-number : Small l → P (load_of w l i) → Number P w (drop i l)
  loaded-number small p = record { number = load_of w l i; holds = p; fits = load_lt w l i small; meets = load-meets w l i small h }

-- a count that is all there
pub count-whole : (l : List ℕ) (i least : ℕ) {r : ℕ} → Small l → i + 4 ≤ length l → r ≡ load_of 4 l i → Decides (Number (λ v. least ≤ v) 4 (drop i l)) (leb least r)
count-whole l i least {r} small h e =
    decides (leb least r) (λ t. loaded-number 4 l i h small (rw (sym e) (leb-true least r t))) (λ n. le-leb least r (rw e (number-loaded 4 l i h n)))

-- ---- how large it can be

-- the first w bytes of l, and FF past its end
filled : ℕ → List ℕ → List ℕ
filled zero l = []
filled (suc w) [] = 0xFF ∷ filled w []
filled (suc w) (x ∷ l) = x ∷ filled w l

filled-length : (w : ℕ) (l : List ℕ) → length (filled w l) ≡ w
unfolding filled
filled-length zero l = refl
filled-length (suc w) [] = ap suc (filled-length w [])
filled-length (suc w) (x ∷ l) = ap suc (filled-length w l)

filled-small : (w : ℕ) (l : List ℕ) → Small l → Small (filled w l)
unfolding filled
filled-small zero l h k = omega arith
filled-small (suc w) [] h zero = omega arith
filled-small (suc w) [] h (suc k) = filled-small w [] h k
filled-small (suc w) (x ∷ l) h zero = h 0
filled-small (suc w) (x ∷ l) h (suc k) = filled-small w l (λ i. h (suc i)) k

filled-meets : (w : ℕ) (l : List ℕ) → Meets (filled w l) l
unfolding filled
filled-meets zero l = Meets.ends
filled-meets (suc w) [] = Meets.cut
filled-meets (suc w) (x ∷ l) = Meets.same (filled-meets w l)

-- l begins their number
filled-number : {P : ℕ → Type 0} (w : ℕ) (l : List ℕ) → Small l → P (number_of (filled w l)) → Number P w l
filled-number w l h p =
    let n = filled-length w l in
    let s = filled-small w l h in
    let b : bytes_of w (number_of (filled w l)) ≡ filled w l = rw n at (bytes-number (filled w l) s) in
    record { number = number_of (filled w l); holds = p; fits = rw n at (number_lt (filled w l) s); meets = rw b (filled-meets w l) }

-- so bytes begin some number
pub some_number : (w : ℕ) (l : List ℕ) → Small l → Number (λ v. Unit) w l
some_number w l h = filled-number w l h tt

-- and none that is larger
filled-most : (w : ℕ) (l : List ℕ) (v : ℕ) → v < 256 ^ w → Meets (bytes_of w v) l → v ≤ number_of (filled w l)
unfolding filled bytes_of number_of
filled-most zero l v h m = omega arith
filled-most (suc w) [] v h m = omega (arith, filled-most w [] (v / 256) ((div-lt_iff_lt-mul {k = 256} (omega arith)).1 (rw pow-suc at h)) Meets.cut)
filled-most (suc w) (x ∷ l) v h m =
    let s : (x ≡ v % 256) × Meets (bytes_of w (v / 256)) l = meets-cons m in
    omega (arith, s.0, filled-most w l (v / 256) ((div-lt_iff_lt-mul {k = 256} (omega arith)).1 (rw pow-suc at h)) s.1)

-- so the test of the largest decides whether they begin one that is not below `least`
most-decides : (w : ℕ) (l : List ℕ) (least : ℕ) → Small l → Decides (Number (λ v. least ≤ v) w l) (leb least (number_of (filled w l)))
most-decides w l least h =
    decides (leb least (number_of (filled w l)))
    (λ t. filled-number w l h (leb-true _ _ t))
    (λ n. le-leb least (number_of (filled w l)) (omega (arith, n.holds, filled-most w l n.number n.fits n.meets)))

-- a byte that is there
pub byte-here : (l : List ℕ) (i : ℕ) → i < length l → get_or l i 0 ≡ byte_at l i
byte-here l i h = head-eq_of_cons-eq (sym (drop-cons l i 0 h) ∙ drop-cons l i 0xFF h)

filled_next : (w : ℕ) (l : List ℕ) (i j : ℕ) → j ≡ i + 1 → filled (suc w) (drop i l) ≡ byte_at l i ∷ filled w (drop j l)
unfolding filled
filled_next w l i j e =
    ⊎_elim
    (λ (h : length l ≤ i). rw (drop_of_length-le l h, drop_of_length-le l {i = j} (omega arith), get_or-eq_default l 0xFF h))
    (λ (h : i < length l). rw (e, add-one i, drop-cons l i 0xFF h))
    (le-or-lt (length l) i)

filled-four : (l : List ℕ) (i : ℕ) → filled 4 (drop i l) ≡ byte_at l i ∷ byte_at l (i + 1) ∷ byte_at l (i + 2) ∷ byte_at l (i + 3) ∷ []
unfolding filled
filled-four l i =
    rw (filled_next 3 l i (i + 1) refl, filled_next 2 l (i + 1) (i + 2) (omega arith), filled_next 1 l (i + 2) (i + 3) (omega arith))
    (ap (λ (m : List ℕ). byte_at l i ∷ byte_at l (i + 1) ∷ byte_at l (i + 2) ∷ m) (filled_next 0 l (i + 3) (i + 4) (omega arith)))

-- the same of four bytes that were read from i on
pub count-decides : (l : List ℕ) (i least r : ℕ) {x y z u : ℕ} → Small l → x ≡ byte_at l i → y ≡ byte_at l (i + 1) → z ≡ byte_at l (i + 2)
    → u ≡ byte_at l (i + 3) → r ≡ number_of (x ∷ y ∷ z ∷ u ∷ []) → Decides (Number (λ v. least ≤ v) 4 (drop i l)) (leb least r)
count-decides l i least r small ex ey ez eu e =
    rw (e, ex, ey, ez, eu, ← filled-four l i) (most-decides 4 (drop i l) least (small-drop i l small))
