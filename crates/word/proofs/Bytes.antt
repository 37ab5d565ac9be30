-- Numbers as little-endian bytes, at any width: a number and its bytes determine each other, what was stored is loaded, and what stands apart stays.
-- The code stores by `to_le_bytes` and a copy: `le-bytes`, `store_mid`.
-- Assumes nothing.
use Rattle.std.proofs.Common.{◌≡◌, ℕ, zero, suc, ◌+◌, ◌*◌, ◌/◌, ◌%◌, ◌^◌, ◌<◌, ◌≤◌, ◌⊎◌, List, [], ◌∷◌, length, get_or, take, drop, set, sym, refl, ap, ◌∙◌, inl, inr, ⊎_elim, append_assoc, mod-eq_of_lt, div-lt_iff_lt-mul, pow-suc, div-one, add-one, arith, length-take-le, drop-cons, get_or-set_other, take_at, drop_at, drop-drop, shr-shr}
use native.Mathlib.Nat.{div-div-eq-div-mul}
use borrow.Rule.Slice.PartMut.{put_mid}
use Rattle.std.specs.Int.{bytes_low_first}
use lib.Seq.{length-sets, sets-eq, set-get_or}
use Rattle.word.specs.Bytes.{byte_of, bytes_of, number_of, load_of, store_of}

-- ---- a number and its bytes

-- n bytes are n bytes
pub length-bytes : (n v : ℕ) → length (bytes_of n v) ≡ n
unfolding bytes_of
length-bytes zero v = refl
length-bytes (suc n) v = ap suc (length-bytes n (v / 256))

-- the k-th byte of v / 256 is the next one of v
byte-suc : (v k : ℕ) → byte_of (v / 256) k ≡ byte_of v (suc k)
unfolding byte_of
byte-suc v k =
    let e : 8 + 8 * k ≡ 8 * suc k = omega arith in
    rw (shr-shr v 8 (8 * k), e)

-- the byte at k of the n bytes is the k-th
pub bytes-at : (n v k : ℕ) → k < n → get_or (bytes_of n v) k 0 ≡ byte_of v k
unfolding bytes_of byte_of
bytes-at zero v k h = absurd (omega arith)
bytes-at (suc n) v zero h = omega arith
bytes-at (suc n) v (suc k) h = bytes-at n (v / 256) k (omega arith) ∙ byte-suc v k

-- a number that n bytes hold is that of its bytes
pub number-bytes : (n v : ℕ) → v < 256 ^ n → number_of (bytes_of n v) ≡ v
unfolding bytes_of number_of
number-bytes zero v h = omega arith
number-bytes (suc n) v h = omega (arith, number-bytes n (v / 256) ((div-lt_iff_lt-mul {k = 256} (omega arith)).1 (rw pow-suc at h)))

-- the lowest byte comes off, and what stands above it is left
low : (b m : ℕ) → b < 256 → (b + 256 * m) % 256 ≡ b
low b m h = omega arith

high : (b m : ℕ) → b < 256 → (b + 256 * m) / 256 ≡ m
high b m h = omega arith

-- bytes below 256 are those of their number
pub bytes-number : (bs : List ℕ) → ((i : ℕ) → get_or bs i 0 < 256) → bytes_of (length bs) (number_of bs) ≡ bs
unfolding bytes_of number_of
bytes-number [] h = refl
bytes-number (b ∷ bs) h =
    rw (low b (number_of bs) (h 0), high b (number_of bs) (h 0)) (ap (λ (l : List ℕ). b ∷ l) (bytes-number bs (λ i. h (suc i))))

-- so many bytes hold no more
pub number_lt : (bs : List ℕ) → ((i : ℕ) → get_or bs i 0 < 256) → number_of bs < 256 ^ length bs
unfolding number_of
number_lt [] h = omega arith
number_lt (b ∷ bs) h = rw pow-suc (omega (arith, h 0, number_lt bs (λ i. h (suc i))))

-- ---- loads

-- nor does a load of n bytes
pub load_lt : (n : ℕ) (s : List ℕ) (at : ℕ) → ((i : ℕ) → get_or s i 0 < 256) → load_of n s at < 256 ^ n
unfolding load_of
load_lt zero s at h = omega arith
load_lt (suc n) s at h = rw pow-suc (omega (arith, h at, load_lt n s (at + 1) h))

-- a load is the number of the bytes there
pub load-number : (n : ℕ) (s : List ℕ) (at : ℕ) → at + n ≤ length s → load_of n s at ≡ number_of (take n (drop at s))
unfolding load_of number_of
load-number zero s at h = refl
load-number (suc n) s at h =
    let i : at < length s = omega arith in
    rw (drop-cons s at 0, ← add-one at) (ap (λ (m : ℕ). get_or s at 0 + 256 * m) (load-number n s (at + 1) (omega arith)))

-- lists with the same bytes there give the same load
pub load_same : (n : ℕ) (s t : List ℕ) (at : ℕ) → ((j : ℕ) → at ≤ j → j < at + n → get_or s j 0 ≡ get_or t j 0) → load_of n s at ≡ load_of n t at
unfolding load_of
load_same zero s t at h = refl
load_same (suc n) s t at h = omega (arith, h at (omega arith) (omega arith), load_same n s t (at + 1) (λ j l k. h j (omega arith) (omega arith)))

-- a load of one byte is that byte
pub load_one : (s : List ℕ) (at : ℕ) → load_of 1 s at ≡ get_or s at 0
unfolding load_of
load_one s at = omega arith

-- ---- stores

-- a store keeps the length, past the end too
pub length-store : (n : ℕ) (s : List ℕ) (at v : ℕ) → length (store_of n s at v) ≡ length s
unfolding store_of
length-store n s at v = length-sets s at (bytes_of n v)

-- a byte that stands below or above what is stored stays
pub store_other : (n : ℕ) (s : List ℕ) (at v j : ℕ) → (j < at) ⊎ (at + n ≤ j) → get_or (store_of n s at v) j 0 ≡ get_or s j 0
unfolding store_of bytes_of
store_other zero s at v j h = refl
store_other (suc n) s at v j h =
    store_other n (set s at (v % 256)) (suc at) (v / 256) j (⊎_elim (λ l. inl (omega arith)) (λ l. inr (omega arith)) h)
    ∙ get_or-set_other s at j (v % 256) 0 (⊎_elim (λ l. omega arith) (λ l. omega arith) h)

-- what then stands there are the bytes of v
pub store_bytes : (n : ℕ) (s : List ℕ) (at v : ℕ) → at + n ≤ length s → take n (drop at (store_of n s at v)) ≡ bytes_of n v
unfolding store_of
store_bytes n s at v h =
    let l = length-bytes n v in
    let f : at + length (bytes_of n v) ≤ length s = rw l h in
    let t = length-take-le at s (omega arith) in
    rw (sets-eq (bytes_of n v) s at, append_assoc, drop_at, take_at)

-- a store of one byte sets it
pub store-one : (s : List ℕ) (at b : ℕ) → b < 256 → store_of 1 s at b ≡ set s at b
unfolding store_of bytes_of
store-one s at b h = rw (mod-eq_of_lt h)

-- ---- std's bytes

-- k bytes of v from byte i on are those of what stands above the i lowest
low_first : (i k v : ℕ) → bytes_low_first i k v ≡ bytes_of k (v / 256 ^ i)
unfolding bytes_of
low_first i zero v = refl
low_first zero (suc k) v = rw div-one (ap (λ (l : List ℕ). v % 256 ∷ l) (low_first 1 k v ∙ ap (bytes_of k) (omega arith)))
low_first (suc i) (suc k) v =
    let e : v / 256 ^ suc i / 256 ≡ v / 256 ^ suc (suc i) = div-div-eq-div-mul v (256 ^ suc i) 256 ∙ ap (λ (m : ℕ). v / m) (sym (pow-suc 256 (suc i))) in
    rw e (ap (λ (l : List ℕ). v / 256 ^ suc i % 256 ∷ l) (low_first (suc (suc i)) k v))

-- the bytes that `to_le_bytes` gives
pub le-bytes : (k v : ℕ) → bytes_low_first 0 k v ≡ bytes_of k v
le-bytes k v = low_first 0 k v ∙ ap (bytes_of k) (div-one v)

-- bytes copied onto a part of a list are a store
pub store_mid : (n k : ℕ) (s ys : List ℕ) (at v : ℕ) → k ≡ n → ys ≡ bytes_of n v → at + n ≤ length s → put_mid at k s ys ≡ store_of n s at v
unfolding store_of
store_mid n k s ys at v e f h =
    let l = length-bytes n v in
    let g : at + length (bytes_of n v) ≤ length s = rw l h in
    rw (e, f, sets-eq (bytes_of n v) s at, l, drop-drop, append_assoc) refl

-- ---- a load after a store

-- what was stored is loaded
pub load_store : (n : ℕ) (s : List ℕ) (at v : ℕ) → at + n ≤ length s → v < 256 ^ n → load_of n (store_of n s at v) at ≡ v
load_store n s at v h f =
    load-number n (store_of n s at v) at (rw (length-store n s at v) h) ∙ ap number_of (store_bytes n s at v h) ∙ number-bytes n v f

-- a load of bytes that all stand below what is stored, or all above, is as before
pub load-store-below : (m n : ℕ) (s : List ℕ) (a at v : ℕ) → a + m ≤ at → load_of m (store_of n s at v) a ≡ load_of m s a
load-store-below m n s a at v h = load_same m (store_of n s at v) s a (λ j l k. store_other n s at v j (inl (omega arith)))

-- what was loaded, stored again, changes nothing
pub store-load : (n : ℕ) (s : List ℕ) (at : ℕ) → ((i : ℕ) → get_or s i 0 < 256) → store_of n s at (load_of n s at) ≡ s
unfolding store_of bytes_of load_of
store-load zero s at h = refl
store-load (suc n) s at h =
    let l = low (get_or s at 0) (load_of n s (at + 1)) (h at) in
    let u = high (get_or s at 0) (load_of n s (at + 1)) (h at) in
    rw (l, u, set-get_or s at 0, ← add-one at) (store-load n s (at + 1) h)
