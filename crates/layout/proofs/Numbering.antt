-- Numbers that stand one behind the other in bytes: how many they are, where they part, and that the bytes of numbers give them back.
-- Assumes nothing.
use mathlib.Core.Path.{◌≡◌, refl, sym, ap, ◌∙◌}
use mathlib.Core.List.{List, [], ◌∷◌, ◌++◌, map, append_assoc}
use Prim.Native.Nat.{ℕ, zero, suc, ◌+◌, ◌*◌, ◌^◌, ◌<◌, ◌≤◌, ◌/◌, ◌%◌}
use native.Mathlib.Nat.{zero-add, add-zero, suc-add, mul-zero, mul-suc}
use native.Mathlib.Numerals.{add-one}
use native.Mathlib.Omega.{arith}
use lib.IntN.{ℤ}
use lib.ListN.{length, get_or, take, drop, length-append}
use lib.Seq.{take_at, take-add, drop_at, drop-cons, drop-drop}
use Rattle.word.specs.Word.{val, bits_of}
use Rattle.word.specs.Bytes.{bytes_of, number_of, load_of}
use Rattle.word.proofs.Bytes.{length-bytes, number-bytes, load-number}
use Rattle.layout.specs.Numbers.{numbers_from, bytes_of_all, signed_from, signed_bytes}

-- ---- numbers that are loaded

-- n numbers are n numbers
pub numbers-length : (w n : ℕ) (b : List ℕ) (at : ℕ) → length (numbers_from w n b at) ≡ n
unfolding numbers_from
numbers-length w zero b at = refl
numbers-length w (suc n) b at = ap suc (numbers-length w n b (at + w))

-- the first j of them, and then k more
pub numbers-split : (w j k : ℕ) (b : List ℕ) (at : ℕ) → numbers_from w (j + k) b at ≡ numbers_from w j b at ++ numbers_from w k b (at + w * j)
unfolding numbers_from
numbers-split w zero k b at = rw (zero-add k, mul-zero w, add-zero at)
numbers-split w (suc j) k b at =
    let e : at + w * suc j ≡ at + w + w * j = omega (arith, mul-suc w j) in
    rw (suc-add j k, e) (ap (λ (r : List ℕ). load_of w b at ∷ r) (numbers-split w j k b (at + w)))

-- ---- bytes that are stored

-- there are w for each number
pub all-length : (w : ℕ) (vs : List ℕ) → length (bytes_of_all w vs) ≡ w * length vs
unfolding bytes_of_all
all-length w [] = sym (mul-zero w)
all-length w (v ∷ vs) = omega (arith, length-append (bytes_of w v) (bytes_of_all w vs), length-bytes w v, all-length w vs, mul-suc w (length vs))

-- those of two lists stand one behind the other
pub all_append : (w : ℕ) (vs us : List ℕ) → bytes_of_all w (vs ++ us) ≡ bytes_of_all w vs ++ bytes_of_all w us
unfolding bytes_of_all
all_append w [] us = refl
all_append w (v ∷ vs) us = rw (all_append w vs us) (sym (append_assoc (bytes_of w v) (bytes_of_all w vs) (bytes_of_all w us)))

-- what holds two lists below m holds both together below it
pub below-append : (m : ℕ) (xs ys : List ℕ) → ((k : ℕ) → get_or xs k 0 < m) → ((k : ℕ) → get_or ys k 0 < m) → (k : ℕ) → get_or (xs ++ ys) k 0 < m
below-append m [] ys f g k = g k
below-append m (x ∷ xs) ys f g zero = f zero
below-append m (x ∷ xs) ys f g (suc k) = below-append m xs ys (λ i. f (suc i)) g k

-- ---- bytes that give numbers back

-- one number
load-back : (w v : ℕ) (pre post : List ℕ) (at : ℕ) → length pre ≡ at → v < 256 ^ w → load_of w (pre ++ (bytes_of w v ++ post)) at ≡ v
load-back w v pre post at e h =
    let room : at + w ≤ length (pre ++ (bytes_of w v ++ post)) =
    omega (arith, length-append pre (bytes_of w v ++ post), length-append (bytes_of w v) post, length-bytes w v, e) in
    load-number w (pre ++ (bytes_of w v ++ post)) at room
    ∙ ap (λ (l : List ℕ). number_of (take w l)) (drop_at pre (bytes_of w v ++ post) at e)
    ∙ ap number_of (take_at (bytes_of w v) post w (length-bytes w v))
    ∙ number-bytes w v h

-- all of them, from where the first begins
back_from : (w : ℕ) (vs pre post : List ℕ) (at : ℕ) → length pre ≡ at → ((k : ℕ) → get_or vs k 0 < 256 ^ w)
    → numbers_from w (length vs) (pre ++ (bytes_of_all w vs ++ post)) at ≡ vs
unfolding numbers_from bytes_of_all
back_from w [] pre post at e h = refl
back_from w (v ∷ vs) pre post at e h =
    let next : length (pre ++ bytes_of w v) ≡ at + w = omega (arith, length-append pre (bytes_of w v), length-bytes w v, e) in
    let rest = back_from w vs (pre ++ bytes_of w v) post (at + w) next (λ k. h (suc k)) in
    let inner : bytes_of w v ++ bytes_of_all w vs ++ post ≡ bytes_of w v ++ (bytes_of_all w vs ++ post) = append_assoc (bytes_of w v) (bytes_of_all w vs) post in
    let outer = append_assoc pre (bytes_of w v) (bytes_of_all w vs ++ post) in
    rw inner
    (λ i. load-back w v pre (bytes_of_all w vs ++ post) at e (h 0) i
    ∷ (ap (λ (b : List ℕ). numbers_from w (length vs) b (at + w)) (sym outer) ∙ rest) i)

-- the same of bytes that are known by an equation
pub numbers-back : (w n : ℕ) (vs pre post : List ℕ) (at : ℕ) {b : List ℕ} → b ≡ pre ++ (bytes_of_all w vs ++ post) → length pre ≡ at → length vs ≡ n
    → ((k : ℕ) → get_or vs k 0 < 256 ^ w) → numbers_from w n b at ≡ vs
numbers-back w n vs pre post at f e l h = rw (f, ← l) (back_from w vs pre post at e h)

-- what was loaded gives its bytes back, of one number
load-bytes : (w : ℕ) (b : List ℕ) (at : ℕ) → at + w ≤ length b → ((k : ℕ) → get_or b k 0 < 256) → bytes_of w (load_of w b at) ≡ take w (drop at b)
unfolding bytes_of load_of
load-bytes zero b at room h = refl
load-bytes (suc w) b at room h =
    let first : at < length b = omega arith in
    let low : (get_or b at 0 + 256 * load_of w b (at + 1)) % 256 ≡ get_or b at 0 = omega (arith, h at) in
    let high : (get_or b at 0 + 256 * load_of w b (at + 1)) / 256 ≡ load_of w b (at + 1) = omega (arith, h at) in
    rw (low, high, drop-cons b at 0, ← add-one at) (ap (λ (l : List ℕ). get_or b at 0 ∷ l) (load-bytes w b (at + 1) (omega arith) h))

-- and of numbers
pub numbers-bytes : (w n : ℕ) (b : List ℕ) (at : ℕ) → at + w * n ≤ length b → ((k : ℕ) → get_or b k 0 < 256)
    → bytes_of_all w (numbers_from w n b at) ≡ take (w * n) (drop at b)
unfolding numbers_from bytes_of_all
numbers-bytes w zero b at room h = rw (mul-zero w)
numbers-bytes w (suc n) b at room h =
    let e : w * suc n ≡ w + w * n = omega (arith, mul-suc w n) in
    rw (e, take-add w (w * n) (drop at b), drop-drop w at b)
    (λ i. load-bytes w b at (omega (arith, e)) h i ++ numbers-bytes w n b (at + w) (omega (arith, e)) h i)

-- ---- signed numbers

-- signed numbers are the values of those that are loaded
pub signed-numbers : (n : ℕ) (b : List ℕ) (at : ℕ) → signed_from n b at ≡ map val (numbers_from 4 n b at)
unfolding numbers_from signed_from
signed-numbers zero b at = refl
signed-numbers (suc n) b at = ap (λ (r : List ℤ). val (load_of 4 b at) ∷ r) (signed-numbers n b (at + 4))

-- and their bytes those of their patterns
pub signed_all : (vs : List ℤ) → signed_bytes vs ≡ bytes_of_all 4 (map bits_of vs)
unfolding signed_bytes bytes_of_all
signed_all [] = refl
signed_all (v ∷ vs) = ap (λ (r : List ℕ). bytes_of 4 (bits_of v) ++ r) (signed_all vs)
