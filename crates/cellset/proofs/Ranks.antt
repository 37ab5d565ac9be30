-- What `count`, `nth_bit` and `nth` compute: the number of a word's bits, the bit with k set bits below it, and the same for the cells of a set.
-- Assumes nothing.
use mathlib.Core.Path.{◌≡◌, refl, sym, ap, ap₂, ◌∙◌}
use mathlib.Core.Logic.{◌⊎◌, ⊎_elim}
use mathlib.Core.List.{List, [], ◌∷◌, ◌++◌, map}
use mathlib.Core.Bool.{Bool, true, false, cond}
use Prim.Native.Nat.{ℕ, zero, suc, ◌+◌, ◌-◌, ◌*◌, ◌/◌, ◌%◌, ◌^◌, ◌≤◌, ◌<◌}
use native.Mathlib.Nat.{add-zero, zero-add, pow-suc, le_of_suc-le-suc, not-suc-le-zero}
use native.Mathlib.Numerals.{add-one}
use native.Mathlib.Omega.{arith}
use lib.Arith.{lt-one}
use lib.Bits.{bit_and, and_step, and_self}
use lib.Count.{ones, ones_step, ones-le, count_trailing_zeros}
use lib.Dec.{eqb}
use lib.ListN.{length, get_or, length-map, get_or-map, length-append, get_or-append}
use lib.Seq.{get_or-append-add}
use mir.Syntax.{w64}
use Rattle.std.specs.List.{sum_by}
use mir.Val.{Fits}
use Rattle.cellset.specs.Bits.{bit, has}
use Rattle.cellset.specs.Members.{members_from, members, bits_from}
use Rattle.cellset.proofs.Bits.{bit-zero, bit-suc, bit-cases, bit-of-zero}
use Rattle.cellset.proofs.Words.{has-at}

-- a list that x may stand in front of, under `map`
map-cond : (f : ℕ → ℕ) (b : Bool) (x : ℕ) (l : List ℕ) → map f (cond b (x ∷ l) l) ≡ cond b (f x ∷ map f l) (map f l)
map-cond f true x l = refl
map-cond f false x l = refl

-- the bits from bit c + 1 on are those of the half from bit c on
bits-suc : (w c n : ℕ) → bits_from w (suc c) n ≡ map suc (bits_from (w / 2) c n)
unfolding bits_from
bits-suc w c zero = refl
bits-suc w c (suc n) = rw (bit-suc w c, bits-suc w (suc c) n) (sym (map-cond suc (eqb (bit (w / 2) c) 1) c (bits_from (w / 2) (suc c) n)))

-- the bits of an odd number
bits-odd : (w n : ℕ) → w % 2 ≡ 1 → bits_from w 0 (suc n) ≡ 0 ∷ map suc (bits_from (w / 2) 0 n)
unfolding bits_from
bits-odd w n e = rw (bit-zero w, e, bits-suc w 0 n)

-- the bits of an even number
bits-even : (w n : ℕ) → w % 2 ≡ 0 → bits_from w 0 (suc n) ≡ map suc (bits_from (w / 2) 0 n)
unfolding bits_from
bits-even w n e = rw (bit-zero w, e, bits-suc w 0 n)

-- a number is even or odd
even-or-odd : (w : ℕ) → (w % 2 ≡ 0) ⊎ (w % 2 ≡ 1)
even-or-odd w = rw (sym (bit-zero w)) (bit-cases w 0)

-- a word has as many bits as `count_ones` says
bits-length : (n w : ℕ) → w < 2 ^ n → length (bits_from w 0 n) ≡ ones w
unfolding bits_from ones
bits-length zero w h = ap ones (sym (lt-one h))
bits-length (suc n) w h =
    let ih : length (bits_from (w / 2) 0 n) ≡ ones (w / 2) = bits-length n (w / 2) (omega (arith, pow-suc 2 n)) in
    let moved : length (map suc (bits_from (w / 2) 0 n)) ≡ ones (w / 2) = length-map (bits_from (w / 2) 0 n) suc ∙ ih in
    ⊎_elim
    (λ (e : w % 2 ≡ 0). ap length (bits-even w n e) ∙ omega (arith, moved, ones_step w))
    (λ (e : w % 2 ≡ 1). ap length (bits-odd w n e) ∙ omega (arith, moved, ones_step w))
    (even-or-odd w)

-- a rank in the bits of the half, moved by one
bits-moved : (w n k : ℕ) → get_or (map suc (bits_from w 0 n)) k (suc n) ≡ suc (get_or (bits_from w 0 n) k n)
bits-moved w n k = get_or-map suc (bits_from w 0 n) k n

-- `w & (w - 1)` is even
clear-even : (w : ℕ) → bit_and w (w - 1) % 2 ≡ 0
clear-even w = omega (arith, and_step w (w - 1))

-- an odd w keeps its half
clear-odd-half : (w : ℕ) → w % 2 ≡ 1 → bit_and w (w - 1) / 2 ≡ w / 2
clear-odd-half w e =
    let h : (w - 1) / 2 ≡ w / 2 = omega arith in
    let s : bit_and (w / 2) ((w - 1) / 2) ≡ w / 2 = rw h (and_self (w / 2)) in
    omega (arith, and_step w (w - 1))

-- an even w is cleared in its half
clear-even-half : (w : ℕ) → w % 2 ≡ 0 → bit_and w (w - 1) / 2 ≡ bit_and (w / 2) (w / 2 - 1)
clear-even-half w e =
    let h : (w - 1) / 2 ≡ w / 2 - 1 = omega arith in
    rw (sym h) (omega (arith, and_step w (w - 1)))

-- so `w & (w - 1)` is w without its lowest bit
bits-clear : (n w k : ℕ) → get_or (bits_from w 0 n) (suc k) n ≡ get_or (bits_from (bit_and w (w - 1)) 0 n) k n
unfolding bits_from
bits-clear zero w k = refl
bits-clear (suc n) w k =
    let cleared : bits_from (bit_and w (w - 1)) 0 (suc n) ≡ map suc (bits_from (bit_and w (w - 1) / 2) 0 n) = bits-even (bit_and w (w - 1)) n (clear-even w) in
    ⊎_elim
    (λ (e : w % 2 ≡ 0).
    rw (bits-even w n e, cleared, clear-even-half w e, bits-moved (w / 2) n (suc k), bits-moved (bit_and (w / 2) (w / 2 - 1)) n k)
    (ap suc (bits-clear n (w / 2) k)))
    (λ (e : w % 2 ≡ 1). rw (bits-odd w n e, cleared, clear-odd-half w e))
    (even-or-odd w)

-- the lowest bit is where `trailing_zeros` says
bits-lowest : (n w : ℕ) → get_or (bits_from w 0 n) 0 n ≡ count_trailing_zeros n w
unfolding bits_from count_trailing_zeros
bits-lowest zero w = refl
bits-lowest (suc n) w =
    ⊎_elim
    (λ (e : w % 2 ≡ 0). rw (bits-even w n e, bits-moved (w / 2) n 0, e) (ap suc (bits-lowest n (w / 2))))
    (λ (e : w % 2 ≡ 1). rw (bits-odd w n e, e))
    (even-or-odd w)

-- 0 has no bit
bits_none : (c n : ℕ) → bits_from 0 c n ≡ []
unfolding bits_from
bits_none c zero = refl
bits_none c (suc n) = rw (bit-of-zero c) (bits_none (suc c) n)

-- the cells of word i from its bit j on are its bits, moved
word_cells : (s : List ℕ) (i j n : ℕ) → j + n ≤ 64 → members_from s (64 * i + j) n ≡ map (λ (k : ℕ). 64 * i + k) (bits_from (get_or s i 0) j n)
unfolding members_from bits_from
word_cells s i j zero h = refl
word_cells s i j (suc n) h =
    let next : suc (64 * i + j) ≡ 64 * i + suc j = omega arith in
    rw (has-at s i j (omega arith), next, word_cells s i (suc j) n (omega arith))
    (sym (map-cond (λ (k : ℕ). 64 * i + k) (eqb (bit (get_or s i 0) j) 1) j (bits_from (get_or s i 0) (suc j) n)))

-- a list that x may stand in front of, before another
append-cond : (b : Bool) (x : ℕ) (l r : List ℕ) → cond b (x ∷ l) l ++ r ≡ cond b (x ∷ (l ++ r)) (l ++ r)
append-cond true x l r = refl
append-cond false x l r = refl

-- members in two parts
members-split : (s : List ℕ) (c m n : ℕ) → members_from s c (m + n) ≡ members_from s c m ++ members_from s (c + m) n
unfolding members_from
members-split s c zero n = rw (zero-add n, add-zero c)
members-split s c (suc m) n =
    let e : suc m + n ≡ suc (m + n) = omega arith in
    let f : c + suc m ≡ suc c + m = omega arith in
    rw (e, f, members-split s (suc c) m n) (sym (append-cond (eqb (has s c) 1) c (members_from s (suc c) m) (members_from s (suc c + m) n)))

-- no cell follows the last
members-end : (s : List ℕ) (c : ℕ) → members_from s c 0 ≡ []
unfolding members_from
members-end s c = refl

-- the cells of word i
abbrev word_cells_of : List ℕ → ℕ → List ℕ
word_cells_of s i = map (λ (k : ℕ). 64 * i + k) (bits_from (get_or s i 0) 0 64)

-- the cells of a word come before those of the words that follow
members-word : (s : List ℕ) (i n : ℕ) → members_from s (64 * i) (64 + n) ≡ word_cells_of s i ++ members_from s (64 * suc i) n
members-word s i n =
    let f : 64 * i + 64 ≡ 64 * suc i = omega arith in
    members-split s (64 * i) 64 n
    ∙ ap₂ ◌++◌ (ap (λ (c : ℕ). members_from s c 64) (sym (add-zero (64 * i))) ∙ word_cells s i 0 64 (omega arith)) (ap (λ (c : ℕ). members_from s c n) f)

-- `count_ones` of a word is the number of its cells
cells-length : (s : List ℕ) (i : ℕ) → get_or s i 0 < 2 ^ 64 → length (word_cells_of s i) ≡ ones (get_or s i 0)
cells-length s i h = length-map (bits_from (get_or s i 0) 0 64) (λ (k : ℕ). 64 * i + k) ∙ bits-length 64 (get_or s i 0) h

-- the cells of a set by its words
module _ (s : List ℕ) (fits : (i : ℕ) → Fits w64 (get_or s i 0)) where
  -- a word has at most 64
  pub ones-few : (i : ℕ) → ones (get_or s i 0) ≤ 64
  ones-few i = ones-le 64 (get_or s i 0) (fits i).fits

  -- those of a word, and those of the words that follow, are counted apart
  length-word : (i n : ℕ) → length (members_from s (64 * i) (64 + n)) ≡ ones (get_or s i 0) + length (members_from s (64 * suc i) n)
  length-word i n =
      ap length (members-word s i n) ∙ length-append (word_cells_of s i) (members_from s (64 * suc i) n)
      ∙ ap (λ (k : ℕ). k + length (members_from s (64 * suc i) n)) (cells-length s i (fits i).fits)

  -- `count`: the sum over the four words
  count_words : ones (get_or s 0 0) + ones (get_or s 1 0) + ones (get_or s 2 0) + ones (get_or s 3 0) ≡ length (members s)
  unfolding members
  count_words =
      let e₀ : length (members_from s 0 256) ≡ ones (get_or s 0 0) + length (members_from s 64 192) = length-word 0 192 in
      let e₁ : length (members_from s 64 192) ≡ ones (get_or s 1 0) + length (members_from s 128 128) = length-word 1 128 in
      let e₂ : length (members_from s 128 128) ≡ ones (get_or s 2 0) + length (members_from s 192 64) = length-word 2 64 in
      let e₃ : length (members_from s 192 64) ≡ ones (get_or s 3 0) + length (members_from s 256 0) = length-word 3 0 in
      omega (arith, ap length (members-end s 256))

-- the sum over a list of four
sum_four : (f : ℕ → ℕ) (s : List ℕ) → length s ≡ 4 → sum_by f s ≡ f (get_or s 0 0) + f (get_or s 1 0) + f (get_or s 2 0) + f (get_or s 3 0)
sum_four f [] e = absurd (omega arith)
sum_four f (p ∷ []) e = absurd (omega arith)
sum_four f (p ∷ q ∷ []) e = absurd (omega arith)
sum_four f (p ∷ q ∷ r ∷ []) e = absurd (omega arith)
sum_four f (p ∷ q ∷ r ∷ t ∷ []) e = omega arith
sum_four f (p ∷ q ∷ r ∷ t ∷ u ∷ s) e = absurd (omega arith)

pub counted : (s : List ℕ) → length s ≡ 4 → ((i : ℕ) → Fits w64 (get_or s i 0)) → sum_by ones s ≡ length (members s)
counted s e fits = sum_four ones s e ∙ count_words s fits

pub counted-le : (s : List ℕ) → length s ≡ 4 → ((i : ℕ) → Fits w64 (get_or s i 0)) → sum_by ones s ≤ 256
counted-le s e fits = omega (arith, sum_four ones s e, ones-few s fits 0, ones-few s fits 1, ones-few s fits 2, ones-few s fits 3)

-- `nth_bit`: the bit that is sought is the one with `left` set bits of `rest` below it
abbrev pub Sought : (w k rest left : ℕ) → Type 0
Sought w k rest left = get_or (bits_from rest 0 64) left 64 ≡ get_or (bits_from w 0 64) k 64

-- where no bit is left, there is none
pub sought-none : (w k rest left : ℕ) → Sought w k rest left → rest ≡ 0 → 64 ≡ get_or (bits_from w 0 64) k 64
sought-none w k rest left s e = sym (ap (λ (l : List ℕ). get_or l left 64) (ap (λ (x : ℕ). bits_from x 0 64) e ∙ bits_none 0 64)) ∙ s

-- a turn takes away the lowest bit
pub sought-turn : (w k rest left next : ℕ) → Sought w k rest left → suc next ≡ left → Sought w k (bit_and rest (rest - 1)) next
sought-turn w k rest left next s e = sym (bits-clear 64 rest next) ∙ ap (λ (n : ℕ). get_or (bits_from rest 0 64) n 64) e ∙ s

-- where none is to be skipped, it is the lowest
pub sought-done : (w k rest left : ℕ) → Sought w k rest left → left ≤ 0 → count_trailing_zeros 64 rest ≡ get_or (bits_from w 0 64) k 64
sought-done w k rest left s h =
    let e : 0 ≡ left = omega arith in
    sym (bits-lowest 64 rest) ∙ ap (λ (n : ℕ). get_or (bits_from rest 0 64) n 64) e ∙ s

-- within a list the default does not matter
other-default : (l : List ℕ) (k d e : ℕ) → k < length l → get_or l k d ≡ get_or l k e
other-default [] k d e h = absurd (not-suc-le-zero h)
other-default (x ∷ l) zero d e h = refl
other-default (x ∷ l) (suc k) d e h = other-default l k d e (le_of_suc-le-suc h)

-- `nth`: the cell that is wanted is the one with `left` cells below it among those of word i and the words that follow
abbrev pub Wanted : (s : List ℕ) (k i left : ℕ) → Type 0
Wanted s k i left = get_or (members_from s (64 * i) (256 - 64 * i)) left 0 ≡ get_or (members s) k 0

-- at first these are all words
pub wanted-first : (s : List ℕ) (k : ℕ) → Wanted s k 0 k
unfolding members
wanted-first s k = refl

-- past the last word there is no cell
pub wanted-done : (s : List ℕ) (k i left : ℕ) → Wanted s k i left → 4 ≤ i → 0 ≡ get_or (members s) k 0
wanted-done s k i left q h =
    let e : 256 - 64 * i ≡ 0 = omega arith in
    sym (ap (λ (l : List ℕ). get_or l left 0) (ap (members_from s (64 * i)) e ∙ members-end s (64 * i))) ∙ q

-- at word i
module _ (s : List ℕ) (fits : (i : ℕ) → Fits w64 (get_or s i 0)) (k i left : ℕ) (q : Wanted s k i left) (l : i < 4) where
  -- its cells come first
  wanted-split : get_or (word_cells_of s i ++ members_from s (64 * suc i) (256 - 64 * suc i)) left 0 ≡ get_or (members s) k 0
  wanted-split =
      let e : 64 + (256 - 64 * suc i) ≡ 256 - 64 * i = omega arith in
      ap (λ (r : List ℕ). get_or r left 0) (sym (members-word s i (256 - 64 * suc i)) ∙ ap (members_from s (64 * i)) e) ∙ q

  -- the cell is one of them
  pub wanted-here : (r : ℕ) → left < ones (get_or s i 0) → r ≡ get_or (bits_from (get_or s i 0) 0 64) left 64 → 64 * i + r ≡ get_or (members s) k 0
  wanted-here r h e =
      let long : left < length (word_cells_of s i) = rw (cells-length s i (fits i).fits) h in
      ap (λ (n : ℕ). 64 * i + n) e
      ∙ sym (get_or-map (λ (n : ℕ). 64 * i + n) (bits_from (get_or s i 0) 0 64) left 64)
      ∙ other-default (word_cells_of s i) left (64 * i + 64) 0 long
      ∙ sym (get_or-append (word_cells_of s i) (members_from s (64 * suc i) (256 - 64 * suc i)) 0 left long)
      ∙ wanted-split

  -- or all of them are skipped
  pub wanted-turn : ones (get_or s i 0) ≤ left → Wanted s k (i + 1) (left - ones (get_or s i 0))
  wanted-turn h =
      let e : length (word_cells_of s i) + (left - ones (get_or s i 0)) ≡ left = omega (arith, cells-length s i (fits i).fits) in
      let rest : List ℕ = members_from s (64 * suc i) (256 - 64 * suc i) in
      rw (add-one i)
      (sym (get_or-append-add (word_cells_of s i) rest (left - ones (get_or s i 0)) 0) ∙ ap (λ (n : ℕ). get_or (word_cells_of s i ++ rest) n 0) e ∙ wanted-split)
