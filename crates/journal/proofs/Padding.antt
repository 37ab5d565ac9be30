-- The filling behind a checkpoint: bytes that are FF as far as there are any (`Erased`), as `is_erased` finds them, are those of the filling
-- (`erased-bytes`), and where a whole checkpoint stands its filling is such (`filling-erased`).
-- Assumes nothing.
use Rattle.std.proofs.Common.{◌≡◌, ℕ, zero, suc, ◌+◌, ◌-◌, ◌*◌, ◌<◌, ◌≤◌, List, [], ◌∷◌, ◌++◌, length, get_or, drop, replicate, sym, refl, ap, ◌∙◌, ⊎_elim, append-nil, arith, drop_of_length-le, get_or-drop, drop-cons}
use lib.ListN.{length-replicate, get_or-replicate, get_or-append, get_or-eq_default}
use Rattle.word.specs.Bytes.{load_of}
use Rattle.cellset.proofs.Bits.{le-or-lt}
use Rattle.journal.specs.Parts.{byte_at, Erased}
use Rattle.journal.proofs.Numbers.{byte-here}

-- ---- the loop of `is_erased`

pub erased-first : (l : List ℕ) (from : ℕ) → Erased l from from
erased-first l from = record { are = λ k a b. absurd (omega arith) }

pub erased-not : (l : List ℕ) {from to at : ℕ} {x : ℕ} → x ≡ byte_at l at → ¬ (x ≡ 0xFF) → from ≤ at → at < to → ¬ Erased l from to
erased-not l {at = at} e n a b h = n (e ∙ h.are at a b)

pub erased-done : {l : List ℕ} {from to at : ℕ} → Erased l from at → to ≤ at → Erased l from to
erased-done h n = record { are = λ k a b. h.are k a (omega arith) }

pub erased-joined : {l : List ℕ} {from at to : ℕ} → Erased l from at → Erased l at to → Erased l from to
erased-joined {at = at} h g = record {
  are = λ k a b. ⊎_elim (λ (t : at ≤ k). g.are k t b) (λ (t : k < at). h.are k a t) (le-or-lt at k);
}

-- ---- four bytes at once

-- the number that n bytes of FF are
ones : ℕ → ℕ
ones zero = 0
ones (suc n) = 255 + 256 * ones n

load-ones : (n : ℕ) (l : List ℕ) (k : ℕ) → ((j : ℕ) → get_or l j 0 < 256) → k + n ≤ length l → load_of n l k ≡ ones n → Erased l k (k + n)
unfolding load_of ones
load-ones zero l k small h e = record { are = λ j a b. absurd (omega arith) }
load-ones (suc n) l k small h e =
    let f : get_or l k 0 ≡ 0xFF = omega (arith, small k) in
    let rest = load-ones n l (k + 1) small (omega arith) (omega (arith, small k)) in
    record {
      are =
          λ j a b.
          ⊎_elim
          (λ (t : suc k ≤ j). rest.are j (omega arith) (omega arith))
          (λ (t : j < suc k). let same : j ≡ k = omega arith in ap (byte_at l) same ∙ sym (byte-here l k (omega arith)) ∙ f)
          (le-or-lt (suc k) j);
    }

pub erased-four : (l : List ℕ) (k : ℕ) {r : ℕ} → ((j : ℕ) → get_or l j 0 < 256) → k + 4 ≤ length l → r ≡ load_of 4 l k → r ≡ 0xFFFFFFFF → Erased l k (k + 4)
unfolding ones
erased-four l k small h e f = load-ones 4 l k small h (sym e ∙ f)

-- ---- the bytes

-- past the end all is FF
pub erased-past : {l : List ℕ} {from to : ℕ} → length l ≤ from → Erased l from to
erased-past {l} h = record { are = λ k a b. get_or-eq_default l 0xFF {n = k} (omega arith) }

pub erased-bytes : (n : ℕ) {l : List ℕ} {from to : ℕ} → Erased l from to → to ≡ from + n → from ≤ length l
    → drop from l ++ replicate (to - length l) 0xFF ≡ replicate n 0xFF ++ drop to l
erased-bytes zero {l} {from} {to} h e m =
    let z : to - length l ≡ 0 = omega arith in
    let s : from ≡ to = omega arith in
    ap (λ (k : ℕ). drop from l ++ replicate k 0xFF) z ∙ append-nil (drop from l) ∙ ap (λ (k : ℕ). drop k l) s
erased-bytes (suc n) {l} {from} {to} h e m =
    ⊎_elim
    (λ (p : length l ≤ from).
    let z : to - length l ≡ suc n = omega arith in
    ap (λ (x : List ℕ). x ++ replicate (to - length l) 0xFF) (drop_of_length-le l p)
    ∙ ap (λ (k : ℕ). replicate k 0xFF) z
    ∙ sym (append-nil (replicate (suc n) 0xFF))
    ∙ ap (λ (x : List ℕ). replicate (suc n) 0xFF ++ x) (sym (drop_of_length-le l {i = to} (omega arith))))
    (λ (p : from < length l).
    let i = erased-bytes n {l = l} {from = suc from} {to = to} (record { are = λ k a b. h.are k (omega arith) b }) (omega arith) (omega arith) in
    let f : byte_at l from ≡ 0xFF = h.are from (omega arith) (omega arith) in
    ap (λ (x : List ℕ). x ++ replicate (to - length l) 0xFF) (drop-cons l from 0xFF p ∙ ap (λ (x : ℕ). x ∷ drop (suc from) l) f)
    ∙ ap (λ (x : List ℕ). 0xFF ∷ x) i)
    (le-or-lt (length l) from)

-- FF bytes behind bytes are read as if they were not there
pub ff-behind : (l : List ℕ) (m k : ℕ) → get_or (l ++ replicate m 0xFF) k 0xFF ≡ byte_at l k
ff-behind [] zero k = refl
ff-behind [] (suc m) zero = refl
ff-behind [] (suc m) (suc k) = ff-behind [] m k
ff-behind (x ∷ l) m zero = refl
ff-behind (x ∷ l) m (suc k) = ff-behind l m k

filling-byte : (l : List ℕ) (from m n : ℕ) (t : List ℕ) (i k : ℕ) → drop from l ++ replicate m 0xFF ≡ replicate n 0xFF ++ t → from + i ≡ k → i < n → byte_at l k ≡ 0xFF
filling-byte l from m n t i k e j d =
    let z : i < length (replicate {A = ℕ} n 0xFF) = omega (arith, length-replicate {A = ℕ} n 0xFF) in
    ap (byte_at l) (sym j)
    ∙ sym (get_or-drop from l i 0xFF)
    ∙ sym (ff-behind (drop from l) m i)
    ∙ ap (λ (x : List ℕ). get_or x i 0xFF) e
    ∙ get_or-append (replicate n 0xFF) t 0xFF i z
    ∙ get_or-replicate n i 0xFF 0xFF d

pub filling-erased : (l : List ℕ) (from to m n : ℕ) (t : List ℕ) → drop from l ++ replicate m 0xFF ≡ replicate n 0xFF ++ t → to ≡ from + n → Erased l from to
filling-erased l from to m n t e s = record { are = λ k a b. filling-byte l from m n t (k - from) k e (omega arith) (omega arith) }
