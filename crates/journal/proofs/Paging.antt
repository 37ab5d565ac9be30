-- Numbers of bytes that are whole pages, for pages of any length above 0: sums and differences of them are, the next one is a page further, and `fill_of`
-- fills the last page and no more. A page of one byte needs no filling (`fill_one`).
-- Assumes nothing.
use Rattle.std.proofs.Common.{◌≡◌, ℕ, ◌+◌, ◌-◌, ◌*◌, ◌/◌, ◌%◌, ◌<◌, ◌≤◌, Bool, true, false, ◌&&◌, eqb, ltb, leb, sym, ap, ◌∙◌, ⊎_elim, add-zero, mul-le-mul_right, mod-lt, suc-mul, lt_of_mul-lt-mul_right, div-add-mod', arith, ltb-true, lt-ltb, eq-eqb, ne_eqb, eqb-true, le-leb, leb-true}
use mathlib.Core.Bool.{and-false}
use native.Mathlib.Nat.{mod_self, mod-one, mod-mod, zero-mod, add-mod, mod-add-mod}
use borrow.Author.Tests.{eqb-false, lt-leb}
use Rattle.cellset.proofs.Bits.{le-or-lt}
use Rattle.program.proofs.Tests.{bool_cases, and_both}
use Rattle.journal.specs.Format.{pages_in, chip_length, fill_of, filled_of}

-- n bytes are whole pages
abbrev pub Whole : (page n : ℕ) → Type 0
Whole page n = n % page ≡ 0

pub whole-add : (page a b : ℕ) → Whole page a → Whole page b → Whole page (a + b)
whole-add page a b h k = add-mod a b page ∙ rw (h, k) (zero-mod page)

pub whole-page : (page : ℕ) → Whole page page
whole-page page = mod_self page

pub whole-none : (page : ℕ) → Whole page 0
whole-none page = zero-mod page

-- what is added to whole pages makes whole pages if it is itself
pub whole-left : (page a b : ℕ) → Whole page b → Whole page (a + b) → Whole page a
whole-left page a b k h =
    let e : (a + b) % page ≡ a % page = add-mod a b page ∙ rw k (ap (λ (n : ℕ). n % page) (add-zero (a % page)) ∙ mod-mod a page) in
    sym e ∙ h

pub whole_sub : (page a b : ℕ) → Whole page a → Whole page b → Whole page (a - b)
whole_sub page a b h k =
    ⊎_elim
    (λ (l : b ≤ a). let e : a - b + b ≡ a = omega arith in whole-left page (a - b) b k (ap (λ (n : ℕ). n % page) e ∙ h))
    (λ (l : a < b). let e : a - b ≡ 0 = omega arith in ap (λ (n : ℕ). n % page) e ∙ zero-mod page)
    (le-or-lt b a)

-- above whole pages the next ones are a page further
pub whole-next : (page a b : ℕ) → Whole page a → Whole page b → a < b → a + page ≤ b
whole-next page a b h k l =
    let x : a / page * page ≡ a = omega (arith, div-add-mod' a page) in
    let y : b / page * page ≡ b = omega (arith, div-add-mod' b page) in
    let d : a / page < b / page = lt_of_mul-lt-mul_right page (omega arith) in
    let m = mul-le-mul_right page d in
    omega (arith, suc-mul (a / page) page, m)

-- ---- a chip's length

-- a chip with pages of so many bytes may have n bytes
pub record ChipLength (page n : ℕ) : Type 0 where
  pub some : 0 < page
  pub few : page ≤ 16
  pub most : n ≤ 65536
  pub whole : Whole page n

pub chip-length : (page n : ℕ) → chip_length page n ≡ true → ChipLength page n
unfolding chip_length
chip-length page n h =
    let a = and_both (ltb 0 page && leb page 16 && leb n 65536) (pages_in page n) h in
    let b = and_both (ltb 0 page && leb page 16) (leb n 65536) a.0 in
    let d = and_both (ltb 0 page) (leb page 16) b.0 in
    record { some = ltb-true 0 page d.0; few = leb-true page 16 d.1; most = leb-true n 65536 b.1; whole = eqb-true (n % page) 0 a.1 }

pub is-chip-length : {page n : ℕ} → ChipLength page n → chip_length page n ≡ true
unfolding chip_length
is-chip-length {page} {n} h =
    rw (lt-ltb 0 page h.some, le-leb page 16 h.few, le-leb n 65536 h.most, eq-eqb (n % page) 0 h.whole)

-- ---- the filling

pub fill_none : (page n : ℕ) → Whole page n → fill_of page n ≡ 0
unfolding fill_of
fill_none page n h = rw (eq-eqb (n % page) 0 h)

pub fill_one : (n : ℕ) → fill_of 1 n ≡ 0
fill_one n = fill_none 1 n (mod-one n)

pub fill-lt : (page n : ℕ) → 0 < page → fill_of page n < page
unfolding fill_of
fill-lt page n h =
    bool_cases (eqb (n % page) 0)
    (λ t. rw t h)
    (λ t. rw t (let e = eqb-false (n % page) 0 t in omega (arith, mod-lt n h)))

pub fill-whole : (page n : ℕ) → 0 < page → Whole page (filled_of page n)
unfolding fill_of
fill-whole page n h =
    bool_cases (eqb (n % page) 0)
    (λ t. rw t (ap (λ (k : ℕ). k % page) (add-zero n) ∙ eqb-true _ _ t))
    (λ t. rw t
    (let e : n % page + (page - n % page) ≡ page = omega (arith, mod-lt n h) in
    sym (mod-add-mod n page (page - n % page)) ∙ ap (λ (k : ℕ). k % page) e ∙ mod_self page))

-- no whole pages between n and n filled
pub fill-least : (page n m : ℕ) → 0 < page → n ≤ m → Whole page m → filled_of page n ≤ m
fill-least page n m h l w =
    ⊎_elim
    (λ (a : filled_of page n ≤ m). a)
    (λ (a : m < filled_of page n). absurd (omega (arith, whole-next page m (filled_of page n) w (fill-whole page n h) a, fill-lt page n h)))
    (le-or-lt (filled_of page n) m)

-- behind whole pages the filling is that of the rest
pub fill-behind : (page a n : ℕ) → Whole page a → fill_of page (a + n) ≡ fill_of page n
unfolding fill_of
fill-behind page a n w =
    let e : (a + n) % page ≡ n % page = sym (mod-add-mod a page n) ∙ ap (λ (k : ℕ). (k + n) % page) w ∙ ap (λ (k : ℕ). k % page) (zero-plus n) in
    rw e
  where
    zero-plus : (k : ℕ) → 0 + k ≡ k
    zero-plus k = omega arith

-- ---- `is_whole`, `count_pages` and `is_length`

pub byte-whole : (page n : ℕ) → page ≡ 1 → true ≡ pages_in page n
byte-whole page n e = rw (e, mod-one n)

pub no-pages : (page n : ℕ) → page ≡ 0 → false ≡ chip_length page n
unfolding chip_length
no-pages page n e = rw e

pub large-pages : (page n : ℕ) → 16 < page → false ≡ chip_length page n
unfolding chip_length
large-pages page n h = rw (lt-leb page 16 h, and-false (ltb 0 page))

pub long-chip : (page n : ℕ) → 65536 < n → false ≡ chip_length page n
unfolding chip_length
long-chip page n h = rw (lt-leb n 65536 h, and-false (ltb 0 page && leb page 16))

pub chip-of-pages : (page n : ℕ) (b : Bool) → 0 < page → page ≤ 16 → n ≤ 65536 → b ≡ pages_in page n → b ≡ chip_length page n
unfolding chip_length
chip-of-pages page n b h k l e = rw (lt-ltb 0 page h, le-leb page 16 k, le-leb n 65536 l) e

-- ---- `fill`

pub fill-byte : (page n : ℕ) → page ≡ 1 → (0 ≡ fill_of page n) × (0 < page)
fill-byte page n e = (rw e (sym (fill_one n)), omega arith)

pub fill-full : (page n : ℕ) → 0 < page → n % page ≡ 0 → (0 ≡ fill_of page n) × (0 < page)
fill-full page n h e = (sym (fill_none page n e), h)

pub fill-rest : (page n : ℕ) → 0 < page → ¬ (n % page ≡ 0) → (page - n % page ≡ fill_of page n) × (page - n % page < page)
unfolding fill_of
fill-rest page n h e = (rw (ne_eqb (n % page) 0 e), omega (arith, mod-lt n h))
