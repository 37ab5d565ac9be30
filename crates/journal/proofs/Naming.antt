-- The owner: its four bytes are those of the plan's length and of its sum (`owner-bytes`), so that the MARK of an accepted plan's save is the one that Q-8 has (`mark-bytes`); an owner
-- of 32 bits fits its kind of MARK (`owner_fits`), and an accepted plan's is not `unowned` (`owner-some`), so that its MARKs have it (`owner-kind`).
-- Assumes nothing.
use Rattle.std.proofs.Common.{◌≡◌, ℕ, zero, suc, ◌+◌, ◌*◌, ◌/◌, ◌%◌, ◌^◌, ◌<◌, ◌≤◌, eqb, List, [], ◌∷◌, ◌++◌, length, get_or, drop, sym, refl, ap, ◌∙◌, add-one, arith, drop_of_length-le, ne_eqb, eqb-true}
use Rattle.word.specs.Bytes.{bytes_of}
use Rattle.program.proofs.Tests.{bool_cases}
use Rattle.journal.specs.declared.owners.Kind.{Kind}
use Rattle.journal.specs.declared.owners.Kind.TheVariants.{A2, A3}
use Rattle.journal.specs.Format.{kind_number, sum_of, owner_of_plan, kind_of, format_for, fields_image, commit_image}

-- 0 or 1
pub kind-most : (owner : ℕ) → kind_of owner ≤ 1
unfolding kind_of
kind-most owner = bool_cases (eqb owner 0) (λ t. rw t (omega arith)) (λ t. rw t (omega arith))

pub owner_fits : (owner : ℕ) → owner < 2 ^ 32 → owner < 256 ^ (4 * kind_of owner)
unfolding kind_of
owner_fits owner h =
    bool_cases (eqb owner 0) (λ t. let z : owner ≡ 0 = eqb-true _ _ t in rw t (omega arith)) (λ t. rw t (omega arith))

-- the two kinds
pub kind-few : (k : Kind) → kind_number k ≤ 1
kind-few A2 = omega arith
kind-few A3 = omega arith

pub kind-none : {owner : ℕ} → owner ≡ 0 → 0 ≡ kind_of owner
unfolding kind_of
kind-none e = rw e

pub kind-some : {owner : ℕ} → ¬ (owner ≡ 0) → 1 ≡ kind_of owner
unfolding kind_of
kind-some {owner} h = rw (ne_eqb owner 0 h)

-- a plan of 1 to 65,535 bytes has an owner, and MARKs of kind 1
pub owner-some : (p : List ℕ) → 0 < length p → length p < 65536 → ¬ (owner_of_plan p ≡ 0)
unfolding owner_of_plan
owner-some p a b e = omega arith

pub owner-kind : (p : List ℕ) → 0 < length p → length p < 65536 → kind_of (owner_of_plan p) ≡ 1
unfolding kind_of
owner-kind p a b = rw (ne_eqb (owner_of_plan p) 0 (owner-some p a b))

pub owner-small : (p : List ℕ) → owner_of_plan p < 2 ^ 32
unfolding owner_of_plan
owner-small p = omega arith

-- "plan length (2), sum of all plan bytes modulo 65,536 (2)"
pub owner-bytes : (p : List ℕ) → length p < 65536 → bytes_of 4 (owner_of_plan p) ≡ bytes_of 2 (length p) ++ bytes_of 2 (sum_of p % 65536)
unfolding owner_of_plan bytes_of
owner-bytes p h =
    let n = length p in
    let s = sum_of p % 65536 in
    let v = n % 65536 + 65536 * s in
    let a : v % 256 ≡ n % 256 = omega arith in
    let q : v / 256 ≡ n / 256 + 256 * s = omega arith in
    let h : n / 256 < 256 = omega arith in
    let b : v / 256 % 256 ≡ n / 256 % 256 = ap (λ (x : ℕ). x % 256) q ∙ omega (arith, h) in
    let r : v / 256 / 256 ≡ s = ap (λ (x : ℕ). x / 256) q ∙ omega (arith, h) in
    let c : v / 256 / 256 % 256 ≡ s % 256 = ap (λ (x : ℕ). x % 256) r in
    let d : v / 256 / 256 / 256 % 256 ≡ s / 256 % 256 = ap (λ (x : ℕ). x / 256 % 256) r in
    λ i. a i ∷ b i ∷ c i ∷ d i ∷ []

-- "The MARK becomes 18 bytes: `A3`, the four old fields, plan length (2), sum of all plan bytes modulo 65,536 (2), `5A`."
pub mark-bytes : (page : ℕ) (p : List ℕ) (place exclude readings outputs : ℕ) → 0 < length p → length p < 65536
    → commit_image (format_for page (owner_of_plan p)) (record { place = place; exclude = exclude; readings = readings; outputs = outputs; owner = owner_of_plan p })
    ≡ 0xA3 ∷ (bytes_of 2 place ++ (bytes_of 2 exclude ++ (bytes_of 4 readings ++ (bytes_of 4 outputs ++ ((bytes_of 2 (length p) ++ bytes_of 2 (sum_of p % 65536)) ++ (0x5A ∷ []))))))
unfolding fields_image
mark-bytes page p place exclude readings outputs a b = rw (owner-kind p a b, ← owner-bytes p b)

-- ---- the loop of `owner_of`

drop-next : (l : List ℕ) (i : ℕ) → i < length l → drop i l ≡ get_or l i 0 ∷ drop (i + 1) l
drop-next [] i h = absurd (omega arith)
drop-next (x ∷ l) zero h = refl
drop-next (x ∷ l) (suc i) h = drop-next l i (omega arith) ∙ ap (λ (n : ℕ). get_or l i 0 ∷ drop n l) (add-one i) ∙ sym (ap (λ (n : ℕ). get_or l i 0 ∷ drop n (x ∷ l)) (add-one (suc i)))

-- the bytes from i on are still to be added
pub record Summing (p : List ℕ) (sum i : ℕ) : Type 0 where
  pub most : i ≤ length p
  pub small : sum < 65536
  pub whole : (sum + sum_of (drop i p)) % 65536 ≡ sum_of p % 65536

pub summing-first : (p : List ℕ) → Summing p 0 0
summing-first p = record { most = omega arith; small = omega arith; whole = omega arith }

pub summing-turn : {p : List ℕ} {sum i : ℕ} → Summing p sum i → i < length p → {x : ℕ} → x ≡ (sum + get_or p i 0) % 2 ^ 16 → Summing p x (i + 1)
unfolding sum_of
summing-turn {p} {sum} {i} s h n =
    let e : sum_of (drop i p) ≡ get_or p i 0 + sum_of (drop (i + 1) p) = ap sum_of (drop-next p i h) in
    record { most = omega arith; small = omega (arith, n); whole = omega (arith, s.whole, e, n) }

pub summing-done : {p : List ℕ} {sum i : ℕ} → Summing p sum i → length p ≤ i → length p % 65536 + 65536 * sum ≡ owner_of_plan p
unfolding sum_of owner_of_plan
summing-done {p} {sum} {i} s h =
    let z : i ≡ length p = omega (arith, s.most) in
    let e : drop i p ≡ [] = drop_of_length-le p {i = i} h in
    omega (arith, s.small, s.whole, ap sum_of e)
