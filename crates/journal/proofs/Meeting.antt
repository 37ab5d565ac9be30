-- Bytes that meet, the same as far as both go: part by part, the shorter ones as the beginning of the longer ones, and those that stand at an offset of a
-- list. Before that, tests that decide and what holds below a number.
-- Assumes nothing.
use Rattle.std.proofs.Common.{◌≡◌, ℕ, ◌+◌, ◌<◌, ◌≤◌, Bool, true, false, List, [], ◌∷◌, ◌++◌, length, get_or, drop, sym, refl, ap, ◌∙◌, subst, ⊎_elim, add-one, arith, length-drop, drop_of_length-le, drop-cons, drop-drop}
use Rattle.cellset.proofs.Bits.{le-or-lt}
use Rattle.program.proofs.Tests.{clash}
use Rattle.journal.specs.Parts.{Decides, Meets}

-- ---- tests

-- a test that holds exactly where P does decides P
pub decides : {P : Type 0} (b : Bool) → (b ≡ true → P) → (P → b ≡ true) → Decides P b
decides true f g = f refl
decides false f g = λ p. clash false (g p) refl

pub decides-same : {P Q : Type 0} (b : Bool) → (P → Q) → (Q → P) → Decides P b → Decides Q b
decides-same true f g d = f d
decides-same false f g d = λ q. d (g q)

pub decides-yes : {P : Type 0} (b : Bool) → b ≡ true → Decides P b → P
decides-yes true e d = d
decides-yes false e d = clash false e refl

pub decides-no : {P : Type 0} (b : Bool) → b ≡ false → Decides P b → ¬ P
decides-no true e d = clash true refl e
decides-no false e d = d

-- `p && q` decides both: v is q where p holds, and else p
pub decides-both : (P Q : Type 0) {p q v : Bool} → Decides P p → p ≡ true → Decides Q q → v ≡ q → Decides (P × Q) v
decides-both P Q {p} {q} {v} d t e x = decides-same v (λ y. (decides-yes p t d, y)) (λ r. r.1) (subst (Decides Q) (sym x) e)

pub decides-first : (P Q : Type 0) {p v : Bool} → Decides P p → p ≡ false → v ≡ p → Decides (P × Q) v
decides-first P Q {p} {v} d f x = subst (Decides (P × Q)) (sym (x ∙ f)) (λ r. decides-no p f d r.0)

-- what holds below n and at n holds below n + 1
pub below_next : {P : ℕ → Type 0} (n : ℕ) → ((k : ℕ) → k < n → P k) → P n → (k : ℕ) → k < n + 1 → P k
below_next {P} n h p k l = ⊎_elim (λ (g : n ≤ k). subst P (let e : n ≡ k = omega arith in e) p) (h k) (le-or-lt n k)

-- ---- part by part

pub meets-append : (a : List ℕ) {m l : List ℕ} → Meets (a ++ m) l → Meets a l × Meets m (drop (length a) l)
meets-append [] h = (Meets.ends, h)
meets-append (x ∷ a) Meets.cut = (Meets.cut, Meets.cut)
meets-append (x ∷ a) (Meets.same h) = let r = meets-append a h in (Meets.same r.0, r.1)

pub meets-join : (a : List ℕ) {m l : List ℕ} → Meets a l → Meets m (drop (length a) l) → Meets (a ++ m) l
meets-join [] h k = k
meets-join (x ∷ a) Meets.cut k = Meets.cut
meets-join (x ∷ a) (Meets.same h) k = Meets.same (meets-join a h k)

-- ---- beginnings

meets-sym : {m l : List ℕ} → Meets m l → Meets l m
meets-sym Meets.ends = Meets.cut
meets-sym Meets.cut = Meets.ends
meets-sym (Meets.same h) = Meets.same (meets-sym h)

-- m is all there
meets-whole : {m l : List ℕ} → Meets m l → length m ≤ length l → l ≡ m ++ drop (length m) l
meets-whole Meets.ends h = refl
meets-whole (Meets.cut {m = []}) h = refl
meets-whole (Meets.cut {m = x ∷ m}) h = absurd (omega arith)
meets-whole (Meets.same {x} k) h = ap (λ (l : List ℕ). x ∷ l) (meets-whole k (omega arith))

-- m is cut
pub meets-cut : {m l : List ℕ} → Meets m l → length l ≤ length m → m ≡ l ++ drop (length l) m
meets-cut h = meets-whole (meets-sym h)

pub whole_meets : (m t : List ℕ) {l : List ℕ} → l ≡ m ++ t → Meets m l
whole_meets m t e = rw e (front m)
  where
    front : (m : List ℕ) → Meets m (m ++ t)
    front [] = Meets.ends
    front (x ∷ m) = Meets.same (front m)

pub cut-meets : (l t : List ℕ) {m : List ℕ} → m ≡ l ++ t → Meets m l
cut-meets l t e = meets-sym (whole_meets l t e)

-- ---- at an offset

-- nothing is there to differ
pub past-meets : (m l : List ℕ) (i : ℕ) → length l ≤ i → Meets m (drop i l)
past-meets m l i h = rw (drop_of_length-le l h) Meets.cut

-- all of m stands there
pub meets_at : {m : List ℕ} (l : List ℕ) (i n : ℕ) → Meets m (drop i l) → length m ≡ n → i + n ≤ length l → drop i l ≡ m ++ drop (i + n) l
meets_at {m} l i n h e k = meets-whole h (omega (arith, length-drop i l)) ∙ ap (λ (t : List ℕ). m ++ t) (rw e (drop-drop n i l))

pub meets-cons : {x y : ℕ} {m l : List ℕ} → Meets (x ∷ m) (y ∷ l) → (y ≡ x) × Meets m l
meets-cons (Meets.same h) = (refl, h)

-- a byte that is there is the first, and the rest meets what stands behind it
pub first-meets : {x : ℕ} {m : List ℕ} (l : List ℕ) (i : ℕ) → i < length l → Meets (x ∷ m) (drop i l) → (get_or l i 0 ≡ x) × Meets m (drop (i + 1) l)
first-meets l i h k = rw (add-one i) (meets-cons (rw (drop-cons l i 0 h) at k))

pub meets-first : {m : List ℕ} (l : List ℕ) (i x : ℕ) → i < length l → get_or l i 0 ≡ x → Meets m (drop (i + 1) l) → Meets (x ∷ m) (drop i l)
meets-first l i x h e k = rw (drop-cons l i 0 h, e) (Meets.same (rw (add-one i) at k))
