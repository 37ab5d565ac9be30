-- The records that `records_end` passes (`Passing`, its loop's invariant), and the cells without a stamp that `free_cell` and `cell_begins` look for.
-- Assumes nothing.
use Rattle.std.proofs.Common.{◌≡◌, ℕ, ◌+◌, ◌*◌, ◌^◌, ◌<◌, ◌≤◌, Bool, true, false, cond, not, ◌||◌, eqb, List, [], ◌∷◌, ◌++◌, length, get_or, take, drop, set, sym, refl, ap, ◌∙◌, arith, length-append, length-set, length-take-le, drop_of_length-le, get_or-set_other, get_or-set_same, eq-eqb, ne_eqb, eqb-true}
use Rattle.std.specs.Bool.{MatchBool}
use Rattle.std.specs.List.{HoldsAt, AllWithin}
use Rattle.std.proofs.lemmas.List.{get_or-take}
use mathlib.Core.Bool.{or-true, or-false, or_assoc}
use borrow.Author.Tests.{eqb-false, not-true}
use Rattle.word.specs.Bytes.{bytes_of, load_of}
use Rattle.word.proofs.Bytes.{load_lt}
use Rattle.program.proofs.Tests.{bool_cases, or-none}
use Rattle.journal.specs.Format.{Saved, record_image, records_image}
use Rattle.journal.specs.Reading.{Absent, Once}
use Rattle.journal.specs.Parts.{Decides, Meets, among, Stamped, UpTo, Free}
use Rattle.journal.proofs.Images.{records-join, record-length}
use Rattle.journal.proofs.Meeting.{decides, meets_at, first-meets, meets-first}
use Rattle.journal.proofs.Numbers.{Small, load-meets}

-- ---- records of other cells

-- among the records and one more
among-snoc : (c : ℕ) (rs : List Saved) (r : Saved) → among c (rs ++ (r ∷ [])) ≡ (among c rs || eqb c r.cell)
unfolding among
among-snoc c [] r = or-false (eqb c r.cell)
among-snoc c (q ∷ rs) r = ap (λ (b : Bool). eqb c q.cell || b) (among-snoc c rs r) ∙ sym (or_assoc (eqb c q.cell) (among c rs) (eqb c r.cell))

absent-snoc : {c : ℕ} {rs : List Saved} (r : Saved) → Absent c rs → ¬ (c ≡ r.cell) → Absent c (rs ++ (r ∷ []))
absent-snoc r Absent.none d = Absent.other d Absent.none
absent-snoc r (Absent.other e a) d = Absent.other e (absent-snoc r a d)

-- one more record, of a cell that has none
pub once-snoc : {n : ℕ} {rs : List Saved} (r : Saved) → Once n rs → r.cell < n → r.value < 2 ^ 32 → among r.cell rs ≡ false → Once n (rs ++ (r ∷ []))
unfolding among
once-snoc r Once.none h f a = Once.one h f Absent.none Once.none
once-snoc r (Once.one {r = q} {rs} i j b o) h f a =
    let d = or-none (eqb r.cell q.cell) (among r.cell rs) a in
    Once.one i j (absent-snoc r b (λ e. eqb-false r.cell q.cell d.0 (sym e))) (once-snoc r o h f d.1)

absent-here : {c : ℕ} (rs : List Saved) (r : Saved) (ms : List Saved) → Absent c (rs ++ r ∷ ms) → ¬ (c ≡ r.cell)
absent-here [] r ms (Absent.other h a) = h
absent-here (q ∷ rs) r ms (Absent.other h a) = absent-here rs r ms a

-- a record behind others is of a cell that exists and that they do not have
pub once-fresh : {n : ℕ} (rs : List Saved) (r : Saved) (ms : List Saved) → Once n (rs ++ r ∷ ms) → (r.cell < n) × (among r.cell rs ≡ false)
unfolding among
once-fresh [] r ms (Once.one h v a o) = (h, refl)
once-fresh (q ∷ rs) r ms (Once.one h v a o) =
    let d = once-fresh rs r ms o in
    (d.0, rw (ne_eqb r.cell q.cell (λ e. absent-here rs r ms a (sym e))) d.1)

-- ---- the record whose bytes stand at an offset

abbrev record_at_of : List ℕ → ℕ → Saved
record_at_of l i = record { cell = get_or l (i + 1) 0; value = load_of 4 l (i + 2) }

record-front : (l : List ℕ) (i : ℕ) → Small l → i + 6 ≤ length l → get_or l i 0 ≡ 0xA1 → drop i l ≡ record_image (record_at_of l i) ++ drop (i + 6) l
record-front l i small h e =
    let r = record_at_of l i in
    let s : i + 1 + 1 ≡ i + 2 = omega arith in
    let v : Meets (bytes_of 4 r.value) (drop (i + 1 + 1) l) = rw s (load-meets 4 l (i + 2) small (omega arith)) in
    let m = meets-first l i 0xA1 (omega arith) e (meets-first l (i + 1) r.cell (omega arith) refl v) in
    meets_at l i 6 m (record-length r) h

-- ---- one stamp more

-- a list with one place set
pub set_value : (l : List ℕ) (x v c : ℕ) → x < length l → get_or (set l x v) c 0 ≡ cond (eqb c x) v (get_or l c 0)
set_value l x v c h =
    bool_cases (eqb c x)
    (λ e. rw e (ap (λ (k : ℕ). get_or (set l x v) k 0) (eqb-true c x e) ∙ get_or-set_same l x v 0 h))
    (λ e. rw e (get_or-set_other l x c v 0 (eqb-false c x e)))

either-stamped : (t : Bool) (m y : ℕ) → eqb (cond t m y) m ≡ (eqb y m || t)
either-stamped true m y = eq-eqb m m refl ∙ sym (or-true (eqb y m))
either-stamped false m y = sym (or-false (eqb y m))

either-most : (t : Bool) (m y : ℕ) → y ≤ m → cond t m y ≤ m
either-most true m y h = omega arith
either-most false m y h = h

-- ---- the loop of `records_end`

-- the records of l from `at` to i, each of another cell that exists; seen has their stamps
pub record Passing (n : ℕ) (l : List ℕ) (at : ℕ) (seen : List ℕ) (i : ℕ) : Type 0 where
  pub saved : List Saved
  pub once : Once n saved
  pub bytes : drop at l ≡ records_image saved (drop i l)
  pub end_is : i ≡ at + 6 * length saved
  pub most : i ≤ length l
  pub size : length seen ≡ 256
  pub stamped : Stamped saved (at + 1) seen
  pub up_to : UpTo (at + 1) seen

pub passing-first : (n : ℕ) (l : List ℕ) (at : ℕ) (seen : List ℕ) → at ≤ length l → length seen ≡ 256 → UpTo at seen → Passing n l at seen at
unfolding records_image among
passing-first n l at seen h s u = record {
  saved = [];
  once = Once.none;
  bytes = refl;
  end_is = omega arith;
  most = h;
  size = s;
  stamped = λ c k. ne_eqb (get_or seen c 0) (at + 1) (λ e. omega (arith, u c k));
  up_to = λ c k. omega (arith, u c k);
}

pub passing-turn : {n : ℕ} {l : List ℕ} {at : ℕ} {seen : List ℕ} {i : ℕ} → Passing n l at seen i → n ≤ 256 → Small l
    → i + 6 ≤ length l → get_or l i 0 ≡ 0xA1 → get_or l (i + 1) 0 < n → ¬ (get_or seen (get_or l (i + 1) 0) 0 ≡ at + 1)
    → Passing n l at (set seen (get_or l (i + 1) 0) (at + 1)) (i + 6)
unfolding records_image
passing-turn {n} {l} {at} {seen} {i} p s b h tag k fresh =
    let r = record_at_of l i in
    let x = r.cell in
    let size = p.size in
    let none : among x p.saved ≡ false = sym (p.stamped x (omega arith)) ∙ ne_eqb (get_or seen x 0) (at + 1) fresh in
    let small : x < length seen = omega arith in
    record {
      saved = p.saved ++ (r ∷ []);
      once = once-snoc r p.once k (load_lt 4 l (i + 2) b) none;
      bytes = p.bytes ∙ ap (records_image p.saved) (record-front l i b h tag) ∙ sym (records-join p.saved (r ∷ []) (drop (i + 6) l));
      end_is = omega (arith, p.end_is, length-append p.saved (r ∷ []));
      most = h;
      size = length-set seen x (at + 1) ∙ size;
      stamped =
          λ c j.
          ap (λ (y : ℕ). eqb y (at + 1)) (set_value seen x (at + 1) c small)
          ∙ either-stamped (eqb c x) (at + 1) (get_or seen c 0)
          ∙ ap (λ (t : Bool). t || eqb c x) (p.stamped c j)
          ∙ sym (among-snoc c p.saved r);
      up_to = λ c j. omega (arith, set_value seen x (at + 1) c small, either-most (eqb c x) (at + 1) (get_or seen c 0) (p.up_to c j));
    }

-- ---- a cell without the stamp

-- `free_cell` looks at the cells below n: one of them is without the stamp, or all have it
pub free-any : (n m : ℕ) (seen : List ℕ) (r : Bool) → n ≤ length seen
    → MatchBool r ((k : ℕ) × (k < length (take n seen)) × HoldsAt (λ x. ¬ (x ≡ m)) (take n seen) k) (AllWithin (λ x. x ≡ m) (take n seen) 0 (length (take n seen)))
    → Decides (Free n m seen []) r
free-any n m seen true h (k, b, d) =
    let e = length-take-le n seen h in
    let z : k < n = omega arith in
    record { cell = k; exists = z; fresh = ne_eqb (get_or seen k 0) m (λ s. d 0 (get_or-take n seen k 0 z ∙ s)); meets = Meets.cut }
free-any n m seen false h a = λ f.
    let e = length-take-le n seen h in
    let z = f.exists in
    eqb-false (get_or seen f.cell 0) m f.fresh (sym (get_or-take n seen f.cell 0 z) ∙ a f.cell 0 (omega arith) (omega arith))

-- past the end every such cell is begun
pub free-past : (n m : ℕ) (seen l : List ℕ) (i : ℕ) (r : Bool) → length l ≤ i → Decides (Free n m seen []) r → Decides (Free n m seen (drop i l)) r
free-past n m seen l i r h d = rw (drop_of_length-le l h) d

-- elsewhere it is the one whose number stands there
pub free-beyond : (n m : ℕ) (seen l : List ℕ) (i : ℕ) → i < length l → n ≤ get_or l i 0 → ¬ Free n m seen (drop i l)
free-beyond n m seen l i h s f = omega (arith, f.exists, (first-meets l i h f.meets).0)

pub free-at : (n m : ℕ) (seen l : List ℕ) (i : ℕ) → i < length l → get_or l i 0 < n
    → Decides (Free n m seen (drop i l)) (not (eqb (get_or seen (get_or l i 0) 0) m))
free-at n m seen l i h s =
    let x = get_or l i 0 in
    decides (not (eqb (get_or seen x 0) m))
    (λ t. record { cell = x; exists = s; fresh = not-true (eqb (get_or seen x 0) m) t; meets = meets-first l i x h refl Meets.ends })
    (λ f. ap not (ap (λ (c : ℕ). eqb (get_or seen c 0) m) (first-meets l i h f.meets).0 ∙ f.fresh))
