-- Liveness and regions on a given program, decided: a list of offsets that is closed under what makes a cell live bounds `Live` from above, and one that is closed
-- under going on bounds `Region`; a path, built from the constructors, bounds them from below.
-- Assumes nothing.
use mathlib.Core.Path.{◌≡◌, refl}
use mathlib.Core.List.{List, [], ◌∷◌}
use mathlib.Core.Bool.{Bool, true, false, not, ◌&&◌, ◌||◌}
use Prim.Native.Nat.{ℕ, ◌<◌}
use native.Mathlib.Omega.{arith}
use lib.Dec.{eqb}
use borrow.Author.Tests.{eqb-true, eq-eqb, not-true}
use Rattle.instruction.specs.Bytes.{byte, cells_of, instruction_at_of}
use Rattle.instruction.specs.Table.{may_ref_of, may_def_of, must_def_of, successors}
use Rattle.program.specs.Starts.{starts, among, all_among_of}
use Rattle.program.specs.Places.{is_start}
use Rattle.program.proofs.Tests.{clash, and_both, or_cases}
use Rattle.program.proofs.Accepted.{Accepted, start-successors}
use Rattle.analysis.specs.Paths.{Follows, Live, reads, later, Region, first, onward, DE, RO}

-- each number of the list passes the test
abbrev pub all_of : (ℕ → Bool) → List ℕ → Bool
all_of f [] = true
all_of f (x ∷ xs) = f x && all_of f xs

pub all-at : (f : ℕ → Bool) (xs : List ℕ) (x : ℕ) → all_of f xs ≡ true → among x xs ≡ true → f x ≡ true
unfolding among
all-at f [] x h m = clash false m refl
all-at f (y ∷ ys) x h m =
    let b = and_both (f y) (all_of f ys) h in
    let ih = all-at f ys x b.1 in
    or_cases (eqb y x) (among x ys) m (λ e. let d : y ≡ x = eqb-true _ _ e in rw d at b.0) (λ _ r. ih r)

all_among : (xs ts : List ℕ) (t : ℕ) → all_among_of ts xs ≡ true → among t ts ≡ true → among t xs ≡ true
unfolding among
all_among xs [] t h m = clash false m refl
all_among xs (y ∷ ys) t h m =
    let b = and_both (among y xs) (all_among_of ys xs) h in
    let ih = all_among xs ys t b.1 in
    or_cases (eqb y t) (among t ys) m (λ e. let d : y ≡ t = eqb-true _ _ e in rw d at b.0) (λ _ r. ih r)

-- what follows a start of an accepted program is a start
pub follows-start : (p : List ℕ) {c n e : ℕ} → Accepted p c n e → (o q : ℕ) → is_start p o ≡ true → Follows p o q → is_start p q ≡ true
follows-start p a o q s f = all_among (starts p) (successors p o) q (start-successors p a o s) f

-- none of what may follow o is in the list
abbrev leaves : List ℕ → List ℕ → ℕ → Bool
leaves p s o = all_of (λ q. not (among q s)) (successors p o)

-- all of it is
abbrev stays : List ℕ → List ℕ → ℕ → Bool
stays p s o = all_of (λ q. among q s) (successors p o)

-- what the instruction at o does to cell c
abbrev refs : List ℕ → ℕ → ℕ → Bool
refs p c o = eqb (may_ref_of (instruction_at_of p o) c) 1

abbrev keeps : List ℕ → ℕ → ℕ → Bool
keeps p c o = eqb (must_def_of (instruction_at_of p o) c) 0

-- o is in the list, or nothing makes the cell live there
abbrev live_step : List ℕ → ℕ → List ℕ → ℕ → Bool
live_step p c s o = among o s || (not (refs p c o) && (not (keeps p c o) || leaves p s o))

-- the list has every offset before which the cell is live by itself or by another offset of the list
abbrev pub closed_live : List ℕ → ℕ → List ℕ → Bool
closed_live p c s = all_of (live_step p c s) (starts p)

module _ (p : List ℕ) {m n e : ℕ} (a : Accepted p m n e) (c : ℕ) (s : List ℕ) (closed : closed_live p c s ≡ true) where
  -- a start that is not in the list: the cell is not read there, and it is written or no successor is in the list
  outside : (o : ℕ) → is_start p o ≡ true → among o s ≡ false → (refs p c o ≡ false) × ((keeps p c o ≡ true) → leaves p s o ≡ true)
  outside o st out =
      let h : (not (refs p c o) && (not (keeps p c o) || leaves p s o)) ≡ true = rw out at (all-at (live_step p c s) (starts p) o closed st) in
      let b = and_both (not (refs p c o)) (not (keeps p c o) || leaves p s o) h in
      (not-true _ b.0, λ k. rw k at b.1)

  -- the cell is dead before every start that is not in the list
  pub dead-at : (o : ℕ) → is_start p o ≡ true → among o s ≡ false → ¬ Live p c o
  dead-at o st out (reads r) = clash (refs p c o) (eq-eqb _ _ r) (outside o st out).0
  dead-at o st out (later {q = q} w f l) =
      let k = (outside o st out).1 (eq-eqb _ _ w) in
      dead-at q (follows-start p a o q st f) (not-true _ (all-at (λ x. not (among x s)) (successors p o) q k f)) l

-- the list has what follows the EXCLUDE, and what follows each of its offsets but an EXCLUDE
abbrev region_step : List ℕ → List ℕ → ℕ → Bool
region_step p s o = eqb (byte p o) 0x0D || stays p s o

abbrev pub closed_region : List ℕ → ℕ → List ℕ → Bool
closed_region p e s = stays p s e && all_of (region_step p s) s

-- the region lies within such a list
pub region-in : (p : List ℕ) (e : ℕ) (s : List ℕ) → closed_region p e s ≡ true → (o : ℕ) → Region p e o → among o s ≡ true
region-in p e s h o (first f) = all-at (λ q. among q s) (successors p e) o (and_both (stays p s e) (all_of (region_step p s) s) h).0 f
region-in p e s h o (onward {o = x} r n f) =
    let b = (and_both (stays p s e) (all_of (region_step p s) s) h).1 in
    or_cases (eqb (byte p x) 0x0D) (stays p s x) (all-at (region_step p s) s x b (region-in p e s h x r))
    (λ t. absurd (n (eqb-true _ _ t)))
    (λ _ k. all-at (λ q. among q s) (successors p x) o k f)

-- where such a list has no CHECKPOINT, the region has none
pub no-save : (p : List ℕ) (e : ℕ) (s : List ℕ) → closed_region p e s ≡ true → all_of (λ o. not (eqb (byte p o) 0x0E)) s ≡ true
    → (o : ℕ) → Region p e o → ¬ (byte p o ≡ 0x0E)
no-save p e s region h o w is =
    clash (eqb (byte p o) 0x0E) (eq-eqb _ _ is) (not-true _ (all-at (λ o. not (eqb (byte p o) 0x0E)) s o h (region-in p e s region o w)))

-- a CHECKPOINT of the list r is a start outside the list s
abbrev saves_outside : List ℕ → List ℕ → ℕ → Bool
saves_outside p s o = not (eqb (byte p o) 0x0E) || (is_start p o && not (among o s))

module _ (p : List ℕ) (e : ℕ) (r : List ℕ) (region : closed_region p e r ≡ true) (c : ℕ) where
  -- cell c is in DE: the region has a CHECKPOINT, and the cell is dead at each
  pub de-by : {m n k : ℕ} → Accepted p m n k → (s : List ℕ) → closed_live p c s ≡ true → all_of (saves_outside p s) r ≡ true
      → c < cells_of p → (o : ℕ) → Region p e o → byte p o ≡ 0x0E → DE p e c
  de-by a s closed out below o w k = record {
    exists = below;
    place = o;
    within = w;
    saves = k;
    dead = λ x g d.
        or_cases (not (eqb (byte p x) 0x0E)) (is_start p x && not (among x s)) (all-at (saves_outside p s) r x out (region-in p e r region x g))
        (λ t. clash (eqb (byte p x) 0x0E) (eq-eqb _ _ d) (not-true _ t))
        (λ _ t. let b = and_both (is_start p x) (not (among x s)) t in dead-at p a c s closed x b.0 (not-true _ b.1));
  }

  -- cell c is in RO: no instruction of the region may write it
  pub ro-by : all_of (λ o. eqb (may_def_of (instruction_at_of p o) c) 0) r ≡ true → c < cells_of p → RO p e c
  ro-by h below = record {
    exists = below;
    kept = λ o g. eqb-true _ _ (all-at (λ o. eqb (may_def_of (instruction_at_of p o) c) 0) r o h (region-in p e r region o g));
  }

-- a cell that an instruction of the region may write is not in RO
pub not-ro : (p : List ℕ) (e c o : ℕ) → Region p e o → may_def_of (instruction_at_of p o) c ≡ 1 → ¬ RO p e c
not-ro p e c o r w d = let z = d.kept o r in absurd (omega arith)
