-- Liveness and regions on a given program, computed: a round adds what one more instruction leads to, so that all that is found is live, or in the region. Where what is
-- found at last is closed (Certificates.antt), nothing else is.
-- Assumes nothing.
use mathlib.Core.Path.{◌≡◌, refl}
use mathlib.Core.List.{List, [], ◌∷◌}
use mathlib.Core.Bool.{Bool, true, false, cond, not, ◌&&◌, ◌||◌, or-true}
use Prim.Native.Nat.{ℕ, zero, suc}
use lib.Dec.{eqb}
use borrow.Author.Tests.{eqb-true, eqb-false, eq-eqb, not-true}
use Rattle.instruction.specs.Bytes.{byte, instruction_at_of}
use Rattle.instruction.specs.Table.{may_ref_of, must_def_of, successors}
use Rattle.program.specs.Starts.{starts, among}
use Rattle.program.proofs.Tests.{bool_cases, clash, and_both, or_cases}
use Rattle.graph.specs.Tables.{count_of}
use Rattle.analysis.specs.Paths.{Live, reads, later, Region, first, onward}

-- one number of the list passes the test
abbrev pub some_of : (ℕ → Bool) → List ℕ → Bool
some_of f [] = false
some_of f (x ∷ xs) = f x || some_of f xs

pub some_at : (f : ℕ → Bool) (xs : List ℕ) → some_of f xs ≡ true → (x : ℕ) × (among x xs ≡ true) × (f x ≡ true)
unfolding among
some_at f [] h = clash false h refl
some_at f (y ∷ ys) h =
    let ih = some_at f ys in
    or_cases (f y) (some_of f ys) h (λ t. (y, rw (eq-eqb y y refl), t)) (λ _ t. let s = ih t in (s.0, rw (s.1, or-true), s.2))

-- the numbers of the list that pass it
abbrev those_of : (ℕ → Bool) → List ℕ → List ℕ
those_of f [] = []
those_of f (x ∷ xs) = let rest = those_of f xs in cond (f x) (x ∷ rest) rest

those-pass : (f : ℕ → Bool) (xs : List ℕ) (x : ℕ) → among x (those_of f xs) ≡ true → f x ≡ true
unfolding among
those-pass f [] x h = clash false h refl
those-pass f (y ∷ ys) x h =
    let ih = those-pass f ys x in
    bool_cases (f y)
    (λ t. or_cases (eqb y x) (among x (those_of f ys)) (rw t at h) (λ e. let d : y ≡ x = eqb-true _ _ e in rw (← d) t) (λ _ r. ih r))
    (λ t. ih (rw t at h))

-- the starts that n rounds find, where f tells by what was found before whether a start is found now
abbrev rounds : List ℕ → (List ℕ → ℕ → Bool) → ℕ → List ℕ
rounds p f zero = []
rounds p f (suc n) = those_of (f (rounds p f n)) (starts p)

-- they have every property that a round keeps
rounds-keep : (p : List ℕ) (f : List ℕ → ℕ → Bool) (P : ℕ → Type 0)
    → ((s : List ℕ) (o : ℕ) → ((q : ℕ) → among q s ≡ true → P q) → f s o ≡ true → P o) → (n o : ℕ) → among o (rounds p f n) ≡ true → P o
unfolding among
rounds-keep p f P step zero o h = clash false h refl
rounds-keep p f P step (suc n) o h = step (rounds p f n) o (rounds-keep p f P step n) (those-pass (f (rounds p f n)) (starts p) o h)

-- cell c is read at o, or it is not surely written there and one of the offsets s may follow
abbrev reaches : List ℕ → ℕ → List ℕ → ℕ → Bool
reaches p c s o = eqb (may_ref_of (instruction_at_of p o) c) 1 || (eqb (must_def_of (instruction_at_of p o) c) 0 && some_of (λ q. among q s) (successors p o))

-- as many rounds as there are instructions: no path need be longer
abbrev pub live_of : List ℕ → ℕ → List ℕ
live_of p c = rounds p (reaches p c) (count_of p)

pub live-found : (p : List ℕ) (c o : ℕ) → among o (live_of p c) ≡ true → Live p c o
live-found p c = rounds-keep p (reaches p c) (Live p c) step (count_of p)
  where
    step : (s : List ℕ) (o : ℕ) → ((q : ℕ) → among q s ≡ true → Live p c q) → reaches p c s o ≡ true → Live p c o
    step s o found h =
        or_cases _ _ h
        (λ t. reads (eqb-true _ _ t))
        (λ _ t.
        let b = and_both _ _ t in
        let q = some_at (λ q. among q s) (successors p o) b.1 in
        later (eqb-true _ _ b.0) q.1 (found q.0 q.2))

-- q follows the EXCLUDE at e, or one of the offsets s that is none
abbrev entered : List ℕ → ℕ → List ℕ → ℕ → Bool
entered p e s q = among q (successors p e) || some_of (λ o. not (eqb (byte p o) 0x0D) && among q (successors p o)) s

abbrev pub region_of : List ℕ → ℕ → List ℕ
region_of p e = rounds p (entered p e) (count_of p)

pub region-found : (p : List ℕ) (e o : ℕ) → among o (region_of p e) ≡ true → Region p e o
region-found p e = rounds-keep p (entered p e) (Region p e) step (count_of p)
  where
    step : (s : List ℕ) (q : ℕ) → ((o : ℕ) → among o s ≡ true → Region p e o) → entered p e s q ≡ true → Region p e q
    step s q found h =
        or_cases _ _ h
        (λ t. first t)
        (λ _ t.
        let o = some_at (λ o. not (eqb (byte p o) 0x0D) && among q (successors p o)) s t in
        let b = and_both _ _ o.2 in
        onward (found o.0 o.1) (eqb-false _ _ (not-true _ b.0)) b.1)
