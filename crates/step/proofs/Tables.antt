-- An accepted program, by check's answer (`legal`), has its table of places as a list, and so a run of it what it needs.
-- Assumes nothing.
use Prim.Native.Nat.{ℕ, zero, suc, ◌+◌, ◌≤◌, ◌<◌}
use mathlib.Core.Path.{◌≡◌, refl, sym, ◌∙◌, ap}
use mathlib.Core.List.{List, [], ◌∷◌}
use native.Mathlib.Omega.{arith}
use lib.ListN.{length, get_or}
use lib.Dec.{ltb}
use borrow.Author.Tests.{ltb-true, ltb-false}
use Rattle.program.specs.Check.{check_of}
use Rattle.program.specs.Starts.{starts}
use Rattle.program.specs.Places.{place_of, entry_at, Places}
use Rattle.program.specs.Check.{Program}
use Rattle.program.proofs.Tests.{bool_cases}
use Rattle.program.proofs.Accepted.{accepted}
use Rattle.program.proofs.Filling.{none-past}
use Rattle.step.specs.State.{Env}
use Rattle.step.specs.Ready.{Legal, Ready}

-- check's answer tells that a program is accepted
pub legal : {p : List ℕ} {a b x : ℕ} → Program a b x ≡ check_of p → Legal p
legal {a = a} {b} {x} h = record { cells = a; instructions = b; excludes = x; accepted = sym h }

-- f of the n numbers from b on
unfoldable pub tabulated : (ℕ → ℕ) → (b n : ℕ) → List ℕ
tabulated f b zero = []
tabulated f b (suc n) = f b ∷ tabulated f (suc b) n

-- its length
pub tabulated-length : (f : ℕ → ℕ) (b n : ℕ) → length (tabulated f b n) ≡ n
unfolding tabulated
tabulated-length f b zero = refl
tabulated-length f b (suc n) = ap suc (tabulated-length f (suc b) n)

-- its entries
pub tabulated-at : (f : ℕ → ℕ) (b n i : ℕ) → i < n → get_or (tabulated f b n) i 0 ≡ f (b + i)
unfolding tabulated
tabulated-at f b zero i h = absurd (omega arith)
tabulated-at f b (suc n) zero h = let e : b ≡ b + 0 = omega arith in ap f e
tabulated-at f b (suc n) (suc i) h =
    let e : suc b + i ≡ b + suc i = omega arith in
    tabulated-at f (suc b) n i (omega arith) ∙ ap f e

-- the table of a program's places
table_of : List ℕ → List ℕ
table_of p = tabulated (place_of p) 0 2048

-- there is no place past the end
no_place : (p : List ℕ) (t : ℕ) → length p ≤ t → place_of p t ≡ 0
unfolding place_of starts
no_place p t h = rw (none-past p (length p) 1 t h)

-- the table has the places
table-places : (p : List ℕ) → length p ≤ 2048 → Places p (table_of p)
unfolding entry_at table_of
table-places p h t =
    bool_cases (ltb t 2048)
    (λ b. rw b (tabulated-at (place_of p) 0 2048 t (ltb-true _ _ b) ∙ ap (place_of p) (let e : 0 + t ≡ t = omega arith in e)))
    (λ b. let l : 2048 ≤ t = ltb-false _ _ b in rw b (sym (no_place p t (omega arith))))

-- what a run of the program needs
pub ready : (e : Env) → Legal e.program → 512 ≤ length e.sets → (table : List ℕ) × Ready e table
ready e l w = (
  table_of e.program,
  record {
    cells = l.cells;
    instructions = l.instructions;
    excludes = l.excludes;
    accepted = l.accepted;
    places = table-places e.program (accepted e.program (sym l.accepted)).most;
    words = w;
  },
)
