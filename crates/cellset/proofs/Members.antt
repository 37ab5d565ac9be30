-- The members of a set as a list: it holds the cells of the set and no others, by rising number, so that none occurs twice.
-- Assumes nothing.
use mathlib.Core.Path.{◌≡◌, refl}
use mathlib.Core.Logic.{⊎_elim}
use mathlib.Core.List.{List, [], ◌∷◌}
use mathlib.Core.Bool.{Bool, true, false, cond}
use Prim.Native.Nat.{ℕ, zero, suc, ◌+◌, ◌≤◌, ◌<◌, zero-le}
use native.Mathlib.Nat.{le_refl, le_trans, le-suc, le_of_suc-le-suc, not-suc-le-zero}
use native.Mathlib.Omega.{arith}
use lib.Dec.{eqb}
use lib.ListN.{length, get_or, get_or-eq_default}
use borrow.Author.Tests.{eq-eqb, eqb-true}
use Rattle.cellset.specs.Bits.{has}
use Rattle.cellset.specs.Members.{members_from, members}
use Rattle.cellset.proofs.Bits.{le-or-lt}

-- c occurs in the list
pub data In (c : ℕ) : List ℕ → Type 0 where
  here : {l : List ℕ} → In c (c ∷ l)
  there : {x : ℕ} {l : List ℕ} → In c l → In c (x ∷ l)

-- the list rises strictly, and nothing in it is below c
pub data Rising : ℕ → List ℕ → Type 0 where
  end : {c : ℕ} → Rising c []
  next : {c x : ℕ} {l : List ℕ} → c ≤ x → Rising (suc x) l → Rising c (x ∷ l)

-- the bound may be lowered
pub rising-from : {b c : ℕ} {l : List ℕ} → b ≤ c → Rising c l → Rising b l
rising-from h end = end
rising-from h (next p r) = next (le_trans h p) r

-- those from c on
from-rising : (s : List ℕ) (c n : ℕ) → Rising c (members_from s c n)
unfolding members_from
from-rising s c zero = end
from-rising s c (suc n) = go (eqb (has s c) 1) (from-rising s (suc c) n)
  where
    go : (b : Bool) {l : List ℕ} → Rising (suc c) l → Rising c (cond b (c ∷ l) l)
    go true r = next (le_refl c) r
    go false r = rising-from (le-suc c) r

-- the members rise strictly
pub members-rising : (s : List ℕ) → Rising 0 (members s)
unfolding members
members-rising s = from-rising s 0 256

-- what is listed later is listed, whether c stands before it or not
listed-later : (b : Bool) (c : ℕ) {a : ℕ} {l : List ℕ} → In a l → In a (cond b (c ∷ l) l)
listed-later true c i = there i
listed-later false c i = i

-- a cell of the set is listed where the list comes to it
listed-first : (s : List ℕ) (c n : ℕ) → has s c ≡ 1 → In c (members_from s c (suc n))
unfolding members_from
listed-first s c n h = rw (eq-eqb (has s c) 1 h) here

-- so is one that comes later
from_in : (s : List ℕ) (c n a : ℕ) → c ≤ a → a < c + n → has s a ≡ 1 → In a (members_from s c n)
unfolding members_from
from_in s c zero a p q h = absurd (omega arith)
from_in s c (suc n) a p q h =
    ⊎_elim
    (λ (l : suc c ≤ a). listed-later (eqb (has s c) 1) c (from_in s (suc c) n a l (omega arith) h))
    (λ (l : a < suc c). let e : c ≡ a = omega arith in rw e (listed-first s a n h))
    (le-or-lt (suc c) a)

-- each cell of the set is a member
pub members-in : (s : List ℕ) (c : ℕ) → c < 256 → has s c ≡ 1 → In c (members s)
unfolding members
members-in s c l h = from_in s 0 256 c zero-le l h

-- what holds of c, if it stands there, and of what is listed later, holds of all that is listed
each-listed : (P : ℕ → Type 0) (b : Bool) (a c : ℕ) (l : List ℕ) → (b ≡ true → P c) → (In a l → P a) → In a (cond b (c ∷ l) l) → P a
each-listed P true a c l first later here = first refl
each-listed P true a c l first later (there i) = later i
each-listed P false a c l first later i = later i

-- what is listed lies in the range and in the set
from-only : (s : List ℕ) (c n a : ℕ) → In a (members_from s c n) → (a < c + n) × (has s a ≡ 1)
unfolding members_from
from-only s c zero a i = elim i [ ]
from-only s c (suc n) a i =
    each-listed (λ (x : ℕ). (x < c + suc n) × (has s x ≡ 1)) (eqb (has s c) 1) a c (members_from s (suc c) n)
    (λ t. (omega arith, eqb-true (has s c) 1 t))
    (λ i. let r = from-only s (suc c) n a i in (omega arith, r.1))
    i

-- each member is a cell of the set
pub members_only : (s : List ℕ) (c : ℕ) → In c (members s) → has s c ≡ 1
unfolding members
members_only s c i = (from-only s 0 256 c i).1

-- and there are 256 cells
pub members-below : (s : List ℕ) (c : ℕ) → In c (members s) → c < 256
unfolding members
members-below s c i = (from-only s 0 256 c i).0

-- an element of a list is in it
pub in-get_or : (l : List ℕ) (k d : ℕ) → k < length l → In (get_or l k d) l
in-get_or [] k d h = absurd (not-suc-le-zero h)
in-get_or (x ∷ l) zero d h = here
in-get_or (x ∷ l) (suc k) d h = there (in-get_or l k d (le_of_suc-le-suc h))

-- so what stands at place k, or 0 past the end, is a cell
pub nth-below : (s : List ℕ) (k : ℕ) → get_or (members s) k 0 < 256
nth-below s k =
    ⊎_elim
    (λ (p : length (members s) ≤ k). rw (get_or-eq_default (members s) 0 {n = k} p) (omega arith))
    (λ (p : k < length (members s)). members-below s (get_or (members s) k 0) (in-get_or (members s) k 0 p))
    (le-or-lt (length (members s)) k)
