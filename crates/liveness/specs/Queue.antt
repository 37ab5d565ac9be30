-- Numbers that wait in the front of a list, with a flag for each number that waits; and chains of numbers through a table of links.
-- Assumes nothing.
use Rattle.std.specs.Prelude.{ℕ, suc, ◌+◌, ◌≤◌, ◌<◌, ◌≡◌, List, [], ◌∷◌, Bool, true, false, cond, length, get_or, set}

-- how many flags are set
abbrev pub count : List Bool → ℕ
count [] = 0
count (b ∷ bs) = cond b 1 0 + count bs

-- the flag of number k, unset past the end
abbrev pub flag : List Bool → ℕ → Bool
flag flags k = get_or flags k false

-- a list with a place for every flag, and no more numbers in front than there are flags set
pub record Room (list : List ℕ) (flags : List Bool) (top : ℕ) : Type 0 where
  pub size : length list ≡ length flags
  pub most : top ≤ count flags

-- the numbers that wait are below n, and every number whose flag is set waits
pub record Queue (n : ℕ) (list : List ℕ) (flags : List Bool) (top : ℕ) : Type 0 where
  pub room : Room list flags top
  pub whole : n ≤ length flags
  pub below : (j : ℕ) → j < top → get_or list j 0 < n
  pub listed : (k : ℕ) → flag flags k ≡ true → (j : ℕ) × (j < top) × (get_or list j 0 ≡ k)

-- number k put behind the others, unless its flag is set
pub record Pushed (list : List ℕ) (flags : List Bool) (top k : ℕ) (list' : List ℕ) (flags' : List Bool) (top' : ℕ) : Type 0 where
  pub list_is : list' ≡ cond (flag flags k) list (set list top k)
  pub flags_are : flags' ≡ set flags k true
  pub top_is : top' ≡ cond (flag flags k) top (top + 1)

-- no flag was unset
abbrev pub Grown : List Bool → List Bool → Type 0
Grown flags flags' = (k : ℕ) → flag flags k ≡ true → flag flags' k ≡ true

-- number k is on the chain that begins with e: 0 for the empty chain, else 1 more than its first number
pub data On (links : List ℕ) (k : ℕ) : ℕ → Type 0 where
  here : On links k (suc k)
  there : {j : ℕ} → On links k (get_or links j 0) → On links k (suc j)

-- each link leads to a smaller number, so that a chain ends
abbrev pub Falls : List ℕ → Type 0
Falls links = (k : ℕ) → k < length links → get_or links k 0 ≤ k

-- for each number t the chain of the numbers k with target t: heads has its beginning, links the rest
pub record Chains (targets heads links : List ℕ) : Type 0 where
  pub bounds : (t : ℕ) → get_or heads t 0 ≤ length targets
  pub falls : (k : ℕ) → k < length targets → get_or links k 0 ≤ k
  pub complete : (k : ℕ) → k < length targets → On links k (get_or heads (get_or targets k 0) 0)
