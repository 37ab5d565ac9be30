-- The cells of a set, one after the other.
-- Assumes nothing.
use Rattle.std.specs.Prelude.{ℕ, zero, suc, List, [], ◌∷◌, cond, eqb}
use Rattle.cellset.specs.Bits.{bit, has}

-- the cells of the set s among the n from c on, by rising number
unfoldable pub members_from : List ℕ → (c n : ℕ) → List ℕ
members_from s c zero = []
members_from s c (suc n) = cond (eqb (has s c) 1) (c ∷ members_from s (suc c) n) (members_from s (suc c) n)

-- all of them
unfoldable pub members : List ℕ → List ℕ
members s = members_from s 0 256

-- the set bits of a word among the n from bit c on, by rising number
unfoldable pub bits_from : ℕ → (c n : ℕ) → List ℕ
bits_from w c zero = []
bits_from w c (suc n) = cond (eqb (bit w c) 1) (c ∷ bits_from w (suc c) n) (bits_from w (suc c) n)
