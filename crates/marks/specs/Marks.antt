-- The marks of cells: document 01, "Each cell has one mark, at first Include. EXCLUDE sets it". A list of marks has a byte for each cell.
-- Assumes nothing.
use Rattle.std.specs.Prelude.{ℕ, zero, suc, ◌+◌, Bool, true, false, cond, ◌&&◌, List, [], ◌∷◌, get_or, set, eqb, ltb}
use Rattle.cellset.specs.Bits.{member}
use Rattle.marks.specs.declared.Mark.{Mark}
use Rattle.marks.specs.declared.Mark.TheVariants.{Include, Pending, Kept, Dead}

-- the byte of a mark: "0 Include, 1 Pending, 2 Kept, 3 Dead"
abbrev pub byte_of : Mark → ℕ
byte_of Include = 0
byte_of Pending = 1
byte_of Kept = 2
byte_of Dead = 3

-- the mark of a byte
abbrev pub mark_of : ℕ → Mark
mark_of b = cond (eqb b 0) Include (cond (eqb b 1) Pending (cond (eqb b 2) Kept Dead))

-- "in DE, Dead. Else in RO: Include, Pending and Dead become Pending; Kept remains. Else Include."
abbrev pub excluded : Mark → (de ro : Bool) → Mark
excluded m true ro = Dead
excluded Include false true = Pending
excluded Pending false true = Pending
excluded Kept false true = Kept
excluded Dead false true = Pending
excluded m false false = Include

-- "With the last byte, Pending becomes Kept"
abbrev pub saved : Mark → Mark
saved Include = Include
saved Pending = Kept
saved Kept = Kept
saved Dead = Dead

-- recovery: "marks Dead for DE, else Kept for RO, else Include"
abbrev pub recovered : (de ro : Bool) → Mark
recovered true ro = Dead
recovered false true = Kept
recovered false false = Include

-- "for each Include or Pending cell": a save holds it
abbrev pub is_stored_of : Mark → Bool
is_stored_of Include = true
is_stored_of Pending = true
is_stored_of Kept = false
is_stored_of Dead = false

-- f of each of the first n marks, from its cell; the others remain
unfoldable pub map_below : (ℕ → Mark → Mark) → ℕ → List ℕ → List ℕ
map_below f zero ms = ms
map_below f (suc n) ms = set (map_below f n ms) n (byte_of (f n (mark_of (get_or ms n 0))))

-- cell c is in the set that stands in ws from index `at` on
abbrev pub in_set : List ℕ → (at c : ℕ) → Bool
in_set ws at c = eqb (member ws at c) 1

-- the marks of n cells after an EXCLUDE whose DE and RO stand in ws from index `at` on; "bits of missing cells count as 0", so that these stay Include
unfoldable pub excluded_marks : List ℕ → (at n : ℕ) → List ℕ → List ℕ
excluded_marks ws at n ms = map_below (λ c m. excluded m (in_set ws at c) (in_set ws (at + 4) c)) n ms

-- the marks of n cells as recovery finds them, by the sets of the last EXCLUDE
unfoldable pub recovered_marks : List ℕ → (at n : ℕ) → List ℕ → List ℕ
recovered_marks ws at n ms = map_below (λ c m. recovered (in_set ws at c) (in_set ws (at + 4) c)) n ms

-- after a save's last byte
unfoldable pub saved_marks : ℕ → List ℕ → List ℕ
saved_marks n ms = map_below (λ c m. saved m) n ms

-- 1 where cell c is one of n cells and a save holds it
abbrev pub to_store : ℕ → List ℕ → ℕ → ℕ
to_store n ms c = cond (ltb c n && is_stored_of (mark_of (get_or ms c 0))) 1 0

-- those cells among the k from c on, by rising number
unfoldable pub stored_from : ℕ → List ℕ → (c k : ℕ) → List ℕ
stored_from n ms c zero = []
stored_from n ms c (suc k) = cond (eqb (to_store n ms c) 1) (c ∷ stored_from n ms (suc c) k) (stored_from n ms (suc c) k)

unfoldable pub stored_cells_of : ℕ → List ℕ → List ℕ
stored_cells_of n ms = stored_from n ms 0 256
