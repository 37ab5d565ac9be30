-- Numbers as little-endian bytes, at any width: "Wider fields are little-endian."
-- Assumes nothing.
use Rattle.std.specs.Prelude.{ℕ, zero, suc, ◌+◌, ◌*◌, ◌/◌, ◌%◌, ◌^◌, List, [], ◌∷◌, slice_index}
use Rattle.std.proofs.lemmas.List.Edits.{sets}

-- the k-th byte of v, the lowest first
unfoldable pub byte_of : ℕ → ℕ → ℕ
byte_of v k = v / 2 ^ (8 * k) % 256

-- the n lowest bytes of v, the lowest first
unfoldable pub bytes_of : ℕ → ℕ → List ℕ
bytes_of zero v = []
bytes_of (suc n) v = v % 256 ∷ bytes_of n (v / 256)

-- the number whose bytes these are
unfoldable pub number_of : List ℕ → ℕ
number_of [] = 0
number_of (b ∷ bs) = b + 256 * number_of bs

-- the number in the n bytes of s from offset `at` on; past the end a byte counts as 0
unfoldable pub load_of : ℕ → List ℕ → ℕ → ℕ
load_of zero s at = 0
load_of (suc n) s at = slice_index s at + 256 * load_of n s (at + 1)

-- s with the n lowest bytes of v stored from offset `at` on; what would lie past the end is dropped
unfoldable pub store_of : ℕ → List ℕ → ℕ → ℕ → List ℕ
store_of n s at v = sets s at (bytes_of n v)
