-- Numbers in buffers of bytes: document 01, "The C side lends all of this as little-endian bytes; a rest too short for one number is left unused."
-- Assumes nothing.
use Rattle.std.specs.Prelude.{ℕ, zero, suc, ◌+◌, ◌/◌, List, [], ◌∷◌, ◌++◌, ℤ, length}
use Rattle.word.specs.Word.{val, bits_of}
use Rattle.word.specs.Bytes.{bytes_of, load_of}

-- n numbers of w bytes each, one behind the other from offset `at` on
unfoldable pub numbers_from : (w n : ℕ) → List ℕ → (at : ℕ) → List ℕ
numbers_from w zero b at = []
numbers_from w (suc n) b at = load_of w b at ∷ numbers_from w n b (at + w)

-- the bytes of numbers of w bytes each
unfoldable pub bytes_of_all : (w : ℕ) → List ℕ → List ℕ
bytes_of_all w [] = []
bytes_of_all w (v ∷ vs) = bytes_of w v ++ bytes_of_all w vs

-- n signed 32-bit numbers from offset `at` on
unfoldable pub signed_from : (n : ℕ) → List ℕ → (at : ℕ) → List ℤ
signed_from zero b at = []
signed_from (suc n) b at = val (load_of 4 b at) ∷ signed_from n b (at + 4)

-- those of a whole buffer
unfoldable pub signed_of : List ℕ → List ℤ
signed_of b = signed_from (length b / 4) b 0

-- the bytes of signed numbers
unfoldable pub signed_bytes : List ℤ → List ℕ
signed_bytes [] = []
signed_bytes (v ∷ vs) = bytes_of 4 (bits_of v) ++ signed_bytes vs
