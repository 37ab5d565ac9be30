-- Worked rows of the definitions, computed: one fact over all of them. Document 01's own rows are in the table of crate `restart`.
-- Assumes nothing.
use Rattle.std.proofs.Common.{◌≡◌, ℕ, ◌-◌, ◌^◌, Bool, true, cond, ◌&&◌, eqb, List, [], ◌∷◌, negsuc, refl}
use Rattle.word.specs.Word.{bits_of, add_of, sub_of, div_of, less_of, place_of}
use Rattle.word.specs.Bytes.{byte_of, bytes_of, number_of, load_of, store_of}

-- the pattern of −n
abbrev pub neg : ℕ → ℕ
neg n = 2 ^ 32 - n

-- what a definition gives, and what it should
pub record Row : Type 0 where
  pub got : ℕ
  pub want : ℕ

-- the pattern of −1; ADD and SUB wrap; DIV rounds toward zero, and the least number divided by −1 is itself; LESS is signed, its answer here 1 or 0;
-- GET and PUT count back from the table's end; the lowest byte stands first
abbrev pub rows : List Row
rows =
    record { got = bits_of (negsuc 0); want = 0xFFFFFFFF }
    ∷ record { got = add_of (neg 2147483648) (neg 1); want = 2147483647 }
    ∷ record { got = sub_of (neg 2147483648) 1; want = 2147483647 }
    ∷ record { got = sub_of 0 (neg 2147483648); want = neg 2147483648 }
    ∷ record { got = div_of (neg 7) 2; want = neg 3 }
    ∷ record { got = div_of (neg 2147483648) (neg 1); want = neg 2147483648 }
    ∷ record { got = cond (less_of (neg 1) 0) 1 0; want = 1 }
    ∷ record { got = cond (less_of 0 (neg 2147483648)) 1 0; want = 0 }
    ∷ record { got = place_of (neg 4) 4; want = 0 }
    ∷ record { got = place_of 6 4; want = 2 }
    ∷ record { got = byte_of 0x12345678 0; want = 0x78 }
    ∷ record { got = number_of (0x78 ∷ 0x56 ∷ 0x34 ∷ 0x12 ∷ []); want = 0x12345678 }
    ∷ record { got = load_of 2 (9 ∷ 0x34 ∷ 0x12 ∷ 9 ∷ []) 1; want = 0x1234 }
    ∷ record { got = load_of 4 (store_of 2 (1 ∷ 2 ∷ 3 ∷ 4 ∷ []) 1 0xABCD) 0; want = 0x04ABCD01 }
    ∷ []

-- every row gives what it should
abbrev pub right : List Row → Bool
right [] = true
right (r ∷ rs) = eqb r.got r.want && right rs

-- by computation alone
pub rows_right : right rows ≡ true
unfolding add_of sub_of div_of less_of place_of byte_of bytes_of number_of load_of store_of
rows_right = refl
