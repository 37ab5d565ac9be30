-- What a byte of the table of places says of the program.
-- Assumes nothing.
use Rattle.std.specs.Prelude.{Option, Some, None, is_some}
use mathlib.Core.Path.{◌≡◌, refl, sym}
use mathlib.Core.List.{List}
use mathlib.Core.Bool.{Bool, true, false, cond}
use Prim.Native.Nat.{ℕ, ◌+◌, ◌*◌, ◌%◌}
use native.Mathlib.Omega.{arith}
use lib.Dec.{eqb, ltb}
use borrow.Author.Tests.{eq-eqb, ne_eqb, lt-ltb}
use Rattle.instruction.specs.Bytes.{byte}
use Rattle.program.specs.Starts.{starts}
use Rattle.program.specs.Places.{opcode_before, is_start, after_checkpoint, is_exclude, exclude_number, place_of, entry_at, start_here, after_here, exclude_here, one_more, read_place, placed, Places}
use Rattle.program.proofs.Tests.{bool_cases}

-- of the byte of a start, by its three parts
start-from : (a b : Bool) (n : ℕ) → start_here (2 + cond a 1 0 + 2 * cond b (n + 1) 0) ≡ true
start-from a b n = rw (ne_eqb (2 + cond a 1 0 + 2 * cond b (n + 1) 0) 0 (λ e. omega arith))

-- the byte is odd where the first part is set
odd : (a : Bool) (x : ℕ) → eqb ((2 + cond a 1 0 + 2 * x) % 2) 1 ≡ a
odd true x = eq-eqb ((2 + 1 + 2 * x) % 2) 1 (omega arith)
odd false x = ne_eqb ((2 + 0 + 2 * x) % 2) 1 (λ (e : (2 + 0 + 2 * x) % 2 ≡ 1). omega arith)

after-from : (a b : Bool) (n : ℕ) → after_here (2 + cond a 1 0 + 2 * cond b (n + 1) 0) ≡ a
after-from a b n = odd a (cond b (n + 1) 0)

exclude-from : (a b : Bool) (n : ℕ) → exclude_here (2 + cond a 1 0 + 2 * cond b (n + 1) 0) ≡ cond b (n + 1) 0
exclude-from true b n = omega arith
exclude-from false b n = omega arith

-- the byte of an offset says whether an instruction starts there
pub place-start : (p : List ℕ) (t : ℕ) → start_here (place_of p t) ≡ is_start p t
unfolding place_of
place-start p t =
    bool_cases (is_start p t) (λ b. rw b (start-from (eqb (opcode_before p 0 (starts p) t) 0x0E) (eqb (byte p t) 0x0D) (exclude_number p t))) (λ b. rw b)

-- whether it is the offset after a CHECKPOINT
pub place_after : (p : List ℕ) (t : ℕ) → after_here (place_of p t) ≡ after_checkpoint p t
unfolding place_of
place_after p t =
    bool_cases (is_start p t) (λ b. rw b (after-from (eqb (opcode_before p 0 (starts p) t) 0x0E) (eqb (byte p t) 0x0D) (exclude_number p t))) (λ b. rw b)

-- and which EXCLUDE stands there
pub place-exclude : (p : List ℕ) (t : ℕ) → exclude_here (place_of p t) ≡ cond (is_exclude p t) (exclude_number p t + 1) 0
unfolding place_of
place-exclude p t =
    bool_cases (is_start p t) (λ b. rw b (exclude-from (eqb (opcode_before p 0 (starts p) t) 0x0E) (eqb (byte p t) 0x0D) (exclude_number p t))) (λ b. rw b)

-- an offset that the table has as a start is one
pub placed-start : (p table : List ℕ) → Places p table → (t : ℕ) → placed table t ≡ is_start p t
placed-start p table h t = rw (h t) (place-start p t)

-- all that the table has of an offset
pub place_read : (p table : List ℕ) → Places p table → (t : ℕ)
    → read_place (entry_at table t) ≡ record { start = is_start p t; after = after_checkpoint p t; exclude = cond (is_exclude p t) (exclude_number p t + 1) 0 }
unfolding read_place
place_read p table h t = rw (h t) (λ i. record { start = place-start p t i; after = place_after p t i; exclude = place-exclude p t i })

-- an EXCLUDE's number as an Option
pub some-more : (o : Option ℕ) → is_some o ≡ ltb 0 (one_more o)
some-more None = refl
some-more (Some n) = sym (lt-ltb 0 (n + 1) (omega arith))

pub more-some : (o : Option ℕ) (n : ℕ) → one_more o ≡ n + 1 → o ≡ Some n
more-some None n h = absurd (omega arith)
more-some (Some m) n h = let e : m ≡ n = omega arith in rw e
