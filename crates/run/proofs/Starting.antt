-- What an accepted program promises at a start: the instruction is whole and its table lies within the 256 cells, and where it goes on an instruction starts.
-- Assumes nothing.
use mathlib.Core.Path.{◌≡◌, refl, sym}
use mathlib.Core.Bool.{true, false, ◌&&◌}
use mathlib.Core.List.{List}
use Prim.Native.Nat.{ℕ, ◌+◌, ◌≤◌, ◌<◌}
use native.Mathlib.Omega.{arith}
use lib.Dec.{eqb, ltb, leb}
use lib.IntN.{pos}
use lib.ListN.{length}
use borrow.Author.Tests.{leb-true, le-leb}
use Rattle.word.specs.Word.{less_of}
use Rattle.instruction.specs.Bytes.{byte, length_of, instruction_at_of}
use Rattle.instruction.specs.Table.{Table, no_table_of, table_at, row_of, successors_of, successors, fits_in_of, table_fits_of}
use Rattle.instruction.specs.declared.Instruction.{Instruction}
use Rattle.instruction.specs.declared.Instruction.TheVariants.{End, Set, Copy, Add, Sub, Div, Read, Emit, Jump, Less, Get, Put, Exclude, Checkpoint}
use Rattle.program.specs.Starts.{among, all_among_of, starts}
use Rattle.program.specs.Check.{closes}
use Rattle.program.specs.Places.{is_start}
use Rattle.program.proofs.Tests.{bool_cases, and_both}
use Rattle.program.proofs.Accepted.{Accepted, accepted, start-within, start-whole, start-cells, start-next, start-successors}
use Rattle.execution.specs.Effects.{effect_of, cells_in, next_of}
use Rattle.execution.specs.Plain.{plain_by, plain_of, Fetches}
use Rattle.step.specs.Ready.{Legal}

-- ---- tables

-- what lies within n cells lies within k, if these are no fewer
fits_wider : {n k : ℕ} (t : Table) → n ≤ k → fits_in_of n t ≡ true → fits_in_of k t ≡ true
fits_wider no_table_of l h = refl
fits_wider {n = n} {k = k} (table_at base len) l h =
    let b = and_both (ltb 0 len) (leb (base + len) n) h in
    let e : base + len ≤ n = leb-true _ _ b.1 in
    rw b.0 (le-leb (base + len) k (omega arith))

table-wider : {n k : ℕ} (i : Instruction) → n ≤ k → table_fits_of n i ≡ true → table_fits_of k i ≡ true
table-wider {n = n} i l h =
    let b = and_both (fits_in_of n (row_of i).ref_table) (fits_in_of n (row_of i).def_table) h in
    rw (fits_wider (row_of i).ref_table l b.0) (fits_wider (row_of i).def_table l b.1)

-- ---- where an instruction goes

-- the place that it has is one of those that may follow it
lands : (i : Instruction) (x : ℕ → ℕ) (n : ℕ) (xs os : List ℕ) → 0 < (plain_by (effect_of i (pos 0) 0 0 x) n xs).place
    → all_among_of (successors_of (row_of i).flow n) os ≡ true → among (plain_by (effect_of i (pos 0) 0 0 x) n xs).place os ≡ true
unfolding effect_of
lands End x n xs os h s = absurd (omega arith)
lands (Set d w) x n xs os h s = (and_both (among n os) true s).0
lands (Copy d a) x n xs os h s = (and_both (among n os) true s).0
lands (Add d a b) x n xs os h s = (and_both (among n os) true s).0
lands (Sub d a b) x n xs os h s = (and_both (among n os) true s).0
lands (Div d a b) x n xs os h s =
    bool_cases (eqb (x b) 0) (λ t. let z = rw t at h in absurd (omega arith)) (λ t. rw t (and_both (among n os) true s).0)
lands (Read d) x n xs os h s = absurd (omega arith)
lands (Emit a) x n xs os h s = absurd (omega arith)
lands (Jump t) x n xs os h s = (and_both (among t os) true s).0
lands (Less a b t) x n xs os h s =
    let r = and_both (among t os) (among n os && true) s in
    bool_cases (less_of (x a) (x b)) (λ q. rw q r.0) (λ q. rw q (and_both (among n os) true r.1).0)
lands (Get d base len i) x n xs os h s = (and_both (among n os) true s).0
lands (Put base len i a) x n xs os h s = (and_both (among n os) true s).0
lands Exclude x n xs os h s = absurd (omega arith)
lands Checkpoint x n xs os h s = absurd (omega arith)

-- ---- at a start
facts : {p : List ℕ} (l : Legal p) → Accepted p l.cells l.instructions l.excludes
facts {p = p} l = accepted p (sym l.accepted)

module _ {p : List ℕ} (l : Legal p) (o : ℕ) (start : is_start p o ≡ true) where
  pub legal-within : o < length p
  legal-within = (start-within p (facts l) o start).1

  -- the count of cells is a byte
  pub legal-fetches : byte p 0 < 256 → Fetches p o
  legal-fetches b =
      let w = start-whole p (facts l) o start in
      record {
        most = (facts l).most;
        known = w.0;
        whole = w.1;
        table = table-wider (instruction_at_of p o) (omega arith) (start-cells p (facts l) o start).1;
      }

  -- where it goes, if it touches the cells and the place alone
  pub legal-next : (xs : List ℕ) → 0 < (plain_of p o xs).place → is_start p (plain_of p o xs).place ≡ true
  unfolding plain_of successors
  legal-next xs h = lands (instruction_at_of p o) (cells_in xs) (next_of p o) xs (starts p) h (start-successors p (facts l) o start)

  -- READ and EMIT have two bytes
  pub read_whole : byte p o ≡ 7 → (o + 2 ≤ length p) × (length p ≤ 2048)
  unfolding length_of
  read_whole e = (rw e at (start-whole p (facts l) o start).1, (facts l).most)

  pub emit-whole : byte p o ≡ 8 → (o + 2 ≤ length p) × (length p ≤ 2048)
  unfolding length_of
  emit-whole e = (rw e at (start-whole p (facts l) o start).1, (facts l).most)

  -- an instruction starts after one that goes on
  pub legal-after : (k : ℕ) → byte p o ≡ k → closes k ≡ false → is_start p (o + length_of k) ≡ true
  legal-after k e h = rw e at (start-next p (facts l) o start (rw e h))
