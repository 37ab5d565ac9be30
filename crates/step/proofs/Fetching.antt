-- What an accepted program promises of its starts: the instruction there is whole and known, its table lies within the cells, its targets are starts, and an
-- EXCLUDE has its words.
-- Assumes nothing.
use mathlib.Core.Path.{◌≡◌, refl, sym, ◌∙◌, ap}
use mathlib.Core.Bool.{true}
use mathlib.Core.List.{List}
use Prim.Native.Nat.{ℕ, ◌+◌, ◌*◌, ◌<◌, ◌≤◌}
use native.Mathlib.Omega.{arith}
use lib.ListN.{length}
use lib.Dec.{eqb, ltb, leb}
use borrow.Author.Tests.{eqb-true, ltb-true, ltb-false, leb-true, le-leb}
use Rattle.instruction.specs.Bytes.{byte, cells_of, length_of, instruction_at_of}
use Rattle.instruction.specs.Table.{Table, no_table_of, table_at, row_of, fits_in_of, table_fits_of}
use Rattle.instruction.specs.declared.Instruction.{Instruction}
use Rattle.program.specs.Starts.{starts}
use Rattle.std.specs.Prelude.{Some}
use Rattle.program.specs.Places.{Place, is_start, is_exclude, exclude_number, entry_at, numbered, read_place}
use Rattle.program.specs.declared.places.Place as code
use Rattle.program.proofs.Tests.{bool_cases, clash, and_both}
use Rattle.program.proofs.Filling.{none-past}
use Rattle.program.proofs.Accepted.{Accepted, accepted, start-whole, start-cells}
use Rattle.program.proofs.AfterLaws.{exclude-below}
use Rattle.program.proofs.PlaceLaws.{place_read, more-some}
use Rattle.execution.specs.Plain.{Fetches}
use Rattle.step.specs.State.{Env}
use Rattle.step.specs.Ready.{Ready}

-- a start lies before the program's end, accepted or not
pub start-below : (p : List ℕ) (o : ℕ) → is_start p o ≡ true → o < length p
unfolding starts
start-below p o h = bool_cases (ltb o (length p)) (λ t. ltb-true _ _ t) (λ t. clash (is_start p o) h (none-past p (length p) 1 o (ltb-false _ _ t)))

-- an EXCLUDE is a start, with its opcode
pub exclude-start : (p : List ℕ) (o : ℕ) → is_exclude p o ≡ true → (is_start p o ≡ true) × (byte p o ≡ 0x0D)
exclude-start p o h = let b = and_both (is_start p o) (eqb (byte p o) 0x0D) h in (b.0, eqb-true _ _ b.1)

-- a table within n cells is within more
fits_more : (n m : ℕ) (t : Table) → n ≤ m → fits_in_of n t ≡ true → fits_in_of m t ≡ true
fits_more n m no_table_of l h = refl
fits_more n m (table_at base len) l h =
    let b = and_both (ltb 0 len) (leb (base + len) n) h in
    let k : base + len ≤ n = leb-true _ _ b.1 in
    rw b.0 (le-leb (base + len) m (omega arith))

table_more : (n m : ℕ) (i : Instruction) → n ≤ m → table_fits_of n i ≡ true → table_fits_of m i ≡ true
table_more n m i l h =
    let b = and_both (fits_in_of n (row_of i).ref_table) (fits_in_of n (row_of i).def_table) h in
    rw (fits_more n m (row_of i).ref_table l b.0) (fits_more n m (row_of i).def_table l b.1)

module _ {e : Env} {table : List ℕ} (r : Ready e table) where
  pub ready-accepted : Accepted e.program r.cells r.instructions r.excludes
  ready-accepted = accepted e.program (sym r.accepted)

  pub start_small : (o : ℕ) → is_start e.program o ≡ true → o < 2048
  start_small o h = omega (arith, start-below e.program o h, ready-accepted.most)

  -- a READ has its cell
  pub read_whole : (o : ℕ) → is_start e.program o ≡ true → byte e.program o ≡ 0x07 → o + 2 ≤ length e.program
  unfolding length_of
  read_whole o h q = rw q at (start-whole e.program ready-accepted o h).1

  -- what `plain` needs; the count of cells stands in a byte
  pub fetches : byte e.program 0 < 256 → (o : ℕ) → is_start e.program o ≡ true → Fetches e.program o
  fetches l o h =
      let w = start-whole e.program ready-accepted o h in
      record {
        most = ready-accepted.most;
        known = w.0;
        whole = w.1;
        table = table_more (cells_of e.program) 256 (instruction_at_of e.program o) (omega arith) (start-cells e.program ready-accepted o h).1;
      }

  -- the words of an EXCLUDE are there
  pub exclude-words : (o : ℕ) → is_exclude e.program o ≡ true → 8 * exclude_number e.program o + 8 ≤ length e.sets
  exclude-words o h =
      let n = exclude-below e.program o h in
      let f = ready-accepted.few_excludes in
      let w = r.words in
      omega arith

  -- the table has its number; q is what is read there
  exclude-more : (o : ℕ) {q : Place} → is_exclude e.program o ≡ true → q ≡ read_place (entry_at table o) → q.exclude ≡ exclude_number e.program o + 1
  exclude-more o h d = ap (λ (s : Place). s.exclude) (d ∙ place_read e.program table r.places o) ∙ rw h

  pub exclude-number : (o : ℕ) (q : code.Place) → is_exclude e.program o ≡ true → numbered q ≡ read_place (entry_at table o) → q.exclude ≡ Some (exclude_number e.program o)
  exclude-number o q h d = more-some q.exclude _ (exclude-more o h d)

  -- m is what was unwrapped of it
  pub exclude-read : (o : ℕ) {q : code.Place} {k m : ℕ} → is_exclude e.program o ≡ true → numbered q ≡ read_place (entry_at table o) → q.exclude ≡ Some k → m ≡ k
      → m ≡ exclude_number e.program o
  exclude-read o {q} {k} h d u f =
      let s : Some k ≡ Some (exclude_number e.program o) = sym u ∙ exclude-number o q h d in
      f ∙ cc
