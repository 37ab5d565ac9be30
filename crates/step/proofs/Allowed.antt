-- What an instruction of an accepted program may do: it goes to an instruction, writes a cell that exists, and sets marks or saves only where an EXCLUDE or a
-- CHECKPOINT stands.
-- Assumes nothing.
use mathlib.Core.Path.{◌≡◌, refl}
use mathlib.Core.List.{List}
use mathlib.Core.Bool.{Bool, true, false, cond, ◌&&◌}
use Prim.Native.Nat.{ℕ, ◌+◌, ◌≤◌, ◌<◌}
use native.Mathlib.Omega.{arith}
use lib.Dec.{eqb, ltb, leb}
use lib.IntN.{ℤ}
use borrow.Author.Tests.{ltb-true, leb-true, eqb-true}
use Rattle.word.specs.Word.{less_of}
use Rattle.word.proofs.Signed.{place-lt}
use Rattle.instruction.specs.Bytes.{byte, cells_of, instruction_at_of}
use Rattle.instruction.specs.Table.{row_of, successors_of, successors, named, all_below, fits_in_of, table_at, table_fits_of}
use Rattle.instruction.specs.declared.Instruction.{Instruction}
use Rattle.instruction.specs.declared.Instruction.TheVariants.{End, Set, Copy, Add, Sub, Div, Read, Emit, Jump, Less, Get, Put, Exclude, Checkpoint}
use Rattle.execution.specs.Effects.{Effect, stops, on, goes, writes, takes, gives, sets, saves, ended, divisor, count_full, is_full, effect_of, table_cell_of, next_of}
use Rattle.program.specs.Starts.{starts, among, all_among_of}
use Rattle.program.specs.Places.{is_start}
use Rattle.program.proofs.Tests.{bool_cases, and_both}
use Rattle.program.proofs.Accepted.{Accepted, start-cells, start-successors}

-- the effects that the instruction at o may have
pub data Allowed (p : List ℕ) (o : ℕ) : Effect → Type 0 where
  may_stop : {k : ℕ} → k ≤ 3 → Allowed p o (stops k)
  may_pass : is_start p (next_of p o) ≡ true → Allowed p o on
  may_go : {t : ℕ} → is_start p t ≡ true → Allowed p o (goes t)
  may_write : {d v : ℕ} → d < cells_of p → is_start p (next_of p o) ≡ true → Allowed p o (writes d v)
  may_take : {d v : ℕ} → d < cells_of p → is_start p (next_of p o) ≡ true → Allowed p o (takes d v)
  may_give : {v : ℤ} → is_start p (next_of p o) ≡ true → Allowed p o (gives v)
  may_set : byte p o ≡ 0x0D → is_start p (next_of p o) ≡ true → Allowed p o sets
  may_save : byte p o ≡ 0x0E → is_start p (next_of p o) ≡ true → Allowed p o saves

either_way : {p : List ℕ} {o : ℕ} (b : Bool) {f g : Effect} → Allowed p o f → Allowed p o g → Allowed p o (cond b f g)
either_way true h k = h
either_way false h k = k

-- ---- the opcodes of EXCLUDE and CHECKPOINT, 0 for the others

abbrev code_of : Instruction → ℕ
code_of End = 0
code_of (Set d v) = 0
code_of (Copy d a) = 0
code_of (Add d a b) = 0
code_of (Sub d a b) = 0
code_of (Div d a b) = 0
code_of (Read d) = 0
code_of (Emit a) = 0
code_of (Jump t) = 0
code_of (Less a b t) = 0
code_of (Get d base len i) = 0
code_of (Put base len i a) = 0
code_of Exclude = 0x0D
code_of Checkpoint = 0x0E

code-cond : (b : Bool) (x y : Instruction) → code_of (cond b x y) ≡ cond b (code_of x) (code_of y)
code-cond true x y = refl
code-cond false x y = refl

cond-zero : (b : Bool) → ◌≡◌ {A = ℕ} (cond b 0 0) 0
cond-zero true = refl
cond-zero false = refl

code-none : (p : List ℕ) (o : ℕ) → eqb (byte p o) 0x0D ≡ false → eqb (byte p o) 0x0E ≡ false → code_of (instruction_at_of p o) ≡ 0
unfolding instruction_at_of
code-none p o h k = simp (h, k, code-cond, cond-zero)

code-exclude : (p : List ℕ) (o : ℕ) → byte p o ≡ 0x0D → code_of (instruction_at_of p o) ≡ 0x0D
unfolding instruction_at_of
code-exclude p o e = rw e

code-checkpoint : (p : List ℕ) (o : ℕ) → byte p o ≡ 0x0E → code_of (instruction_at_of p o) ≡ 0x0E
unfolding instruction_at_of
code-checkpoint p o e = rw e

-- each stands only where its opcode does
code_at : (p : List ℕ) (o : ℕ) → 0 < code_of (instruction_at_of p o) → byte p o ≡ code_of (instruction_at_of p o)
code_at p o h =
    bool_cases (eqb (byte p o) 0x0D)
    (λ t. let e : byte p o ≡ 0x0D = eqb-true _ _ t in omega (arith, code-exclude p o e))
    (λ s. bool_cases (eqb (byte p o) 0x0E)
    (λ t. let e : byte p o ≡ 0x0E = eqb-true _ _ t in omega (arith, code-checkpoint p o e))
    (λ t. absurd (omega (arith, code-none p o s t))))

-- ---- by rows

-- the first of the cells named exists
first_below : (n d : ℕ) (b : Bool) → (ltb d n && b) ≡ true → d < n
first_below n d b h = ltb-true _ _ (and_both (ltb d n) b h).0

-- so does the cell of a table that fits
cell_below : (n base len i : ℕ) → fits_in_of n (table_at base len) ≡ true → table_cell_of base len i < n
cell_below n base len i h =
    let b = and_both (ltb 0 len) (leb (base + len) n) h in
    omega (arith, place-lt i len (ltb-true 0 len b.0), leb-true (base + len) n b.1)

module _ (p : List ℕ) (o : ℕ) (v : ℤ) (n m : ℕ) (x : ℕ → ℕ) where
  -- what stands after the instruction is a start
  next : (among (next_of p o) (starts p) && true) ≡ true → is_start p (next_of p o) ≡ true
  next h = (and_both (among (next_of p o) (starts p)) true h).0

  by_row : (i : Instruction) → all_below (cells_of p) (named i) ≡ true → table_fits_of (cells_of p) i ≡ true
      → all_among_of (successors_of (row_of i).flow (next_of p o)) (starts p) ≡ true → (0 < code_of i → byte p o ≡ code_of i) → Allowed p o (effect_of i v n m x)
  unfolding effect_of
  by_row End b t s c = may_stop {k = ended} (omega arith)
  by_row (Set d w) b t s c = may_write (first_below (cells_of p) d _ b) (next s)
  by_row (Copy d a) b t s c = may_write (first_below (cells_of p) d _ b) (next s)
  by_row (Add d a a') b t s c = may_write (first_below (cells_of p) d _ b) (next s)
  by_row (Sub d a a') b t s c = may_write (first_below (cells_of p) d _ b) (next s)
  by_row (Div d a a') b t s c = either_way (eqb (x a') 0) (may_stop {k = divisor} (omega arith)) (may_write (first_below (cells_of p) d _ b) (next s))
  by_row (Read d) b t s c = either_way (is_full n) (may_stop {k = count_full} (omega arith)) (may_take (first_below (cells_of p) d _ b) (next s))
  by_row (Emit a) b t s c = either_way (is_full m) (may_stop {k = count_full} (omega arith)) (may_give (next s))
  by_row (Jump u) b t s c = may_go (and_both (among u (starts p)) _ s).0
  by_row (Less a a' u) b t s c =
      let r = and_both (among u (starts p)) _ s in
      either_way (less_of (x a) (x a')) (may_go r.0) (may_pass (next r.1))
  by_row (Get d base len i) b t s c = may_write (first_below (cells_of p) d _ b) (next s)
  by_row (Put base len i a) b t s c = may_write (cell_below _ base len (x i) t) (next s)
  by_row Exclude b t s c = may_set (c (omega arith)) (next s)
  by_row Checkpoint b t s c = may_save (c (omega arith)) (next s)

  pub allowed : {cells instructions excludes : ℕ} → Accepted p cells instructions excludes → is_start p o ≡ true
      → Allowed p o (effect_of (instruction_at_of p o) v n m x)
  unfolding successors
  allowed a s =
      let c = start-cells p a o s in
      by_row (instruction_at_of p o) c.0 c.1 (start-successors p a o s) (code_at p o)
