-- In an accepted program every cell that an instruction may read or may write exists, and what it must write it may write.
-- Assumes nothing.
use mathlib.Core.Path.{◌≡◌, refl}
use mathlib.Core.List.{List, [], ◌∷◌, ◌++◌}
use mathlib.Core.Bool.{Bool, true, false, cond, ◌&&◌}
use Prim.Native.Nat.{ℕ, ◌+◌, ◌≤◌, ◌<◌, max}
use native.Mathlib.Omega.{arith}
use lib.Dec.{ltb, leb, eqb}
use borrow.Author.Tests.{ltb-true, leb-true, eqb-true, eqb-false}
use Rattle.cellset.specs.Bits.{is}
use Rattle.instruction.specs.Bytes.{cells_of, instruction_at_of}
use Rattle.instruction.specs.Table.{Table, no_table_of, table_at, row_of, one_of, in_table, access, may_ref_of, may_def_of, must_def_of, sure_table, named, all_below, fits_in_of, table_fits_of}
use Rattle.program.specs.Places.{is_start}
use Rattle.instruction.specs.declared.Instruction.{Instruction}
use Rattle.program.proofs.Tests.{bool_cases, and_both}
use Rattle.program.proofs.Accepted.{Accepted, start-cells}

-- a test that is 1 held
held : (b : Bool) → ◌≡◌ {A = ℕ} (cond b 1 0) 1 → b ≡ true
held true h = refl
held false h = absurd (let z : ◌≡◌ {A = ℕ} 0 1 = h in omega arith)

-- of the two parts of a maximum that is 1 one is 1
either : {C : Type 0} (x y : ℕ) → max x y ≡ 1 → (x ≡ 1 → C) → (y ≡ 1 → C) → C
either x y h f g = bool_cases (eqb x 1) (λ t. f (eqb-true _ _ t)) (λ t. let n : x ≡ 1 → ⊥ = eqb-false _ _ t in g (omega arith))

one_below : (n : ℕ) (cs : List ℕ) (c : ℕ) → all_below n cs ≡ true → one_of cs c ≡ 1 → c < n
one_below n [] c h k = absurd (let z : ◌≡◌ {A = ℕ} 0 1 = k in omega arith)
one_below n (a ∷ cs) c h k =
    let b = and_both (ltb a n) (all_below n cs) h in
    either (is a c) (one_of cs c) k
    (λ e. let d : a ≡ c = eqb-true _ _ (held (eqb a c) e) in rw (← d) (ltb-true _ _ b.0))
    (λ e. one_below n cs c b.1 e)

table_below : (n : ℕ) (t : Table) (c : ℕ) → fits_in_of n t ≡ true → in_table t c ≡ 1 → c < n
table_below n no_table_of c h k = absurd (let z : ◌≡◌ {A = ℕ} 0 1 = k in omega arith)
table_below n (table_at base len) c h k =
    let f : base + len ≤ n = leb-true _ _ (and_both (ltb 0 len) (leb (base + len) n) h).1 in
    let w : c < base + len = ltb-true _ _ (and_both (leb base c) (ltb c (base + len)) (held (leb base c && ltb c (base + len)) k)).1 in
    omega arith

access-below : (n : ℕ) (cs : List ℕ) (t : Table) (c : ℕ) → all_below n cs ≡ true → fits_in_of n t ≡ true → access cs t c ≡ 1 → c < n
unfolding access
access-below n cs t c h k e = either (one_of cs c) (in_table t c) e (one_below n cs c h) (table_below n t c k)

below-append : (n : ℕ) (xs ys : List ℕ) → all_below n (xs ++ ys) ≡ true → (all_below n xs ≡ true) × (all_below n ys ≡ true)
below-append n [] ys h = (refl, h)
below-append n (x ∷ xs) ys h =
    let b = and_both (ltb x n) (all_below n (xs ++ ys)) h in
    let r = below-append n xs ys b.1 in
    (rw b.0 r.0, r.1)

-- of an instruction whose cells and table exist
refs-exist : (n : ℕ) (i : Instruction) (c : ℕ) → all_below n (named i) ≡ true → table_fits_of n i ≡ true → may_ref_of i c ≡ 1 → c < n
refs-exist n i c h k =
    access-below n (row_of i).refs (row_of i).ref_table c (below-append n (row_of i).defs (row_of i).refs h).1
    (and_both (fits_in_of n (row_of i).ref_table) (fits_in_of n (row_of i).def_table) k).0

module _ (p : List ℕ) {m n e : ℕ} (a : Accepted p m n e) (o : ℕ) (start : is_start p o ≡ true) where
  pub start-refs : (c : ℕ) → may_ref_of (instruction_at_of p o) c ≡ 1 → c < cells_of p
  start-refs c = let s = start-cells p a o start in refs-exist (cells_of p) (instruction_at_of p o) c s.0 s.1

-- what of a table must be written is of the table
sure-table : (t : Table) (c : ℕ) → in_table (sure_table t) c ≤ in_table t c
sure-table no_table_of c = omega arith
sure-table (table_at base len) c = bool_cases (eqb len 1) (λ t. rw t (omega arith)) (λ t. rw t (omega arith))

-- what must be written may be written
pub must-may : (i : Instruction) (c : ℕ) → must_def_of i c ≤ may_def_of i c
unfolding access
must-may i c = omega (arith, sure-table (row_of i).def_table c)
