-- The table's laws: what an instruction's effect reads, where it goes, what it writes.
-- Assumes nothing.
use Prim.Native.Nat.{ℕ, ◌+◌, ◌≤◌, ◌<◌}
use mathlib.Core.Path.{◌≡◌, refl, sym, ◌∙◌, ap}
use mathlib.Core.Bool.{Bool, true, false, cond, or-true}
use mathlib.Core.List.{List, [], ◌∷◌}
use native.Mathlib.Omega.{arith}
use lib.IntN.{ℤ}
use lib.Dec.{eqb, ltb, leb}
use borrow.Author.Tests.{ltb-true, lt-ltb, le-leb, leb-true, eqb-true, eqb-false, eq-eqb, ne_eqb}
use Rattle.cellset.specs.Bits.{is, within}
use Rattle.word.specs.Word.{less_of}
use Rattle.word.proofs.Signed.{place-lt}
use Rattle.instruction.specs.Bytes.{byte, cells_of, instruction_at_of}
use Rattle.instruction.specs.Table.{Table, no_table_of, table_at, row_of, access, may_ref_of, may_def_of, must_def_of, sure_table, successors_of, successors, fits_in_of, table_fits_of}
use Rattle.instruction.specs.declared.Instruction.{Instruction}
use Rattle.instruction.specs.declared.Instruction.TheVariants.{End, Set, Copy, Add, Sub, Div, Read, Emit, Jump, Less, Get, Put, Exclude, Checkpoint}
use Rattle.instruction.specs.declared.Flow.TheVariants.{Next}
use Rattle.execution.specs.Effects.{Effect, stops, on, goes, writes, takes, gives, sets, saves, is_full, effect_of, table_cell_of, next_of}
use Rattle.program.specs.Starts.{among}
use Rattle.program.specs.Places.{is_start}
use Rattle.program.proofs.Tests.{bool_cases, and_both}
use Rattle.program.proofs.Accepted.{accepted, start-cells}
use Rattle.program.proofs.CellLaws.{start-refs}
use Rattle.analysis.specs.Paths.{Follows, Live, reads, later}
use Rattle.analysis.proofs.Certificates.{follows-start}
use Rattle.analysis.proofs.Access.{access-lt}
use Rattle.step.specs.Step.{is_saves}
use Rattle.step.specs.Ready.{Legal}
use Rattle.run.proofs.Laws.{push-effect}
use Rattle.step.proofs.Allowed.{Allowed, may_set, may_save, allowed}

-- ---- cells of an access

-- the first of the cells named is one of them
access-first : (a : ℕ) (cs : List ℕ) (t : Table) → access (a ∷ cs) t a ≡ 1
unfolding access
access-first a cs t = let e : is a a ≡ 1 = rw (eq-eqb a a refl) refl in omega (arith, e, access-lt (a ∷ cs) t a)

-- so is the second
access-second : (a b : ℕ) (cs : List ℕ) (t : Table) → access (a ∷ b ∷ cs) t b ≡ 1
unfolding access
access-second a b cs t = let e : is b b ≡ 1 = rw (eq-eqb b b refl) refl in omega (arith, e, access-lt (a ∷ b ∷ cs) t b)

-- so is the cell of a table that fits
access-table : (n : ℕ) (cs : List ℕ) (base len i : ℕ) → fits_in_of n (table_at base len) ≡ true → access cs (table_at base len) (table_cell_of base len i) ≡ 1
unfolding access
access-table n cs base len i h =
    let l = place-lt i len (ltb-true 0 len (and_both (ltb 0 len) (leb (base + len) n) h).0) in
    let c = table_cell_of base len i in
    let e : within base (base + len) c ≡ 1 = rw (le-leb base c (omega arith), lt-ltb c (base + len) (omega arith)) refl in
    omega (arith, e, access-lt cs (table_at base len) c)

-- where one cell is named no other is
access-other : (d c : ℕ) → ¬ (c ≡ d) → access (d ∷ []) no_table_of c ≡ 0
unfolding access
access-other d c n = let e : is d c ≡ 0 = rw (ne_eqb d c (λ q. n (sym q))) refl in omega (arith, e)

-- one cell from b on is b alone
within_none : (b len c : ℕ) → len ≡ 1 → ¬ (c ≡ b) → within b (b + len) c ≡ 0
within_none b len c h n =
    bool_cases (leb b c)
    (λ t.
    let l : b ≤ c = leb-true _ _ t in
    bool_cases (ltb c (b + len)) (λ u. let g : c < b + len = ltb-true _ _ u in absurd (n (omega arith))) (λ u. rw (t, u) refl))
    (λ t. rw t refl)

-- no cell of a table must be written but the one that the effect writes: a table of one cell has no other
sure-other : (base len i c : ℕ) → ¬ (c ≡ table_cell_of base len i) → access [] (sure_table (table_at base len)) c ≡ 0
unfolding access
sure-other base len i c n =
    bool_cases (eqb len 1)
    (λ t.
    let l : len ≡ 1 = eqb-true _ _ t in
    let z = place-lt i len (omega arith) in
    let w = within_none base len c l (λ e. n (omega arith)) in
    rw t (omega (arith, w)))
    (λ t. rw t refl)

-- ---- what an effect reads

module _ (v : ℤ) (r m : ℕ) (x y : ℕ → ℕ) where
  -- two lists of cells that agree where they are read agree on the first two cells named
  both : (a b : ℕ) (cs : List ℕ) (t : Table) → ((c : ℕ) → access (a ∷ b ∷ cs) t c ≡ 1 → x c ≡ y c) → (x a ≡ y a) × (x b ≡ y b)
  both a b cs t e = (e a (access-first a (b ∷ cs) t), e b (access-second a b cs t))

  -- by rows
  same_row : (n : ℕ) (i : Instruction) → table_fits_of n i ≡ true → ((c : ℕ) → may_ref_of i c ≡ 1 → x c ≡ y c) → effect_of i v r m x ≡ effect_of i v r m y
  unfolding effect_of
  same_row n End h e = refl
  same_row n (Set d w) h e = refl
  same_row n (Copy d a) h e = ap (writes d) (e a (access-first a [] no_table_of))
  same_row n (Add d a b) h e = let q = both a b [] no_table_of e in rw (q.0, q.1)
  same_row n (Sub d a b) h e = let q = both a b [] no_table_of e in rw (q.0, q.1)
  same_row n (Div d a b) h e = let q = both a b [] no_table_of e in rw (q.0, q.1)
  same_row n (Read d) h e = refl
  same_row n (Emit a) h e = let q = e a (access-first a [] no_table_of) in rw q
  same_row n (Jump t) h e = refl
  same_row n (Less a b t) h e = let q = both a b [] no_table_of e in rw (q.0, q.1)
  same_row n (Get d base len i) h e =
      let q = e i (access-first i [] (table_at base len)) in
      let f = (and_both (fits_in_of n (table_at base len)) true h).0 in
      let t = e (table_cell_of base len (x i)) (access-table n (i ∷ []) base len (x i) f) in
      ap (writes d) (t ∙ ap (λ z. y (table_cell_of base len z)) q)
  same_row n (Put base len i a) h e = let q = both i a [] no_table_of e in rw (q.0, q.1)
  same_row n Exclude h e = refl
  same_row n Checkpoint h e = refl

-- the effect depends on the cells that the instruction may read, alone
pub effect-same : (n : ℕ) (i : Instruction) → table_fits_of n i ≡ true → (v : ℤ) (r m : ℕ) (x y : ℕ → ℕ) → ((c : ℕ) → may_ref_of i c ≡ 1 → x c ≡ y c)
    → effect_of i v r m x ≡ effect_of i v r m y
effect-same n i h v r m x y e = same_row v r m x y n i h e

-- ---- what an effect may be

-- the instruction at o may go to q, and surely writes nothing
pub record Goes (p : List ℕ) (o q : ℕ) : Type 0 where
  pub to : Follows p o q
  pub must : (c : ℕ) → must_def_of (instruction_at_of p o) c ≡ 0

-- it may go on, may write d, and surely writes no other cell
pub record Writes (p : List ℕ) (o d : ℕ) : Type 0 where
  pub to : Follows p o (next_of p o)
  pub may : may_def_of (instruction_at_of p o) d ≡ 1
  pub must : (c : ℕ) → ¬ (c ≡ d) → must_def_of (instruction_at_of p o) c ≡ 0

-- the effects that it may have
pub data Possible (p : List ℕ) (o : ℕ) : Effect → Type 0 where
  halts : {k : ℕ} → Possible p o (stops k)
  passes : Goes p o (next_of p o) → Possible p o on
  jumps : {t : ℕ} → Goes p o t → Possible p o (goes t)
  wrote : {d v : ℕ} → Writes p o d → Possible p o (writes d v)
  took : {d v : ℕ} → Writes p o d → Possible p o (takes d v)
  gave : {v : ℤ} → Goes p o (next_of p o) → Possible p o (gives v)
  marks : byte p o ≡ 0x0D → Goes p o (next_of p o) → Possible p o sets
  stores : byte p o ≡ 0x0E → Goes p o (next_of p o) → Possible p o saves

-- one of two effects, by a test
either_way : {p : List ℕ} {o : ℕ} (b : Bool) {f g : Effect} → Possible p o f → Possible p o g → Possible p o (cond b f g)
either_way true h k = h
either_way false h k = k

-- marks are set at an EXCLUDE only
set-byte : {p : List ℕ} {o : ℕ} → Allowed p o sets → byte p o ≡ 0x0D
set-byte (may_set b s) = b

-- a save begins at a CHECKPOINT only
save-byte : {p : List ℕ} {o : ℕ} → Allowed p o saves → byte p o ≡ 0x0E
save-byte (may_save b s) = b

-- the first of a list is among it
among_first : (t : ℕ) (ts : List ℕ) → among t (t ∷ ts) ≡ true
unfolding among
among_first t ts = rw (eq-eqb t t refl)

module _ (p : List ℕ) (o : ℕ) {i : Instruction} (row : instruction_at_of p o ≡ i) where
  -- where a row leads
  row-to : (q : ℕ) → among q (successors_of (row_of i).flow (next_of p o)) ≡ true → Follows p o q
  unfolding successors
  row-to q s = rw row s

  -- a row that writes nothing
  row_goes : (q : ℕ) → (row_of i).defs ≡ [] → (row_of i).def_table ≡ no_table_of → among q (successors_of (row_of i).flow (next_of p o)) ≡ true → Goes p o q
  unfolding access
  row_goes q e t s = record { to = row-to q s; must = λ c. rw (row, e, t) refl }

  -- a row that writes the cell d
  row-writes : (d : ℕ) → (row_of i).defs ≡ d ∷ [] → (row_of i).def_table ≡ no_table_of → (row_of i).flow ≡ Next → Writes p o d
  row-writes d e t f =
      record {
        to = row-to (next_of p o) (rw f (among_first (next_of p o) []));
        may = rw (row, e) (access-first d [] (row_of i).def_table);
        must = λ c n. rw (row, e, t) (access-other d c n);
      }

module _ (p : List ℕ) (o : ℕ) (v : ℤ) (r m : ℕ) (x : ℕ → ℕ) where
  -- by rows
  by_row : (n : ℕ) (i : Instruction) → instruction_at_of p o ≡ i → table_fits_of n i ≡ true → Allowed p o (effect_of i v r m x) → Possible p o (effect_of i v r m x)
  unfolding effect_of access among
  by_row n End e t a = halts
  by_row n (Set d w) e t a = wrote (row-writes p o e d refl refl refl)
  by_row n (Copy d b) e t a = wrote (row-writes p o e d refl refl refl)
  by_row n (Add d b c) e t a = wrote (row-writes p o e d refl refl refl)
  by_row n (Sub d b c) e t a = wrote (row-writes p o e d refl refl refl)
  by_row n (Div d b c) e t a = either_way (eqb (x c) 0) halts (wrote (row-writes p o e d refl refl refl))
  by_row n (Read d) e t a = either_way (is_full r) halts (took (row-writes p o e d refl refl refl))
  by_row n (Emit b) e t a = either_way (is_full m) halts (gave (row_goes p o e (next_of p o) refl refl (among_first (next_of p o) [])))
  by_row n (Jump u) e t a = jumps (row_goes p o e u refl refl (among_first u []))
  by_row n (Less b c u) e t a =
      either_way (less_of (x b) (x c))
      (jumps (row_goes p o e u refl refl (among_first u (next_of p o ∷ []))))
      (passes (row_goes p o e (next_of p o) refl refl (rw (among_first (next_of p o) [], or-true))))
  by_row n (Get d base len i) e t a = wrote (row-writes p o e d refl refl refl)
  by_row n (Put base len i b) e t a =
      wrote {d = table_cell_of base len (x i)}
      (record {
        to = row-to p o e (next_of p o) (among_first (next_of p o) []);
        may = rw e (access-table n [] base len (x i) t);
        must = λ c k. rw e (sure-other base len (x i) c k);
      })
  by_row n Exclude e t a = marks (set-byte a) (row_goes p o e (next_of p o) refl refl (among_first (next_of p o) []))
  by_row n Checkpoint e t a = stores (save-byte a) (row_goes p o e (next_of p o) refl refl (among_first (next_of p o) []))

-- the effect of an instruction is one that it may have
pub possible : (p : List ℕ) (o : ℕ) → Legal p → is_start p o ≡ true → (v : ℤ) (r m : ℕ) (x : ℕ → ℕ) → Possible p o (effect_of (instruction_at_of p o) v r m x)
possible p o l s v r m x =
    let a = accepted p (sym l.accepted) in
    by_row p o v r m x (cells_of p) (instruction_at_of p o) refl (start-cells p a o s).1 (allowed p o v r m x a s)

-- ---- by opcode

-- the effect of an EXCLUDE
pub effect-exclude : (p : List ℕ) (o : ℕ) → byte p o ≡ 0x0D → (v : ℤ) (r m : ℕ) (x : ℕ → ℕ) → effect_of (instruction_at_of p o) v r m x ≡ sets
unfolding instruction_at_of effect_of
effect-exclude p o b v r m x = rw b

-- the effect of a CHECKPOINT
pub effect-checkpoint : (p : List ℕ) (o : ℕ) → byte p o ≡ 0x0E → (v : ℤ) (r m : ℕ) (x : ℕ → ℕ) → effect_of (instruction_at_of p o) v r m x ≡ saves
unfolding instruction_at_of effect_of
effect-checkpoint p o b v r m x = rw b

-- what is no CHECKPOINT does not save
unsaved : {p : List ℕ} {o : ℕ} {f : Effect} → ¬ (byte p o ≡ 0x0E) → Possible p o f → is_saves f ≡ false
unsaved n halts = refl
unsaved n (passes g) = refl
unsaved n (jumps g) = refl
unsaved n (wrote g) = refl
unsaved n (took g) = refl
unsaved n (gave g) = refl
unsaved n (marks b g) = refl
unsaved n (stores b g) = absurd (n b)

-- an effect saves just where a CHECKPOINT stands
pub saves-only : (p : List ℕ) (o : ℕ) → Legal p → is_start p o ≡ true → (v : ℤ) (r m : ℕ) (x : ℕ → ℕ)
    → is_saves (effect_of (instruction_at_of p o) v r m x) ≡ eqb (byte p o) 0x0E
saves-only p o l s v r m x =
    bool_cases (eqb (byte p o) 0x0E)
    (λ t. ap is_saves (effect-checkpoint p o (eqb-true _ _ t) v r m x) ∙ sym t)
    (λ t. unsaved (eqb-false _ _ t) (possible p o l s v r m x) ∙ sym t)

-- only READ has a use for the reading
pub effect-unread : (p : List ℕ) (o : ℕ) → ¬ (byte p o ≡ 0x07) → (v v₂ : ℤ) (r m : ℕ) (x : ℕ → ℕ)
    → effect_of (instruction_at_of p o) v r m x ≡ effect_of (instruction_at_of p o) v₂ r m x
unfolding instruction_at_of effect_of
effect-unread p o h v v₂ r m x = let n = ne_eqb (byte p o) 0x07 h in simp (push-effect, n)

-- ---- live cells

-- a cell that is live somewhere exists
pub live-exists : (p : List ℕ) → Legal p → (c o : ℕ) → is_start p o ≡ true → Live p c o → c < cells_of p
live-exists p l c o s (reads r) = start-refs p (accepted p (sym l.accepted)) o s c r
live-exists p l c o s (later {q = q} w f h) = live-exists p l c q (follows-start p (accepted p (sym l.accepted)) o q s f) h
