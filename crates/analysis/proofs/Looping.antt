-- The loops that make DE and RO from the list of a region, and the cells that one of its instructions may write.
-- Assumes nothing.
use mathlib.Core.Path.{◌≡◌, refl, ap, ap₂, ◌∙◌}
use mathlib.Core.List.{List}
use mathlib.Core.Bool.{Bool, true, false, cond}
use Prim.Native.Nat.{ℕ, suc, ◌+◌, ◌-◌, ◌*◌, ◌^◌, ◌≤◌, ◌<◌, min}
use native.Mathlib.Omega.{arith}
use lib.ListN.{length, get_or, take, drop}
use lib.Seq.{length-take-le, get_or-take}
use borrow.Author.Tests.{eq-eqb, ne_eqb}
use Rattle.cellset.specs.Bits.{has, member, within}
use Rattle.cellset.specs.Sets.{SetIs}
use Rattle.cellset.proofs.Sets.{set-ext, set-difference, has-load, load_set}
use Rattle.instruction.specs.Bytes.{byte, cells_of, instruction_at_of}
use Rattle.instruction.specs.Table.{no_table_of, row_of, may_def_of, must_def_of}
use Rattle.instruction.specs.declared.Instruction.{Instruction}
use Rattle.graph.specs.Tables.{count_of, start_of}
use Rattle.analysis.specs.Search.{Mapped, Listed, Found, offset_at, saves, dead_all, kept_all}
use Rattle.analysis.proofs.Searching.{few-of, start-inside}
use Rattle.cellset.specs.declared.CellSet.{CellSet}
use Rattle.std.proofs.Common.{Option, Some, None, nat_eq, unwrap_or}

-- ---- the instruction at place j of the list: its number, its offset and the cells that it must write
module _ {p at list : List ℕ} {count j : ℕ} (h : Listed p at list count) (l : j < count) where
  pub listed_small : get_or list j 0 < 512
  listed_small = omega (arith, h.below j l, few-of h.passed)

  listed_start : offset_at p at list j ≡ start_of p (get_or list j 0)
  listed_start = h.at_is (get_or list j 0) (h.below j l)

  pub listed-inside : offset_at p at list j < length p
  listed-inside = omega (arith, listed_start, start-inside h.passed (get_or list j 0) (h.below j l))

  pub listed-writes : (writes : List ℕ) → ((i c : ℕ) → i < count_of p → c < 256 → member writes (4 * i) c ≡ must_def_of (instruction_at_of p (start_of p i)) c)
      → (c : ℕ) → c < 256 → member writes (4 * get_or list j 0) c ≡ must_def_of (instruction_at_of p (offset_at p at list j)) c
  listed-writes writes known c m = rw listed_start (known (get_or list j 0) c (h.below j l) m)

-- the numbers of a region are such a list
pub found-listed : {p at left right list : List ℕ} {e count : ℕ} → Mapped p at left right → Found p e list count → Listed p at list count
found-listed m f = record { passed = m.passed; at_is = m.ways.at_is; long_at = m.long_at; most = f.most; below = f.below }

-- also by themselves, without what stands behind them
pub found-front : {p list : List ℕ} {e count : ℕ} → Found p e list count → Found p e (take count list) (length (take count list))
found-front {list = list} {count = count} f =
    let long : length (take count list) ≡ count = length-take-le count list f.most in
    record {
      most = omega arith;
      below = λ j l. rw (get_or-take count list j 0 (omega arith)) (f.below j (omega arith));
      inside = λ j l. rw (get_or-take count list j 0 (omega arith)) (f.inside j (omega arith));
      all = λ o r.
          let (j, l, is) = f.all o r in
          (j, omega arith, rw (get_or-take count list j 0 l) is);
    }

-- the place after j, as the definitions have it
next : (j : ℕ) → j + 1 ≡ suc j
next j = omega arith

-- every cell, as both loops begin
all-cells : (p : List ℕ) {s : List ℕ} {cells : ℕ} → cells ≡ cells_of p → SetIs s (within 0 cells) → SetIs s (within 0 (cells_of p))
all-cells p e h = set-ext h λ c m. rw e

-- ---- `de_of`: at place j of the list, the set of the CHECKPOINTs passed, none if there was none
module _ (p at list dead : List ℕ) (cells : CellSet) where
  abbrev pub Saving : Option CellSet → ℕ → Type 0
  Saving None j = (saves p at list j ≡ false) × SetIs cells.words (dead_all p at list dead j)
  Saving (Some de) j = (saves p at list j ≡ true) × SetIs de.words (dead_all p at list dead j)

  pub saving-first : {n : ℕ} → n ≡ cells_of p → SetIs cells.words (within 0 n) → Saving None 0
  saving-first e h = (refl, all-cells p e h)

  -- a CHECKPOINT
  pub saving-turn : (de : Option CellSet) (j : ℕ) {before next_de : CellSet} {s : List ℕ} → Saving de j → byte p (offset_at p at list j) ≡ 0x0E
      → before ≡ unwrap_or de cells → s ≡ take 4 (drop (4 * get_or list j 0) dead) → SetIs next_de.words (λ c. min (has before.words c) (has s c))
      → Saving (Some next_de) (j + 1)
  saving-turn de j {before} {next_de} {s} q b u e h = rw (next j, t) (refl, set-ext h λ c m. ap₂ min ((set de q u).members c m) (loaded c m) ∙ rw t)
    where
      t : nat_eq (byte p (offset_at p at list j)) 0x0E ≡ true
      t = eq-eqb (byte p (offset_at p at list j)) 0x0E b

      loaded : (c : ℕ) → c < 256 → has s c ≡ member dead (4 * get_or list j 0) c
      loaded c m = ap (λ (x : List ℕ). has x c) e ∙ has-load dead (4 * get_or list j 0) c m

      set : (de : Option CellSet) → Saving de j → before ≡ unwrap_or de cells → SetIs before.words (dead_all p at list dead j)
      set None q u = rw u q.1
      set (Some de) q u = rw u q.1

  -- another instruction
  pub saving-past : (de : Option CellSet) (j : ℕ) → Saving de j → ¬ (byte p (offset_at p at list j) ≡ 0x0E) → Saving de (j + 1)
  saving-past None j q n = let t = ne_eqb (byte p (offset_at p at list j)) 0x0E n in rw (next j, t) (q.0, set-ext q.1 λ c m. rw t)
  saving-past (Some de) j q n = let t = ne_eqb (byte p (offset_at p at list j)) 0x0E n in rw (next j, t) (q.0, set-ext q.1 λ c m. rw t)

  -- the loop is left
  pub saving-done : (de : Option CellSet) {j count : ℕ} {none result : CellSet} → Saving de j → j ≡ count → SetIs none.words (λ c. 0) → result ≡ unwrap_or de none
      → SetIs result.words (λ c. cond (saves p at list count) (dead_all p at list dead count c) 0)
  saving-done None q e h u = rw (u, ← e, q.0) h
  saving-done (Some de) q e h u = rw (u, ← e, q.0) q.1

-- ---- `ro_of`: at place j of the list
module _ (p at list : List ℕ) where
  pub keeping-first : {ro : List ℕ} {cells : ℕ} → cells ≡ cells_of p → SetIs ro (within 0 cells) → SetIs ro (kept_all p at list 0)
  keeping-first e h = all-cells p e h

  pub keeping-turn : (j : ℕ) {w ro ro' : List ℕ} → SetIs ro (kept_all p at list j) → SetIs w (may_def_of (instruction_at_of p (offset_at p at list j)))
      → SetIs ro' (λ c. has ro c - has w c) → SetIs ro' (kept_all p at list (j + 1))
  keeping-turn j q h d = set-ext (set-difference q h d) λ c m. rw (next j)

-- ---- `written`
-- the table of one of two instructions
table-cond : (b : Bool) (x y : Instruction) → (row_of (cond b x y)).def_table ≡ cond b (row_of x).def_table (row_of y).def_table
table-cond true x y = refl
table-cond false x y = refl

cond_same : (b : Bool) → cond b no_table_of no_table_of ≡ no_table_of
cond_same true = refl
cond_same false = refl

-- no instruction but PUT has a table of which it may write a cell
no_table : (p : List ℕ) (o : ℕ) → ¬ (byte p o ≡ 0x0C) → (row_of (instruction_at_of p o)).def_table ≡ no_table_of
unfolding instruction_at_of
no_table p o n = simp (ne_eqb (byte p o) 0x0C n, table-cond, cond_same)

-- so what it must write is all that it may write
sure : (p : List ℕ) (o : ℕ) → ¬ (byte p o ≡ 0x0C) → (c : ℕ) → must_def_of (instruction_at_of p o) c ≡ may_def_of (instruction_at_of p o) c
sure p o n c = rw (no_table p o n)

-- so the set of the cells that it must write serves
pub written-plain : (p : List ℕ) (o : ℕ) (writes : List ℕ) (k : ℕ) {s : List ℕ} → ¬ (byte p o ≡ 0x0C) → 4 * k + 4 ≤ length writes
    → ((i : ℕ) → get_or writes i 0 < 2 ^ 64) → ((c : ℕ) → c < 256 → member writes (4 * k) c ≡ must_def_of (instruction_at_of p o) c)
    → s ≡ take 4 (drop (4 * k) writes) → SetIs s (may_def_of (instruction_at_of p o))
written-plain p o writes k n room fits known e =
    set-ext (rw e (load_set writes (4 * k) room fits)) λ c m. known c m ∙ sure p o n c
