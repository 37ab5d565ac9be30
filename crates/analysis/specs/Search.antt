-- What the search of a region promises, and what DE and RO are made from: the region as the first numbers of a list.
-- Assumes nothing.
use Rattle.std.specs.Prelude.{ℕ, zero, suc, ◌+◌, ◌-◌, ◌*◌, ◌≤◌, ◌<◌, min, ◌≡◌, List, Bool, false, cond, ◌||◌, length, get_or, eqb}
use Rattle.cellset.specs.Bits.{member, within}
use Rattle.instruction.specs.Bytes.{byte, cells_of, instruction_at_of}
use Rattle.instruction.specs.Table.{may_def_of, must_def_of}
use Rattle.liveness.specs.Queue.{Pushed}
use Rattle.graph.specs.Tables.{count_of, start_of, Passed, Offsets, Ways}
use Rattle.analysis.specs.Paths.{Live, Dead, Region, DE, RO, LiveSave, Written}

-- a program that check passes, with the offsets of its instructions and its ways on
pub record Mapped (p at left right : List ℕ) : Type 0 where
  pub passed : Passed p
  pub ways : Ways p at left right
  pub long_at : 512 ≤ length at
  pub long_left : 512 ≤ length left
  pub long_right : 512 ≤ length right

-- what each instruction must write, and the cells that are dead before it
pub record Known (p writes dead : List ℕ) : Type 0 where
  pub writes_are : (i c : ℕ) → i < count_of p → c < 256 → member writes (4 * i) c ≡ must_def_of (instruction_at_of p (start_of p i)) c
  pub dead_is : (i c : ℕ) → i < count_of p → c < 256 → member dead (4 * i) c ≡ 1 → Dead p c (start_of p i)
  pub live_is : (i c : ℕ) → i < count_of p → c < cells_of p → member dead (4 * i) c ≡ 0 → Live p c (start_of p i)
  pub long_writes : 2048 ≤ length writes
  pub long_dead : 2048 ≤ length dead

-- the first `count` numbers of the list are instructions
pub record Listed (p at list : List ℕ) (count : ℕ) : Type 0 where
  pub passed : Passed p
  pub at_is : Offsets p at
  pub long_at : 512 ≤ length at
  pub most : count ≤ length list
  pub below : (j : ℕ) → j < count → get_or list j 0 < count_of p

-- the first `count` numbers of the list are the instructions of the region of the EXCLUDE at e
pub record Found (p : List ℕ) (e : ℕ) (list : List ℕ) (count : ℕ) : Type 0 where
  pub most : count ≤ length list
  pub below : (j : ℕ) → j < count → get_or list j 0 < count_of p
  pub inside : (j : ℕ) → j < count → Region p e (start_of p (get_or list j 0))
  pub all : (o : ℕ) → Region p e o → (j : ℕ) × (j < count) × (start_of p (get_or list j 0) ≡ o)

-- two numbers put behind the others
pub record BothPushed (list : List ℕ) (seen : List Bool) (top l r : ℕ) (list' : List ℕ) (seen' : List Bool) (top' : ℕ) : Type 0 where
  pub between_list : List ℕ
  pub between_seen : List Bool
  pub between_top : ℕ
  pub one : Pushed list seen top l between_list between_seen between_top
  pub two : Pushed between_list between_seen between_top r list' seen' top'

module _ (p at list : List ℕ) where
  -- the offset of the instruction at place j of the list, and whether it is a CHECKPOINT
  abbrev pub offset_at : ℕ → ℕ
  offset_at j = get_or at (get_or list j 0) 0

  abbrev pub saves_at : ℕ → Bool
  saves_at j = eqb (byte p (offset_at j)) 0x0E

  -- whether one of the first j is
  abbrev pub saves : ℕ → Bool
  saves zero = false
  saves (suc j) = saves_at j || saves j

  -- 1 where the cell exists and is dead at each CHECKPOINT among the first j
  abbrev pub dead_all : List ℕ → ℕ → ℕ → ℕ
  dead_all dead zero c = within 0 (cells_of p) c
  dead_all dead (suc j) c = cond (saves_at j) (min (dead_all dead j c) (member dead (4 * get_or list j 0) c)) (dead_all dead j c)

  -- 1 where the cell exists and none of the first j may write it
  abbrev pub kept_all : ℕ → ℕ → ℕ
  kept_all zero c = within 0 (cells_of p) c
  kept_all (suc j) c = kept_all j c - may_def_of (instruction_at_of p (offset_at j)) c

-- DE and RO of the EXCLUDE at e stand in s from index k on
pub record SetsAt (p : List ℕ) (e : ℕ) (s : List ℕ) (k : ℕ) : Type 0 where
  pub de : (c : ℕ) → c < 256 → member s k c ≡ 1 → DE p e c
  pub no_de : (c : ℕ) → c < cells_of p → member s k c ≡ 0 → LiveSave p e c
  pub ro : (c : ℕ) → c < 256 → member s (k + 4) c ≡ 1 → RO p e c
  pub no_ro : (c : ℕ) → c < cells_of p → member s (k + 4) c ≡ 0 → Written p e c
