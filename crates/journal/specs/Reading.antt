-- What a journal holds: document 01, "Recovery reads saves from byte 0."
-- Assumes nothing.
use Rattle.std.specs.Prelude.{◌≡◌, ℕ, ◌^◌, ◌<◌, ◌≤◌, Bool, true, cond, ◌&&◌, ◌⊎◌, List, [], ◌∷◌, ◌++◌, replicate, ◌==◌}
use Rattle.instruction.specs.Bytes.{cells_of}
use Rattle.program.specs.Places.{after_checkpoint, is_exclude}
use Rattle.journal.specs.declared.Commit.{Commit}
use Rattle.journal.specs.Format.{Format, owner_width, Saved, Checkpoint, image, padded, images}

-- what decides whether a checkpoint is sound: of a program its cells, the offsets after a CHECKPOINT and those of an EXCLUDE; and how the chip is written
pub record Facts : Type 0 where
  pub cells : ℕ
  pub place : ℕ → Bool
  pub exclude : ℕ → Bool
  pub format : Format

abbrev pub facts_of : Format → List ℕ → Facts
facts_of G p = record { cells = cells_of p; place = after_checkpoint p; exclude = is_exclude p; format = G }

-- before any checkpoint: "offset 1 and zeros"
abbrev pub first : Commit
first = record { place = 1; exclude = 0; readings = 0; outputs = 0; owner = 0 }

-- no record is of the cell c
pub data Absent (c : ℕ) : List Saved → Type 0 where
  none : Absent c []
  other : {r : Saved} {rs : List Saved} → ¬ (c ≡ r.cell) → Absent c rs → Absent c (r ∷ rs)

-- "its cells exist and none occurs twice"; a value has 32 bits
pub data Once (n : ℕ) : List Saved → Type 0 where
  none : Once n []
  one : {r : Saved} {rs : List Saved} → r.cell < n → r.value < 2 ^ 32 → Absent r.cell rs → Once n rs → Once n (r ∷ rs)

-- "its offsets are such places, and neither count is below the previous mark's": b is the previous one
pub record After (F : Facts) (b c : Commit) : Type 0 where
  pub place_is : F.place c.place ≡ true
  pub place_fits : c.place < 2 ^ 16
  pub exclude_is : (c.exclude ≡ 0) ⊎ (F.exclude c.exclude ≡ true)
  pub exclude_fits : c.exclude < 2 ^ 16
  pub readings_rise : b.readings ≤ c.readings
  pub readings_fit : c.readings < 2 ^ 32
  pub outputs_rise : b.outputs ≤ c.outputs
  pub outputs_fit : c.outputs < 2 ^ 32
  pub owner_fits : c.owner < 256 ^ owner_width F.format

-- "A save is sound if": after the commit b
pub record Sound (F : Facts) (b : Commit) (s : Checkpoint) : Type 0 where
  pub once : Once F.cells s.records
  pub after : After F b s.commit

-- each sound after the one before
pub data Rising (F : Facts) : Commit → List Checkpoint → Type 0 where
  none : {b : Commit} → Rising F b []
  one : {b : Commit} {s : Checkpoint} {js : List Checkpoint} → Sound F b s → Rising F s.commit js → Rising F b (s ∷ js)

-- the last commit, b if there is none
unfoldable pub last_of : Commit → List Checkpoint → Commit
last_of b [] = b
last_of b (s ∷ js) = last_of s.commit js

-- q "must begin some sound save (fitting the chip or not)"
pub record Begins (F : Facts) (b : Commit) (q : List ℕ) : Type 0 where
  pub save : Checkpoint
  pub sound : Sound F b save
  pub rest : List ℕ
  pub bytes : image F.format save ≡ q ++ rest

-- l begins with a whole checkpoint that is sound after b, the last page filled
pub record Whole (F : Facts) (b : Commit) (l : List ℕ) : Type 0 where
  pub save : Checkpoint
  pub sound : Sound F b save
  pub rest : List ℕ
  pub bytes : l ≡ padded F.format save ++ rest

-- the journal is the sound whole checkpoints js, as many as there are, a remainder q, and FF: "Of what follows the last sound whole save, trailing `FF`
-- bytes are dropped"
pub record Reading (F : Facts) (chip : List ℕ) (js : List Checkpoint) (q : List ℕ) : Type 0 where
  pub erased : ℕ
  pub sound : Rising F first js
  pub bytes : chip ≡ images F.format js ++ q ++ replicate erased 0xFF
  pub no_more : ¬ Whole F (last_of first js) (q ++ replicate erased 0xFF)
  pub trimmed : (l : List ℕ) → ¬ (q ≡ l ++ (0xFF ∷ []))

-- "the remainder, unless empty, must begin some sound save"
abbrev pub Torn : Facts → Commit → List ℕ → Type 0
Torn F b q = (q ≡ []) ⊎ Begins F b q

-- "else the chip is damaged": there is a reading whose remainder is not so
pub record Damaged (F : Facts) (chip : List ℕ) : Type 0 where
  pub saves : List Checkpoint
  pub rest : List ℕ
  pub reading : Reading F chip saves rest
  pub refused : ¬ Torn F (last_of first saves) rest

-- every whole mark names this owner. That is no part of soundness: "16 where a whole mark's length or sum is not the plan's" is asked of a chip that "isn't damaged"
unfoldable pub own_all : (owner : ℕ) → List Checkpoint → Bool
own_all owner [] = true
own_all owner (s ∷ js) = s.commit.owner == owner && own_all owner js

-- the value that the records give the cell c, v if none does
unfoldable pub saved_in : ℕ → List Saved → ℕ → ℕ
saved_in c [] v = v
saved_in c (r ∷ rs) v = saved_in c rs (cond (c == r.cell) r.value v)

-- "each cell's last saved value in whole saves, or 0"
unfoldable pub saved_value : ℕ → List Checkpoint → ℕ → ℕ
saved_value c [] v = v
saved_value c (s ∷ js) v = saved_value c js (saved_in c s.records v)
