-- What a restart takes from the sets, whatever words they stand in: a cell of DE may be left out of a save, since it is dead at every CHECKPOINT that can be met before
-- the next EXCLUDE; a cell of RO that a save holds already may be left out too, since nothing writes it until then. Sets by a rule that has no more surely written than the
-- command table serve as well.
-- Assumes nothing.
use mathlib.Core.Path.{◌≡◌}
use mathlib.Core.List.{List}
use mathlib.Core.Bool.{true}
use Prim.Native.Nat.{ℕ, ◌+◌, ◌*◌, ◌≤◌, ◌<◌}
use native.Mathlib.Omega.{arith}
use Rattle.cellset.specs.Bits.{member}
use Rattle.instruction.specs.Bytes.{byte, cells_of, instruction_at_of}
use Rattle.instruction.specs.Table.{may_def_of, must_def_of}
use Rattle.instruction.specs.declared.Instruction.{Instruction}
use Rattle.program.specs.Places.{is_exclude, exclude_number}
use Rattle.program.proofs.CellLaws.{must-may}
use Rattle.analysis.specs.Paths.{LiveBy, Live, reads, later, Region, DEBy, DE}
use Rattle.analysis.specs.Analyse.{ExcludeSetsBy}

-- ---- where a run is

-- where an EXCLUDE was executed, the run is in the region of the last one
abbrev pub Inside : List ℕ → ℕ → ℕ → Type 0
Inside p e o = ¬ (e ≡ 0) → Region p e o

-- ---- sets by a rule of what an instruction must write

-- a rule that has no more surely written than the command table
abbrev pub Within : (Instruction → ℕ → ℕ) → Type 0
Within must = (i : Instruction) (c : ℕ) → must i c ≤ must_def_of i c

module _ {must : Instruction → ℕ → ℕ} (fewer : Within must) where
  -- a cell that is live is live by the rule: the same path shows it
  pub live-by : {p : List ℕ} {c o : ℕ} → Live p c o → LiveBy must p c o
  live-by (reads r) = reads r
  live-by {p} {c} {o} (later w f h) = later {o = o} (omega (arith, fewer (instruction_at_of p o) c, w)) f (live-by h)

  -- so its DE is within DE; RO speaks of no rule
  pub de-grows : {p : List ℕ} {e c : ℕ} → DEBy must p e c → DE p e c
  de-grows d = record { exists = d.exists; place = d.place; within = d.within; saves = d.saves; dead = λ o r k v. d.dead o r k (live-by v) }

-- ---- what a bit of such sets promises there

module _ {must : Instruction → ℕ → ℕ} (fewer : Within must) {p s₀ s : List ℕ} (x : ExcludeSetsBy must p s₀ s) (e c : ℕ) (is : is_exclude p e ≡ true)
    (small : c < 256) where
  -- a cell of DE exists, and is dead at each CHECKPOINT of the region
  pub de-safe : member s (8 * exclude_number p e) c ≡ 1 → (c < cells_of p) × ((o : ℕ) → Region p e o → byte p o ≡ 0x0E → ¬ Live p c o)
  de-safe b = let d = de-grows fewer (x.de e c is small b) in (d.exists, d.dead)

  -- a cell of RO exists, and no instruction of the region may write it
  pub ro-safe : member s (8 * exclude_number p e + 4) c ≡ 1 → (c < cells_of p) × ((o : ℕ) → Region p e o → may_def_of (instruction_at_of p o) c ≡ 0)
  ro-safe b = let d = x.ro e c is small b in (d.exists, d.kept)

-- what may not be written is not surely written
pub unwritten : (i : Instruction) (c : ℕ) → may_def_of i c ≡ 0 → must_def_of i c ≡ 0
unwritten i c h = omega (arith, must-may i c)
