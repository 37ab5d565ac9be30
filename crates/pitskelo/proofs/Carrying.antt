-- The sets that `analyse` left in one list of words are right in another that has its words and keeps the others.
-- Assumes nothing.
use mathlib.Core.Path.{◌≡◌, ◌∙◌}
use mathlib.Core.List.{List}
use mathlib.Core.Bool.{true}
use Prim.Native.Nat.{ℕ, ◌+◌, ◌*◌, ◌/◌, ◌≤◌, ◌<◌}
use native.Mathlib.Omega.{arith}
use Rattle.cellset.specs.Bits.{member}
use Rattle.instruction.specs.Bytes.{cells_of}
use Rattle.program.specs.Starts.{starts, excludes}
use Rattle.program.specs.Places.{is_exclude, exclude_number}
use Rattle.program.proofs.AfterLaws.{exclude-below}
use Rattle.graph.specs.Tables.{count_of}
use Rattle.analysis.specs.Analyse.{DeadSets, ExcludeSets}
use Rattle.pitskelo.proofs.Buffers.{Moved}

-- a cell has the same bit in both
member-moved : {n : ℕ} {words xs₀ xs : List ℕ} → Moved n words xs₀ xs → (at c : ℕ) → at + 4 ≤ n → c < 256 → member words at c ≡ member xs at c
member-moved m at c room small = rw (m.there (at + c / 64) (omega arith))

pub dead-moved : {p d₀ words xs₀ xs : List ℕ} → DeadSets p d₀ words → cells_of p ≤ 256 → Moved (4 * count_of p) words xs₀ xs → DeadSets p xs₀ xs
dead-moved x most m = record {
  size = m.size;
  dead = λ i c l small b. x.dead i c l small (member-moved m (4 * i) c (omega arith) small ∙ b);
  live = λ i c l exists b. x.live i c l exists (member-moved m (4 * i) c (omega arith) (omega arith) ∙ b);
  rest = m.rest;
}

module _ {p s₀ words xs₀ xs : List ℕ} (x : ExcludeSets p s₀ words) (most : cells_of p ≤ 256) (m : Moved (8 * excludes p (starts p)) words xs₀ xs) where
  -- in DE, and in RO behind it
  de-moved : (e c : ℕ) → is_exclude p e ≡ true → c < 256 → member words (8 * exclude_number p e) c ≡ member xs (8 * exclude_number p e) c
  de-moved e c is small = member-moved m (8 * exclude_number p e) c (omega (arith, exclude-below p e is)) small

  ro-moved : (e c : ℕ) → is_exclude p e ≡ true → c < 256 → member words (8 * exclude_number p e + 4) c ≡ member xs (8 * exclude_number p e + 4) c
  ro-moved e c is small = member-moved m (8 * exclude_number p e + 4) c (omega (arith, exclude-below p e is)) small

  pub sets-moved : ExcludeSets p xs₀ xs
  sets-moved = record {
    size = m.size;
    de = λ e c is small b. x.de e c is small (de-moved e c is small ∙ b);
    no_de = λ e c is exists b. x.no_de e c is exists (de-moved e c is (omega arith) ∙ b);
    ro = λ e c is small b. x.ro e c is small (ro-moved e c is small ∙ b);
    no_ro = λ e c is exists b. x.no_ro e c is exists (ro-moved e c is (omega arith) ∙ b);
    rest = m.rest;
  }
