-- The sets of lists until Q-3 beside today's: document 01's rule has no more surely written than the command table (`until-within`), so DE only grows, and words found by it
-- are safe (`until-safe`). `found-today` has what `FoundBy` is of the words that analyse leaves.
-- Assumes nothing.
use Prim.Native.Nat.{ℕ}
use mathlib.Core.List.{List}
use mathlib.Core.Logic.{⊎_elim}
use native.Mathlib.Omega.{arith}
use Rattle.instruction.specs.Table.{access, must_def_of}
use Rattle.analysis.specs.Paths.{DEBy, DE}
use Rattle.analysis.proofs.Safety.{Within, de-grows}
use Rattle.restart.specs.Claim.{Plan, Safe, Found}
use Rattle.restart.proofs.Sets.{rule-safe, found-sets, found-safe}
use Rattle.batch.specs.Until.{must_until, FoundBy, EitherSets}

-- by 01's rule PUT writes nothing for sure, and the other rows are the table's
pub until-within : Within must_until
unfolding access
until-within i c = omega arith

-- "Dead sets and DE only grow; RO and may-write stay": RO speaks of no rule
pub until-grows : {p : List ℕ} {e c : ℕ} → DEBy must_until p e c → DE p e c
until-grows d = de-grows until-within d

-- what analyse leaves is found by the command table
pub found-today : {p words : List ℕ} → Found p words → FoundBy must_def_of p words
found-today f = record { lent = f.lent; enough = (found-sets f).0; sets = (found-sets f).1 }

-- words found until then are safe
pub until-safe : {p words : List ℕ} → Plan p → FoundBy must_until p words → Safe p words
until-safe plan f = rule-safe until-within plan f.enough f.sets

-- and so are those of either day
pub either-safe : {p : List ℕ} → Plan p → (words : List ℕ) → EitherSets p words → Safe p words
either-safe plan words e = ⊎_elim (λ f. found-safe plan f) (λ f. until-safe plan f) e
