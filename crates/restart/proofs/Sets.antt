-- The words that analyse leaves for a plan are safe, and so are those with the sets by a rule that has no more surely written. A plan is of bytes, so that four words have a bit for each of its cells.
-- Assumes nothing.
use Prim.Native.Nat.{ℕ, ◌≤◌}
use mathlib.Core.Path.{◌≡◌, refl}
use mathlib.Core.Bool.{Bool, true, false}
use mathlib.Core.List.{List}
use native.Mathlib.Omega.{arith}
use lib.ListN.{length}
use lib.Dec.{ltb}
use borrow.Author.Tests.{ltb-false}
use Rattle.instruction.specs.Bytes.{cells_of}
use Rattle.instruction.specs.declared.Instruction.{Instruction}
use Rattle.program.specs.Check.{check_of}
use Rattle.program.specs.Check.{Checked}
use Rattle.program.specs.Check as checked
use Rattle.program.proofs.Tests.{or-none}
use Rattle.analysis.specs.Analyse.{too_short, analysed_from, analyse_of, ExcludeSetsBy, ExcludeSets}
use Rattle.analysis.specs.Analyse.{Sets}
use Rattle.analysis.proofs.Safety.{Within, de-safe, ro-safe}
use Rattle.restart.specs.Claim.{Plan, Safe, Found}

-- a plan of bytes has at most 256 cells
cells-few : {p : List ℕ} → Plan p → cells_of p ≤ 256
cells-few plan = omega (arith, plan.bytes 0)

-- where the answer is the sets no buffer was too short
not_short : (k : Checked) (short : Bool) {c n e : ℕ} → Sets c n e ≡ analysed_from k short → short ≡ false
not_short (checked.Program cells instructions excludes) false h = refl
not_short (checked.Program cells instructions excludes) true h = absurd (let z : ◌≡◌ {A = ℕ} 0 1 = cc in omega arith)
not_short (checked.Refused m) short h = absurd (let z : ◌≡◌ {A = ℕ} 0 1 = cc in omega arith)

-- so the words lent are enough
words-enough : (p : List ℕ) (dead sets : ℕ) {c n e : ℕ} → Sets c n e ≡ analyse_of p dead sets → 512 ≤ sets
unfolding analyse_of
words-enough p dead sets h =
    ltb-false sets 512 (or-none (ltb dead 2048) (ltb sets 512) (not_short (check_of p) (too_short dead sets) h)).1

-- words with the sets by a rule that has no more surely written than the command table are safe
pub rule-safe : {must : Instruction → ℕ → ℕ} → Within must → {p lent words : List ℕ} → Plan p → 512 ≤ length lent → ExcludeSetsBy must p lent words → Safe p words
rule-safe fewer plan enough sets =
    let few = cells-few plan in
    record {
      enough = omega (arith, sets.size, enough);
      dead = λ e c is l b. (de-safe fewer sets e c is (omega (arith, few, l)) b).1;
      kept = λ e c is l b. (ro-safe fewer sets e c is (omega (arith, few, l)) b).1;
    }

-- the words found for a plan were lent with enough of them, and have its sets
pub found-sets : {p words : List ℕ} (f : Found p words) → (512 ≤ length f.lent) × ExcludeSets p f.lent words
found-sets {p} f = (
  words-enough p (length f.dead_lent) (length f.lent) f.analyses.answer,
  (f.analyses.filled f.cells f.instructions f.excludes refl).1,
)

-- so they are safe
pub found-safe : {p words : List ℕ} → Plan p → Found p words → Safe p words
found-safe plan f = rule-safe (λ i c. omega arith) plan (found-sets f).0 (found-sets f).1
