-- The sets of lists until request Q-3, so that these can still be spoken of: document 01's rule of what an instruction must write, and the words that are found by a rule.
-- Assumes nothing.
use Rattle.std.specs.Prelude.{ℕ, ◌≤◌, List, ◌⊎◌, length}
use Rattle.instruction.specs.Table.{no_table_of, row_of, access}
use Rattle.instruction.specs.declared.Instruction.{Instruction}
use Rattle.analysis.specs.Analyse.{ExcludeSetsBy}
use Rattle.restart.specs.Claim.{Found}

-- 01: "What a command may write it must write, except that PUT must write nothing"
abbrev pub must_until : Instruction → ℕ → ℕ
must_until i = access (row_of i).defs no_table_of

-- "the sets found for it": the words of DE and RO by a rule of what a command must write, in a buffer that was lent with enough words
pub record FoundBy (must : Instruction → ℕ → ℕ) (p words : List ℕ) : Type 0 where
  pub lent : List ℕ
  pub enough : 512 ≤ length lent
  pub sets : ExcludeSetsBy must p lent words

-- the sets found for a plan today, or until Q-3
abbrev pub EitherSets : (p words : List ℕ) → Type 0
EitherSets p words = Found p words ⊎ FoundBy must_until p words
