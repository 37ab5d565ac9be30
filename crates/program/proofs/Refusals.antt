-- Laws of the refusals' numbers.
-- Assumes nothing.
use Rattle.std.proofs.Common.{◌≡◌, ◌<◌, arith}
use Rattle.program.specs.Refusal.{refusal_number}
use Rattle.program.specs.declared.refusal.Refusal.{Refusal}
use Rattle.program.specs.declared.refusal.Refusal.TheVariants.{PlanSize, UnknownCommand, CutCommand, MissingCell, BadTable, TooManyCommands, OpenEnd, BadJump, ShortWords, UnsoundState, ChipLength, DamagedChip, OtherSave, SmallChip, OlderMarks, AnotherPlan}

-- no refusal has the number of an accepted call
pub number-some : (r : Refusal) → 0 < refusal_number r
number-some PlanSize = omega arith
number-some UnknownCommand = omega arith
number-some CutCommand = omega arith
number-some MissingCell = omega arith
number-some BadTable = omega arith
number-some TooManyCommands = omega arith
number-some OpenEnd = omega arith
number-some BadJump = omega arith
number-some ShortWords = omega arith
number-some UnsoundState = omega arith
number-some ChipLength = omega arith
number-some DamagedChip = omega arith
number-some OtherSave = omega arith
number-some SmallChip = omega arith
number-some OlderMarks = omega arith
number-some AnotherPlan = omega arith

pub number-not0 : (r : Refusal) → refusal_number r ≡ 0 → ⊥
number-not0 r e = let s = number-some r in omega arith
