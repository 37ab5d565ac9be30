-- The refusals by number: document 01, "Refused inputs", and document 02's rows. "A refusal is the number alone".
-- Assumes nothing.
use Rattle.std.specs.Prelude.{ℕ, Result, Ok, Err}
use Rattle.program.specs.declared.refusal.Refusal.{Refusal}
use Rattle.program.specs.declared.refusal.Refusal.TheVariants.{PlanSize, UnknownCommand, CutCommand, MissingCell, BadTable, TooManyCommands, OpenEnd, BadJump, ShortWords, UnsoundState, ChipLength, DamagedChip, OtherSave, SmallChip, OlderMarks, AnotherPlan}

abbrev pub refusal_number : Refusal → ℕ
refusal_number PlanSize = 1
refusal_number UnknownCommand = 2
refusal_number CutCommand = 3
refusal_number MissingCell = 4
refusal_number BadTable = 5
refusal_number TooManyCommands = 6
refusal_number OpenEnd = 7
refusal_number BadJump = 8
refusal_number ShortWords = 9
refusal_number UnsoundState = 10
refusal_number ChipLength = 11
refusal_number DamagedChip = 12
refusal_number OtherSave = 13
refusal_number SmallChip = 14
refusal_number OlderMarks = 15
refusal_number AnotherPlan = 16

-- the number of a refused call, 0 of an accepted one
abbrev pub number_if : {A : Type 0} → Result A Refusal → ℕ
number_if (Ok x) = 0
number_if (Err r) = refusal_number r
