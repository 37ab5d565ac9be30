-- What `step`, `run` and `recover` leave of a machine that is lent: m is the machine as they leave it, after a refusal too.
-- Assumes nothing.
use Rattle.std.specs.Prelude.{List, ℤ, ⊤, Result, Ok, Err}
use Rattle.program.specs.Refusal.{refusal_number}
use Rattle.program.specs.declared.refusal.Refusal.{Refusal}
use Rattle.step.specs.State.{Machine}
use Rattle.run.specs.Run as run
use Rattle.run.specs.Run.{ended_of, refused_with}
use Rattle.recovery.specs.Recover as recovery
use Rattle.recovery.specs.Recover.{Restored, Refused}
use Rattle.machine.specs.declared.Passed.{Passed}

-- what a step or a run leaves
abbrev pub passed : Result Passed Refusal → Machine → List ℤ → run.Outcome
passed (Ok p) m outs = run.outcome (ended_of p.ended) m p.steps p.taken p.written outs
passed (Err r) m outs = refused_with (refusal_number r) m outs

-- what recovery leaves
abbrev pub restored : Result ⊤ Refusal → Machine → recovery.Outcome
restored (Ok u) m = recovery.outcome Restored m
restored (Err r) m = recovery.outcome (Refused (refusal_number r)) m
