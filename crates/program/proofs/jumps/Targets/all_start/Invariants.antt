-- The targets passed are starts.
-- Assumes nothing.
use Rattle.std.proofs.Common.{◌≡◌, true}
use Rattle.program.specs.Starts.{all_first_of}
use Rattle.program.specs.Places.{placed}
use Rattle.program.proofs.jumps.Targets.all_start.Given as goal

abbrev pub invariant-loop-target : goal.invariant-loop-target
invariant-loop-target l = all_first_of (placed l.table) l.target-index l.self.offsets ≡ true
