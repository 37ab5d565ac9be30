-- `run::run::run`: the rest of the run is the run from the start.
-- Assumes nothing.
use Rattle.std.proofs.Common.{◌-◌}
use Rattle.step.specs.State.{env_of, machine_of}
use Rattle.run.proofs.Running.{Running}
use Rattle.run.proofs.run.run.Given as goal

abbrev pub invariant-loop-ended : goal.invariant-loop-ended
invariant-loop-ended l =
    Running (env_of l.p l.sets) l.readings l.budget (machine_of l.fn.start l.fn.cells l.fn.marks l.fn.journal) l.fn.outputs
    l.b l.cells l.marks l.journal l.outputs

abbrev pub decreases-loop-ended : goal.decreases-loop-ended
decreases-loop-ended l = l.budget - l.b.steps
