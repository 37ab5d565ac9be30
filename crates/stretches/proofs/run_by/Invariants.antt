-- The call stands where stretches of the one run left it. The measure is what is left of the budget.
-- Assumes nothing.
use Rattle.std.proofs.Common.{◌-◌}
use Rattle.step.specs.State.{env_of, machine_of}
use Rattle.layout.specs.Numbers.{signed_of}
use Rattle.stretches.proofs.Whole.{Stands}
use Rattle.stretches.proofs.run_by.Given as goal

abbrev pub invariant-loop-next : goal.invariant-loop-next
invariant-loop-next l =
    Stands (env_of l.plan l.sets) (signed_of l.readings) l.budget (machine_of l.initial.b.regs l.fn.cells l.fn.marks l.fn.chip) l.fn.outputs
    (machine_of l.b.regs l.cells l.marks l.chip) l.b.steps l.b.taken l.b.written l.outputs

abbrev pub decreases-loop-next : goal.decreases-loop-next
decreases-loop-next l = l.budget - l.b.steps
