-- `run::quiet::quiet`: what was promised so far.
-- Assumes nothing.
use Rattle.std.proofs.Common.{◌-◌}
use Rattle.run.specs.Quiet.{QuietIs}
use Rattle.run.proofs.quiet.quiet.Given as goal

abbrev pub invariant-loop-f : goal.invariant-loop-f
invariant-loop-f l = QuietIs l.p l.readings l.first l.pc l.left l.takes l.gives l.fn.cells l.fn.outputs l.f l.cells l.outputs

abbrev pub decreases-loop-f : goal.decreases-loop-f
decreases-loop-f l = l.left - l.f.steps
