-- `liveness::worklist::push_path` meets its contract: each turn pushes the next number of the path.
-- Assumes nothing.
use Rattle.std.proofs.Common.{ap, not}
use Rattle.liveness.proofs.Waiting.{way-first, way-flag, way-turn, way-less, way-done, may-push}
use Rattle.liveness.proofs.worklist.push_path.Goals as goal

pub loop-flags-init : goal.loop-flags-init
loop-flags-init c = way-first c.requires.0 c.requires.2

pub bounds-flags-i : goal.bounds-flags-i
bounds-flags-i c = way-flag c.loop-flags.invariant

pub push-top-requires : goal.push-top-requires
push-top-requires c = let w = c.loop-flags.invariant in may-push w.pushes w.node

pub loop-flags-smaller : goal.loop-flags-smaller
loop-flags-smaller c = way-less c.loop-flags.invariant c.push-top.ensures (ap not c.loop-flags-test.true)

pub loop-flags-preserved : goal.loop-flags-preserved
loop-flags-preserved c = way-turn c.loop-flags.invariant c.push-top.ensures c.requires.1

pub returns : goal.returns
returns c = way-done c.loop-flags.invariant (ap not c.loop-flags-test.false)
