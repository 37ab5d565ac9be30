-- `liveness::worklist::push_chain` meets its contract: each turn pushes the first number of the rest.
-- Assumes nothing.
use Rattle.std.proofs.Common.{arith}
use Rattle.liveness.proofs.Waiting.{may-push}
use Rattle.liveness.proofs.Threads.{along-first, along-number, along-turn, along-done}
use Rattle.liveness.proofs.worklist.push_chain.Goals as goal

pub loop-rest-init : goal.loop-rest-init
loop-rest-init c = along-first c.requires.0 c.requires.2

pub push-top-requires : goal.push-top-requires
push-top-requires c =
    may-push c.loop-rest.invariant.pushes (along-number c.loop-rest.invariant c.loop-rest-test.true)

pub bounds-links-k : goal.bounds-links-k
bounds-links-k c = along-number c.loop-rest.invariant c.loop-rest-test.true

pub loop-rest-smaller : goal.loop-rest-smaller
loop-rest-smaller c = omega (arith, c.requires.1 _ (along-number c.loop-rest.invariant c.loop-rest-test.true))

pub loop-rest-preserved : goal.loop-rest-preserved
loop-rest-preserved c = along-turn c.loop-rest.invariant c.loop-rest-test.true c.requires.1 c.push-top.ensures

pub returns : goal.returns
returns c = along-done c.loop-rest.invariant c.loop-rest-test.false
