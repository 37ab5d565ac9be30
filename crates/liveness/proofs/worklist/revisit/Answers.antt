-- `liveness::worklist::revisit` meets its contract: the number before i, where there is one, and then the chain of i.
-- Assumes nothing.
use Rattle.liveness.proofs.Threads.{visit-first, visit-queue, visit-next}
use Rattle.liveness.proofs.worklist.revisit.Goals as goal

pub returns-then-i-eq0 : goal.returns-then-i-eq0
returns-then-i-eq0 c = visit-first c.if-i-eq0.true c.push_chain.ensures

pub push_chain-requires-2 : goal.push_chain-requires-2
push_chain-requires-2 c =
    (visit-queue c.requires.0 c.requires.2 c.if-i-eq0.false c.push-next.ensures, c.requires.1, c.requires.4)

pub returns : goal.returns
returns c = visit-next c.requires.0 c.requires.2 c.if-i-eq0.false c.push-next.ensures c.push_chain-2.ensures
