-- `liveness::met` meets its contract: the set that it makes is what the old one and the equation have in common.
-- Assumes nothing.
use Rattle.liveness.proofs.Turns.{made}
use Rattle.liveness.proofs.met.Goals as goal

pub returns : goal.returns
returns c =
    made c.args.reads.now c.args.writes.now c.args.dead.now c.args.i c.args.l c.args.r
    c.load-old.ensures
    c.load.ensures
    c.load-2.ensures
    c.intersection-after.ensures
    c.load-3.ensures
    c.union-written.ensures
    c.load-4.ensures
    c.difference.ensures
    c.intersection.ensures
