-- `analysis::region::ro_of` meets its contract: what each instruction may write is taken away.
-- Assumes nothing.
use Rattle.std.proofs.Common.{arith}
use Rattle.analysis.proofs.Looping.{listed_small, listed-inside, listed-writes, keeping-first, keeping-turn}
use Rattle.analysis.proofs.region.ro_of.Goals as goal

pub loop-k-init : goal.loop-k-init
loop-k-init c = keeping-first c.args.p.now c.args.at.now c.args.list.now c.requires.1 c.below-ro.ensures

pub bounds-at-k : goal.bounds-at-k
bounds-at-k c = omega (arith, listed_small c.requires.0 c.loop-k-test.true, c.requires.0.long_at)

pub written-requires : goal.written-requires
written-requires c = (
  listed-inside c.requires.0 c.loop-k-test.true,
  omega (arith, listed_small c.requires.0 c.loop-k-test.true, c.requires.2),
  listed-writes c.requires.0 c.loop-k-test.true c.args.writes.now c.requires.3,
)

pub loop-k-preserved : goal.loop-k-preserved
loop-k-preserved c = keeping-turn c.args.p.now c.args.at.now c.args.list.now c.loop-k.k-index c.loop-k.invariant c.written.ensures c.difference-ro.ensures
