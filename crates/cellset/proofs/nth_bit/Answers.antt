-- Each turn takes away the lowest bit.
use Rattle.std.proofs.Common.{arith}
use Rattle.cellset.proofs.Ranks.{sought-none, sought-turn, sought-done}
use Rattle.cellset.proofs.nth_bit.Goals as goal

pub returns-then-rest-eq0 : goal.returns-then-rest-eq0
returns-then-rest-eq0 c = sought-none c.args.w c.args.k c.loop.rest _ c.loop.invariant c.if-rest-eq0.true

pub loop-preserved : goal.loop-preserved
loop-preserved c = sought-turn c.args.w c.args.k c.loop.rest _ _ c.loop.invariant (omega arith)

pub returns : goal.returns
returns c = sought-done c.args.w c.args.k c.loop.rest _ c.loop.invariant (omega arith)
