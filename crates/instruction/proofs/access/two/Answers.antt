-- Two cells.
use Rattle.instruction.proofs.Sets.{two-set}
use Rattle.instruction.proofs.access.two.Goals as goal

pub returns : goal.returns
returns c = two-set c.args.a c.args.b c.single.ensures c.single-2.ensures c.union.ensures
