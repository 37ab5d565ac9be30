-- One cell.
use Rattle.instruction.proofs.Sets.{one_set}
use Rattle.instruction.proofs.access.one.Goals as goal

pub returns : goal.returns
returns c = one_set c.args.a c.single.ensures
