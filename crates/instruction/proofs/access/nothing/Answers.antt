-- The empty set.
use Rattle.instruction.proofs.Sets.{empty-set}
use Rattle.instruction.proofs.access.nothing.Goals as goal

pub returns : goal.returns
returns c = empty-set c.empty.ensures
