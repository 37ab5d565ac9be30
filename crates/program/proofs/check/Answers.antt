-- `program::check` meets its contract.
-- Assumes nothing.
use Rattle.program.proofs.Examining.{checked}
use Rattle.program.proofs.check.Goals as goal

pub returns : goal.returns
returns c = checked _ c.check_into.ensures.is
