-- `program::places::blank`: 2,048 zeros.
-- Assumes nothing.
use Rattle.program.proofs.Filling.{blank-zeros}
use Rattle.program.proofs.places.blank.Goals as goal

pub returns : goal.returns
returns c = blank-zeros
