-- `program::places::place_at` meets its contract.
-- Assumes nothing.
use borrow.Author.Rules.{rules}
use Rattle.program.specs.Places.{entry_at}
use Rattle.program.proofs.places.place_at.Goals as goal

pub returns : goal.returns
unfolding entry_at
returns c = search rules
