-- The word, then the numbers.
-- Assumes nothing.
use Rattle.listing.proofs.Writing.{wrote_then, room-first, room-then}
use Rattle.listing.proofs.Cells.{set-parts}
use Rattle.listing.proofs.put_set.Goals as goal

pub put_word-requires : goal.put_word-requires
put_word-requires c = room-first (set-parts _ _ _) c.requires.1

pub put_numbers-requires : goal.put_numbers-requires
put_numbers-requires c = (c.requires.0, room-then (set-parts _ _ _) c.requires.1 c.put_word.ensures.wrote)

pub returns-clause-wrote : goal.returns-clause-wrote
returns-clause-wrote c = wrote_then (set-parts _ _ _) c.put_word.ensures.wrote c.put_numbers.ensures.wrote
