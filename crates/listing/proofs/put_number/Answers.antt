-- A space and the number, where the cell is in the set.
-- Assumes nothing.
use Rattle.std.proofs.Common.{ap, not}
use Rattle.listing.specs.Text.{bytes}
use Rattle.listing.proofs.Cells.{number-none, number-parts}
use Rattle.listing.proofs.Writing.{wrote_then, room-first, room-then}
use Rattle.listing.proofs.put_number.Goals as goal

pub returns-then-not-contains-clause-wrote : goal.returns-then-not-contains-clause-wrote
returns-then-not-contains-clause-wrote c = number-none _ _ c.contains.ensures (ap not c.if-not-contains.true)

pub put-requires : goal.put-requires
unfolding bytes
put-requires c = room-first (number-parts _ _ c.contains.ensures (ap not c.if-not-contains.false)) c.requires.1

pub put_decimal-requires : goal.put_decimal-requires
unfolding bytes
put_decimal-requires c = room-then (number-parts _ _ c.contains.ensures (ap not c.if-not-contains.false)) c.requires.1 c.put.ensures.wrote

pub returns-clause-wrote : goal.returns-clause-wrote
unfolding bytes
returns-clause-wrote c = wrote_then (number-parts _ _ c.contains.ensures (ap not c.if-not-contains.false)) c.put.ensures.wrote c.put_decimal.ensures.wrote
