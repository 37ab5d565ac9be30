-- `listing::text::Text::put_decimal` meets its contract: a number's last digit comes after the others, which are those of its tenth.
-- Assumes nothing.
use Rattle.std.proofs.Common.{arith}
use Rattle.listing.proofs.Writing.{wrote_then, room-first, room-then}
use Rattle.listing.proofs.Decimals.{wrote_one, room-one, more_parts}
use Rattle.listing.proofs.text.Text.+put_decimal.Goals as goal

pub put-requires : goal.put-requires
put-requires t c = room-one c.if-n-lt10.true c.requires

pub returns-then-n-lt10-clause-wrote : goal.returns-then-n-lt10-clause-wrote
returns-then-n-lt10-clause-wrote t c = wrote_one c.if-n-lt10.true c.put.ensures.wrote

pub put_decimal-requires : goal.put_decimal-requires
put_decimal-requires t c = (omega arith, room-first (more_parts _ c.if-n-lt10.false) c.requires)

pub put-requires-2 : goal.put-requires-2
put-requires-2 t c = room-then (more_parts _ c.if-n-lt10.false) c.requires c.put_decimal.ensures.wrote

pub returns-clause-wrote : goal.returns-clause-wrote
returns-clause-wrote t c = wrote_then (more_parts _ c.if-n-lt10.false) c.put_decimal.ensures.wrote c.put-2.ensures.wrote
