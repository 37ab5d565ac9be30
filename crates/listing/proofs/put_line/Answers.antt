-- The line's parts one after the other.
-- Assumes nothing.
use Rattle.listing.specs.Text.{bytes}
use Rattle.listing.proofs.Lines.{line-offset, line_dead, line-fixed, line-saved, line-end, line_wrote}
use Rattle.listing.proofs.put_line.Goals as goal

pub put_decimal-requires : goal.put_decimal-requires
put_decimal-requires c = line-offset _ _ _ _ _ c.requires.1

pub put_set-requires : goal.put_set-requires
unfolding bytes
put_set-requires c = (c.requires.0, line_dead _ _ _ _ _ c.requires.1 c.put_decimal.ensures.wrote)

pub put_set-requires-2 : goal.put_set-requires-2
unfolding bytes
put_set-requires-2 c = (c.requires.0, line-fixed _ _ _ _ _ c.requires.1 c.put_decimal.ensures.wrote c.put_set.ensures.wrote)

pub put_set-requires-3 : goal.put_set-requires-3
unfolding bytes
put_set-requires-3 c =
    (c.requires.0, line-saved _ _ _ _ _ c.requires.1 c.put_decimal.ensures.wrote c.put_set.ensures.wrote c.put_set-2.ensures.wrote)

pub put-requires : goal.put-requires
unfolding bytes
put-requires c =
    line-end _ _ _ _ _ c.requires.1 c.put_decimal.ensures.wrote c.put_set.ensures.wrote c.put_set-2.ensures.wrote c.put_set-3.ensures.wrote

pub returns-clause-wrote : goal.returns-clause-wrote
unfolding bytes
returns-clause-wrote c =
    line_wrote _ _ _ _ _ c.requires.1 c.put_decimal.ensures.wrote c.put_set.ensures.wrote c.put_set-2.ensures.wrote c.put_set-3.ensures.wrote c.put.ensures.wrote
