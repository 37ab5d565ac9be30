-- DE and RO as they stand in the words, and the cells in neither.
-- Assumes nothing.
use Rattle.listing.proofs.Lines.{agreed, line-room, line-written}
use Rattle.listing.proofs.put_exclude.Goals as goal

pub put_line-requires : goal.put_line-requires
put_line-requires c = (
  c.requires.0,
  line-room
      (agreed _ _ c.requires.0 c.load-de.ensures c.load-ro.ensures c.below.ensures c.difference.ensures c.difference-rest.ensures)
      _ c.requires.2,
)

pub returns-clause-wrote : goal.returns-clause-wrote
returns-clause-wrote c =
    line-written
    (agreed _ _ c.requires.0 c.load-de.ensures c.load-ro.ensures c.below.ensures c.difference.ensures c.difference-rest.ensures)
    _ c.put_line.ensures.wrote
