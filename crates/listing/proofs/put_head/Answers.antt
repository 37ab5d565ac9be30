-- The word, the number, a line feed.
-- Assumes nothing.
use Rattle.listing.specs.Text.{bytes}
use Rattle.listing.proofs.Heads.{head_word, head-number, head-end, head-wrote}
use Rattle.listing.proofs.put_head.Goals as goal

pub put_word-requires : goal.put_word-requires
put_word-requires c = head_word _ _ c.requires

pub put_decimal-requires : goal.put_decimal-requires
put_decimal-requires c = head-number _ _ c.requires c.put_word.ensures.wrote

pub put-requires : goal.put-requires
unfolding bytes
put-requires c = head-end _ _ c.requires c.put_word.ensures.wrote c.put_decimal.ensures.wrote

pub returns-clause-wrote : goal.returns-clause-wrote
unfolding bytes
returns-clause-wrote c = head-wrote _ _ c.requires c.put_word.ensures.wrote c.put_decimal.ensures.wrote c.put.ensures.wrote
