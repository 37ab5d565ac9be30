-- `analyse` fills the sets that the text is written from, and the text is written to the buffer that was lent.
-- Assumes nothing.
use Rattle.std.proofs.Common.{ℕ, rules}
use lib.ListN.{length-replicate}
use Rattle.listing.proofs.Whole.{lists}
use Rattle.listing.proofs.list.Goals as goal

pub returns : goal.returns
returns c =
    lists (length-replicate {A = ℕ} 2048 0) (length-replicate {A = ℕ} 512 0) c.analyse-answer.ensures c.write_listing.ensures.listed
    (search rules)
