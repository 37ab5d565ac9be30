-- A turn writes one byte more.
-- Assumes nothing.
use Rattle.std.proofs.Common.{◌∙◌}
use Rattle.listing.proofs.Writing.{spelling-turn}
use Rattle.listing.proofs.text.Text.put_word.Goals as goal

pub loop-byte-preserved : goal.loop-byte-preserved
loop-byte-preserved c =
    (spelling-turn c.loop-byte.invariant.0 c.loop-byte-test.true c.put.ensures.wrote, c.put.ensures.same_buffer ∙ c.loop-byte.invariant.1)
