-- A turn writes the number of one cell more.
-- Assumes nothing.
use Rattle.std.proofs.Common.{arith, refl, ◌∙◌}
use Rattle.listing.proofs.Cells.{counting-first, counting-room, counting-turn}
use Rattle.listing.proofs.put_numbers.Goals as goal

pub loop-c-init : goal.loop-c-init
loop-c-init c = (counting-first c.requires.1, refl)

pub put_number-requires : goal.put_number-requires
put_number-requires c = (omega arith, counting-room c.loop-c.invariant.0 c.loop-c-test.true)

pub loop-c-preserved : goal.loop-c-preserved
loop-c-preserved c =
    (counting-turn c.loop-c.invariant.0 c.loop-c-test.true c.put_number.ensures.wrote, c.put_number.ensures.same_buffer ∙ c.loop-c.invariant.1)
