-- Each kind of answer has its text.
-- Assumes nothing.
use Rattle.std.proofs.Common.{arith, ap}
use Rattle.analysis.specs.Analyse.{analysed_of}
use Rattle.listing.specs.Text.{bytes}
use Rattle.listing.proofs.Whole.{accepted-decodes, refused-room, start-room, listed-refused, listed-accepted}
use Rattle.listing.proofs.write_listing.Goals as goal

pub put_head-requires : goal.put_head-requires
unfolding bytes
put_head-requires c = rw c.requires.2 (refused-room (omega arith))

pub put_accepted-requires : goal.put_accepted-requires
put_accepted-requires c =
    let d = accepted-decodes _ c.requires.0 (ap analysed_of c.in-Ok.is) in
    (d, c.requires.1, rw c.requires.2 (start-room _ _ d (omega (arith, c.type_inv.program 0))))

pub returns-in-Err-clause-listed : goal.returns-in-Err-clause-listed
unfolding bytes
returns-in-Err-clause-listed c = listed-refused (rw c.from.ensures (ap analysed_of c.in-Err.is)) (omega arith) (rw c.requires.2 at c.put_head.ensures.wrote)

pub returns-in-Ok-clause-listed : goal.returns-in-Ok-clause-listed
returns-in-Ok-clause-listed c =
    let d = accepted-decodes _ c.requires.0 (ap analysed_of c.in-Ok.is) in
    listed-accepted (ap analysed_of c.in-Ok.is) d (omega (arith, c.type_inv.program 0)) (rw c.requires.2 at c.put_accepted.ensures.wrote)
