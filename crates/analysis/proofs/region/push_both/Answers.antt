-- `analysis::region::push_both` meets its contract: two pushes, one after the other.
-- Assumes nothing.
use Rattle.std.proofs.Common.{arith}
use Rattle.liveness.proofs.Waiting.{room-push, pushed-size}
use Rattle.analysis.proofs.region.push_both.Goals as goal

pub push-requires : goal.push-requires
push-requires c =
    let first = c.push-next.ensures in
    (room-push first c.requires.0 c.requires.1, omega (arith, pushed-size first, c.requires.2))
