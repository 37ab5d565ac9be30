-- What the walk keeps: what is found over all offsets is what was counted, filled and noted, and what is found over those to come. It ends since
-- the rest of the program gets shorter.
-- Assumes nothing.
use Rattle.std.proofs.Common.{◌-◌, ◌*◌, ◌<◌, ◌≤◌, length}
use Rattle.program.proofs.Left.{Left}
use Rattle.program.proofs.Turns.{Turning}
use Rattle.program.proofs.walk.Given as goal

abbrev pub invariant-loop-at : goal.invariant-loop-at
invariant-loop-at l =
    Left l.p (Turning l.p l.table l.targets.offsets l.instructions l.excludes l.last l.targets.count l.at) l.at × (l.at ≤ 2048) × (l.instructions < l.at)
    × (l.excludes ≤ 255 * l.instructions) × (3 * l.targets.count < l.at)

abbrev pub decreases-loop-at : goal.decreases-loop-at
decreases-loop-at l = length l.p - l.at
