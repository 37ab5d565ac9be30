-- What has come fits the buffer, which keeps its length; the measure is what is still free.
-- Assumes nothing.
use Rattle.std.proofs.Common.{length, ◌≡◌, ◌-◌, ◌≤◌}
use Rattle.plan_sets.proofs.fill.Given as goal

abbrev pub invariant-loop-n : goal.invariant-loop-n
invariant-loop-n g l = (length l.buffer ≡ length l.fn.buffer) × (l.n ≤ length l.fn.buffer)

abbrev pub decreases-loop-n : goal.decreases-loop-n
decreases-loop-n g l = length l.fn.buffer - l.n
