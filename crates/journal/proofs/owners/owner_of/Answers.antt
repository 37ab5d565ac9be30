-- `journal::owners::owner_of`: the bytes are added one after the other.
-- Assumes nothing.
use Rattle.std.proofs.Common.{ℕ, ◌+◌, ◌*◌, ◌%◌, ◌^◌, length, ap, ◌∙◌}
use Rattle.journal.proofs.Naming.{summing-first, summing-turn, summing-done}
use Rattle.journal.proofs.owners.owner_of.Goals as goal

pub loop-byte-init : goal.loop-byte-init
loop-byte-init c = summing-first _

pub loop-byte-preserved : goal.loop-byte-preserved
loop-byte-preserved c =
    summing-turn c.loop-byte.invariant c.loop-byte-test.true (ap (λ (x : ℕ). (c.loop-byte.sum + x) % 2 ^ 16) c.from-sum.ensures)

pub returns : goal.returns
returns c = ap (λ (x : ℕ). length c.args.p.now % 65536 + 65536 * x) c.from.ensures ∙ summing-done c.loop-byte.invariant c.loop-byte-test.false
