-- The marks are copied over the bytes of marks.
-- Assumes nothing.
use Rattle.std.proofs.Common.{arith}
use Rattle.layout.proofs.Turning.{marks-stored}
use Rattle.layout.proofs.store_marks.Goals as goal

pub returns : goal.returns
returns c = rw c.copy_from_slice.ensures.after (marks-stored _ _ (omega arith) (omega arith) (λ k. omega (arith, c.type_inv.marks k)))
