-- `journal::pages::erased_at`: four bytes that are FF as one number are FF each.
-- Assumes nothing.
use Rattle.std.proofs.Common.{arith}
use Rattle.journal.proofs.Padding.{erased-four}
use Rattle.journal.proofs.pages.erased_at.Goals as goal

pub returns-then-load32 : goal.returns-then-load32
returns-then-load32 c = (
  omega arith,
  erased-four c.args.l.now c.args.k (λ k. (c.type_inv.l k).fits) c.if-k-l.true c.load32.ensures c.if-load32.true,
  λ z. absurd (omega arith),
)
