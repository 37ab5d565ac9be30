-- A table of one cell is written for sure, and no other.
use Rattle.std.proofs.Common.{arith}
use Rattle.instruction.proofs.Sets.{no_span, sure-span, unsure-table}
use Rattle.instruction.proofs.access.sure_cell.Goals as goal

pub returns-then-len-eq1 : goal.returns-then-len-eq1
returns-then-len-eq1 c = sure-span c.args.base c.args.len (omega (arith, c.if-len-eq1.true))

pub returns-else-len-eq1 : goal.returns-else-len-eq1
returns-else-len-eq1 c =
    rw (unsure-table c.args.base c.args.len (λ e. omega (arith, c.if-len-eq1.false, e))) (no_span c.args.base)
