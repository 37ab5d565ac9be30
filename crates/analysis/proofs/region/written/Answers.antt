-- `analysis::region::written` meets its contract: only PUT may write what it need not.
-- Assumes nothing.
use Rattle.std.proofs.Common.{rules}
use Rattle.analysis.proofs.Looping.{written-plain}
use Rattle.analysis.proofs.region.written.Goals as goal

pub returns : goal.returns
returns c =
    written-plain c.args.p.now c.args.o c.args.writes.now c.args.k (search rules) c.requires.1
    (λ i. (c.type_inv.writes i).fits) c.requires.2 c.load.ensures
