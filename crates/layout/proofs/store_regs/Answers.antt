-- `store32` puts each of the eight numbers behind the one before it.
-- Assumes nothing.
use Rattle.layout.proofs.Turning.{regs-stored}
use Rattle.layout.proofs.store_regs.Goals as goal

pub returns : goal.returns
returns c =
    regs-stored c.args.r _ c.store32.ensures c.store32-2.ensures c.store32-3.ensures c.store32-4.ensures
    c.store32-5.ensures c.store32-6.ensures c.store32-7.ensures c.store32-8.ensures
