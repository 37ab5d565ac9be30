-- `load32` gives each of the eight numbers.
-- Assumes nothing.
use Rattle.layout.proofs.Turning.{regs-loaded}
use Rattle.layout.proofs.load_regs.Goals as goal

pub returns : goal.returns
returns c =
    regs-loaded _ _ _ c.load32.ensures c.load32-2.ensures c.load32-3.ensures c.load32-4.ensures
    c.load32-5.ensures c.load32-6.ensures c.load32-7.ensures c.load32-8.ensures
