-- `marks::in_set` meets its contract: it tests the cell's bit.
-- Assumes nothing.
use Rattle.std.proofs.Common.{ℕ, ◌+◌, ◌/◌, ◌%◌, ◌^◌, get_or, nat_eq, ap}
use lib.Bits.{and_mask}
use Rattle.cellset.specs.Bits.{bit}
use Rattle.marks.proofs.in_set.Goals as goal

pub returns : goal.returns
unfolding bit
returns c =
    let a = c.args in
    ap (λ (n : ℕ). nat_eq n 1) (and_mask (get_or a.ws.now (a.at + a.c / 64) 0 / 2 ^ (a.c % 64)) 1)
