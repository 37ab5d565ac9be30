-- What is left is to skip as many bits of `rest` as turns are left.
use Rattle.std.proofs.Common.{◌-◌}
use Rattle.cellset.proofs.Ranks.{Sought}
use Rattle.cellset.proofs.nth_bit.Given as goal

abbrev pub invariant-loop : goal.invariant-loop
invariant-loop l = Sought l.fn.w l.k l.rest (l.k - l.counter)
