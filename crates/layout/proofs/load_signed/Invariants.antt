-- As many numbers as there were turns stand in front.
-- Assumes nothing.
use Rattle.std.proofs.Common.{◌≡◌, take}
use Rattle.layout.specs.Numbers.{signed_from}
use Rattle.layout.proofs.load_signed.Given as goal

abbrev pub invariant-loop-k : goal.invariant-loop-k
invariant-loop-k l = take l.k l.value-items ≡ signed_from l.k l.bytes l.at
