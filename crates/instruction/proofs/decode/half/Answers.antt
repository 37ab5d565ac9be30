-- The number of two bytes, written out.
use Rattle.std.proofs.Common.{arith}
use Rattle.word.specs.Bytes.{number_of}
use Rattle.instruction.proofs.decode.half.Goals as goal

pub returns : goal.returns
unfolding number_of
returns c = omega arith
