-- `number_of` of the four bytes, written out.
use Rattle.std.proofs.Common.{arith}
use Rattle.word.specs.Bytes.{number_of}
use Rattle.word.proofs.from_bytes.Goals as goal

pub returns : goal.returns
unfolding number_of
returns c = omega arith
