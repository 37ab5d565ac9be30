-- `load_of` of the bytes there, written out.
use Rattle.std.proofs.Common.{arith}
use Rattle.word.specs.Bytes.{load_of}
use Rattle.word.proofs.load16.Goals as goal

pub returns : goal.returns
unfolding load_of
returns c = omega arith
