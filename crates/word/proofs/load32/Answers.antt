-- `load_of` of the bytes there, written out.
use Rattle.std.proofs.Common.{add_assoc, arith}
use Rattle.word.specs.Bytes.{load_of}
use Rattle.word.proofs.load32.Goals as goal

pub returns : goal.returns
unfolding load_of
returns c = simp add_assoc (omega arith)
