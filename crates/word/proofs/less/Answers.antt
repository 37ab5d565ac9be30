-- Both operands are read back from the machine's bits, and the order is that of the definition.
use Rattle.std.proofs.Common.{to_z-of_z, arith}
use Rattle.word.specs.Word.{less_of}
use Rattle.word.proofs.less.Goals as goal

pub returns : goal.returns
unfolding less_of
returns c = grind (arith, to_z-of_z)
