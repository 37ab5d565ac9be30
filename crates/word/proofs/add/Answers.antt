-- The wrapped sum of the patterns is the pattern of the values' sum, by `add-law`.
use Rattle.std.proofs.Common.{arith}
use Rattle.word.proofs.Laws.{add-law}
use Rattle.word.proofs.add.Goals as goal

pub returns : goal.returns
returns c = omega (arith, add-law c.args.a c.args.b c.ranges.a.fits c.ranges.b.fits)
