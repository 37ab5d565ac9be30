-- The wrapped difference of the patterns is the pattern of the values' difference, by `sub-law`.
use Rattle.std.proofs.Common.{arith}
use Rattle.word.proofs.Laws.{sub-law}
use Rattle.word.proofs.sub.Goals as goal

pub returns : goal.returns
returns c = omega (arith, sub-law c.args.a c.args.b c.ranges.a.fits c.ranges.b.fits)
