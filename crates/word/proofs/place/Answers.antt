-- `place-pos` below half, `place-neg` from half on.
use Rattle.std.proofs.Common.{arith}
use Rattle.word.proofs.Laws.{place-pos, place-neg}
use Rattle.word.proofs.place.Goals as goal

pub returns-then-i-lt-HALF : goal.returns-then-i-lt-HALF
returns-then-i-lt-HALF c = omega (arith, place-pos c.args.i c.args.len (omega arith))

pub returns-else-i-lt-HALF : goal.returns-else-i-lt-HALF
returns-else-i-lt-HALF c = omega (arith, place-neg c.args.i c.args.len (omega arith) c.ranges.i.fits)
