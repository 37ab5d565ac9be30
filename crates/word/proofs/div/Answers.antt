-- Through the machine's bits, by `div-law`.
use Rattle.std.proofs.Common.{rules}
use Rattle.word.proofs.Laws.{div-law}
use Rattle.word.proofs.div.Goals as goal

pub returns : goal.returns
returns c = search (rules, div-law c.args.a c.args.b c.ranges.a.fits c.ranges.b.fits c.cast_signed.ensures c.cast_signed-2.ensures c.wrapping_div.ensures c.cast_unsigned.ensures)
