-- `|` is `max` at each bit.
use Rattle.std.proofs.Common.{max, rules}
use lib.Bits.{bit_or, or_lt}
use Rattle.cellset.proofs.Bits.{bit-or}
use Rattle.cellset.proofs.Words.{wordwise}
use Rattle.cellset.proofs.union.Goals as goal

pub returns : goal.returns
returns c =
    wordwise bit_or max (or_lt 64) (λ k u v _ _. bit-or u v k) c.args.a.words c.args.b.words (λ i. search rules) (λ i. search rules)
    c.zip_words.result.words c.zip_words.ensures.0 (λ i l. search (rules, c.zip_words.ensures.1 i l))
