-- `& !` is `-` at each bit.
use Rattle.std.proofs.Common.{◌-◌, ◌^◌, rules}
use lib.Bits.{bit_and, and_lt}
use lib.Pow.{ones_sub-lt}
use Rattle.cellset.proofs.Bits.{bit-less}
use Rattle.cellset.proofs.Words.{wordwise}
use Rattle.cellset.proofs.difference.Goals as goal

pub returns : goal.returns
returns c =
    wordwise (λ u v. bit_and u ((2 ^ 64 - 1) - v)) ◌-◌ (λ u v h _. and_lt 64 u _ h (ones_sub-lt 64 v)) (bit-less 64) c.args.a.words c.args.b.words (λ i. search rules) (λ i. search rules)
    c.zip_words.result.words c.zip_words.ensures.0 (λ i l. search (rules, c.zip_words.ensures.1 i l))
