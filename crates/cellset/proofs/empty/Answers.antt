-- Four words without a bit.
use Rattle.std.proofs.Common.{ℕ}
use lib.Pow.{pow_pos}
use Rattle.cellset.proofs.Bits.{bit-of-zero}
use Rattle.cellset.proofs.Words.{Word, four-words}
use Rattle.cellset.proofs.empty.Goals as goal

-- a word of the empty set
none : (i : ℕ) → Word (λ c. 0) i 0
none i = record { fits = pow_pos 64; cells = λ k l. bit-of-zero k }

pub returns : goal.returns
returns c = four-words (none 0) (none 1) (none 2) (none 3)
