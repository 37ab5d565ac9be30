-- `marks::word_below` meets its contract.
-- Assumes nothing.
use borrow.Author.Tests.{le-leb}
use Rattle.cellset.proofs.Bits.{bit-of-zero}
use Rattle.marks.proofs.word_below.Goals as goal

pub returns-then-n-first : goal.returns-then-n-first
returns-then-n-first c = λ k l. rw (le-leb _ _ c.if-n-first.true) (bit-of-zero k)
