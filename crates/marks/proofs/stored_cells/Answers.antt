-- `marks::stored_cells` meets its contract: `word_below` gives each of the four words, and what lies below n is kept of them.
-- Assumes nothing.
use Rattle.std.proofs.Common.{rules, arith}
use Rattle.cellset.proofs.Sets.{set-ext, set-intersection}
use Rattle.marks.proofs.Making.{made-set, made-near, near-cut}
use Rattle.marks.proofs.stored_cells.Goals as goal

pub returns : goal.returns
returns c =
    let a = c.args in
    let all = made-set _
    (made-near a.n a.marks.now 0 (omega arith) (search rules) c.word_below.ensures)
    (made-near a.n a.marks.now 64 (omega arith) (search rules) c.word_below-2.ensures)
    (made-near a.n a.marks.now 128 (omega arith) (search rules) c.word_below-3.ensures)
    (made-near a.n a.marks.now 192 (omega arith) (search rules) c.word_below-4.ensures) in
    set-ext (set-intersection all c.below.ensures c.intersection.ensures) (near-cut a.n a.marks.now)
