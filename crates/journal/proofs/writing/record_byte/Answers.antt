-- `journal::writing::record_byte`: the tag, the cell, and the bytes of the value.
-- Assumes nothing.
use Rattle.journal.proofs.Images.{record-bytes, record-past}
use Rattle.journal.proofs.writing.record_byte.Goals as goal

pub returns-then-k-lt6 : goal.returns-then-k-lt6
returns-then-k-lt6 c =
    let s = c.args in
    record-bytes s.cell s.value s.k c.byte.result c.if-k-eq0.false c.if-k-eq1.false c.if-k-lt6.true c.byte.ensures

pub returns : goal.returns
returns c = let s = c.args in record-past s.cell s.value s.k c.if-k-lt6.false
