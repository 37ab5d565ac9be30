-- `journal::fields::offset_begins`: no byte of the offset is there, or the low one, or both.
-- Assumes nothing.
use Rattle.journal.specs.Answer.{facts_in}
use Rattle.journal.proofs.Offsets.{offset-nothing, offset-low, offset-whole}
use Rattle.journal.proofs.fields.offset_begins.Goals as goal

pub returns-then-l-i : goal.returns-then-l-i
returns-then-l-i c G n =
    let s = c.args in
    offset-nothing (facts_in G n s.table.now) s.excludes s.l.now s.i c.some_offset.result c.if-l-i.true (c.some_offset.ensures G n)

pub returns-then-l-i-2 : goal.returns-then-l-i-2
returns-then-l-i-2 c G n =
    let s = c.args in
    offset-low (facts_in G n s.table.now) s.excludes s.l.now s.i c.some_offset-then-l-i-2.result
    c.if-l-i.false c.if-l-i-2.true (c.some_offset-then-l-i-2.ensures G n)

pub returns : goal.returns
returns c G n =
    let s = c.args in
    offset-whole (facts_in G n s.table.now) s.excludes s.l.now s.i c.offset_is.result
    (λ k. (c.type_inv.l k).fits) c.if-l-i-2.false c.load16.ensures (c.offset_is.ensures G n)
