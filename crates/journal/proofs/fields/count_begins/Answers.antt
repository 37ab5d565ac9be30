-- `journal::fields::count_begins`: the four bytes make the count, or the largest one that those at hand begin.
-- Assumes nothing.
use Rattle.journal.proofs.Numbers.{count-whole, count-decides}
use Rattle.journal.proofs.fields.count_begins.Goals as goal

pub returns-then-i-l : goal.returns-then-i-l
returns-then-i-l c =
    let s = c.args in
    count-whole s.l.now s.i s.least (λ k. (c.type_inv.l k).fits) c.if-i-l.true c.load32.ensures

pub returns : goal.returns
returns c =
    let s = c.args in
    count-decides s.l.now s.i s.least c.from_bytes.result
    (λ k. (c.type_inv.l k).fits) c.byte_at-b0.ensures
    c.byte_at-b1.ensures c.byte_at-b2.ensures c.byte_at-b3.ensures c.from_bytes.ensures
