-- `marks::stored_four` meets its contract: each bit stands above those before it.
-- Assumes nothing.
use Rattle.std.proofs.Common.{◌+◌}
use Rattle.marks.specs.Marks.{to_store}
use Rattle.marks.proofs.Making.{made_one, made-join}
use Rattle.marks.proofs.stored_four.Goals as goal

pub returns : goal.returns
returns c =
    let a = c.args in
    let f = to_store 256 a.marks.now in
    made-join f a.c 3 1
    (made-join f a.c 2 1
    (made-join f a.c 1 1
    (made_one f a.c c.stored_bit.ensures)
    (made_one f (a.c + 1) c.stored_bit-2.ensures))
    (made_one f (a.c + 2) c.stored_bit-3.ensures))
    (made_one f (a.c + 3) c.stored_bit-4.ensures)
