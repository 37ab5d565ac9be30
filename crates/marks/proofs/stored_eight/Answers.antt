-- `marks::stored_eight` meets its contract: four bits stand above four.
-- Assumes nothing.
use Rattle.marks.specs.Marks.{to_store}
use Rattle.marks.proofs.Making.{made-join}
use Rattle.marks.proofs.stored_eight.Goals as goal

pub returns : goal.returns
returns c =
    made-join (to_store 256 c.args.marks.now) c.args.c 4 4 c.stored_four.ensures c.stored_four-2.ensures
