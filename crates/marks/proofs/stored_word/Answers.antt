-- `marks::stored_word` meets its contract: each turn puts eight bits below those that are made.
-- Assumes nothing.
use Rattle.std.proofs.Common.{arith}
use Rattle.marks.proofs.Making.{filled-first, filled-turn, filled-room, filled-done}
use Rattle.marks.proofs.stored_word.Goals as goal

pub loop-eight-init : goal.loop-eight-init
loop-eight-init c = filled-first _ _

pub overflow_mul-w : goal.overflow_mul-w
overflow_mul-w c = omega (arith, filled-room c.loop-eight.invariant c.loop-eight-test.true c.stored_eight.ensures)

pub overflow_add-w : goal.overflow_add-w
overflow_add-w c = omega (arith, filled-room c.loop-eight.invariant c.loop-eight-test.true c.stored_eight.ensures)

pub loop-eight-preserved : goal.loop-eight-preserved
loop-eight-preserved c = filled-turn c.loop-eight.invariant c.loop-eight-test.true c.stored_eight.ensures

pub returns : goal.returns
returns c = filled-done c.loop-eight.invariant c.loop-eight-test.false
