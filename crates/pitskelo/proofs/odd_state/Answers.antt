-- Each refusal in its order.
-- Assumes nothing.
use Rattle.pitskelo.proofs.OddStates.{plan-refused, words-short, state-odd}
use Rattle.pitskelo.proofs.odd_state.Goals as goal

pub returns-in-Err : goal.returns-in-Err
returns-in-Err c = plan-refused _ _ _ c.in-Err.ensures.is

pub returns-then-sets-lt512 : goal.returns-then-sets-lt512
returns-then-sets-lt512 c = words-short _ _ c.in-Ok.ensures.is c.if-sets-lt512.true

pub returns-else-sets-lt512 : goal.returns-else-sets-lt512
returns-else-sets-lt512 c = state-odd _ _ c.in-Ok.ensures.is c.if-sets-lt512.false
