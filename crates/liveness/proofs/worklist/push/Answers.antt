-- `liveness::worklist::push` meets its contract: it goes by the flag, and a number whose flag is unset has a place.
-- Assumes nothing.
use Rattle.std.proofs.Common.{rules}
use Rattle.liveness.proofs.Waiting.{room-left, push_kept, push-new}
use Rattle.liveness.proofs.worklist.push.Goals as goal

pub returns-then-flags-i : goal.returns-then-flags-i
returns-then-flags-i c = push_kept c.if-flags-i.true

pub offset_bounds-list-top : goal.offset_bounds-list-top
offset_bounds-list-top c = let place = room-left _ c.requires.0 c.requires.1 c.if-flags-i.false in search rules

pub bounds-list-top : goal.bounds-list-top
bounds-list-top c = room-left _ c.requires.0 c.requires.1 c.if-flags-i.false

pub overflow_add-result : goal.overflow_add-result
overflow_add-result c = let place = room-left _ c.requires.0 c.requires.1 c.if-flags-i.false in search rules

pub returns : goal.returns
returns c = push-new c.if-flags-i.false
