-- `journal::fields::some_offset`: the search finds one, or passes all.
-- Assumes nothing.
use Rattle.std.proofs.Common.{sym, ◌∙◌}
use Rattle.journal.specs.Format.{format_of}
use Rattle.journal.proofs.Offsets.{searched-first, searched-turn, searched-found, searched-done}
use Rattle.journal.proofs.fields.some_offset.Goals as goal

pub loop-t-init : goal.loop-t-init
loop-t-init c = searched-first _ _ _

pub returns-then-offset_is : goal.returns-then-offset_is
returns-then-offset_is c G n =
    searched-found G n c.args.table.now _ _ _ _ c.loop-t.invariant c.requires.0 c.loop-t-test.true
    (sym (c.offset_is.ensures (format_of 1 0 0) 0) ∙ c.if-offset_is.true)

pub loop-t-preserved : goal.loop-t-preserved
loop-t-preserved c = searched-turn _ _ _ _ c.loop-t.invariant (sym (c.offset_is.ensures (format_of 1 0 0) 0) ∙ c.if-offset_is.false)

pub returns : goal.returns
returns c G n = searched-done G n c.args.table.now _ _ _ _ c.loop-t.invariant c.loop-t-test.false
