-- `journal::records::cell_begins`: past the end any free cell is begun, elsewhere the one whose number stands there.
-- Assumes nothing.
use Rattle.std.proofs.Common.{sym, subst, le-ltb}
use Rattle.journal.specs.Parts.{Decides}
use Rattle.journal.proofs.Passing.{free-past, free-beyond, free-at}
use Rattle.journal.proofs.records.cell_begins.Goals as goal

pub returns-then-l-i : goal.returns-then-l-i
returns-then-l-i c = free-past _ _ c.args.seen.now c.args.l.now c.args.i c.free_cell.result c.if-l-i.true c.free_cell.ensures

pub returns-then-x-n : goal.returns-then-x-n
returns-then-x-n c = free-at _ _ c.args.seen.now c.args.l.now c.args.i c.if-l-i.false c.if-x-n.true

pub returns-else-x-n : goal.returns-else-x-n
returns-else-x-n c = subst (Decides _) (sym (le-ltb _ _ c.if-x-n.false)) (free-beyond _ _ c.args.seen.now c.args.l.now c.args.i c.if-l-i.false c.if-x-n.false)
