-- `journal::writing::commit_into`: the tag, the fields and the last byte stand one after the other.
-- Assumes nothing.
use Rattle.std.proofs.Common.{◌+◌, ap, arith}
use Rattle.journal.specs.Format.{format_of, kind_number}
use Rattle.journal.proofs.Filling.{commit-stored, ends-here, ends-owned}
use Rattle.journal.proofs.writing.commit_into.Goals as goal

pub returns-in-A2 : goal.returns-in-A2
returns-in-A2 c page owner =
    commit-stored (format_of page (kind_number c.args.kind) owner) c.args.buffer.now c.args.at c.args.c
    (rw c.lead.ensures at c.store16.ensures) c.store16-2.ensures c.store32.ensures c.store32-2.ensures
    (ends-here _ (c.args.at + 13) c.args.c.owner (ap kind_number c.in-A2.is))

pub returns-in-A3 : goal.returns-in-A3
returns-in-A3 c page owner =
    commit-stored (format_of page (kind_number c.args.kind) owner) c.args.buffer.now c.args.at c.args.c
    (rw c.lead.ensures at c.store16.ensures) c.store16-2.ensures c.store32.ensures c.store32-2.ensures
    (ends-owned _ (c.args.at + 13) (c.args.at + 17) c.args.c.owner (ap kind_number c.in-A3.is) (omega arith) c.store32-in-A3.ensures)
