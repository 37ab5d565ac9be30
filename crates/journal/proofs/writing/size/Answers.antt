-- `journal::writing::size`: six bytes for each cell, 14 or 18 for the commit, and the filling.
-- Assumes nothing.
use Rattle.std.proofs.Common.{arith}
use Rattle.journal.specs.Format.{format_of, kind_number}
use Rattle.journal.proofs.Written.{stored-length}
use Rattle.journal.proofs.writing.size.Goals as goal

pub returns : goal.returns
returns c owner values d =
    stored-length (format_of c.args.page (kind_number c.args.kind) owner) c.args.s.words values d
    (omega (arith, c.mark_size.ensures, c.count.ensures)) c.fill.ensures.0
