-- `journal::writing::image_byte`: the byte is one of a record, or one of the commit, or filling.
-- Assumes nothing.
use Rattle.std.proofs.Common.{arith}
use Rattle.journal.specs.Format.{format_of, kind_number}
use Rattle.journal.proofs.Written.{image-record, image-commit, image-past}
use Rattle.journal.proofs.writing.image_byte.Goals as goal

pub returns-then-records-mark_size : goal.returns-then-records-mark_size
returns-then-records-mark_size c page owner =
    image-past (format_of page (kind_number c.args.kind) owner) c.args.s.words c.args.values.now c.args.c c.args.k c.count.ensures
    (omega (arith, c.mark_size.ensures, c.if-records-mark_size.true))

pub returns-then-records-k : goal.returns-then-records-k
returns-then-records-k c page owner =
    image-commit (format_of page (kind_number c.args.kind) owner) c.args.s.words c.args.values.now c.args.c c.count.result c.args.k c.commit_byte.result
    c.count.ensures c.if-records-k.true (omega (arith, c.mark_size.ensures, c.if-records-mark_size.false)) (c.commit_byte.ensures page owner)

pub returns : goal.returns
returns c page owner =
    image-record (format_of page (kind_number c.args.kind) owner) c.args.s.words c.args.values.now c.args.c c.count.result c.args.k c.record_byte.result
    c.count.ensures c.nth-cell.result c.if-records-k.false c.nth-cell.ensures c.record_byte.ensures
