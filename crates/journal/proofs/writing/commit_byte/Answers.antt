-- `journal::writing::commit_byte`: the tag, the bytes of each field, and the last byte.
-- Assumes nothing.
use Rattle.std.proofs.Common.{arith}
use Rattle.journal.specs.Format.{format_of, kind_number}
use Rattle.journal.proofs.Images.{commit-lead, commit-place, commit-exclude, commit-readings, commit-outputs, commit-owner, commit-last, commit-past}
use Rattle.journal.proofs.writing.commit_byte.Goals as goal

pub returns-then-k-eq0 : goal.returns-then-k-eq0
returns-then-k-eq0 c page owner = rw c.lead.ensures (commit-lead (format_of page (kind_number c.args.kind) owner) c.args.c c.args.k c.if-k-eq0.true)

pub returns-then-k-lt3 : goal.returns-then-k-lt3
returns-then-k-lt3 c page owner =
    commit-place (format_of page (kind_number c.args.kind) owner) c.args.c c.args.k c.byte.result c.if-k-eq0.false c.if-k-lt3.true c.byte.ensures

pub returns-then-k-lt5 : goal.returns-then-k-lt5
returns-then-k-lt5 c page owner =
    commit-exclude (format_of page (kind_number c.args.kind) owner) c.args.c c.args.k c.byte-then-k-lt5.result c.if-k-lt3.false c.if-k-lt5.true c.byte-then-k-lt5.ensures

pub returns-then-k-lt9 : goal.returns-then-k-lt9
returns-then-k-lt9 c page owner =
    commit-readings (format_of page (kind_number c.args.kind) owner) c.args.c c.args.k c.byte-then-k-lt9.result c.if-k-lt5.false c.if-k-lt9.true c.byte-then-k-lt9.ensures

pub returns-then-k-lt13 : goal.returns-then-k-lt13
returns-then-k-lt13 c page owner =
    commit-outputs (format_of page (kind_number c.args.kind) owner) c.args.c c.args.k c.byte-then-k-lt13.result c.if-k-lt9.false c.if-k-lt13.true c.byte-then-k-lt13.ensures

pub returns-then-k-owner_width : goal.returns-then-k-owner_width
returns-then-k-owner_width c page owner =
    commit-owner (format_of page (kind_number c.args.kind) owner) c.args.c c.args.k c.byte-then-k-owner_width.result c.if-k-lt13.false
    (omega (arith, c.owner_width.ensures, c.if-k-owner_width.true)) c.byte-then-k-owner_width.ensures

pub returns-then-k-owner_width-2 : goal.returns-then-k-owner_width-2
returns-then-k-owner_width-2 c page owner =
    commit-last (format_of page (kind_number c.args.kind) owner) c.args.c c.args.k (omega (arith, c.owner_width-2.ensures, c.if-k-owner_width-2.true))

pub returns : goal.returns
returns c page owner =
    commit-past (format_of page (kind_number c.args.kind) owner) c.args.c c.args.k (omega (arith, c.owner_width.ensures, c.if-k-owner_width.false))
    (λ e. c.if-k-owner_width-2.false (omega (arith, c.owner_width-2.ensures, e)))
