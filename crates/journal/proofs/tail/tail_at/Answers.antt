-- `journal::tail::tail_at`: each return is that of the first byte and of the tests behind it.
-- Assumes nothing.
use Rattle.std.proofs.Common.{sym, ◌∙◌, arith, rules}
use Rattle.journal.specs.Format.{format_of, kind_number}
use Rattle.journal.proofs.Tails.{no_place, none-cut, other-bad, commit-bad, commit-cut, commit-whole, record-bad, record-cut}
use Rattle.journal.proofs.tail.tail_at.Goals as goal
use Rattle.journal.proofs.tail.tail_at.Goals.{else-l-i-4-via-then-l-i-4+then-some_offset-2+else-cell_begins, else-l-i-4-via-then-l-i-4+else-some_offset-2, else-l-i-4-via-else-l-i-4}

pub returns-then-some_offset : goal.returns-then-some_offset
returns-then-some_offset c page owner rs o s =
    none-cut c.args.l.now c.args.i c.some_offset.result c.if-l-i.true (c.some_offset.ensures (format_of page (kind_number c.args.kind) owner) c.args.n) c.if-some_offset.true (search rules) (search rules) o

pub returns-else-some_offset : goal.returns-else-some_offset
returns-else-some_offset c page owner rs o s = no_place c.some_offset.result (c.some_offset.ensures (format_of page (kind_number c.args.kind) owner) c.args.n) c.if-some_offset.false

pub returns-then-not-fields_begin : goal.returns-then-not-fields_begin
returns-then-not-fields_begin c page owner rs o s =
    let f = c.fields_begin in
    commit-bad c.args.l.now c.args.i f.result c.if-l-i.false (c.if-l-i-2.true ∙ c.lead.ensures) (f.ensures (format_of page (kind_number c.args.kind) owner) c.args.n (sym c.owner_width.ensures)) c.if-not-fields_begin.true

pub returns-then-l-i-3 : goal.returns-then-l-i-3
returns-then-l-i-3 c page owner rs o s =
    let f = c.fields_begin in
    commit-cut c.args.l.now c.args.i f.result c.if-l-i.false (c.if-l-i-2.true ∙ c.lead.ensures) (f.ensures (format_of page (kind_number c.args.kind) owner) c.args.n (sym c.owner_width.ensures)) c.if-not-fields_begin.false (omega (arith, c.mark_size.ensures)) o

pub returns-then-l-i-2 : goal.returns-then-l-i-2
returns-then-l-i-2 c page owner rs o s =
    let f = c.fields_begin in
    commit-whole c.args.l.now c.args.i f.result (c.if-l-i-2.true ∙ c.lead.ensures) (f.ensures (format_of page (kind_number c.args.kind) owner) c.args.n (sym c.owner_width.ensures)) c.if-not-fields_begin.false (omega (arith, c.mark_size.ensures))

pub returns-then-cell_begins : goal.returns-then-cell_begins
returns-then-cell_begins c page owner rs o s =
    let some = c.some_offset-then-l-i-4 in
    let cell = c.cell_begins in
    record-cut c.args.l.now c.args.i c.args.stamp c.args.seen.now some.result cell.result c.if-l-i.false c.if-l-i-4.true
    c.requires.2 (λ k. (c.type_inv.l k).fits) c.requires.3 (some.ensures (format_of page (kind_number c.args.kind) owner) c.args.n)
    c.if-some_offset-2.true (search rules) (search rules) cell.ensures c.if-cell_begins.true o s

pub returns-else-l-i-4 : goal.returns-else-l-i-4
returns-else-l-i-4 c page owner rs o s =
    elim c.else-l-i-4.branch [
      | else-l-i-4-via-then-l-i-4+then-some_offset-2+else-cell_begins w ↦
          record-bad c.args.l.now c.args.i c.args.stamp c.args.seen.now w.cell_begins.result c.if-l-i.false w.if-l-i-4.true c.requires.2
          w.cell_begins.ensures w.if-cell_begins.false s
      | else-l-i-4-via-then-l-i-4+else-some_offset-2 w ↦
          no_place w.some_offset-then-l-i-4.result (w.some_offset-then-l-i-4.ensures (format_of page (kind_number c.args.kind) owner) c.args.n) w.if-some_offset-2.false
      | else-l-i-4-via-else-l-i-4 w ↦ other-bad c.args.l.now c.args.i c.if-l-i.false (λ e. c.if-l-i-2.false (e ∙ sym c.lead.ensures)) w.if-l-i-4.false
    ]
