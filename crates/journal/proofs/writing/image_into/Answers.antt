-- `journal::writing::image_into`: the records of the cells of the set, by rising cell number, then the commit and the filling.
-- Assumes nothing.
use Rattle.std.proofs.Common.{◌<◌, sym, ◌∙◌, arith}
use Rattle.journal.specs.Format.{format_of, kind_number}
use Rattle.journal.proofs.Naming.{kind-few}
use Rattle.journal.proofs.Filling.{filling-first, filling-in, filling-out, filling-done, part-filled}
use Rattle.journal.proofs.writing.image_into.Goals as goal
use Rattle.journal.proofs.writing.image_into.Goals.{then-is_in, else-is_in}

pub loop-cell-init : goal.loop-cell-init
loop-cell-init c owner = filling-first (format_of c.args.page (kind_number c.args.kind) owner) c.args.s.words c.args.values.now c.args.c c.args.buffer.now

pub record_into-requires : goal.record_into-requires
record_into-requires c = omega (arith, (c.loop-cell.invariant 0).most, c.loop-cell-test.true, c.requires.0)

pub overflow_add-at : goal.overflow_add-at
overflow_add-at c = omega (arith, (c.loop-cell.invariant 0).most, c.loop-cell-test.true, c.requires.0)

pub loop-cell-preserved : goal.loop-cell-preserved
loop-cell-preserved c owner =
    let below : c.loop-cell.cell < 256 = omega (arith, c.loop-cell-test.true, c.requires.0) in
    let f = c.loop-cell.invariant owner in
    elim c.if-is_in.branch [
      | then-is_in w ↦ filling-in f below (sym c.is_in.ensures ∙ w.if-is_in.true) (w.buffer-is ∙ w.record_into.ensures) w.at-is
      | else-is_in w ↦ filling-out f below (sym c.is_in.ensures ∙ w.if-is_in.false) w.buffer-is w.at-is
    ]

pub commit_into-requires : goal.commit_into-requires
commit_into-requires c = omega (arith, (c.loop-cell.invariant 0).most, (c.loop-cell.invariant 0).below)

pub overflow_add-end : goal.overflow_add-end
overflow_add-end c =
    omega (arith, c.mark_size.ensures, kind-few c.args.kind, (c.loop-cell.invariant 0).most, (c.loop-cell.invariant 0).below)

pub overflow_add-total : goal.overflow_add-total
overflow_add-total c =
    omega (arith, c.mark_size.ensures, kind-few c.args.kind, c.fill.ensures.1, c.requires.3, (c.loop-cell.invariant 0).most, (c.loop-cell.invariant 0).below)

pub slice_bounds-fill-end : goal.slice_bounds-fill-end
slice_bounds-fill-end c =
    omega (arith, c.mark_size.ensures, kind-few c.args.kind, c.fill.ensures.1, c.requires.3, (c.loop-cell.invariant 0).most, (c.loop-cell.invariant 0).below)

pub returns : goal.returns
returns c owner =
    rw c.mark_size.ensures
    (filling-done (c.loop-cell.invariant owner) c.loop-cell-test.false c.requires.1 (c.commit_into.ensures c.args.page owner) (rw c.mark_size.ensures at c.fill.ensures.0)
    (part-filled c.commit_into.new.buffer _ _ 0xFF (omega (arith, c.mark_size.ensures, kind-few c.args.kind, (c.loop-cell.invariant 0).most, (c.loop-cell.invariant 0).below)) (omega arith)
    (omega (arith, c.commit_into.array_long, kind-few c.args.kind, c.fill.ensures.1, c.requires.3, (c.loop-cell.invariant 0).most, (c.loop-cell.invariant 0).below))
    (rw c.mark_size.ensures at (c.fill-2.ensures.after (λ y e. e)))))
