-- The walk's turns, for every way to read the chip.
use Rattle.std.proofs.Common.{arith}
use Rattle.journal.proofs.Naming.{kind-few}
use Rattle.notes.proofs.Finding.{ahead-first, ahead-found, ahead-record, ahead-mark, ahead-done}
use Rattle.notes.proofs.record_at.Goals as goal

pub loop-i-init : goal.loop-i-init
loop-i-init c owner saves rest b e = ahead-first _ _ saves rest b e

pub returns-then-i-at : goal.returns-then-i-at
returns-then-i-at c owner saves rest b e =
    ahead-found (c.loop-i.invariant owner saves rest b e) c.loop-i-test.true c.if-chip-i.true c.if-i-at.true c.byte_at.ensures

pub loop-i-preserved-then-chip-i : goal.loop-i-preserved-then-chip-i
loop-i-preserved-then-chip-i c owner saves rest b e =
    ahead-record (c.loop-i.invariant owner saves rest b e) c.loop-i-test.true c.if-chip-i.true c.if-i-at.false

pub fill-requires : goal.fill-requires
fill-requires c = omega (arith, c.requires.2)

pub overflow_add-i-else-chip-i : goal.overflow_add-i-else-chip-i
overflow_add-i-else-chip-i c = omega (arith, c.fill.ensures.1, c.mark_size.ensures, kind-few c.args.kind, c.requires)

pub loop-i-preserved : goal.loop-i-preserved
loop-i-preserved c owner saves rest b e =
    rw c.mark_size.ensures
    (ahead-mark c.requires.2 (c.loop-i.invariant owner saves rest b e) c.loop-i-test.true c.if-chip-i.false (rw c.mark_size.ensures at c.fill.ensures.0))

pub returns : goal.returns
returns c owner saves rest b e = ahead-done (c.loop-i.invariant owner saves rest b e) c.loop-i-test.false
