-- `program::rules::refuse_at` meets its contract: each return is the rule's case for the tests that led there.
-- Assumes nothing.
use Rattle.std.proofs.Common.{arith, refl}
use borrow.Author.Tests.{lt-ltb, le-ltb, ne_eqb}
use Rattle.instruction.specs.Bytes.{byte}
use Rattle.instruction.proofs.Lengths.{length_most}
use Rattle.program.proofs.Reading.{judged}
use Rattle.program.proofs.rules.refuse_at.Goals as goal

pub returns-then-len-eq0 : goal.returns-then-len-eq0
returns-then-len-eq0 c = rw (judged c.args.p.now c.args.at c.requires.1 refl refl refl refl, c.if-len-eq0.true)

pub overflow_add-at : goal.overflow_add-at
overflow_add-at c = omega (arith, c.requires.1, length_most (byte c.args.p.now c.args.at), c.well_formed.0)

pub returns-then-p-at : goal.returns-then-p-at
returns-then-p-at c =
    rw (judged c.args.p.now c.args.at c.requires.1 refl refl refl refl, ne_eqb _ _ c.if-len-eq0.false, lt-ltb _ _ c.if-p-at.true)

pub returns-then-not-cells_exist : goal.returns-then-not-cells_exist
returns-then-not-cells_exist c =
    rw (
      judged c.args.p.now c.args.at c.requires.1 c.byte_at.ensures c.instruction_at-i.ensures c.cells_exist.ensures refl,
      ne_eqb _ _ c.if-len-eq0.false,
      le-ltb _ _ c.if-p-at.false,
      c.if-not-cells_exist.true,
    )

pub returns-then-not-table_fits : goal.returns-then-not-table_fits
returns-then-not-table_fits c =
    rw (
      judged c.args.p.now c.args.at c.requires.1 c.byte_at.ensures c.instruction_at-i.ensures c.cells_exist.ensures c.table_fits.ensures,
      ne_eqb _ _ c.if-len-eq0.false,
      le-ltb _ _ c.if-p-at.false,
      c.if-not-cells_exist.false,
      c.if-not-table_fits.true,
    )

pub returns : goal.returns
returns c =
    rw (
      judged c.args.p.now c.args.at c.requires.1 c.byte_at.ensures c.instruction_at-i.ensures c.cells_exist.ensures c.table_fits.ensures,
      ne_eqb _ _ c.if-len-eq0.false,
      le-ltb _ _ c.if-p-at.false,
      c.if-not-cells_exist.false,
      c.if-not-table_fits.false,
    )
