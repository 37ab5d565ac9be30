-- `program::conclude` meets its contract: each return is the rule's case for the tests that led there.
-- Assumes nothing.
use Rattle.std.proofs.Common.{refl}
use borrow.Author.Tests.{lt-ltb, le-ltb}
use Rattle.program.proofs.Deciding.{decided, noted-most, noted-starts}
use Rattle.program.proofs.conclude.Goals as goal
use Rattle.program.proofs.conclude.Goals.{then-found-gt512-via-then-found-gt512, then-found-gt512-via-else-found-gt512+then-found-gt64}

pub returns-then-found-gt512 : goal.returns-then-found-gt512
returns-then-found-gt512 c =
    elim c.then-found-gt512.branch [
      | then-found-gt512-via-then-found-gt512 w ↦
          rw (decided c.args.p.now c.requires.0 c.requires.1 c.requires.2.is refl refl refl, lt-ltb _ _ w.if-found-gt512.true)
      | then-found-gt512-via-else-found-gt512+then-found-gt64 w ↦
          rw (
            decided c.args.p.now c.requires.0 c.requires.1 c.requires.2.is refl refl refl,
            le-ltb _ _ w.if-found-gt512.false,
            lt-ltb _ _ w.if-found-gt64.true,
          )
    ]

pub returns-then-not-is_closing : goal.returns-then-not-is_closing
returns-then-not-is_closing c =
    rw (
      decided c.args.p.now c.requires.0 c.requires.1 c.requires.2.is c.is_closing.ensures refl refl,
      le-ltb _ _ c.if-found-gt512.false,
      le-ltb _ _ c.if-found-gt64.false,
      c.if-not-is_closing.true,
    )

pub all_start-requires : goal.all_start-requires
all_start-requires c = noted-most c.args.p.now c.args.table.now c.args.targets.now.offsets c.requires.2

pub returns-then-not-all_start : goal.returns-then-not-all_start
returns-then-not-all_start c =
    rw (
      decided c.args.p.now c.requires.0 c.requires.1 c.requires.2.is c.is_closing.ensures (noted-starts c.args.p.now c.args.table.now c.args.targets.now.offsets c.requires.2 c.requires.0 c.if-found-gt64.false c.all_start.ensures) refl,
      le-ltb _ _ c.if-found-gt512.false,
      le-ltb _ _ c.if-found-gt64.false,
      c.if-not-is_closing.false,
      c.if-not-all_start.true,
    )

pub returns : goal.returns
returns c =
    rw (
      decided c.args.p.now c.requires.0 c.requires.1 c.requires.2.is c.is_closing.ensures (noted-starts c.args.p.now c.args.table.now c.args.targets.now.offsets c.requires.2 c.requires.0 c.if-found-gt64.false c.all_start.ensures) c.byte_at.ensures,
      le-ltb _ _ c.if-found-gt512.false,
      le-ltb _ _ c.if-found-gt64.false,
      c.if-not-is_closing.false,
      c.if-not-all_start.false,
    )
