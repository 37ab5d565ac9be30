-- `program::places::read_place` meets its contract: a byte below 4 is of no EXCLUDE.
-- Assumes nothing.
use Rattle.std.proofs.Common.{◌≡◌, ◌+◌, ◌-◌, ◌/◌, arith}
use Rattle.program.specs.Places.{exclude_here, read_place}
use Rattle.program.proofs.places.read_place.Goals as goal

pub returns-then-entry-lt4 : goal.returns-then-entry-lt4
unfolding read_place
returns-then-entry-lt4 c = let e : 0 ≡ exclude_here c.args.entry = omega (arith, c.if-entry-lt4.true) in rw e

pub returns-else-entry-lt4 : goal.returns-else-entry-lt4
unfolding read_place
returns-else-entry-lt4 c = let e : c.args.entry / 2 - 2 + 1 ≡ exclude_here c.args.entry = omega (arith, c.if-entry-lt4.false) in rw e
