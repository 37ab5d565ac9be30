-- The numbers of the cells passed are written.
-- Assumes nothing.
use Rattle.std.proofs.Common.{◌≡◌}
use Rattle.cellset.specs.Bits.{has}
use Rattle.listing.proofs.Cells.{Counting}
use Rattle.listing.proofs.put_numbers.Given as goal

abbrev pub invariant-loop-c : goal.invariant-loop-c
invariant-loop-c l =
    Counting (has l.set.words) l.cells l.fn.text.end l.fn.text.out.now l.text.out.now l.text.end l.c
    × (l.text.out.ghost_name ≡ l.fn.text.out.ghost_name)
