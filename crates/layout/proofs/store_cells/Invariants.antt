-- The bytes of as many cells as there were turns are stored.
-- Assumes nothing.
use Rattle.std.proofs.Common.{◌≡◌, take}
use Rattle.std.proofs.lemmas.List.Edits.{sets}
use Rattle.layout.specs.Numbers.{bytes_of_all}
use Rattle.layout.proofs.store_cells.Given as goal

abbrev pub invariant-loop-k : goal.invariant-loop-k
invariant-loop-k l = l.bytes ≡ sets l.fn.bytes 0 (bytes_of_all 4 (take l.k l.cells))
