-- The loop of `journal::owners::owner_of`: the bytes from there on are still to be added (`Summing`).
-- Assumes nothing.
use Rattle.journal.proofs.Naming.{Summing}
use Rattle.journal.proofs.owners.owner_of.Given as goal

abbrev pub invariant-loop-byte : goal.invariant-loop-byte
invariant-loop-byte l = Summing l.p l.sum l.byte-index
