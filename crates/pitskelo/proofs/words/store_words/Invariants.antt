-- As many words as there were turns stand in the buffer.
-- Assumes nothing.
use Rattle.pitskelo.specs.Storing.{Stored}
use Rattle.pitskelo.proofs.words.store_words.Given as goal

abbrev pub invariant-loop-k : goal.invariant-loop-k
invariant-loop-k l = Stored l.fn.bytes l.words l.k l.bytes
