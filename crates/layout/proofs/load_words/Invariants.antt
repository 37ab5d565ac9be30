-- As many words as there were turns stand in front.
-- Assumes nothing.
use Rattle.std.proofs.Common.{◌≡◌, take}
use Rattle.layout.specs.Numbers.{numbers_from}
use Rattle.layout.proofs.load_words.Given as goal

abbrev pub invariant-loop-k : goal.invariant-loop-k
invariant-loop-k l = take l.k l.word-items ≡ numbers_from 8 l.k l.bytes 0
