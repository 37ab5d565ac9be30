-- The bytes of as many numbers as there were turns are stored.
-- Assumes nothing.
use Rattle.std.proofs.Common.{◌≡◌, take, map}
use Rattle.std.proofs.lemmas.List.Edits.{sets}
use Rattle.word.specs.Word.{bits_of}
use Rattle.layout.specs.Numbers.{bytes_of_all}
use Rattle.layout.proofs.store_signed.Given as goal

abbrev pub invariant-loop-k : goal.invariant-loop-k
invariant-loop-k l = l.bytes ≡ sets l.fn.bytes l.at (bytes_of_all 4 (take l.k (map bits_of l.value-items)))
