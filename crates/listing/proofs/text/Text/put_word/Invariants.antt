-- The word's first bytes are written.
-- Assumes nothing.
use Rattle.std.proofs.Common.{◌≡◌}
use Rattle.listing.proofs.Writing.{Spelling}
use Rattle.listing.proofs.text.Text.put_word.Given as goal

abbrev pub invariant-loop-byte : goal.invariant-loop-byte
invariant-loop-byte l =
    Spelling l.word l.fn.self.end l.fn.self.out.now l.self.out.now l.self.end l.byte-index
    × (l.self.out.ghost_name ≡ l.fn.self.out.ghost_name)
