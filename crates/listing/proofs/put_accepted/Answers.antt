-- The header, then the lines.
-- Assumes nothing.
use Rattle.std.proofs.Common.{ap, ℕ, ◌+◌, arith}
use Rattle.listing.specs.Text.{bytes}
use Rattle.listing.proofs.Whole.{accepted-head, accepted-room, accepted-wrote}
use Rattle.listing.proofs.put_accepted.Goals as goal

pub put_head-requires : goal.put_head-requires
unfolding bytes
put_head-requires c = accepted-head _ _ c.byte_at.ensures c.requires.2

pub put_lines-requires : goal.put_lines-requires
unfolding bytes
put_lines-requires c = (
  c.requires.0,
  c.requires.1,
  ap (λ (n : ℕ). n + 1) c.byte_at.ensures,
  omega arith,
  accepted-room _ _ c.byte_at.ensures c.requires.2 c.put_head.ensures.wrote,
)

pub returns-clause-wrote : goal.returns-clause-wrote
unfolding bytes
returns-clause-wrote c = accepted-wrote _ _ c.byte_at.ensures c.requires.2 c.put_head.ensures.wrote c.put_lines.ensures.wrote
