-- `journal::fields::owner_at`: no bytes are the number 0.
-- Assumes nothing.
use Rattle.word.specs.Bytes.{load_of}
use Rattle.journal.proofs.fields.owner_at.Goals as goal

pub returns-in-A2 : goal.returns-in-A2
unfolding load_of
returns-in-A2 c = rw c.in-A2.is
