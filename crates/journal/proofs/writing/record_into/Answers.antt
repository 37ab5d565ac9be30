-- `journal::writing::record_into`: the tag, the cell and the value stand one after the other.
-- Assumes nothing.
use Rattle.journal.proofs.Filling.{record-stored}
use Rattle.journal.proofs.writing.record_into.Goals as goal

pub returns : goal.returns
returns c = let s = c.args in record-stored s.buffer.now s.at s.cell s.value c.store32.ensures
