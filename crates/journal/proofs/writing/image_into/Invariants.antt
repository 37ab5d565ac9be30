-- The loop of `journal::writing::image_into`: the text of the cells passed stands in the buffer, and the others' records and the commit are to follow (`Filling`).
-- Assumes nothing.
use Rattle.std.proofs.Common.{ℕ}
use Rattle.journal.specs.Format.{format_of, kind_number}
use Rattle.journal.proofs.Filling.{Filling}
use Rattle.journal.proofs.writing.image_into.Given as goal

abbrev pub invariant-loop-cell : goal.invariant-loop-cell
invariant-loop-cell l = (owner : ℕ) → Filling (format_of l.page (kind_number l.kind) owner) l.words l.values l.c l.initial.buffer l.buffer l.at l.cell
