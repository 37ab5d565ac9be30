-- The bytes that are copied are the marks.
-- Assumes nothing.
use Rattle.std.proofs.Common.{arith, ◌∙◌}
use Rattle.layout.proofs.Turning.{marks-loaded}
use Rattle.layout.proofs.load_marks.Goals as goal

pub returns : goal.returns
returns c = c.copy_from_slice.ensures.after ∙ marks-loaded _ (omega arith)
