-- `marks::exclude` meets its contract: the closure computes the rule.
-- Assumes nothing.
use Rattle.std.proofs.Common.{rules}
use Rattle.marks.specs.Marks.{excluded_marks}
use Rattle.marks.proofs.exclude.Goals as goal

pub returns : goal.returns
unfolding excluded_marks
returns c = c.update.ensures _ (λ k m r h p. search rules)
