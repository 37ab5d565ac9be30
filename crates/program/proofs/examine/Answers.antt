-- `program::examine` meets its contract: the table is as the check filled it, or cleared.
-- Assumes nothing.
use Rattle.std.proofs.Common.{sym, ◌∙◌}
use Rattle.program.proofs.Examining.{examined-by, refused-by}
use Rattle.program.proofs.examine.Goals as goal

pub returns-then-is_err : goal.returns-then-is_err
returns-then-is_err c = refused-by _ (sym c.is_err.ensures.value ∙ c.if-is_err.true) c.check_into-answer.ensures c.requires c.clear.ensures

pub returns-else-is_err : goal.returns-else-is_err
returns-else-is_err c = examined-by _ (sym c.is_err.ensures.value ∙ c.if-is_err.false) c.check_into-answer.ensures
