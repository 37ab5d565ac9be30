-- `journal::owners::kind_of`: 0 names no plan.
-- Assumes nothing.
use Rattle.journal.proofs.Naming.{kind-none, kind-some}
use Rattle.journal.proofs.owners.kind_of.Goals as goal

pub returns-then-owner-eq-UNOWNED : goal.returns-then-owner-eq-UNOWNED
returns-then-owner-eq-UNOWNED c = kind-none c.if-owner-eq-UNOWNED.true

pub returns-else-owner-eq-UNOWNED : goal.returns-else-owner-eq-UNOWNED
returns-else-owner-eq-UNOWNED c = kind-some c.if-owner-eq-UNOWNED.false
