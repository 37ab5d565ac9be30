-- `journal::content`: behind the last byte that is not FF, all are.
-- Assumes nothing.
use Rattle.std.proofs.Common.{rules}
use Rattle.std.proofs.iter.runs.Made.{chains}
use Rattle.journal.proofs.Trimming.{content-none, content-some}
use Rattle.journal.proofs.content.Goals as goal

pub returns-in-Some : goal.returns-in-Some
returns-in-Some c = content-some c.in-Some.last (search (rules, chains)) (search (rules, chains)) (search (rules, chains))

pub returns-in-None : goal.returns-in-None
returns-in-None c = content-none (search (rules, chains))
