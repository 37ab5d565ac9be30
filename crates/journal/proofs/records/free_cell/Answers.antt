-- `journal::records::free_cell`: some cell below n is without the stamp, or all have it.
-- Assumes nothing.
use Rattle.std.proofs.Common.{◌≡◌, take, arith, rules}
use Rattle.std.proofs.lemmas.Iterator.{YieldsList-from_slice, cases_from_any}
use borrow.Author.Tests.{tests}
use Rattle.journal.proofs.Passing.{free-any}
use Rattle.journal.proofs.records.free_cell.Goals as goal

pub returns : goal.returns
returns c =
    free-any c.args.n c.args.stamp c.args.seen.now c.any.result (omega (arith, c.told-seen, c.requires))
    (cases_from_any _ _ _ (λ x. ¬ (x ≡ c.args.stamp)) (λ x. x ≡ c.args.stamp) c.any.ensures.ran (YieldsList-from_slice (take c.args.n c.args.seen.now) cc)
    (λ x q k. search (rules, tests)) (λ x q k. search (rules, tests)))
