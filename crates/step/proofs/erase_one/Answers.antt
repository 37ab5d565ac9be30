-- `step::erase_one`: the page is written whole.
-- Assumes nothing.
use Rattle.std.proofs.Common.{arith, replicate, ◌∙◌, ◌+◌, ◌-◌}
use Rattle.std.proofs.lemmas.List.{length-replicate}
use Rattle.step.proofs.Stepping.{erased, sets-put, length-part}
use Rattle.step.proofs.erase_one.Goals as goal

pub returns : goal.returns
returns c xs ms =
    let r = c.args.r in
    let n = length-part c.args.journal.now (r.write + (r.erase - r.page)) r.page (omega arith) in
    erased r xs ms c.args.journal.now
    (sets-put _ (replicate r.page 0xFF) _ _ (c.fill.ensures.after (λ y e. e) ∙ rw n) (length-replicate _ _ ∙ omega arith) (omega arith))
