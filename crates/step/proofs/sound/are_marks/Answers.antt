-- `step::sound::are_marks`: the sum counts the bytes that are no mark's.
-- Assumes nothing.
use Rattle.std.proofs.Common.{rules, tests, arith}
use Rattle.std.proofs.lemmas.Iterator.{YieldsList-from_slice, YieldsList-from_map}
use Rattle.std.proofs.lemmas.Iterator.Consumers.{sum_by_from_yields_List, fits_by_from_yields_list}
use Rattle.step.proofs.Soundness.{wrong_of, sum-most, marks-sum, wrong-most}
use Rattle.step.proofs.sound.are_marks.Goals as goal

pub sum-requires-clause-fits : goal.sum-requires-clause-fits
sum-requires-clause-fits c =
    fits_by_from_yields_list wrong_of c.args.marks.now c.map.result _
    (YieldsList-from_map _ wrong_of (YieldsList-from_slice c.args.marks.now cc) c.map.ensures.closure (λ x r q k. search (rules, tests)))
    (omega (arith, c.told-marks, sum-most wrong_of 1 c.args.marks.now (λ k. wrong-most _)))

pub returns : goal.returns
returns c =
    let s = sum_by_from_yields_List wrong_of c.args.marks.now c.map.result _ c.sum.ensures.ran
    (YieldsList-from_map _ wrong_of (YieldsList-from_slice c.args.marks.now cc) c.map.ensures.closure (λ x r q k. search (rules, tests))) in
    rw s (marks-sum c.args.marks.now c.told-marks)
