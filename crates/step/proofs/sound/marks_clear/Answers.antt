-- `step::sound::marks_clear`: 256 marks have a sum that fits.
-- Assumes nothing.
use Rattle.std.proofs.Common.{rules, tests, arith}
use Rattle.std.proofs.lemmas.Iterator.{YieldsList-from_slice, YieldsList-from_map}
use Rattle.std.proofs.lemmas.Iterator.Consumers.{fits_by_from_yields_list}
use Rattle.step.proofs.Soundness.{sum-most}
use Rattle.step.proofs.sound.marks_clear.Goals as goal

pub sum-requires-clause-fits : goal.sum-requires-clause-fits
sum-requires-clause-fits c =
    fits_by_from_yields_list (λ x. x) c.args.marks.now c.map.result _
    (YieldsList-from_map _ (λ x. x) (YieldsList-from_slice c.args.marks.now cc) c.map.ensures.closure (λ x r q k. search (rules, tests)))
    (omega (arith, sum-most (λ x. x) 255 c.args.marks.now (λ k. omega (arith, c.type_inv.marks k))))
