-- The cells below hi that are not below lo.
use Rattle.std.proofs.Common.{◌+◌, ◌-◌, ap₂, ◌∙◌, rules}
use Rattle.cellset.proofs.Bits.{bit-less, within-less}
use Rattle.cellset.proofs.part.Goals as goal

pub returns : goal.returns
returns c = λ k l.
    let a = c.args in
    bit-less 64 k _ _ (search rules) l ∙ ap₂ ◌-◌ (c.low_part.ensures k l) (c.low_part-2.ensures k l) ∙ within-less a.lo a.hi (a.first + k)
