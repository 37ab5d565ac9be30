-- Each arm gives the m low bits, where m of the word's 64 cells lie below n.
use Rattle.std.proofs.Common.{ℕ, ◌-◌, ap, ◌∙◌, arith}
use Rattle.cellset.specs.Bits.{bit}
use Rattle.cellset.proofs.Words.{shifted, low_bits}
use Rattle.cellset.proofs.low_part.Goals as goal

pub returns-then-n-first : goal.returns-then-n-first
returns-then-n-first c = λ k l. low_bits 0 c.args.n c.args.first k (omega arith) l

pub returns-then-n-first-ge64 : goal.returns-then-n-first-ge64
returns-then-n-first-ge64 c = λ k l. low_bits 64 c.args.n c.args.first k (omega arith) l

pub returns-else-n-first-ge64 : goal.returns-else-n-first-ge64
returns-else-n-first-ge64 c = λ k l.
    let m = c.args.n - c.args.first in
    ap (λ (x : ℕ). bit (x - 1) k) (shifted m c.if-n-first-ge64.false) ∙ low_bits m c.args.n c.args.first k (omega arith) l
