-- The array's entry is the length.
use Rattle.std.proofs.Common.{ℕ, ◌+◌, ap, rules}
use Rattle.instruction.proofs.Lengths.{entries-right}
use Rattle.execution.proofs.after.Goals as goal

pub returns : goal.returns
returns c = ap (λ (n : ℕ). c.args.at + n) (entries-right c.args.opcode (search rules))
