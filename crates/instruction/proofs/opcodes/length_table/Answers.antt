-- One test over the whole table, which antt computes.
use Rattle.instruction.proofs.Lengths.{entries-right}
use Rattle.instruction.proofs.opcodes.length_table.Goals as goal

pub returns : goal.returns
returns c = entries-right
