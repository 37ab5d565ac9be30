-- `run::run::due_opcode`: a byte to erase or to store, else the instruction.
-- Assumes nothing.
use Rattle.run.proofs.Turns.{due-erase, due-save, due-byte}
use Rattle.run.proofs.run.due_opcode.Goals as goal
use Rattle.run.proofs.run.due_opcode.Goals.{then-r-gt0-via-then-r-gt0, then-r-gt0-via-else-r-gt0+then-r-gt0-2}

pub returns-then-r-gt0 : goal.returns-then-r-gt0
returns-then-r-gt0 c xs ms l =
    elim c.then-r-gt0.branch [
      | then-r-gt0-via-then-r-gt0 w ↦ due-erase _ _ w.if-r-gt0.true xs ms l
      | then-r-gt0-via-else-r-gt0+then-r-gt0-2 w ↦ due-save _ _ w.if-r-gt0.false w.if-r-gt0-2.true xs ms l
    ]

pub returns : goal.returns
returns c = due-byte _ _ c.if-r-gt0.false c.if-r-gt0-2.false
