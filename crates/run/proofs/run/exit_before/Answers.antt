-- `run::run::exit_before`: each exit in its order, and none where a step can be made.
-- Assumes nothing.
use Rattle.std.proofs.Common.{sym, ◌∙◌, length-take-le}
use Rattle.run.specs.Standing.{standing}
use Rattle.run.proofs.Turns.{exit-stopped, exit_spent, exit-starved, exit-full, open_at, open_none}
use Rattle.run.proofs.run.exit_before.Goals as goal
use Rattle.run.proofs.run.exit_before.Goals.{else-due-eq-READ-via-then-due-eq-READ+else-b-n, else-due-eq-READ-via-else-due-eq-READ}
use Rattle.run.proofs.run.exit_before.Goals.{else-due-eq-EMIT-via-then-due-eq-EMIT+else-b-room, else-due-eq-EMIT-via-else-due-eq-EMIT}

pub returns-then-stop-ne0 : goal.returns-then-stop-ne0
returns-then-stop-ne0 c xs ms l outs w = exit-stopped _ _ _ _ (standing c.args.b xs ms l outs) c.if-stop-ne0.true

pub returns-then-left-eq0 : goal.returns-then-left-eq0
returns-then-left-eq0 c xs ms l outs w = exit_spent _ _ _ _ (standing c.args.b xs ms l outs) c.if-stop-ne0.false c.if-left-eq0.true

pub returns-then-b-n : goal.returns-then-b-n
returns-then-b-n c xs ms l outs w =
    exit-starved _ _ _ _ (standing c.args.b xs ms l outs) c.if-stop-ne0.false c.if-left-eq0.false
    (sym (c.due_opcode-due.ensures xs ms l) ∙ c.if-due-eq-READ.true) c.if-b-n.true

pub returns-then-b-room : goal.returns-then-b-room
returns-then-b-room c xs ms l outs w =
    exit-full _ _ _ _ (standing c.args.b xs ms l outs) c.if-stop-ne0.false c.if-left-eq0.false
    (sym (c.due_opcode-due.ensures xs ms l) ∙ c.if-due-eq-EMIT.true) (length-take-le _ outs w ∙ c.if-b-room.true)

pub returns : goal.returns
returns c xs ms l outs w =
    open_none _ _ _ _ (standing c.args.b xs ms l outs)
    (open_at _ _ _ _ _ c.due_opcode-due.ensures c.if-stop-ne0.false
    (λ d t. elim c.else-due-eq-READ.branch [
      | else-due-eq-READ-via-then-due-eq-READ+else-b-n u ↦ u.if-b-n.false t
      | else-due-eq-READ-via-else-due-eq-READ u ↦ u.if-due-eq-READ.false d
    ])
    (λ d t. elim c.else-due-eq-EMIT.branch [
      | else-due-eq-EMIT-via-then-due-eq-EMIT+else-b-room u ↦ u.if-b-room.false t
      | else-due-eq-EMIT-via-else-due-eq-EMIT u ↦ u.if-due-eq-EMIT.false d
    ])
    xs ms l outs w) c.if-left-eq0.false
