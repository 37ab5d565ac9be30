-- `graph::enter` meets its contract: each turn makes the entries of one more instruction.
-- Assumes nothing.
use Rattle.std.proofs.Common.{arith}
use Rattle.graph.proofs.Entering.{few-of, entering-turn, entering-done}
use Rattle.graph.proofs.enter.Goals as goal

pub link-requires : goal.link-requires
link-requires c = let low = few-of _ c.requires.0 c.requires.1 in (omega arith, omega arith, omega arith)

pub mask-requires : goal.mask-requires
mask-requires c = let low = few-of _ c.requires.0 c.requires.1 in (omega arith, omega arith, omega arith)

pub loop-i-preserved : goal.loop-i-preserved
loop-i-preserved c =
    let low = few-of _ c.requires.0 c.requires.1 in
    entering-turn _ c.args.at.now _ _ _ _ _ _ _ _ _ (omega arith) (omega arith) (omega arith) (omega arith)
    (c.requires.2 c.loop-i.i (omega arith)) c.instruction_at-ins.ensures c.link.ensures.0 c.link.ensures.1
    c.mask.ensures.0 c.mask.ensures.1 c.loop-i.invariant

pub returns : goal.returns
returns c =
    entering-done _ c.args.at.now _ _ _ _ _ c.requires.0 c.requires.1 c.requires.2 c.requires.3 c.loop-i-test.false
    c.loop-i.invariant
