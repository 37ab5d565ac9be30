-- `run::stretch::copy`: the part of the journal is written whole.
-- Assumes nothing.
use Rattle.std.proofs.Common.{arith, ◌≡◌, ◌+◌, ◌-◌, ◌∙◌, take, drop, length-drop, length-take-le}
use Rattle.step.proofs.Stepping.{sets-put}
use Rattle.run.proofs.stretch.copy.Goals as goal

pub returns : goal.returns
returns c =
    let a = c.args in
    let k : a.from + a.m - a.from ≡ a.m = omega arith in
    sets-put a.journal.now (take a.m (drop a.from a.buffer.now)) a.to (a.to + a.m - a.to) (c.copy_from_slice.ensures.after ∙ rw k)
    (length-take-le a.m (drop a.from a.buffer.now) (omega (arith, length-drop a.from a.buffer.now)) ∙ omega arith) (omega arith)
