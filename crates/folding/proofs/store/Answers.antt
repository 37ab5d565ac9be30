-- The steps are one copy.
use Rattle.std.proofs.Common.{◌+◌, ◌-◌, arith}
use Rattle.folding.proofs.Storing.{steps_copied}
use Rattle.folding.proofs.store.Goals as goal

pub returns : goal.returns
returns c =
    let s = c.args in
    steps_copied s.save.now s.new.now c.copy_from_slice.new.self s.stored s.budget c.min.result (s.stored + c.min.result - s.stored) c.requires.0 c.requires.1 c.min.ensures
    (omega arith) c.copy_from_slice.ensures.after
