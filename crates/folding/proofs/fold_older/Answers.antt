-- 12, or what is put on the new chip.
use Rattle.std.proofs.Common.{refl}
use Rattle.folding.proofs.Putting.{older-refused, older-found}
use Rattle.folding.proofs.fold_older.Goals as goal

pub returns-in-Err : goal.returns-in-Err
returns-in-Err c =
    let s = c.args in
    older-refused s.highest s.table.now s.old.now _ _ c.in-Err.ensures.scans s.owner s.new.now s.stored s.budget c.requires c.in-Err.field-0 refl

pub returns-in-Ok : goal.returns-in-Ok
returns-in-Ok c =
    let s = c.args in
    older-found s.highest s.table.now s.old.now _ _ c.in-Ok.ensures.scans s.owner s.new.now s.stored s.budget refl c.fold_found.ensures
