-- A bit of the dead sets that `analyse` finds.
use Rattle.std.proofs.Common.{arith, refl, sym}
use Rattle.program.proofs.Accepted.{accepted}
use Rattle.notes.proofs.Telling.{dead-size, dead-told}
use Rattle.notes.proofs.is_dead.Goals as goal

pub overflow_mul-number_of : goal.overflow_mul-number_of
overflow_mul-number_of c = omega (arith, c.number_of.ensures.0, (accepted _ (sym c.requires.0.accepted)).few)

pub load-requires : goal.load-requires
load-requires c =
    omega (arith, c.number_of.ensures.0, (accepted _ (sym c.requires.0.accepted)).few, dead-size c.requires.0 refl refl c.analyse.ensures)

pub returns : goal.returns
returns c =
    dead-told c.requires.0 refl refl c.analyse.ensures c.number_of.ensures.0 c.number_of.ensures.1 (omega (arith, c.ranges.cell)) c.requires.2 c.load.ensures
    c.contains.ensures
