-- `step::exclude_all`: the table has the number of the EXCLUDE due.
-- Assumes nothing.
use Rattle.std.proofs.Common.{arith, rules}
use Rattle.step.proofs.Fetching.{ready-accepted, start-below, exclude-start, exclude-words, exclude-number, exclude-read}
use Rattle.step.proofs.Stepping.{excludes}
use Rattle.step.proofs.exclude_all.Goals as goal

pub unwrap-number-requires : goal.unwrap-number-requires
unwrap-number-requires c = rw (exclude-number c.requires.0 _ _ c.requires.1 c.place_at.ensures) (search rules)

pub exclude-requires : goal.exclude-requires
exclude-requires c =
    let n = exclude-read c.requires.0 _ c.requires.1 c.place_at.ensures c.unwrap-number.ensures c.from.ensures in
    (c.cell_count.ensures.1, omega (arith, n, exclude-words c.requires.0 _ c.requires.1))

pub after-requires : goal.after-requires
after-requires c =
    omega (arith, start-below _ _ (exclude-start _ _ c.requires.1).0, (ready-accepted c.requires.0).most)

pub returns : goal.returns
returns c v xs l =
    excludes _ _ v _ xs _ l (exclude-start _ _ c.requires.1).1 c.requires.2 c.after.ensures c.cell_count.ensures.0
    (exclude-read c.requires.0 _ c.requires.1 c.place_at.ensures c.unwrap-number.ensures c.from.ensures) c.exclude.ensures
