-- All Include, or the marks by the words of the last EXCLUDE.
use Rattle.std.proofs.Common.{rules, arith}
use Rattle.step.proofs.Fetching.{exclude-words, exclude-number, exclude-read}
use Rattle.recovery.proofs.Recovering.{stands, marks-none, marks-some}
use Rattle.recovery.proofs.marks_by.Goals as goal

pub unwrap-number-requires : goal.unwrap-number-requires
unwrap-number-requires c = rw (exclude-number c.requires.0 _ _ (stands _ _ c.requires.1 c.if-x-ne0.true) c.place_at.ensures) (search rules)

pub recover-requires : goal.recover-requires
recover-requires c =
    let x = stands _ _ c.requires.1 c.if-x-ne0.true in
    let n = exclude-read c.requires.0 _ x c.place_at.ensures c.unwrap-number.ensures c.from.ensures in
    (search rules, omega (arith, n, exclude-words c.requires.0 _ x))

pub returns-then-x-ne0 : goal.returns-then-x-ne0
returns-then-x-ne0 c =
    let z = c.if-x-ne0.true in
    let x = stands _ _ c.requires.1 z in
    let n = exclude-read c.requires.0 _ x c.place_at.ensures c.unwrap-number.ensures c.from.ensures in
    marks-some _ _ _ z n c.byte_at.ensures c.recover.ensures

pub returns-else-x-ne0 : goal.returns-else-x-ne0
returns-else-x-ne0 c = marks-none _ _ _ c.if-x-ne0.false
