-- `step::put_bytes`: the part of the journal is written from its front.
-- Assumes nothing.
use Rattle.std.proofs.Common.{arith}
use Rattle.journal.specs.Format.{format_of, kind_number}
use Rattle.step.proofs.Stepping.{putting-first, putting-turn, putting-done, put-page, length-part}
use Rattle.step.proofs.put_bytes.Goals as goal

pub loop-i-init : goal.loop-i-init
loop-i-init c page owner = putting-first _ _ _ _

pub loop-i-preserved : goal.loop-i-preserved
loop-i-preserved c page owner =
    let n = length-part c.args.journal.now c.args.to c.args.n (omega arith) in
    putting-turn (c.loop-i.invariant page owner) (omega arith) (c.image_byte.ensures page owner)

pub returns : goal.returns
returns c page owner h =
    let a = c.args in
    let n = length-part a.journal.now a.to a.n (omega arith) in
    put-page (format_of page (kind_number a.kind) owner) a.s.words a.cells.now a.commit a.to a.from a.n a.journal.now (putting-done (c.loop-i.invariant page owner) (omega arith)) (omega arith) h
