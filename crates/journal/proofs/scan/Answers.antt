-- `journal::scan`: a journal has a length that no chip has, or what `walk` finds in what `content` keeps is found in it.
-- Assumes nothing.
use Rattle.std.proofs.Common.{ℕ, ◌+◌, take, sym, refl, ◌∙◌, subst, arith, length-take-le}
use Rattle.journal.specs.Format.{format_of}
use Rattle.journal.specs.Scanned.{scanned_of, values_of}
use Rattle.journal.specs.Answer.{facts_in}
use Rattle.journal.specs.Parts.{WalkIs}
use Rattle.journal.proofs.Walking.{blank}
use Rattle.journal.proofs.Paging.{chip-length}
use Rattle.journal.proofs.Fixed.{scan-is}
use Rattle.journal.proofs.Joining.{joined}
use Rattle.journal.proofs.scan.Goals as goal

pub returns-then-not-is_length : goal.returns-then-not-is_length
returns-then-not-is_length c = scan-is _ _ _ _ (sym c.is_length.ensures ∙ c.if-not-is_length.true, blank 256 refl)

pub walk-requires : goal.walk-requires
walk-requires c =
    let t = c.content-t in
    let n = length-take-le t.result c.args.journal.now t.ensures.most in
    let h = chip-length _ _ (sym c.is_length.ensures ∙ c.if-not-is_length.false) in
    (omega (arith, n, t.ensures.most, h.most), omega (arith, c.ranges.highest), h.some, h.few)

pub returns : goal.returns
returns c =
    let r = c.walk.result in
    let w = subst (λ (kind : ℕ). WalkIs (facts_in (format_of c.args.page kind c.args.owner) (c.args.highest + 1) c.args.table.now) (take c.content-t.result c.args.journal.now) (scanned_of r) (values_of r))
    c.kind_of.ensures c.walk.ensures in
    scan-is _ _ (scanned_of r) (values_of r)
    (joined _ (scanned_of r) (values_of r) (sym c.is_length.ensures ∙ c.if-not-is_length.false) c.content-t.ensures w)
