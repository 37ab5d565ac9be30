-- `journal::pages::is_length`: each test that fails is a part of `chip_length`, and where none does the last one decides.
-- Assumes nothing.
use Rattle.std.proofs.Common.{◌≡◌, ◌<◌, ◌∙◌, arith, le-ltb}
use Rattle.std.proofs.lemmas.Bool.{lt-leb}
use Rattle.journal.proofs.Paging.{no-pages, large-pages, long-chip, chip-of-pages}
use Rattle.journal.proofs.pages.is_length.Goals as goal
use Rattle.journal.proofs.pages.is_length.Goals.{then-page-gt0, else-page-gt0, then-page-le16, else-page-le16}

pub returns-then-n-le-LONGEST : goal.returns-then-n-le-LONGEST
returns-then-n-le-LONGEST c =
    let h = c.if-n-le-LONGEST.true in
    chip-of-pages c.args.page c.args.n c.is_whole.result h.0 h.1 h.2 c.is_whole.ensures

pub returns-else-n-le-LONGEST : goal.returns-else-n-le-LONGEST
returns-else-n-le-LONGEST c =
    elim c.if-page-le16.branch [
      | then-page-le16 w ↦
          let h : 65536 < c.args.n = omega (arith, c.if-n-le-LONGEST.either, w.if-page-le16.true) in
          w.t-4-is ∙ lt-leb c.args.n 65536 h ∙ long-chip c.args.page c.args.n h
      | else-page-le16 w ↦
          elim c.if-page-gt0.branch [
            | then-page-gt0 v ↦
                let h : 16 < c.args.page = omega (arith, w.if-page-le16.either, v.if-page-gt0.true) in
                w.t-4-is ∙ v.t-5-is ∙ lt-leb c.args.page 16 h ∙ large-pages c.args.page c.args.n h
            | else-page-gt0 v ↦
                let h : c.args.page ≡ 0 = omega (arith, v.if-page-gt0.false) in
                w.t-4-is ∙ v.t-5-is ∙ le-ltb 0 c.args.page (omega (arith, h)) ∙ no-pages c.args.page c.args.n h
          ]
    ]
