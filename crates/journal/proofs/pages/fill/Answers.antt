-- `journal::pages::fill`: nothing on a byte chip and behind whole pages, else the rest of the page.
-- Assumes nothing.
use Rattle.journal.proofs.Paging.{fill-byte, fill-full, fill-rest}
use Rattle.journal.proofs.pages.fill.Goals as goal

pub returns-then-page-eq1 : goal.returns-then-page-eq1
returns-then-page-eq1 c = fill-byte _ c.args.n c.if-page-eq1.true

pub returns-then-over-eq0 : goal.returns-then-over-eq0
returns-then-over-eq0 c = fill-full _ c.args.n c.requires c.if-over-eq0.true

pub returns : goal.returns
returns c = fill-rest _ c.args.n c.requires c.if-over-eq0.false
