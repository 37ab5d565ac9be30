-- `run::stretch::store_some`: what is stored is the same run, from further on.
-- Assumes nothing.
use Rattle.std.proofs.Common.{arith, ◌≡◌, ◌∙◌, ℕ, ◌-◌, ◌*◌, ◌/◌, ◌≤◌, min, replicate}
use Rattle.std.proofs.lemmas.List.{length-replicate}
use Rattle.step.proofs.Facts.{sound-facts}
use Rattle.step.proofs.Stepping.{storing}
use Rattle.run.proofs.Stretching.{Stretch, stretch, pages-fit, least-pages, filled-length, marks-whole, marks-part, store_is}
use Rattle.run.proofs.stretch.store_some.Goals as goal
use Rattle.run.proofs.stretch.store_some.Goals.{After-make-total, then-from-m, else-from-m}

-- what is known once the checkpoint is made
facts : (c : After-make-total) → let a = c.args in Stretch a.p.now a.b.regs a.cells.now a.marks.now a.journal.now c.make-total.result
facts c =
    let a = c.args in
    let e = c.make-total.ensures in
    stretch a.p.now a.b.regs a.cells.now a.marks.now a.journal.now c.requires.0 c.requires.1 c.if-r-ne0.false c.if-r-eq0.false
    e.0 (e.1 a.journal.now).0

-- the pages that the budget allows are of the save
fitting : (c : After-make-total) {k n : ℕ}
    → let a = c.args in
    n ≡ (c.make-total.result - (a.b.regs.saving - 1)) / a.b.regs.page → k ≡ min n (a.budget - a.b.steps)
    → k * a.b.regs.page ≤ c.make-total.result - (a.b.regs.saving - 1)
fitting c {k} e h =
    let a = c.args in
    let rest = c.make-total.result - (a.b.regs.saving - 1) in
    let left = a.budget - a.b.steps in
    pages-fit k rest a.b.regs.page left (least-pages rest a.b.regs.page left e h)

pub count_pages-requires : goal.count_pages-requires
count_pages-requires c = (sound-facts c.requires.0.sound).paged.some

pub make-total-requires : goal.make-total-requires
make-total-requires c =
    let n = c.if-r-eq0.false in
    let f = storing _ _ c.requires.0 c.requires.1 (omega arith) in
    (f.place, f.exclude, f.at, f.some, f.few)

pub overflow_sub-total : goal.overflow_sub-total
overflow_sub-total c = omega (arith, (facts (goal.at.overflow_sub-total c).After-make-total).begun)

pub count_pages-requires-2 : goal.count_pages-requires-2
count_pages-requires-2 c = (facts (goal.at.count_pages-requires-2 c).After-make-total).page

pub overflow_mul-m : goal.overflow_mul-m
overflow_mul-m c =
    let t = (goal.at.overflow_mul-m c).After-make-total in
    omega (arith, (facts t).most, fitting t c.count_pages-2.ensures c.least-pages.ensures)

pub copy-requires : goal.copy-requires
copy-requires c =
    let a = c.args in
    let t = (goal.at.copy-requires c).After-make-total in
    let f = facts t in
    let e = fitting t c.count_pages-2.ensures c.least-pages.ensures in (
      omega (arith, f.room, e),
      omega (arith, f.begun, f.most, e),
      filled-length a.p.now a.b.regs a.cells.now a.marks.now a.journal.now (replicate 1584 0) (length-replicate {A = ℕ} 1584 0)
          (c.make-total.ensures.1 a.journal.now).1,
      f.small,
    )

pub overflow_add-from : goal.overflow_add-from
overflow_add-from c =
    let t = (goal.at.overflow_add-from c).After-make-total in
    let f = facts t in
    omega (arith, f.begun, f.most, fitting t c.count_pages-2.ensures c.least-pages.ensures)

pub stored-requires : goal.stored-requires
stored-requires c =
    let t = (goal.at.stored-requires c).After-make-total in
    let f = facts t in
    let e = fitting t c.count_pages-2.ensures c.least-pages.ensures in
    (f.place, f.some, omega (arith, f.begun, e), f.most, omega (arith, f.room, f.small, e))

pub returns : goal.returns
returns c =
    let a = c.args in
    let t = (goal.at.returns c).After-make-total in
    store_is a.p.now a.budget a.b a.cells.now a.marks.now a.journal.now (replicate 1584 0) c.least-pages.result
    (facts t) c.requires.0 c.requires.2 (least-pages (c.make-total.result - (a.b.regs.saving - 1)) a.b.regs.page (a.budget - a.b.steps) c.count_pages-2.ensures c.least-pages.ensures)
    (length-replicate {A = ℕ} 1584 0) (c.make-total.ensures.1 a.journal.now).1 c.copy.ensures c.stored.ensures
    (elim c.if-from-m.branch [
      | then-from-m w ↦ marks-whole a.p.now a.marks.now w.if-from-m.true w.cell_count.ensures.0 (w.marks-is ∙ w.keep.ensures)
      | else-from-m w ↦ marks-part a.p.now a.marks.now w.if-from-m.false w.marks-is
    ])
