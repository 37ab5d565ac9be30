-- `step::store_one`: with the last page the save is whole.
-- Assumes nothing.
use native.Mathlib.Omega.{arith}
use Rattle.step.proofs.Stepping.{storing, size_small, place_fits, saving-fits, stores-last, stores-next}
use Rattle.step.proofs.store_one.Goals as goal

pub after-next-requires : goal.after-next-requires
after-next-requires c = let f = storing _ _ c.requires.0 c.requires.1 c.requires.2 in omega (arith, f.place)

pub overflow_cast-commit : goal.overflow_cast-commit
overflow_cast-commit c = let f = storing _ _ c.requires.0 c.requires.1 c.requires.2 in place_fits f.place c.after-next.ensures

pub overflow_cast-commit-2 : goal.overflow_cast-commit-2
overflow_cast-commit-2 c = let f = storing _ _ c.requires.0 c.requires.1 c.requires.2 in omega (arith, f.exclude)

pub put_bytes-requires : goal.put_bytes-requires
put_bytes-requires c =
    let a = c.args in
    let f = storing _ _ c.requires.0 c.requires.1 c.requires.2 in
    let n = size_small a.p.now a.r a.cells.now a.marks.now a.journal.now c.cell_count-n.ensures.0 c.stored_cells-s.ensures f.some f.few in
    (f.inside, f.most, omega (arith, f.stored, n))

pub overflow_cast-r-3 : goal.overflow_cast-r-3
overflow_cast-r-3 c = let f = storing _ _ c.requires.0 c.requires.1 c.requires.2 in omega (arith, f.few)

pub overflow_add-r : goal.overflow_add-r
overflow_add-r c = let f = storing _ _ c.requires.0 c.requires.1 c.requires.2 in omega (arith, f.inside, f.most)

pub overflow_add-from : goal.overflow_add-from
overflow_add-from c =
    let a = c.args in
    let f = storing _ _ c.requires.0 c.requires.1 c.requires.2 in
    omega (arith, f.stored, size_small a.p.now a.r a.cells.now a.marks.now a.journal.now c.cell_count-n.ensures.0 c.stored_cells-s.ensures f.some f.few)

pub size-requires : goal.size-requires
size-requires c = let f = storing _ _ c.requires.0 c.requires.1 c.requires.2 in (f.some, f.few)

pub returns-then-from-page : goal.returns-then-from-page
returns-then-from-page c =
    let f = storing _ _ c.requires.0 c.requires.1 c.requires.2 in
    stores-last _ _ _ _ _ c.cell_count-n.ensures.0 c.stored_cells-s.ensures c.kind_of-kind.ensures f.at c.after-next.ensures
    c.put_bytes.ensures c.size.ensures f.stored c.if-from-page.true c.keep.ensures

pub overflow_cast-r-4 : goal.overflow_cast-r-4
overflow_cast-r-4 c = let f = storing _ _ c.requires.0 c.requires.1 c.requires.2 in omega (arith, f.few)

pub overflow_add-r-2 : goal.overflow_add-r-2
overflow_add-r-2 c =
    let f = storing _ _ c.requires.0 c.requires.1 c.requires.2 in
    saving-fits _ _ _ _ _ c.cell_count-n.ensures.0 c.stored_cells-s.ensures f

pub returns : goal.returns
returns c =
    let f = storing _ _ c.requires.0 c.requires.1 c.requires.2 in
    stores-next _ _ _ _ _ c.cell_count-n.ensures.0 c.stored_cells-s.ensures c.kind_of-kind.ensures f.at c.after-next.ensures
    c.put_bytes.ensures c.size.ensures f.stored c.if-from-page.false
