-- `analysis::fill`: the tables, the dead sets settled over them, and the sets of the EXCLUDEs.
-- Assumes nothing.
use Rattle.std.proofs.Common.{sym, arith, length-take-le}
use Rattle.analysis.proofs.Searching.{few-of}
use Rattle.analysis.proofs.Bridging.{settle-ready, dead-sets, sets-ready}
use Rattle.analysis.proofs.fill.Goals as goal

pub slice_bounds-left-end : goal.slice_bounds-left-end
slice_bounds-left-end c = let t = c.tables-n in omega (arith, t.ensures.0, few-of c.requires.0, t.auto.left)

pub slice_bounds-settle-end : goal.slice_bounds-settle-end
slice_bounds-settle-end c =
    let t = c.tables-n in sym (length-take-le t.result t.new.left (omega (arith, t.ensures.0, few-of c.requires.0, t.auto.left)))

pub slice_bounds-right-end : goal.slice_bounds-right-end
slice_bounds-right-end c = let t = c.tables-n in omega (arith, t.ensures.0, few-of c.requires.0, t.auto.right)

pub slice_bounds-settle-end-2 : goal.slice_bounds-settle-end-2
slice_bounds-settle-end-2 c =
    let t = c.tables-n in sym (length-take-le t.result t.new.right (omega (arith, t.ensures.0, few-of c.requires.0, t.auto.right)))

pub settle-requires : goal.settle-requires
settle-requires c =
    let t = c.tables-n in
    let few = few-of c.requires.0 in
    settle-ready _ _ _ _ t.ensures.1.ways t.ensures.0 (omega (arith, t.auto.left)) (omega (arith, t.auto.right)) _ _ _ few
    (omega (arith, t.auto.reads)) (omega (arith, t.auto.writes)) c.requires.2

pub exclude_sets-requires : goal.exclude_sets-requires
exclude_sets-requires c =
    let t = c.tables-n in
    let few = few-of c.requires.0 in
    let deads =
    dead-sets _ _ _ _ t.ensures.1.ways t.ensures.0 (omega (arith, t.auto.left)) (omega (arith, t.auto.right)) _ _ t.ensures.1
    (omega (arith, c.type_inv.p 0)) c.requires.1 c.settle.auto.dead c.settle.ensures in
    let r = sets-ready _ _ _ _ _ _ _ _ c.requires.0 t.ensures.1 deads (omega (arith, t.auto.at)) (omega (arith, t.auto.left)) (omega (arith, t.auto.right))
    (omega (arith, t.auto.writes)) c.requires.2 in
    (r.0, r.1, c.requires.1, t.ensures.0, c.requires.3)

pub returns : goal.returns
returns c =
    let t = c.tables-n in
    let few = few-of c.requires.0 in (
      dead-sets _ _ _ _ t.ensures.1.ways t.ensures.0 (omega (arith, t.auto.left)) (omega (arith, t.auto.right)) _ _ t.ensures.1
          (omega (arith, c.type_inv.p 0)) c.requires.1 c.settle.auto.dead c.settle.ensures,
      c.exclude_sets.ensures,
    )
