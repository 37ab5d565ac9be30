-- `graph::tables` meets its contract: what `offsets` lists stands in front of its table, and is the program's.
-- Assumes nothing.
use Rattle.std.proofs.Common.{sym, ◌∙◌, arith}
use Rattle.graph.proofs.Entering.{few-of, front-length, front-offsets, number-ready, tables-front}
use Rattle.graph.proofs.tables.Goals as goal

pub slice_bounds-listed-end : goal.slice_bounds-listed-end
slice_bounds-listed-end c = omega (arith, few-of _ c.requires.0 c.offsets-n.ensures.0, c.requires.1.for_at, c.offsets-n.auto.at)

pub slice_bounds-listed-end-2 : goal.slice_bounds-listed-end-2
slice_bounds-listed-end-2 c = let n = c.offsets-n in sym (front-length _ _ n.new.at c.requires.0 c.requires.1.for_at n.auto.at n.ensures.0)

pub number-requires : goal.number-requires
number-requires c =
    let n = c.offsets-n in
    let long = front-length _ c.args.at.now n.new.at c.requires.0 c.requires.1.for_at n.auto.at n.ensures.0 in
    number-ready _ _ c.requires.0 (long ∙ n.ensures.0) (front-offsets _ _ n.ensures.0 n.ensures.1)

pub enter-requires : goal.enter-requires
enter-requires c =
    let n = c.offsets-n in
    let s = c.requires.1 in
    let long = front-length _ c.args.at.now n.new.at c.requires.0 s.for_at n.auto.at n.ensures.0 in (
      c.requires.0,
      long ∙ n.ensures.0,
      front-offsets _ _ n.ensures.0 n.ensures.1,
      c.number.ensures,
      s.for_left,
      s.for_right,
      s.for_reads,
      s.for_writes,
    )

pub returns : goal.returns
returns c = (c.offsets-n.ensures.0, tables-front _ _ _ _ _ _ _ c.offsets-n.ensures.1 c.enter.ensures)
