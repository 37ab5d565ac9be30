-- `liveness::settle` meets its contract: full sets, every node waiting, and the worklist drained.
-- Assumes nothing.
use Rattle.std.proofs.Common.{length, sym, arith}
use lib.Seq.{length-take-le}
use Rattle.liveness.proofs.Settling.{queue-fresh, threads, begun, rooms-full, settled}
use Rattle.liveness.proofs.settle.Goals as goal

pub thread-requires : goal.thread-requires
thread-requires c = let w = c.requires.0 in threads 512 w w.few

pub push_all-top-requires : goal.push_all-top-requires
push_all-top-requires c = let w = c.requires.0 in (queue-fresh _ 512 w.few, w)

pub slice_bounds-drain-end-2 : goal.slice_bounds-drain-end-2
slice_bounds-drain-end-2 c =
    sym (length-take-le (length c.args.left.now) c.thread.new.links (omega (arith, c.requires.0.few, c.thread.auto.links)))

pub drain-requires : goal.drain-requires
drain-requires c =
    let t = c.thread in
    let p = c.push_all-top in
    (begun c.requires.0 t.auto.heads t.auto.links t.ensures p.ensures.0 p.ensures.1, rooms-full c.requires.1 c.fill.ensures)

pub returns : goal.returns
returns c = settled c.fill.ensures c.drain.ensures
