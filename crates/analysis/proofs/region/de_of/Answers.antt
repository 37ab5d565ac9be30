-- `analysis::region::de_of` meets its contract: each CHECKPOINT's dead cells are met.
-- Assumes nothing.
use Rattle.std.proofs.Common.{◌≡◌, length, arith}
use Rattle.analysis.proofs.Looping.{listed_small, listed-inside, saving-first, saving-turn, saving-past, saving-done}
use Rattle.analysis.proofs.region.de_of.Goals as goal
use Rattle.analysis.proofs.region.de_of.Goals.{then-p-at-eq-CHECKPOINT, else-p-at-eq-CHECKPOINT}

pub loop-k-init : goal.loop-k-init
loop-k-init c = saving-first c.args.p.now c.args.at.now c.args.list.now c.args.dead.now c.below-all.result c.requires.1 c.below-all.ensures

pub bounds-at-k : goal.bounds-at-k
bounds-at-k c = omega (arith, listed_small c.requires.0 c.loop-k-test.true, c.requires.0.long_at)

pub bounds-p-at : goal.bounds-p-at
bounds-p-at c = listed-inside c.requires.0 c.loop-k-test.true

pub load-requires : goal.load-requires
load-requires c = omega (arith, listed_small c.requires.0 c.loop-k-test.true, c.requires.2)

pub loop-k-preserved : goal.loop-k-preserved
loop-k-preserved c =
    elim c.if-p-at-eq-CHECKPOINT.branch [
      | then-p-at-eq-CHECKPOINT w ↦
          rw w.de-is
          (saving-turn c.args.p.now c.args.at.now c.args.list.now c.args.dead.now c.below-all.result c.loop-k.de c.loop-k.k-index c.loop-k.invariant w.if-p-at-eq-CHECKPOINT.true
          w.unwrap_or-before.ensures w.load.ensures w.intersection.ensures)
      | else-p-at-eq-CHECKPOINT w ↦
          rw w.de-is (saving-past c.args.p.now c.args.at.now c.args.list.now c.args.dead.now c.below-all.result c.loop-k.de c.loop-k.k-index c.loop-k.invariant w.if-p-at-eq-CHECKPOINT.false)
    ]

pub returns : goal.returns
returns c =
    let end : c.loop-k.k-index ≡ length c.args.list.now = omega arith in
    saving-done c.args.p.now c.args.at.now c.args.list.now c.args.dead.now c.below-all.result c.loop-k.de c.loop-k.invariant end c.empty.ensures c.unwrap_or.ensures
