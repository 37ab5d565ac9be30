-- `analysis::region::exclude_sets` meets its contract: each turn at an EXCLUDE stores its sets behind the others.
-- Assumes nothing.
use Rattle.std.proofs.Common.{◌≡◌, sym, arith, rules}
use lib.Seq.{length-take-le}
use Rattle.instruction.specs.Bytes.{byte}
use Rattle.program.proofs.Accepted.{accepted}
use Rattle.graph.specs.Tables.{start_of}
use Rattle.analysis.proofs.Searching.{few-of}
use Rattle.analysis.proofs.Placing.{table-node, placing-first, placing-room, placing-turn, placing-skip, placing-done}
use Rattle.analysis.proofs.region.exclude_sets.Goals as goal
use Rattle.analysis.proofs.region.exclude_sets.Goals.{then-p-o-eq-EXCLUDE, else-p-o-eq-EXCLUDE}

pub slice_bounds-o-items-end : goal.slice_bounds-o-items-end
slice_bounds-o-items-end c =
    sym (length-take-le c.args.n c.args.at.now (omega (arith, few-of c.requires.0.passed, c.requires.0.long_at)))

pub loop-i-init : goal.loop-i-init
loop-i-init c = placing-first _ _

pub bounds-p-o : goal.bounds-p-o
bounds-p-o c = let x = table-node c.requires.0 c.requires.3 c.loop-i-test.true in omega (arith, x)

pub exclude_set-requires : goal.exclude_set-requires
exclude_set-requires c =
    let p = c.args.p.now in
    let x = table-node c.requires.0 c.requires.3 c.loop-i-test.true in
    let here : byte p (start_of p c.loop-i.i) ≡ 13 = rw (← x.1) c.if-p-o-eq-EXCLUDE.true in (
      c.requires.0,
      c.requires.1,
      c.requires.2,
      x.0,
      here,
      placing-room _ _ (accepted _ c.requires.0.passed.is) c.requires.4 c.loop-i.invariant x.0 here,
    )

pub overflow_add-to : goal.overflow_add-to
overflow_add-to c =
    let x = table-node c.requires.0 c.requires.3 c.loop-i-test.true in
    let here : byte c.args.p.now (start_of c.args.p.now c.loop-i.i) ≡ 13 = rw (← x.1) c.if-p-o-eq-EXCLUDE.true in
    let room = placing-room _ _ (accepted _ c.requires.0.passed.is) c.requires.4 c.loop-i.invariant x.0 here in
    search rules

pub loop-i-preserved : goal.loop-i-preserved
loop-i-preserved c =
    let p = c.args.p.now in
    let a = accepted _ c.requires.0.passed.is in
    let x = table-node c.requires.0 c.requires.3 c.loop-i-test.true in
    elim c.if-p-o-eq-EXCLUDE.branch [
      | then-p-o-eq-EXCLUDE w ↦
          let here : byte p (start_of p c.loop-i.i) ≡ 13 = rw (← x.1) w.if-p-o-eq-EXCLUDE.true in
          rw (w.sets-is, w.to-is)
          (placing-turn _ _ a (omega (arith, c.type_inv.p 0)) c.loop-i.invariant x.0 here w.exclude_set.auto.sets
          w.exclude_set.ensures.0 w.exclude_set.ensures.1)
      | else-p-o-eq-EXCLUDE w ↦
          rw (w.sets-is, w.to-is)
          (placing-skip _ _ a c.loop-i.invariant x.0 (λ b. w.if-p-o-eq-EXCLUDE.false (rw x.1 b)))
    ]

pub returns : goal.returns
returns c =
    let m = c.requires.0 in
    let long = length-take-le c.args.n c.args.at.now (omega (arith, few-of m.passed, m.long_at)) in
    placing-done _ _ (accepted _ m.passed.is) (omega arith) c.loop-i.invariant
