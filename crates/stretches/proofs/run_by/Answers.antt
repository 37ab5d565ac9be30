-- Each stretch goes on where those before it left the one run.
-- Assumes nothing.
use Rattle.std.proofs.Common.{sym, ◌∙◌, ap, arith}
use Rattle.std.proofs.lemmas.Result.{err_from_is_err_and}
use Rattle.std.proofs.Common.{length}
use Rattle.program.proofs.Refusals.{number-not0}
use Rattle.step.specs.State.{Machine}
use Rattle.run.specs.declared.Stand.{Stand}
use Rattle.stretches.proofs.Running.{signed-of-length}
use Rattle.stretches.proofs.Whole.{stands-first, stands-within, stands-next, stands-moves, stands-ends, stands-refused}
use Rattle.stretches.proofs.run_by.Goals as goal

pub loop-next-init : goal.loop-next-init
loop-next-init c = stands-first c.requires.2 c.requires.3

pub stretch-requires : goal.stretch-requires
stretch-requires c =
    let h = c.loop-next.invariant in
    let w = stands-within c.args.readings.now h in (
      c.requires.0,
      c.requires.1,
      h.standing.cells,
      h.standing.marks,
      omega arith,
      omega arith,
      record { steps = w.0; taken = w.1; written = omega (arith, w.2) },
    )

pub returns-in_err-next : goal.returns-in_err-next
returns-in_err-next c =
    let p = err_from_is_err_and c.from_residual.result c.from_residual.ensures.1 in
    let k = stands-refused c.loop-next.invariant c.in_err-next.ensures (number-not0 _) in
    rw (p.1, p.2) (
      rw (ap (λ (m : Machine). m.regs) k.0) at k.1,
      ap (λ (m : Machine). length m.cells) k.0 ∙ c.requires.2,
      ap (λ (m : Machine). length m.marks) k.0 ∙ c.requires.3,
    )

pub joined-at-requires : goal.joined-at-requires
joined-at-requires c =
    let w = stands-within c.args.readings.now (stands-next c.loop-next.invariant c.in_ok-next.ensures) in
    (omega (arith, w.0), omega (arith, w.1), omega (arith, w.2))

pub returns-then-not-goes_on : goal.returns-then-not-goes_on
returns-then-not-goes_on c =
    let h = c.loop-next.invariant in
    let next = stands-next h c.in_ok-next.ensures in
    let z = c.joined-at.ensures in
    let ends = stands-ends h c.in_ok-next.ensures (signed-of-length _) (sym (rw z at c.goes_on.ensures) ∙ c.if-not-goes_on.true) in
    rw z (ends, next.standing.cells, next.standing.marks)

pub loop-next-smaller : goal.loop-next-smaller
loop-next-smaller c =
    let h = c.loop-next.invariant in
    let z = c.joined-at.ensures in
    let moves = stands-moves h c.in_ok-next.ensures (signed-of-length _) (sym (rw z at c.goes_on.ensures) ∙ c.if-not-goes_on.false) in
    omega (arith, moves, (stands-next h c.in_ok-next.ensures).standing.steps, ap (λ (s : Stand). s.pass.steps) z)

pub loop-next-preserved : goal.loop-next-preserved
loop-next-preserved c = rw c.joined-at.ensures (stands-next c.loop-next.invariant c.in_ok-next.ensures)
