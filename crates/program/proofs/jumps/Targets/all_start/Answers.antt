-- `program::jumps::Targets::all_start` meets its contract.
-- Assumes nothing.
use Rattle.std.proofs.Common.{ap, sym, ◌∙◌, ◌<◌, arith}
use Rattle.std.proofs.lemmas.List.{get_or-take}
use Rattle.program.specs.Places.{Place, placed, read_place}
use Rattle.program.proofs.Noting.{first-none, first_more, first-bad}
use Rattle.program.proofs.Tests.{not-true, not-false}
use Rattle.program.proofs.jumps.Targets.all_start.Goals as goal

pub loop-target-init : goal.loop-target-init
loop-target-init c = first-none _ _

pub returns-then-not-place_at : goal.returns-then-not-place_at
unfolding read_place
returns-then-not-place_at c =
    let n = c.args.self.now.count in
    let i = c.loop-target.target-index in
    let within : i < n = grind arith in
    let read = rw (get_or-take n c.args.self.now.offsets i 0 within) at (ap (λ (x : Place). x.start) c.place_at.ensures) in
    sym (first-bad (placed c.args.table.now) _ _ c.args.self.now.offsets within (sym read ∙ not-true _ c.if-not-place_at.true))

pub loop-target-preserved : goal.loop-target-preserved
unfolding read_place
loop-target-preserved c =
    let n = c.args.self.now.count in
    let i = c.loop-target.target-index in
    let within : i < n = grind arith in
    let read = rw (get_or-take n c.args.self.now.offsets i 0 within) at (ap (λ (x : Place). x.start) c.place_at.ensures) in
    first_more _ _ _ c.loop-target.invariant (sym read ∙ not-false _ c.if-not-place_at.false)
