-- `run::run::run`: each turn keeps that the rest of the run is the run from the start, and an exit ends it.
-- Assumes nothing.
use Rattle.std.proofs.Common.{arith, length, ◌≤◌}
use Rattle.step.specs.State.{env_of, machine_of}
use Rattle.run.specs.Standing.{standing, TurnIs}
use Rattle.run.proofs.Turns.{sound-start, legal-of, legal-within, ready-small}
use Rattle.run.proofs.Running.{rest_is, rest-length, Running, running-rush, running-store, running-ends, running-left, running-due, turn-steps, running-turn}
use Rattle.run.proofs.run.run.Goals as goal
use Rattle.run.proofs.run.run.Goals.{After-store_some-b, After-turn-b}

-- what the loop keeps, before the exit is looked for
rushed : (c : After-store_some-b)
    → let a = c.args in
    Running (env_of a.p.now a.sets.now) a.readings.now a.budget (machine_of a.start a.cells.now a.marks.now a.journal.now) a.outputs.now
    c.store_some-b.result c.rush-b.new.cells c.store_some-b.new.marks c.store_some-b.new.journal c.rush-b.new.outputs
rushed c = running-store (running-rush c.loop-ended.invariant c.requires.0 c.rush-b.ensures) c.requires.0 c.store_some-b.ensures

pub rush-b-requires : goal.rush-b-requires
rush-b-requires c = let r = c.loop-ended.invariant in (legal-of c.requires.0, sound-start _ _ r.good.sound, r.within)

pub store_some-b-requires : goal.store_some-b-requires
store_some-b-requires c =
    let r = running-rush c.loop-ended.invariant c.requires.0 c.rush-b.ensures in (r.good, ready-small c.requires.0, r.within.steps)

pub exit_before-requires : goal.exit_before-requires
exit_before-requires c =
    let r = rushed (goal.at.exit_before-requires c).After-store_some-b in
    (legal-within _ _ c.requires.0.accepted (sound-start _ _ r.good.sound)).0

pub returns-in-Some : goal.returns-in-Some
returns-in-Some c =
    let r = rushed (goal.at.returns-in-Some c).After-store_some-b in
    running-ends r (c.in-Some.ensures _ _ _ _ r.within.written)

pub turn-b-requires : goal.turn-b-requires
turn-b-requires c =
    let r = rushed (goal.at.turn-b-requires c).After-store_some-b in
    let g = c.in_default.ensures _ _ _ _ r.within.written in
    let n = rest-length c.store_some-b.result.taken c.args.readings.now in (
      c.requires.0,
      r.good,
      omega (arith, running-left r g, c.ranges.budget.fits),
      omega (arith, n, r.within.taken, c.well_formed),
      r.within.written,
      running-due r g _ n,
    )

-- what the turn leaves
turned : (c : After-turn-b) → c.store_some-b.result.taken ≤ length c.args.readings.now
    → let a = c.args in
    TurnIs (env_of a.p.now a.sets.now) a.readings.now
    (standing c.store_some-b.result c.rush-b.new.cells c.store_some-b.new.marks c.store_some-b.new.journal c.rush-b.new.outputs)
    c.rush-b.new.outputs c.turn-b.result
    (standing c.turn-b.result c.turn-b.new.cells c.turn-b.new.marks c.turn-b.new.journal c.turn-b.new.outputs) c.turn-b.new.outputs
turned c w = let ρ = c.args.readings.now in c.turn-b.ensures ρ (rest_is _ ρ) w

pub loop-ended-smaller : goal.loop-ended-smaller
loop-ended-smaller c =
    let r = rushed (goal.at.loop-ended-smaller c).After-store_some-b in
    let t = turned (goal.at.loop-ended-smaller c).After-turn-b r.within.taken in
    let g = c.in_default.ensures _ _ _ _ r.within.written in
    omega (arith, running-left r g, turn-steps r g t, c.rush-b.ensures.more, c.store_some-b.ensures.more)

pub loop-ended-preserved : goal.loop-ended-preserved
loop-ended-preserved c =
    let r = rushed (goal.at.loop-ended-preserved c).After-store_some-b in
    let t = turned (goal.at.loop-ended-preserved c).After-turn-b r.within.taken in
    let g = c.in_default.ensures _ _ _ _ r.within.written in
    running-turn r g t c.requires.0 c.turn-b.auto.journal
