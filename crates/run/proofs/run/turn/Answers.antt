-- `run::run::turn`: one step of the run.
-- Assumes nothing.
use Prim.Native.Nat.{◌+◌}
use mathlib.Core.Path.{refl, ◌∙◌}
use native.Mathlib.Nat.{le-add_right}
use native.Mathlib.Omega.{arith}
use mir.Facts.{to_z-of_z}
use mir.Syntax.{w32}
use lib.ListN.{length}
use Rattle.step.specs.State.{env_of}
use Rattle.run.proofs.Turns.{Counted, none_open, sound-start, legal-within, turn-counts, turn_is}
use Rattle.run.proofs.run.turn.Goals as goal
use Rattle.run.proofs.run.turn.Goals.{After-step-q}

counted : (c : After-step-q) → let a = c.args in Counted a.b (a.b.taken + length a.readings.now) (length a.outputs.now) c.step-q.result
counted c =
    let a = c.args in
    turn-counts (env_of a.p.now a.sets.now) a.b a.cells.now a.marks.now a.journal.now _ a.outputs.now
    _ (le-add_right _ _) c.requires.4 c.requires.5 _ _ _ _ c.step-q.ensures

pub step-q-requires : goal.step-q-requires
step-q-requires c = let h = c.requires in (h.0, h.1, (none_open _ _ _ _ _ h.5).0.stop)

pub overflow_sub-took : goal.overflow_sub-took
overflow_sub-took c = (counted (goal.at.overflow_sub-took c).After-step-q).readings

pub overflow_sub-gave : goal.overflow_sub-gave
overflow_sub-gave c = (counted (goal.at.overflow_sub-gave c).After-step-q).outputs

pub emitted_cell-requires : goal.emitted_cell-requires
emitted_cell-requires c =
    let h = c.requires in omega (arith, (legal-within _ _ h.0.accepted (sound-start _ _ h.1.sound)).1)

pub put_output-requires : goal.put_output-requires
put_output-requires c = let k = counted (goal.at.put_output-requires c).After-step-q in (k.one, k.written)

pub overflow_add-result-2 : goal.overflow_add-result-2
overflow_add-result-2 c = omega (arith, (counted (goal.at.overflow_add-result-2 c).After-step-q).taken, c.requires.3)

pub returns : goal.returns
returns c =
    let a = c.args in
    turn_is (env_of a.p.now a.sets.now) a.b a.cells.now a.marks.now a.journal.now _ a.outputs.now
    _ (le-add_right _ _) c.requires.4 c.requires.5 _ _ _ _ c.step-q.ensures _ c.emitted_cell.ensures
    _ (to_z-of_z {w = w32} (record { sfits = c.from_bits.type_inv }) ∙ c.from_bits.ensures) _ c.put_output.ensures
    a.readings.now (to_z-of_z {w = w32} (record { sfits = c.first.type_inv }) ∙ c.first.ensures) refl
