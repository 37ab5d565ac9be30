-- `step::sound::sound`: each part that fails decides, and the last one where none does.
-- Assumes nothing.
use Rattle.std.proofs.Common.{rules, arith, sym, ◌∙◌, ◌≡◌, leb, eqb, ◌&&◌, ◌||◌, ◌+◌, ◌-◌}
use Rattle.instruction.specs.Bytes.{cells_of}
use Rattle.program.specs.Places.{is_start, is_exclude}
use Rattle.step.specs.State.{zero_from, marks_from, pages_sound_of, machine_of}
use Rattle.step.proofs.Soundness.{parts_of, sound-parts, parts-hold, zero-sum}
use Rattle.step.proofs.sound.sound.Goals as goal
use Rattle.step.proofs.sound.sound.Goals.{Then-pages_sound, then-r-le-COUNT_FULL, else-r-le-COUNT_FULL, then-are_marks, else-are_marks, then-places_sound, else-places_sound, then-cells_clear, else-cells_clear, then-marks_clear, else-marks_clear, then-r-len, else-r-len}

-- the tests before the last one hold
parts : (c : Then-pages_sound) → c.if-r-len.value ≡ parts_of c.args.p.now c.args.r c.args.cells.now c.args.marks.now c.args.len
unfolding parts_of
parts c =
    let e0 : c.if-r-le-COUNT_FULL.value ≡ (leb c.args.r.stop 3 && marks_from c.args.marks.now 0 256) =
    elim c.if-r-le-COUNT_FULL.branch [ then-r-le-COUNT_FULL w ↦ search rules | else-r-le-COUNT_FULL w ↦ search rules ] in
    let e1 : c.if-are_marks.value ≡ (c.if-r-le-COUNT_FULL.value && (is_start c.args.p.now c.args.r.pc && (eqb c.args.r.exclude 0 || is_exclude c.args.p.now c.args.r.exclude))) =
    elim c.if-are_marks.branch [ then-are_marks w ↦ w.value-is ∙ rw (w.if-are_marks.true) (w.places_sound.ensures _ c.requires.0) | else-are_marks w ↦ search rules ] in
    let e2 : c.if-places_sound.value ≡ (c.if-are_marks.value && zero_from c.args.cells.now (cells_of c.args.p.now) (256 - cells_of c.args.p.now)) =
    elim c.if-places_sound.branch [ then-places_sound w ↦ w.value-is ∙ rw (w.if-places_sound.true) (w.cells_clear.ensures ∙ zero-sum c.args.cells.now _ (omega (arith, c.type_inv.p 0)) c.told-cells) | else-places_sound w ↦ search rules ] in
    let e3 : c.if-cells_clear.value ≡ (c.if-places_sound.value && zero_from c.args.marks.now (cells_of c.args.p.now) (256 - cells_of c.args.p.now)) =
    elim c.if-cells_clear.branch [ then-cells_clear w ↦ w.value-is ∙ rw (w.if-cells_clear.true) (w.marks_clear.ensures ∙ zero-sum c.args.marks.now _ (omega (arith, c.type_inv.p 0)) c.told-marks) | else-cells_clear w ↦ search rules ] in
    let e4 : c.if-marks_clear.value ≡ (c.if-cells_clear.value && leb (c.args.r.write + c.args.r.erase) c.args.len) =
    elim c.if-marks_clear.branch [ then-marks_clear w ↦ search rules | else-marks_clear w ↦ search rules ] in
    let e5 : c.if-r-len.value ≡ (c.if-marks_clear.value && pages_sound_of c.args.r) =
    elim c.if-r-len.branch [ then-r-len w ↦ search rules | else-r-len w ↦ search rules ] in
    cc

pub saving_sound-requires : goal.saving_sound-requires
saving_sound-requires c = parts-hold _ _ _ _ _ (sym (parts c) ∙ c.if-pages_sound.true)

pub returns-then-pages_sound : goal.returns-then-pages_sound
returns-then-pages_sound c l e =
    let t = (goal.at.returns-then-pages_sound c).Then-pages_sound in
    rw (sound-parts _ (machine_of c.args.r c.args.cells.now c.args.marks.now l) e, ← parts t, t.if-pages_sound.true) (c.saving_sound.ensures l e)

-- or one of them decides
pub returns-else-pages_sound : goal.returns-else-pages_sound
unfolding parts_of
returns-else-pages_sound c l e =
    let e0 : c.if-r-le-COUNT_FULL.value ≡ (leb c.args.r.stop 3 && marks_from c.args.marks.now 0 256) =
    elim c.if-r-le-COUNT_FULL.branch [ then-r-le-COUNT_FULL w ↦ search rules | else-r-le-COUNT_FULL w ↦ search rules ] in
    let e1 : c.if-are_marks.value ≡ (c.if-r-le-COUNT_FULL.value && (is_start c.args.p.now c.args.r.pc && (eqb c.args.r.exclude 0 || is_exclude c.args.p.now c.args.r.exclude))) =
    elim c.if-are_marks.branch [ then-are_marks w ↦ w.value-is ∙ rw (w.if-are_marks.true) (w.places_sound.ensures _ c.requires.0) | else-are_marks w ↦ search rules ] in
    let e2 : c.if-places_sound.value ≡ (c.if-are_marks.value && zero_from c.args.cells.now (cells_of c.args.p.now) (256 - cells_of c.args.p.now)) =
    elim c.if-places_sound.branch [ then-places_sound w ↦ w.value-is ∙ rw (w.if-places_sound.true) (w.cells_clear.ensures ∙ zero-sum c.args.cells.now _ (omega (arith, c.type_inv.p 0)) c.told-cells) | else-places_sound w ↦ search rules ] in
    let e3 : c.if-cells_clear.value ≡ (c.if-places_sound.value && zero_from c.args.marks.now (cells_of c.args.p.now) (256 - cells_of c.args.p.now)) =
    elim c.if-cells_clear.branch [ then-cells_clear w ↦ w.value-is ∙ rw (w.if-cells_clear.true) (w.marks_clear.ensures ∙ zero-sum c.args.marks.now _ (omega (arith, c.type_inv.p 0)) c.told-marks) | else-cells_clear w ↦ search rules ] in
    let e4 : c.if-marks_clear.value ≡ (c.if-cells_clear.value && leb (c.args.r.write + c.args.r.erase) c.args.len) =
    elim c.if-marks_clear.branch [ then-marks_clear w ↦ search rules | else-marks_clear w ↦ search rules ] in
    let e5 : c.if-r-len.value ≡ (c.if-marks_clear.value && pages_sound_of c.args.r) =
    elim c.if-r-len.branch [ then-r-len w ↦ search rules | else-r-len w ↦ search rules ] in
    let k : c.if-r-len.value ≡ parts_of c.args.p.now c.args.r c.args.cells.now c.args.marks.now c.args.len = cc in
    rw (sound-parts _ (machine_of c.args.r c.args.cells.now c.args.marks.now l) e, ← k, c.if-pages_sound.false)
