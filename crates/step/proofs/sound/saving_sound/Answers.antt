-- `step::sound::saving_sound`: of a save at work its bytes decide.
-- Assumes nothing.
use Rattle.std.proofs.Common.{rules, arith, ◌≡◌, ltb, ◌&&◌, ◌-◌}
use Rattle.step.specs.State.{machine_of}
use Rattle.journal.specs.Format.{pages_in}
use Rattle.journal.proofs.Naming.{kind-few}
use Rattle.step.proofs.Soundness.{size-most, size_is, saving-bytes}
use Rattle.step.proofs.sound.saving_sound.Goals as goal
use Rattle.step.proofs.sound.saving_sound.Goals.{then-stored-bytes, else-stored-bytes}

pub overflow_add-result : goal.overflow_add-result
overflow_add-result c = omega (arith, size-most _ c.size-bytes.ensures c.requires.1 c.requires.2 (kind-few c.kind_of.result))

pub returns-then-is_whole : goal.returns-then-is_whole
returns-then-is_whole c l e =
    let m = machine_of c.args.r c.args.cells.now c.args.marks.now l in
    let t : c.if-stored-bytes.value ≡ (ltb (c.args.r.saving - 1) c.size-bytes.result && pages_in c.args.r.page (c.args.r.saving - 1)) =
    elim c.if-stored-bytes.branch [ then-stored-bytes w ↦ search rules | else-stored-bytes w ↦ search rules ] in
    let size = size_is c.args.p.now m c.kind_of.ensures c.stored_cells.ensures c.size-bytes.ensures in
    rw (← saving-bytes c.args.p.now m c.if-r-eq0.false c.if-p-r-ne-CHECKPOINT.false c.if-r-ne0.false size e, ← t, c.if-is_whole.true)

pub returns-else-is_whole : goal.returns-else-is_whole
returns-else-is_whole c l e =
    let m = machine_of c.args.r c.args.cells.now c.args.marks.now l in
    let t : c.if-stored-bytes.value ≡ (ltb (c.args.r.saving - 1) c.size-bytes.result && pages_in c.args.r.page (c.args.r.saving - 1)) =
    elim c.if-stored-bytes.branch [ then-stored-bytes w ↦ search rules | else-stored-bytes w ↦ search rules ] in
    let size = size_is c.args.p.now m c.kind_of.ensures c.stored_cells.ensures c.size-bytes.ensures in
    rw (← saving-bytes c.args.p.now m c.if-r-eq0.false c.if-p-r-ne-CHECKPOINT.false c.if-r-ne0.false size e, ← t, c.if-is_whole.false)
