-- `journal::fields::fields_whole`: the four numbers that stand there decide, and then the last byte.
-- Assumes nothing.
use Rattle.std.proofs.Common.{◌≡◌, ◌+◌, ◌≤◌, true, false, drop, sym, subst, arith}
use Rattle.journal.specs.Answer.{facts_in}
use Rattle.journal.specs.Parts.{Decides, offset_in, Number, Fields}
use Rattle.journal.proofs.Meeting.{decides-yes, decides-no, decides-both, decides-first}
use Rattle.journal.proofs.Numbers.{Small, count-whole}
use Rattle.journal.proofs.Offsets.{offset-whole}
use Rattle.journal.proofs.Fieldwise.{fields-parts, begun-fields, last-decides}
use Rattle.journal.proofs.fields.fields_whole.Goals as goal
use Rattle.journal.proofs.fields.fields_whole.Goals.{then-offset_is, else-offset_is, then-offset_is-2, else-offset_is-2, then-last-load32, else-last-load32}

pub returns-then-last-load32-2 : goal.returns-then-last-load32-2
returns-then-last-load32-2 c G n z =
    let F = facts_in G n c.args.table.now in
    let l = c.args.l.now in
    let i = c.args.i in
    let last = c.args.last in
    let small : Small l = λ k. (c.type_inv.l k).fits in
    let place : Type 0 = Number (λ t. offset_in F false t ≡ true) 2 (drop i l) in
    let exclude : Type 0 = Number (λ t. offset_in F true t ≡ true) 2 (drop (i + 2) l) in
    let readings : Type 0 = Number (λ x. last.readings ≤ x) 4 (drop (i + 4) l) in
    let outputs : Type 0 = Number (λ x. last.outputs ≤ x) 4 (drop (i + 8) l) in
    let one = offset-whole F false l i c.offset_is.result small (omega (arith, c.requires.2)) c.load16.ensures (c.offset_is.ensures G n) in
    let two : Decides (place × exclude) c.if-offset_is.value = elim c.if-offset_is.branch [
      | then-offset_is w ↦
          decides-both place exclude one w.if-offset_is.true
          (offset-whole F true l (i + 2) w.offset_is-then-offset_is.result small (omega (arith, c.requires.2)) w.load16-then-offset_is.ensures (w.offset_is-then-offset_is.ensures G n)) w.value-is
      | else-offset_is w ↦ decides-first place exclude one w.if-offset_is.false w.value-is
    ] in
    let three : Decides ((place × exclude) × readings) c.if-offset_is-2.value = elim c.if-offset_is-2.branch [
      | then-offset_is-2 w ↦
          decides-both (place × exclude) readings two w.if-offset_is-2.true
          (count-whole l (i + 4) last.readings small (omega (arith, c.requires.2)) w.load32.ensures) w.value-is
      | else-offset_is-2 w ↦ decides-first (place × exclude) readings two w.if-offset_is-2.false w.value-is
    ] in
    let four : Decides (((place × exclude) × readings) × outputs) c.if-last-load32.value = elim c.if-last-load32.branch [
      | then-last-load32 w ↦
          decides-both ((place × exclude) × readings) outputs three w.if-last-load32.true
          (count-whole l (i + 8) last.outputs small (omega (arith, c.requires.2)) w.load32-then-last-load32.ensures) w.value-is
      | else-last-load32 w ↦ decides-first ((place × exclude) × readings) outputs three w.if-last-load32.false w.value-is
    ] in
    let a = decides-yes _ c.if-last-load32-2.true four in
    last-decides {F = F} l i (omega (arith, z)) (omega (arith, c.requires.2))
    (λ m. begun-fields {F = F} l i (i + (12 + c.args.width)) small a.0.0.0 a.0.0.1 a.0.1 a.1 (omega (arith, z)) m)

pub returns-else-last-load32-2 : goal.returns-else-last-load32-2
returns-else-last-load32-2 c G n z =
    let F = facts_in G n c.args.table.now in
    let l = c.args.l.now in
    let i = c.args.i in
    let last = c.args.last in
    let small : Small l = λ k. (c.type_inv.l k).fits in
    let place : Type 0 = Number (λ t. offset_in F false t ≡ true) 2 (drop i l) in
    let exclude : Type 0 = Number (λ t. offset_in F true t ≡ true) 2 (drop (i + 2) l) in
    let readings : Type 0 = Number (λ x. last.readings ≤ x) 4 (drop (i + 4) l) in
    let outputs : Type 0 = Number (λ x. last.outputs ≤ x) 4 (drop (i + 8) l) in
    let one = offset-whole F false l i c.offset_is.result small (omega (arith, c.requires.2)) c.load16.ensures (c.offset_is.ensures G n) in
    let two : Decides (place × exclude) c.if-offset_is.value = elim c.if-offset_is.branch [
      | then-offset_is w ↦
          decides-both place exclude one w.if-offset_is.true
          (offset-whole F true l (i + 2) w.offset_is-then-offset_is.result small (omega (arith, c.requires.2)) w.load16-then-offset_is.ensures (w.offset_is-then-offset_is.ensures G n)) w.value-is
      | else-offset_is w ↦ decides-first place exclude one w.if-offset_is.false w.value-is
    ] in
    let three : Decides ((place × exclude) × readings) c.if-offset_is-2.value = elim c.if-offset_is-2.branch [
      | then-offset_is-2 w ↦
          decides-both (place × exclude) readings two w.if-offset_is-2.true
          (count-whole l (i + 4) last.readings small (omega (arith, c.requires.2)) w.load32.ensures) w.value-is
      | else-offset_is-2 w ↦ decides-first (place × exclude) readings two w.if-offset_is-2.false w.value-is
    ] in
    let four : Decides (((place × exclude) × readings) × outputs) c.if-last-load32.value = elim c.if-last-load32.branch [
      | then-last-load32 w ↦
          decides-both ((place × exclude) × readings) outputs three w.if-last-load32.true
          (count-whole l (i + 8) last.outputs small (omega (arith, c.requires.2)) w.load32-then-last-load32.ensures) w.value-is
      | else-last-load32 w ↦ decides-first ((place × exclude) × readings) outputs three w.if-last-load32.false w.value-is
    ] in
    subst (Decides (Fields F last (drop i l))) (sym c.if-last-load32-2.false)
    (λ f.
    let g = fields-parts l i f in
    decides-no _ c.if-last-load32-2.false four (((g.place, g.exclude), g.readings), g.outputs))
