-- `journal::fields::fields_begin`: where not all bytes are there, the four numbers that are begun decide, and the last byte is past the end.
-- Assumes nothing.
use Rattle.std.proofs.Common.{◌≡◌, ◌+◌, ◌≤◌, true, false, [], ◌∷◌, drop, sym, subst, arith}
use Rattle.journal.specs.Answer.{facts_in}
use Rattle.journal.specs.Parts.{Decides, offset_in, Number, Fields}
use Rattle.journal.proofs.Meeting.{decides-same, decides-yes, decides-no, decides-both, decides-first, past-meets}
use Rattle.journal.proofs.Fieldwise.{fields-parts, begun-fields}
use Rattle.journal.proofs.fields.fields_begin.Goals as goal
use Rattle.journal.proofs.fields.fields_begin.Goals.{then-offset_begins, else-offset_begins, then-offset_begins-2, else-offset_begins-2}

pub returns-then-count_begins : goal.returns-then-count_begins
returns-then-count_begins c G n z =
    let F = facts_in G n c.args.table.now in
    let l = c.args.l.now in
    let i = c.args.i in
    let place : Type 0 = Number (λ t. offset_in F false t ≡ true) 2 (drop i l) in
    let exclude : Type 0 = Number (λ t. offset_in F true t ≡ true) 2 (drop (i + 2) l) in
    let readings : Type 0 = Number (λ x. c.args.last.readings ≤ x) 4 (drop (i + 4) l) in
    let two : Decides (place × exclude) c.if-offset_begins.value = elim c.if-offset_begins.branch [
      | then-offset_begins w ↦ decides-both place exclude (c.offset_begins.ensures G n) w.if-offset_begins.true (w.offset_begins-then-offset_begins.ensures G n) w.value-is
      | else-offset_begins w ↦ decides-first place exclude (c.offset_begins.ensures G n) w.if-offset_begins.false w.value-is
    ] in
    let three : Decides ((place × exclude) × readings) c.if-offset_begins-2.value = elim c.if-offset_begins-2.branch [
      | then-offset_begins-2 w ↦ decides-both (place × exclude) readings two w.if-offset_begins-2.true w.count_begins.ensures w.value-is
      | else-offset_begins-2 w ↦ decides-first (place × exclude) readings two w.if-offset_begins-2.false w.value-is
    ] in
    let a = decides-yes _ c.if-count_begins.true three in
    decides-same c.count_begins-then-count_begins.result
    (λ o.
    begun-fields {F = F} l i (i + (12 + c.args.width)) (λ k. (c.type_inv.l k).fits) a.0.0 a.0.1 a.1 o (omega (arith, z))
    (past-meets (0x5A ∷ []) l (i + (12 + c.args.width)) (omega (arith, c.if-i-width.false))))
    (λ f. (fields-parts l i f).outputs) c.count_begins-then-count_begins.ensures

pub returns-else-count_begins : goal.returns-else-count_begins
returns-else-count_begins c G n z =
    let F = facts_in G n c.args.table.now in
    let l = c.args.l.now in
    let i = c.args.i in
    let place : Type 0 = Number (λ t. offset_in F false t ≡ true) 2 (drop i l) in
    let exclude : Type 0 = Number (λ t. offset_in F true t ≡ true) 2 (drop (i + 2) l) in
    let readings : Type 0 = Number (λ x. c.args.last.readings ≤ x) 4 (drop (i + 4) l) in
    let two : Decides (place × exclude) c.if-offset_begins.value = elim c.if-offset_begins.branch [
      | then-offset_begins w ↦ decides-both place exclude (c.offset_begins.ensures G n) w.if-offset_begins.true (w.offset_begins-then-offset_begins.ensures G n) w.value-is
      | else-offset_begins w ↦ decides-first place exclude (c.offset_begins.ensures G n) w.if-offset_begins.false w.value-is
    ] in
    let three : Decides ((place × exclude) × readings) c.if-offset_begins-2.value = elim c.if-offset_begins-2.branch [
      | then-offset_begins-2 w ↦ decides-both (place × exclude) readings two w.if-offset_begins-2.true w.count_begins.ensures w.value-is
      | else-offset_begins-2 w ↦ decides-first (place × exclude) readings two w.if-offset_begins-2.false w.value-is
    ] in
    subst (Decides (Fields F c.args.last (drop i l))) (sym c.if-count_begins.false)
    (λ f.
    let g = fields-parts l i f in
    decides-no _ c.if-count_begins.false three ((g.place, g.exclude), g.readings))
