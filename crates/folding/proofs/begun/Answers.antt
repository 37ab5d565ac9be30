-- The front and the blank rest decide it.
use Rattle.std.proofs.Common.{◌≡◌, ◌≤◌, arith, sym, ◌∙◌, min, length, take}
use Rattle.std.proofs.lemmas.Bool.{leb-true}
use Rattle.std.proofs.lemmas.Bool.Decides.{Decides-eqb}
use Rattle.std.proofs.lemmas.Slice.Eq.{slice_eq-Decides}
use Rattle.program.proofs.Tests.{clash}
use Rattle.folding.specs.Fold.{Begun}
use Rattle.folding.proofs.Storing.{not-room, not-front, begun-rests}
use Rattle.folding.proofs.begun.Goals as goal
use Rattle.folding.proofs.begun.Goals.{then-stored-min, else-stored-min}

pub returns-then-eq : goal.returns-then-eq
returns-then-eq c =
    let s = c.args in
    let front : (s.stored ≤ min (length s.save.now) (length s.new.now)) × (take s.stored s.new.now ≡ take s.stored s.save.now) =
    elim c.if-stored-min.branch [
      | then-stored-min w ↦ (omega arith, (slice_eq-Decides Decides-eqb _ _ _ w.eq.ensures).0 (sym w.value-is ∙ c.if-eq.true))
      | else-stored-min w ↦ absurd (omega (arith, leb-true _ _ (sym w.value-is ∙ c.if-eq.true)))
    ] in
    begun-rests s.save.now s.new.now s.stored (omega arith) front.0 front.1 c.is_blank.result c.is_blank.ensures

pub returns-else-eq : goal.returns-else-eq
returns-else-eq c =
    let s = c.args in
    let other : ¬ Begun s.save.now s.stored s.new.now =
    elim c.if-stored-min.branch [
      | then-stored-min w ↦ not-front _ _ _ (λ e. clash _ ((slice_eq-Decides Decides-eqb _ _ _ w.eq.ensures).1 e) (sym w.value-is ∙ c.if-eq.false))
      | else-stored-min w ↦ not-room _ _ _ (omega arith)
    ] in
    rw c.if-eq.false other
