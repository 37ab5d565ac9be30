-- The contract of the entries for notes decides the result and the number (`spent-fixed`).
-- Assumes nothing.
use Prim.Native.Nat.{ℕ}
use mathlib.Core.Path.{◌≡◌, sym, ◌∙◌, ap}
use mathlib.Core.List.{List}
use Rattle.program.specs.Check.{Answer}
use Rattle.journal.specs.Format.{owner_of_plan}
use Rattle.notes.proofs.Laws.{one_answer}
use Rattle.pitskelo.specs.Calls.{leaves}
use Rattle.pitskelo.specs.Notes.{SpentCall}

pub spent-fixed : {page : ℕ} {p chip : List ℕ} {place : ℕ} {before after after' : List ℕ} {result result' : ℕ} → SpentCall page p chip place before after result
    → SpentCall page p chip place before after' result' → (result ≡ result') × (after ≡ after')
spent-fixed {page} {p} {chip} {place} {before} x y =
    let e = one_answer p page (owner_of_plan p) chip place x.answer y.answer x.tells y.tells in
    (x.number ∙ ap (λ (a : Answer). a.number) e ∙ sym y.number, x.numbers_are ∙ ap (λ (a : Answer). leaves a before) e ∙ sym y.numbers_are)
