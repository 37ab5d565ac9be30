-- What pitskelo_spent and pitskelo_page_spent leave, over the bytes that are lent: the definition of crate `notes`.
-- Assumes nothing.
use Rattle.std.specs.Prelude.{ℕ, ◌≡◌, List}
use Rattle.journal.specs.Format.{owner_of_plan}
use Rattle.notes.specs.Notes.{Told}
use Rattle.notes.specs.Notes.{SpentIs, answer_of}
use Rattle.pitskelo.specs.Calls.{leaves}

-- the result, and the number parameter may after the call from before it; plan and chip are only read. The entry says the page length of the chip, and the plan is the owner that
-- its MARKs are to name. There is one result and one number (`spent-fixed` of proofs/NoteCalls.antt)
pub record SpentCall (page : ℕ) (p chip : List ℕ) (place : ℕ) (before after : List ℕ) (result : ℕ) : Type 0 where
  pub answer : Told
  pub tells : SpentIs p page (owner_of_plan p) chip place answer
  pub number : result ≡ (answer_of answer).number
  pub numbers_are : after ≡ leaves (answer_of answer) before
