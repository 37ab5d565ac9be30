-- The last whole checkpoint of a sound journal names an EXCLUDE or none, and a place where an instruction starts.
-- Assumes nothing.
use mathlib.Core.Path.{◌≡◌, refl, sym}
use mathlib.Core.Bool.{true}
use mathlib.Core.List.{List}
use mathlib.Core.Logic.{◌⊎◌, inl}
use Prim.Native.Nat.{ℕ}
use Rattle.program.specs.Places.{is_start, is_exclude}
use Rattle.program.proofs.Tests.{and_both}
use Rattle.program.proofs.Accepted.{accepted, start_first}
use Rattle.journal.specs.declared.Commit.{Commit}
use Rattle.journal.specs.Format.{Checkpoint, Format}
use Rattle.journal.specs.Reading.{facts_of, first, Rising, last_of}
use Rattle.step.specs.Ready.{Legal}
use Rattle.journal.proofs.Saves.{last_has}

-- its EXCLUDE is one, or 0
pub last-exclude : {G : Format} (p : List ℕ) {js : List Checkpoint} → Rising (facts_of G p) first js
    → ((last_of first js).exclude ≡ 0) ⊎ (is_exclude p (last_of first js).exclude ≡ true)
last-exclude p r = last_has (λ (c : Commit). (c.exclude ≡ 0) ⊎ (is_exclude p c.exclude ≡ true)) (λ b c a. a.exclude_is) (inl refl) r

-- its place is a start, and so is offset 1, where there is none
pub last-start : {G : Format} (p : List ℕ) {js : List Checkpoint} → Legal p → Rising (facts_of G p) first js → is_start p (last_of first js).place ≡ true
last-start p legal r =
    last_has (λ (c : Commit). is_start p c.place ≡ true) (λ b c a. (and_both (is_start p c.place) _ a.place_is).0)
    (start_first p (accepted p (sym legal.accepted)))
    r
