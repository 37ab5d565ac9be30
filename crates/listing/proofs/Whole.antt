-- The whole text: the header, then the lines; and the text for each kind of answer.
-- Assumes nothing.
use mathlib.Core.Path.{◌≡◌, sym, ◌∙◌}
use mathlib.Core.Bool.{false}
use mathlib.Core.List.{List}
use Prim.Native.Nat.{ℕ, ◌+◌, ◌^◌, ◌≤◌, ◌<◌}
use native.Mathlib.Omega.{arith}
use lib.ListN.{length}
use Rattle.instruction.specs.Bytes.{byte, cells_of}
use Rattle.program.specs.Starts.{starts}
use Rattle.program.specs.Places.{Decodes}
use Rattle.program.specs.Check.{check_of}
use Rattle.program.specs.Check.{Checked}
use Rattle.program.specs.Check as checked-variants
use Rattle.program.proofs.Accepted.{accepted, decodes-accepted}
use Rattle.analysis.specs.Analyse.{analysed_from, analyse_of, Analyses}
use Rattle.analysis.specs.Analyse.{Analysed}
use Rattle.analysis.specs.Analyse.{Sets, Refused}
use Rattle.listing.specs.Text.{bytes, Wrote, Room}
use Rattle.listing.specs.Listing.{lines_of, head_of, accepted_of, Listed, Lists}
use Rattle.listing.proofs.Writing.{Parts, wrote_then, room-first, room-then}
use Rattle.listing.proofs.Short.{head-short, accepted-short}

-- `put_accepted`: b is byte 0 of the program, and there is room for the text
module _ (p s : List ℕ) {at b : ℕ} (e : b ≡ byte p 0) (room : Room at (accepted_of p s)) where
  parts : Parts (accepted_of p s) (head_of (bytes "cells ") (b + 1)) (lines_of p s (starts p))
  unfolding accepted_of
  parts = record { is = rw e }

  pub accepted-head : Room at (head_of (bytes "cells ") (b + 1))
  accepted-head = room-first parts room

  module _ {r : ℕ} {o₀ o₁ : List ℕ} (w : Wrote (head_of (bytes "cells ") (b + 1)) at o₀ o₁ r) where
    pub accepted-room : Room r (lines_of p s (starts p))
    accepted-room = room-then parts room w

    pub accepted-wrote : {t : ℕ} {o₂ : List ℕ} → Wrote (lines_of p s (starts p)) r o₁ o₂ t → Wrote (accepted_of p s) at o₀ o₂ t
    accepted-wrote v = wrote_then parts w v

-- `write_listing`: an accepted answer is check's
checked : (k : Checked) {c n e : ℕ} → Sets c n e ≡ analysed_from k false → checked-variants.Program c n e ≡ k
checked (checked-variants.Program cells instructions excludes) h = cc
checked (checked-variants.Refused m) h = absurd (let z : ◌≡◌ {A = ℕ} 0 1 = cc in omega arith)

pub accepted-decodes : (p : List ℕ) {answer : Analysed} {c n e : ℕ} → answer ≡ analyse_of p 2048 512 → answer ≡ Sets c n e → Decodes p
unfolding analyse_of
accepted-decodes p h k = decodes-accepted p (accepted p (checked (check_of p) (sym k ∙ h)))

-- a text for either kind of answer is short
refused-short : (n : ℕ) → n < 2 ^ 32 → length (head_of (bytes "refused ") n) ≤ 140000
unfolding bytes
refused-short n f = omega (arith, head-short (bytes "refused ") n (omega arith) f)

pub refused-room : {n : ℕ} → n < 2 ^ 32 → Room 0 (head_of (bytes "refused ") n)
refused-room {n} f = record { fits = omega (arith, refused-short n f) }

pub start-room : (p s : List ℕ) → Decodes p → cells_of p ≤ 256 → Room 0 (accepted_of p s)
start-room p s d l = record { fits = omega (arith, accepted-short p s d l) }

-- what the answer's kind makes of the text
pub listed-refused : {answer : Analysed} {p s before after : List ℕ} {n r : ℕ} → answer ≡ Refused n → n < 2 ^ 32
    → Wrote (head_of (bytes "refused ") n) 0 before after r → Listed answer p s before after r
listed-refused {n = n} e f w = rw e (record { wrote = w; short = omega (arith, w.end, refused-short n f) })

pub listed-accepted : {answer : Analysed} {p s before after : List ℕ} {c n e r : ℕ} → answer ≡ Sets c n e → Decodes p → cells_of p ≤ 256
    → Wrote (accepted_of p s) 0 before after r → Listed answer p s before after r
listed-accepted {p = p} {s = s} e d l w = rw e (record { wrote = w; short = omega (arith, w.end, accepted-short p s d l) })

-- `list`: buffers of 2,048 and 512 words were lent to `analyse`
module _ {p d₀ s₀ d s : List ℕ} {answer : Analysed} (ed : length d₀ ≡ 2048) (es : length s₀ ≡ 512) (a : Analyses p d₀ s₀ d s answer) where
  list-answer : answer ≡ analyse_of p 2048 512
  list-answer = rw (ed, es) at a.answer

  pub lists : {before after after' : List ℕ} {r : ℕ} → Listed answer p s before after' r → after ≡ after' → Lists p before after r
  lists l f = rw f (record { sets = s; lent = s₀; filled = λ c n m h. (a.filled c n m (list-answer ∙ h)).1; listed = rw list-answer at l })
