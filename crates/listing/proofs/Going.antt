-- The lines of the EXCLUDEs, one after the other, in a loop over the instructions.
-- Assumes nothing.
use mathlib.Core.Path.{◌≡◌, refl, sym, ◌∙◌}
use mathlib.Core.List.{List, [], ◌∷◌, ◌++◌, append_assoc, append-nil}
use mathlib.Core.Bool.{cond}
use Prim.Native.Nat.{ℕ, ◌+◌, ◌*◌, ◌≤◌, ◌<◌}
use native.Mathlib.Omega.{arith}
use lib.ListN.{length}
use lib.Dec.{eqb}
use borrow.Author.Tests.{eq-eqb, ne_eqb}
use Rattle.instruction.specs.Bytes.{byte, cells_of, length_of}
use Rattle.program.specs.Starts.{starts, first_refusal, excludes}
use Rattle.program.specs.Places.{excludes_before, exclude_number}
use Rattle.program.proofs.Left.{Left, left_here}
use Rattle.program.proofs.Walks.{whole_by, sound-next}
use Rattle.listing.specs.Text.{Wrote, Room}
use Rattle.listing.specs.Listing.{line_at, lines_of}
use Rattle.listing.proofs.Writing.{Parts, joined, wrote_none, wrote_then, room-first, room-then}

-- `put_lines`: `text` is written, the lines of the instructions at the offsets os follow, and `number` EXCLUDEs stand before them
pub record Going (p s : List ℕ) (at : ℕ) (before after : List ℕ) (end number here : ℕ) (os : List ℕ) : Type 0 where
  pub sound : first_refusal p os ≡ 0
  pub count : excludes p (starts p) ≡ number + excludes p os
  pub numbered : (t : ℕ) → here ≤ t → exclude_number p t ≡ number + excludes_before p os t
  pub text : List ℕ
  pub wrote : Wrote text at before after end
  pub left : Parts (lines_of p s (starts p)) text (lines_of p s os)

pub going-first : (p s : List ℕ) {at : ℕ} {out : List ℕ} → first_refusal p (starts p) ≡ 0 → Going p s at out out at 0 1 (starts p)
going-first p s h = record {
  sound = h;
  count = omega arith;
  numbered = λ t l. omega arith;
  text = [];
  wrote = wrote_none;
  left = joined [] (lines_of p s (starts p));
}

-- a turn: x is 1 for an EXCLUDE, and `part` is its line or nothing
module _ {p s : List ℕ} {at : ℕ} {before after : List ℕ} {end number here : ℕ} {os : List ℕ} (q : Going p s at before after end number here (here ∷ os)) where
  turn : (n x : ℕ) {part after' : List ℕ} {end' : ℕ} → 0 < n → x ≡ cond (eqb (byte p here) 0x0D) 1 0 → Parts (lines_of p s (here ∷ os)) part (lines_of p s os)
      → Wrote part end after after' end' → Going p s at before after' end' (number + x) (here + n) os
  unfolding excludes excludes_before
  turn n x {part} l e b w = record {
    sound = (sound-next p here os q.sound).1;
    count = rw e (omega (arith, q.count));
    numbered = λ t h.
        let ne : here ≡ t → ⊥ = λ d. omega arith in
        let r : exclude_number p t ≡ number + (cond (eqb (byte p here) 0x0D) 1 0 + excludes_before p os t) = rw (ne_eqb here t ne) at (q.numbered t (omega arith)) in
        rw e (omega arith);
    text = q.text ++ part;
    wrote = wrote_then (joined _ _) q.wrote w;
    left = record { is = q.left.is ∙ rw b.is (sym (append_assoc q.text part (lines_of p s os))) };
  }

  -- no EXCLUDE
  pub going_on : {n : ℕ} → 0 < n → (byte p here ≡ 0x0D → ⊥) → Going p s at before after end number (here + n) os
  unfolding lines_of
  going_on {n} l ne =
      let e : number + 0 ≡ number = omega arith in
      rw e at (turn n 0 l (rw (ne_eqb _ _ ne)) (record { is = rw (ne_eqb _ _ ne) }) wrote_none)

  module _ {cells : ℕ} (k : byte p here ≡ 0x0D) (m : cells ≡ cells_of p) where
    -- the line's own number
    own : exclude_number p here ≡ number
    unfolding excludes_before
    own = let r = q.numbered here (omega arith) in rw (eq-eqb here here refl) at r ∙ omega arith

    line-left : Parts (lines_of p s (here ∷ os)) (line_at s number here cells) (lines_of p s os)
    unfolding lines_of
    line-left = record { is = rw (k, own, ← m) }

    -- an EXCLUDE
    pub going-line : {n end' : ℕ} {after' : List ℕ} → 0 < n → Wrote (line_at s number here cells) end after after' end'
        → Going p s at before after' end' (number + 1) (here + n) os
    going-line {n} l w = turn n 1 l (rw k) line-left w

    -- its line has room, and its sets stand in 512 words
    pub going-room : Room at (lines_of p s (starts p)) → Room end (line_at s number here cells)
    going-room r = room-first line-left (room-then q.left r q.wrote)

    pub going-few : excludes p (starts p) ≤ 64 → 8 * number + 8 ≤ 512
    unfolding excludes
    going-few h = let c : excludes p (starts p) ≡ number + (1 + excludes p os) = rw k at q.count in omega arith

pub going_done : {p s : List ℕ} {at : ℕ} {before after : List ℕ} {end number here : ℕ} → Going p s at before after end number here []
    → Wrote (lines_of p s (starts p)) at before after end
unfolding lines_of
going_done q = rw (q.left.is ∙ append-nil q.text) q.wrote

-- the instruction of a turn is whole
pub whole_here : {p s before after : List ℕ} {at end number here n : ℕ} → Left p (Going p s at before after end number here) here → here < length p
    → n ≡ length_of (byte p here) → (0 < n) × (here + n ≤ length p)
whole_here l h e = left_here _ l h (λ f q. whole_by _ _ e (sound-next _ _ _ q.sound).0)
