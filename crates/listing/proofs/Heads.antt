-- A line of a word and a number, its three parts one after the other.
-- Assumes nothing.
use mathlib.Core.List.{List, ◌++◌}
use Prim.Native.Nat.{ℕ}
use Rattle.listing.specs.Text.{bytes, decimal, Wrote, Room}
use Rattle.listing.specs.Listing.{head_of}
use Rattle.listing.proofs.Writing.{Parts, joined, wrote_then, room-first, room-then}

head-parts : (word : List ℕ) (n : ℕ) → Parts (head_of word n) (word ++ decimal n) (bytes "\n")
unfolding head_of
head-parts word n = joined (word ++ decimal n) (bytes "\n")

-- `put_head`: there is room for the line
module _ (word : List ℕ) (n : ℕ) {at : ℕ} (room : Room at (head_of word n)) where
  pub head_word : Room at word
  head_word = room-first (joined word (decimal n)) (room-first (head-parts word n) room)

  module _ {r : ℕ} {o₀ o₁ : List ℕ} (w : Wrote word at o₀ o₁ r) where
    pub head-number : Room r (decimal n)
    head-number = room-then (joined word (decimal n)) (room-first (head-parts word n) room) w

    module _ {s : ℕ} {o₂ : List ℕ} (v : Wrote (decimal n) r o₁ o₂ s) where
      pub head-end : Room s (bytes "\n")
      head-end = room-then (head-parts word n) room (wrote_then (joined word (decimal n)) w v)

      pub head-wrote : {t : ℕ} {o₃ : List ℕ} → Wrote (bytes "\n") s o₂ o₃ t → Wrote (head_of word n) at o₀ o₃ t
      head-wrote u = wrote_then (head-parts word n) (wrote_then (joined word (decimal n)) w v) u
