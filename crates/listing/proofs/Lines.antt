-- The line of an EXCLUDE, its parts one after the other.
-- Assumes nothing.
use mathlib.Core.Path.{◌≡◌, refl}
use mathlib.Core.List.{List, ◌++◌}
use Prim.Native.Nat.{ℕ, zero, suc, ◌+◌, ◌-◌, ◌*◌, ◌≤◌, ◌<◌}
use native.Mathlib.Omega.{arith}
use lib.ListN.{take, drop}
use Rattle.cellset.specs.Bits.{has, member, within}
use Rattle.cellset.specs.Sets.{SetIs}
use Rattle.cellset.proofs.Bits.{within_in}
use Rattle.cellset.proofs.Sets.{has-load}
use Rattle.listing.specs.Text.{bytes, decimal, Wrote, Room}
use Rattle.listing.specs.Listing.{numbers, set_of, line_from, in_neither, line_at}
use Rattle.listing.proofs.Writing.{Parts, joined, wrote_then, room-first, room-then}

-- the cells below n in DE, in RO and in neither, of the EXCLUDE with this number, as the code has them in three sets
pub record Agree (s : List ℕ) (number : ℕ) (x y z : ℕ → ℕ) (n : ℕ) : Type 0 where
  pub in_de : (c : ℕ) → c < n → x c ≡ member s (8 * number) c
  pub in_ro : (c : ℕ) → c < n → y c ≡ member s (8 * number + 4) c
  pub in_neither_of : (c : ℕ) → c < n → z c ≡ in_neither (member s (8 * number)) (member s (8 * number + 4)) c

-- what `load`, `below` and `difference` ensure
pub agreed : (s : List ℕ) (number : ℕ) {n : ℕ} {d e b u v : List ℕ} → n ≤ 256 → d ≡ take 4 (drop (8 * number) s) → e ≡ take 4 (drop (8 * number + 4) s)
    → SetIs b (within 0 n) → SetIs u (λ c. has b c - has d c) → SetIs v (λ c. has u c - has e c) → Agree s number (has d) (has e) (has v) n
agreed s number {n} {d} {e} {b} {u} {v} l ed ee eb eu ev = record { in_de = in-d; in_ro = in_e; in_neither_of = rest }
  where
    in-d : (c : ℕ) → c < n → has d c ≡ member s (8 * number) c
    in-d c h = rw ed (has-load s (8 * number) c (omega arith))

    in_e : (c : ℕ) → c < n → has e c ≡ member s (8 * number + 4) c
    in_e c h = rw ee (has-load s (8 * number + 4) c (omega arith))

    rest : (c : ℕ) → c < n → has v c ≡ in_neither (member s (8 * number)) (member s (8 * number + 4)) c
    rest c h =
        let k : c < 256 = omega arith in
        omega (arith, ev.members c k, eu.members c k, eb.members c k, within_in 0 n c (omega arith) h, in-d c h, in_e c h)

-- the numbers of two sets with the same cells below n
numbers-same : (f g : ℕ → ℕ) (n : ℕ) → ((c : ℕ) → c < n → f c ≡ g c) → numbers f n ≡ numbers g n
unfolding numbers
numbers-same f g zero e = refl
numbers-same f g (suc n) e = rw (e n (omega arith), numbers-same f g n (λ c l. e c (omega arith)))

-- `put_exclude`: the line is that of the three sets
module _ {s : List ℕ} {number n : ℕ} {x y z : ℕ → ℕ} (a : Agree s number x y z n) (offset : ℕ) where
  pub line_same : line_at s number offset n ≡ line_from offset x y z n
  unfolding set_of line_from line_at
  line_same = rw (← numbers-same x _ n a.in_de, ← numbers-same y _ n a.in_ro, ← numbers-same z _ n a.in_neither_of)

  pub line-room : {at : ℕ} → Room at (line_at s number offset n) → Room at (line_from offset x y z n)
  line-room r = rw line_same at r

  pub line-written : {at r : ℕ} {o₀ o₁ : List ℕ} → Wrote (line_from offset x y z n) at o₀ o₁ r → Wrote (line_at s number offset n) at o₀ o₁ r
  line-written w = rw line_same w

-- `put_line`: the parts of the line
abbrev offset-dead : ℕ → (ℕ → ℕ) → ℕ → List ℕ
offset-dead offset x n = decimal offset ++ set_of (bytes " dead") x n

abbrev offset-fixed : ℕ → (x y : ℕ → ℕ) → ℕ → List ℕ
offset-fixed offset x y n = offset-dead offset x n ++ set_of (bytes " fixed") y n

abbrev offset-saved : ℕ → (x y z : ℕ → ℕ) → ℕ → List ℕ
offset-saved offset x y z n = offset-fixed offset x y n ++ set_of (bytes " saved") z n

line-parts : (offset : ℕ) (x y z : ℕ → ℕ) (n : ℕ) → Parts (line_from offset x y z n) (offset-saved offset x y z n) (bytes "\n")
unfolding line_from
line-parts offset x y z n = joined _ _

module _ (offset : ℕ) (x y z : ℕ → ℕ) (n : ℕ) {at : ℕ} (room : Room at (line_from offset x y z n)) where
  room-saved : Room at (offset-saved offset x y z n)
  room-saved = room-first (line-parts offset x y z n) room

  room-fixed : Room at (offset-fixed offset x y n)
  room-fixed = room-first (joined _ _) room-saved

  room-dead : Room at (offset-dead offset x n)
  room-dead = room-first (joined _ _) room-fixed

  pub line-offset : Room at (decimal offset)
  line-offset = room-first (joined _ _) room-dead

  module _ {r₁ : ℕ} {o₀ o₁ : List ℕ} (w₁ : Wrote (decimal offset) at o₀ o₁ r₁) where
    pub line_dead : Room r₁ (set_of (bytes " dead") x n)
    line_dead = room-then (joined _ _) room-dead w₁

    module _ {r₂ : ℕ} {o₂ : List ℕ} (w₂ : Wrote (set_of (bytes " dead") x n) r₁ o₁ o₂ r₂) where
      wrote-dead : Wrote (offset-dead offset x n) at o₀ o₂ r₂
      wrote-dead = wrote_then (joined _ _) w₁ w₂

      pub line-fixed : Room r₂ (set_of (bytes " fixed") y n)
      line-fixed = room-then (joined _ _) room-fixed wrote-dead

      module _ {r₃ : ℕ} {o₃ : List ℕ} (w₃ : Wrote (set_of (bytes " fixed") y n) r₂ o₂ o₃ r₃) where
        wrote-fixed : Wrote (offset-fixed offset x y n) at o₀ o₃ r₃
        wrote-fixed = wrote_then (joined _ _) wrote-dead w₃

        pub line-saved : Room r₃ (set_of (bytes " saved") z n)
        line-saved = room-then (joined _ _) room-saved wrote-fixed

        module _ {r₄ : ℕ} {o₄ : List ℕ} (w₄ : Wrote (set_of (bytes " saved") z n) r₃ o₃ o₄ r₄) where
          wrote-saved : Wrote (offset-saved offset x y z n) at o₀ o₄ r₄
          wrote-saved = wrote_then (joined _ _) wrote-fixed w₄

          pub line-end : Room r₄ (bytes "\n")
          line-end = room-then (line-parts offset x y z n) room wrote-saved

          pub line_wrote : {r₅ : ℕ} {o₅ : List ℕ} → Wrote (bytes "\n") r₄ o₄ o₅ r₅ → Wrote (line_from offset x y z n) at o₀ o₅ r₅
          line_wrote w₅ = wrote_then (line-parts offset x y z n) wrote-saved w₅
