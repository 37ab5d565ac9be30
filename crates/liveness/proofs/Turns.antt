-- One turn of the worklist at one node, on plain lists: the bits of the new set, the words that remain, and the sum of the words, which falls with each change.
-- Assumes nothing.
use mathlib.Core.Path.{◌≡◌, refl, sym, ap, ap₂, ◌∙◌}
use mathlib.Core.Logic.{⊎_elim}
use mathlib.Core.Bool.{true, false, false≢true}
use mathlib.Core.List.{List, [], ◌∷◌, ◌++◌}
use Prim.Native.Nat.{ℕ, zero, suc, ◌+◌, ◌-◌, ◌*◌, ◌/◌, ◌%◌, ◌^◌, ◌≤◌, ◌<◌, min, max, suc-le-suc, zero-le}
use native.Mathlib.Nat.{pow-suc}
use native.Mathlib.Omega.{arith}
use lib.ListN.{length, get_or, take, drop, length-take, length-drop, get_or-eq_default}
use lib.Seq.{sets, sets-eq, length-sets}
use Rattle.cellset.specs.Bits.{bit, has, member}
use Rattle.cellset.specs.Sets.{SetIs}
use Rattle.cellset.proofs.Bits.{bit-zero, bit-suc, le-or-lt}
use Rattle.cellset.proofs.Sets.{has-lt2, has-load, member-store, store_below, store-above, store-load, set-ext}
use Rattle.liveness.specs.Graph.{total, meet_bit, Turned}

-- a word of w bits whose bits another has is at most that
bits-le : (w a b : ℕ) → a < 2 ^ w → ((k : ℕ) → k < w → bit a k ≤ bit b k) → a ≤ b
bits-le zero a b h e = omega arith
bits-le (suc w) a b h e =
    let h' : a < 2 ^ w * 2 = rw (pow-suc 2 w) at h in
    let halves : (k : ℕ) → k < w → bit (a / 2) k ≤ bit (b / 2) k = λ k l. omega (arith, bit-suc a k, bit-suc b k, e (suc k) (suc-le-suc l)) in
    let half : a / 2 ≤ b / 2 = bits-le w (a / 2) (b / 2) (omega arith) halves in
    omega (arith, bit-zero a, bit-zero b, e 0 (suc-le-suc zero-le))

-- so are the four words of a set whose members another has
words-le : (s t : List ℕ) → length s ≡ 4 → ((i : ℕ) → get_or s i 0 < 2 ^ 64) → ((c : ℕ) → c < 256 → has s c ≤ has t c) → (i : ℕ) → get_or s i 0 ≤ get_or t i 0
words-le s t four fits e i =
    ⊎_elim
    (λ (p : 4 ≤ i). omega (arith, get_or-eq_default s 0 {n = i} (omega arith)))
    (λ (p : i < 4). bits-le 64 (get_or s i 0) (get_or t i 0) (fits i) (λ k l. at k l (omega arith) (omega arith) (e (64 * i + k) (omega arith))))
    (le-or-lt 4 i)
  where
    at : (k : ℕ) → k < 64 → (64 * i + k) / 64 ≡ i → (64 * i + k) % 64 ≡ k → has s (64 * i + k) ≤ has t (64 * i + k) → bit (get_or s i 0) k ≤ bit (get_or t i 0) k
    at k l q r h = rw (q, r) at h

-- the sum of lists, word by word at most those of others, is at most theirs, and equal to it for equal lists only
total-le : (s t : List ℕ) → length s ≡ length t → ((i : ℕ) → get_or s i 0 ≤ get_or t i 0) → (total s ≤ total t) × (total s ≡ total t → s ≡ t)
total-le [] [] n e = (zero-le, (λ h. refl))
total-le [] (y ∷ t) n e = absurd (omega arith)
total-le (x ∷ s) [] n e = absurd (omega arith)
total-le (x ∷ s) (y ∷ t) n e =
    let below = total-le s t (omega arith) (λ i. e (suc i)) in
    let first : x ≤ y = e 0 in
    (omega arith, (λ h. ap₂ ◌∷◌ (omega arith) (below.1 (omega arith))))

total-append : (s t : List ℕ) → total (s ++ t) ≡ total s + total t
total-append [] t = omega arith
total-append (x ∷ s) t = omega (arith, total-append s t)

-- a set that is stored adds its own sum to that of the other words
total-store : (d : List ℕ) (at : ℕ) (s : List ℕ) → at + 4 ≤ length d → length s ≡ 4 → total (sets d at s) ≡ total (take at d) + total s + total (drop (at + 4) d)
total-store d at s h four =
    ap total (sets-eq s d at (omega arith))
    ∙ rw four (total-append (take at d ++ s) (drop (at + 4) d) ∙ ap (λ (n : ℕ). n + total (drop (at + 4) d)) (total-append (take at d) s))

-- so it falls where a set gives way to one that has fewer members
total_falls : (d : List ℕ) (at : ℕ) {old new : List ℕ} {f : ℕ → ℕ} → at + 4 ≤ length d → old ≡ take 4 (drop at d) → SetIs new f
    → ((c : ℕ) → c < 256 → has new c ≤ has old c) → (new ≡ old → ⊥) → total (sets d at new) < total d
total_falls d at {old} {new} room old_is New-is fewer n =
    let four-loaded : length (take 4 (drop at d)) ≡ 4 = simp (length-take, length-drop) (omega arith) in
    let four : length old ≡ 4 = ap length old_is ∙ four-loaded in
    let below = total-le new old (New-is.four ∙ sym four) (words-le new old New-is.four New-is.fits fewer) in
    let apart : total new ≡ total old → ⊥ = λ h. n (below.1 h) in
    let whole : total (sets d at old) ≡ total d = ap (λ (s : List ℕ). total (sets d at s)) old_is ∙ ap total (store-load d at room) in
    omega (arith, total-store d at new room New-is.four, total-store d at old room four)

-- what is left of a bit is the smaller of it and what the other lacks
less-min : (y z : ℕ) → y < 2 → y - z ≡ min y (1 - z)
less-min y z h = omega arith

-- the members of a set that was loaded
loaded : (ws : List ℕ) (at : ℕ) {s : List ℕ} (c : ℕ) → s ≡ take 4 (drop at ws) → c < 256 → has s c ≡ member ws at c
loaded ws at c e l = ap (λ (x : List ℕ). has x c) e ∙ has-load ws at c l

-- the set that the code makes for node i has the bits of its equation
pub made : (reads writes d : List ℕ) (i l r : ℕ) {old a b after w written q less new : List ℕ}
    → old ≡ take 4 (drop (4 * i) d) → a ≡ take 4 (drop (4 * l) d) → b ≡ take 4 (drop (4 * r) d) → SetIs after (λ c. min (has a c) (has b c))
    → w ≡ take 4 (drop (4 * i) writes) → SetIs written (λ c. max (has after c) (has w c)) → q ≡ take 4 (drop (4 * i) reads)
    → SetIs less (λ c. has written c - has q c) → SetIs new (λ c. min (has old c) (has less c)) → SetIs new (meet_bit reads writes i l r d)
made reads writes d i l r {written = written} {q = q} old_is a-is b-is after_is w-is written_is q-is less-is New-is =
    set-ext New-is λ c h.
    let after-bits = after_is.members c h ∙ ap₂ min (loaded d (4 * l) c a-is h) (loaded d (4 * r) c b-is h) in
    let written-bits = written_is.members c h ∙ ap₂ max after-bits (loaded writes (4 * i) c w-is h) in
    let less-bits = less-is.members c h ∙ less-min (has written c) (has q c) (has-lt2 written c)
    ∙ ap₂ (λ (y z : ℕ). min y (1 - z)) written-bits (loaded reads (4 * i) c q-is h) in
    ap₂ min (loaded d (4 * i) c old_is h) less-bits

-- the old set of node i, and the new one
module _ {reads writes d : List ℕ} {i l r : ℕ} {old new : List ℕ} (old_is : old ≡ take 4 (drop (4 * i) d)) (New-is : SetIs new (meet_bit reads writes i l r d)) where
  -- the answer of a turn that changes nothing
  pub unchanged : new ≡ old → Turned reads writes i l r d d × (false ≡ false → d ≡ d) × (false ≡ true → total d < total d)
  unchanged e = (turned, (λ h. refl), (λ h. absurd (false≢true h)))
    where
      turned : Turned reads writes i l r d d
      turned = record {
        size = refl;
        others = λ k h. refl;
        bits = λ c h. sym (loaded d (4 * i) c (e ∙ old_is) h) ∙ New-is.members c h;
      }

  turned-new : 4 * i + 4 ≤ length d → Turned reads writes i l r d (sets d (4 * i) new)
  turned-new room = record {
    size = length-sets d (4 * i) new;
    others = λ k. ⊎_elim (store_below d (4 * i) new k) (store-above d (4 * i) new k New-is.four);
    bits = λ c h. member-store d (4 * i) new c room New-is.four h ∙ New-is.members c h;
  }

  -- the answer of one that changes words
  pub changed : {d' : List ℕ} → 4 * i + 4 ≤ length d → d' ≡ sets d (4 * i) new → (new ≡ old → ⊥)
      → Turned reads writes i l r d d' × (true ≡ false → d' ≡ d) × (true ≡ true → total d' < total d)
  changed room e n = (rw e (turned-new room), (λ h. absurd (false≢true (sym h))), (λ h. rw e (total_falls d (4 * i) room old_is New-is fewer n)))
    where
      fewer : (c : ℕ) → c < 256 → has new c ≤ has old c
      fewer c h = omega (arith, New-is.members c h, loaded d (4 * i) c old_is h)
