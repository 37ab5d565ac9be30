-- A set is fixed by its members; contracts by `SetIs` compose; a set inside a list of words is loaded and stored, and the other words remain.
-- Assumes nothing.
use mathlib.Core.Path.{◌≡◌, refl, sym, ap, ap₂, ◌∙◌}
use mathlib.Core.List.{List, [], ◌∷◌}
use Prim.Native.Nat.{ℕ, zero, suc, ◌+◌, ◌-◌, ◌*◌, ◌/◌, ◌%◌, ◌^◌, ◌≤◌, ◌<◌, min, max}
use native.Mathlib.Nat.{add-zero}
use native.Mathlib.Omega.{arith}
use lib.ListN.{length, get_or, take, drop, set, length-set, length-take, length-drop, take-append-drop}
use lib.Seq.{ext_get_or, get_or-take, get_or-drop, get_or-set_same, get_or-set_other, sets, sets-eq, take-add}
use Rattle.cellset.specs.Bits.{bit, has, member}
use Rattle.cellset.specs.Sets.{SetIs}
use Rattle.cellset.proofs.Bits.{bit-lt, bit-ext}
use Rattle.cellset.proofs.Words.{has-at, fits-four}

-- membership is 0 or 1
pub has-lt2 : (s : List ℕ) (c : ℕ) → has s c < 2
has-lt2 s c = bit-lt (get_or s (c / 64) 0) (c % 64)

-- two lists of four words with the same members are equal, since each bit of a word is a member
pub same-members : (s t : List ℕ) → length s ≡ 4 → length t ≡ 4 → ((i : ℕ) → get_or s i 0 < 2 ^ 64) → ((i : ℕ) → get_or t i 0 < 2 ^ 64)
    → ((c : ℕ) → c < 256 → has s c ≡ has t c) → s ≡ t
same-members s t four-s four-t fits-s fits-t e =
    ext_get_or 0 s t (four-s ∙ sym four-t) λ i l. bit-ext 64 (get_or s i 0) (get_or t i 0) (fits-s i) (fits-t i)
    λ k h. sym (has-at s i k h) ∙ e (64 * i + k) (omega arith) ∙ has-at t i k h

-- so `SetIs` fixes the words
pub same-words : {s t : List ℕ} {f : ℕ → ℕ} → SetIs s f → SetIs t f → s ≡ t
same-words {s} {t} p q =
    same-members s t p.four q.four p.fits q.fits (λ c l. p.members c l ∙ sym (q.members c l))

-- the same members, said in another way
pub set-ext : {s : List ℕ} {f g : ℕ → ℕ} → SetIs s f → ((c : ℕ) → c < 256 → f c ≡ g c) → SetIs s g
set-ext p e = record { four = p.four; fits = p.fits; members = λ c l. p.members c l ∙ e c l }

-- a contract over the members of s and t, once those are known: the three laws below
set_both : (op : ℕ → ℕ → ℕ) {s t u : List ℕ} {f g : ℕ → ℕ} → SetIs s f → SetIs t g
    → SetIs u (λ c. op (has s c) (has t c)) → SetIs u (λ c. op (f c) (g c))
set_both op p q r = set-ext r (λ c l. ap₂ op (p.members c l) (q.members c l))

-- what `union` ensures, composed
pub set-union : {s t u : List ℕ} {f g : ℕ → ℕ} → SetIs s f → SetIs t g
    → SetIs u (λ c. max (has s c) (has t c)) → SetIs u (λ c. max (f c) (g c))
set-union = set_both max

-- what `intersection` ensures, composed
pub set-intersection : {s t u : List ℕ} {f g : ℕ → ℕ} → SetIs s f → SetIs t g
    → SetIs u (λ c. min (has s c) (has t c)) → SetIs u (λ c. min (f c) (g c))
set-intersection = set_both min

-- what `difference` ensures, composed
pub set-difference : {s t u : List ℕ} {f g : ℕ → ℕ} → SetIs s f → SetIs t g
    → SetIs u (λ c. has s c - has t c) → SetIs u (λ c. f c - g c)
set-difference = set_both ◌-◌

-- word i of what `load` gives
word-load : (ws : List ℕ) (at i : ℕ) → i < 4 → get_or (take 4 (drop at ws)) i 0 ≡ get_or ws (at + i) 0
word-load ws at i l = get_or-take 4 (drop at ws) i 0 l ∙ get_or-drop at ws i 0

-- what `load` gives has the members of the set in ws
pub has-load : (ws : List ℕ) (at c : ℕ) → c < 256 → has (take 4 (drop at ws)) c ≡ member ws at c
has-load ws at c l = ap (λ (x : ℕ). bit x (c % 64)) (word-load ws at (c / 64) (omega arith))

-- it is four words
four-load : (ws : List ℕ) (at : ℕ) → at + 4 ≤ length ws → length (take 4 (drop at ws)) ≡ 4
four-load ws at h = simp (length-take, length-drop) (omega arith)

-- what `load` gives, as a set
pub load_set : (ws : List ℕ) (at : ℕ) → at + 4 ≤ length ws → ((i : ℕ) → get_or ws i 0 < 2 ^ 64) → SetIs (take 4 (drop at ws)) (member ws at)
load_set ws at h fits = record {
  four = four-load ws at h;
  fits = fits-four (take 4 (drop at ws)) (four-load ws at h) (λ i l. rw (word-load ws at i l) (fits (at + i)));
  members = has-load ws at;
}

-- a word that a run of stores does not meet remains
sets-other : (ws : List ℕ) (at : ℕ) (s : List ℕ) (k : ℕ) → ((j : ℕ) → j < length s → k ≡ at + j → ⊥) → get_or (sets ws at s) k 0 ≡ get_or ws k 0
sets-other ws at [] k n = refl
sets-other ws at (x ∷ s) k n =
    sets-other (set ws at x) (suc at) s k (λ j l e. n (suc j) (omega arith) (omega arith))
    ∙ get_or-set_other ws at k x 0 (λ e. n 0 (omega arith) (omega arith))

-- a word that it meets is the one stored
sets_same : (ws : List ℕ) (at : ℕ) (s : List ℕ) (j : ℕ) → at + length s ≤ length ws → j < length s → get_or (sets ws at s) (at + j) 0 ≡ get_or s j 0
sets_same ws at [] j h l = absurd (omega arith)
sets_same ws at (x ∷ s) zero h l =
    rw (add-zero at) (sets-other (set ws at x) (suc at) s at (λ j l e. omega arith) ∙ get_or-set_same ws at x 0 (omega arith))
sets_same ws at (x ∷ s) (suc j) h l =
    let e : at + suc j ≡ suc at + j = omega arith in
    rw e (sets_same (set ws at x) (suc at) s j (rw (length-set ws at x) (omega arith)) (omega arith))

-- the stored set has its members
pub member-store : (ws : List ℕ) (at : ℕ) (s : List ℕ) (c : ℕ) → at + 4 ≤ length ws → length s ≡ 4 → c < 256 → member (sets ws at s) at c ≡ has s c
member-store ws at s c h e l = ap (λ (x : ℕ). bit x (c % 64)) (sets_same ws at s (c / 64) (omega arith) (omega arith))

-- the words before the stored set remain
pub store_below : (ws : List ℕ) (at : ℕ) (s : List ℕ) (k : ℕ) → k < at → get_or (sets ws at s) k 0 ≡ get_or ws k 0
store_below ws at s k h = sets-other ws at s k (λ j l e. omega arith)

-- the words behind it remain
pub store-above : (ws : List ℕ) (at : ℕ) (s : List ℕ) (k : ℕ) → length s ≡ 4 → at + 4 ≤ k → get_or (sets ws at s) k 0 ≡ get_or ws k 0
store-above ws at s k e h = sets-other ws at s k (λ j l e'. omega arith)

-- so a set before it keeps its members
pub member_below : (ws : List ℕ) (at : ℕ) (s : List ℕ) (at' c : ℕ) → at' + 4 ≤ at → c < 256 → member (sets ws at s) at' c ≡ member ws at' c
member_below ws at s at' c h l = ap (λ (x : ℕ). bit x (c % 64)) (store_below ws at s (at' + c / 64) (omega arith))

-- to store what was loaded changes nothing
pub store-load : (ws : List ℕ) (at : ℕ) → at + 4 ≤ length ws → sets ws at (take 4 (drop at ws)) ≡ ws
store-load ws at h =
    let e = four-load ws at h in
    sets-eq (take 4 (drop at ws)) ws at (omega arith)
    ∙ rw (e, ← (take-add at 4 ws)) (take-append-drop (at + 4) ws)
