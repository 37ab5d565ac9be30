-- The marks by cell after an EXCLUDE, after recovery and after a save's last byte; a mark and its byte fix each other; lengths stay, and bytes of marks stay bytes of marks.
-- The set that `stored_cells` gives has the cells of `stored_cells_of`.
-- Assumes nothing.
use mathlib.Core.Path.{◌≡◌, refl, ap, ◌∙◌}
use mathlib.Core.Logic.{⊎_elim}
use mathlib.Core.List.{List}
use Prim.Native.Nat.{ℕ, zero, suc, ◌+◌, ◌≤◌, ◌<◌}
use native.Mathlib.Omega.{arith}
use lib.ListN.{length, get_or, length-set, get_or-eq_default}
use lib.Seq.{get_or-set_same, get_or-set_other}
use borrow.Author.Tests.{le-ltb}
use Rattle.cellset.specs.Bits.{has}
use Rattle.cellset.specs.Sets.{SetIs}
use Rattle.cellset.specs.Members.{members_from, members}
use Rattle.cellset.proofs.Bits.{le-or-lt}
use Rattle.marks.specs.Marks.{byte_of, mark_of, excluded, recovered, saved, map_below, in_set, excluded_marks, recovered_marks, saved_marks, to_store, stored_from, stored_cells_of}
use Rattle.marks.specs.declared.Mark.{Mark}
use Rattle.marks.specs.declared.Mark.TheVariants.{Include, Pending, Kept, Dead}

-- the byte of a mark is read as that mark
pub mark-byte : (m : Mark) → mark_of (byte_of m) ≡ m
mark-byte Include = refl
mark-byte Pending = refl
mark-byte Kept = refl
mark-byte Dead = refl

-- a mark's byte is 3 at most
pub byte_small : (m : Mark) → byte_of m ≤ 3
byte_small Include = omega arith
byte_small Pending = omega arith
byte_small Kept = omega arith
byte_small Dead = omega arith

-- and such a byte is that of the mark it is read as
pub byte-mark : (b : ℕ) → b ≤ 3 → byte_of (mark_of b) ≡ b
byte-mark zero h = refl
byte-mark (suc zero) h = refl
byte-mark (suc (suc zero)) h = refl
byte-mark (suc (suc (suc zero))) h = refl
byte-mark (suc (suc (suc (suc b)))) h = absurd (omega arith)

-- the list stays as long as it is
pub map-length : (f : ℕ → Mark → Mark) (n : ℕ) (ms : List ℕ) → length (map_below f n ms) ≡ length ms
unfolding map_below
map-length f zero ms = refl
map-length f (suc n) ms = length-set (map_below f n ms) n (byte_of (f n (mark_of (get_or ms n 0)))) ∙ map-length f n ms

-- from n on nothing changes
pub map-out : (f : ℕ → Mark → Mark) (n : ℕ) (ms : List ℕ) (c : ℕ) → n ≤ c → get_or (map_below f n ms) c 0 ≡ get_or ms c 0
unfolding map_below
map-out f zero ms c h = refl
map-out f (suc n) ms c h =
    get_or-set_other (map_below f n ms) n c (byte_of (f n (mark_of (get_or ms n 0)))) 0 (λ e. omega arith) ∙ map-out f n ms c (omega arith)

-- below n each mark is mapped
pub map-in : (f : ℕ → Mark → Mark) (n : ℕ) (ms : List ℕ) (c : ℕ) → c < n → c < length ms
    → get_or (map_below f n ms) c 0 ≡ byte_of (f c (mark_of (get_or ms c 0)))
unfolding map_below
map-in f zero ms c h l = absurd (omega arith)
map-in f (suc n) ms c h l =
    ⊎_elim
    (λ (p : n ≤ c). let e : c ≡ n = omega arith in
    rw e (get_or-set_same (map_below f n ms) n (byte_of (f n (mark_of (get_or ms n 0)))) 0 (rw map-length (omega arith))))
    (λ (q : c < n). get_or-set_other (map_below f n ms) n c (byte_of (f n (mark_of (get_or ms n 0)))) 0 (λ e. omega arith) ∙ map-in f n ms c q l)
    (le-or-lt n c)

-- bytes of marks stay bytes of marks
pub map-small : (f : ℕ → Mark → Mark) (n : ℕ) (ms : List ℕ) → ((c : ℕ) → get_or ms c 0 ≤ 3) → (c : ℕ) → get_or (map_below f n ms) c 0 ≤ 3
map-small f n ms small c = ⊎_elim out (λ (p : c < n). ⊎_elim past (inside p) (le-or-lt (length ms) c)) (le-or-lt n c)
  where
    out : n ≤ c → get_or (map_below f n ms) c 0 ≤ 3
    out p = rw (map-out f n ms c p) (small c)

    past : length ms ≤ c → get_or (map_below f n ms) c 0 ≤ 3
    past p = omega (arith, get_or-eq_default (map_below f n ms) 0 {n = c} (rw map-length p))

    inside : c < n → c < length ms → get_or (map_below f n ms) c 0 ≤ 3
    inside p q = rw (map-in f n ms c p q) (byte_small (f c (mark_of (get_or ms c 0))))

-- an EXCLUDE: the mark of each cell below n by the rule
pub excluded-in : (ws : List ℕ) (at n : ℕ) (ms : List ℕ) (c : ℕ) → c < n → c < length ms
    → mark_of (get_or (excluded_marks ws at n ms) c 0) ≡ excluded (mark_of (get_or ms c 0)) (in_set ws at c) (in_set ws (at + 4) c)
unfolding excluded_marks
excluded-in ws at n ms c h l =
    ap mark_of (map-in _ n ms c h l) ∙ mark-byte (excluded (mark_of (get_or ms c 0)) (in_set ws at c) (in_set ws (at + 4) c))

-- the others remain
pub excluded-out : (ws : List ℕ) (at n : ℕ) (ms : List ℕ) (c : ℕ) → n ≤ c → get_or (excluded_marks ws at n ms) c 0 ≡ get_or ms c 0
unfolding excluded_marks
excluded-out ws at n ms c h = map-out _ n ms c h

-- the list stays as long as it is
pub excluded-length : (ws : List ℕ) (at n : ℕ) (ms : List ℕ) → length (excluded_marks ws at n ms) ≡ length ms
unfolding excluded_marks
excluded-length ws at n ms = map-length _ n ms

-- and its bytes are those of marks
pub excluded-small : (ws : List ℕ) (at n : ℕ) (ms : List ℕ) → ((c : ℕ) → get_or ms c 0 ≤ 3) → (c : ℕ) → get_or (excluded_marks ws at n ms) c 0 ≤ 3
unfolding excluded_marks
excluded-small ws at n ms = map-small _ n ms

-- recovery: the mark of each cell below n by the rule
pub recovered-in : (ws : List ℕ) (at n : ℕ) (ms : List ℕ) (c : ℕ) → c < n → c < length ms
    → mark_of (get_or (recovered_marks ws at n ms) c 0) ≡ recovered (in_set ws at c) (in_set ws (at + 4) c)
unfolding recovered_marks
recovered-in ws at n ms c h l = ap mark_of (map-in _ n ms c h l) ∙ mark-byte (recovered (in_set ws at c) (in_set ws (at + 4) c))

-- the others remain
pub recovered-out : (ws : List ℕ) (at n : ℕ) (ms : List ℕ) (c : ℕ) → n ≤ c → get_or (recovered_marks ws at n ms) c 0 ≡ get_or ms c 0
unfolding recovered_marks
recovered-out ws at n ms c h = map-out _ n ms c h

-- the list stays as long as it is
pub recovered-length : (ws : List ℕ) (at n : ℕ) (ms : List ℕ) → length (recovered_marks ws at n ms) ≡ length ms
unfolding recovered_marks
recovered-length ws at n ms = map-length _ n ms

-- and its bytes are those of marks
pub recovered-small : (ws : List ℕ) (at n : ℕ) (ms : List ℕ) → ((c : ℕ) → get_or ms c 0 ≤ 3) → (c : ℕ) → get_or (recovered_marks ws at n ms) c 0 ≤ 3
unfolding recovered_marks
recovered-small ws at n ms = map-small _ n ms

-- a save's last byte: the mark of each cell below n by the rule
pub saved-in : (n : ℕ) (ms : List ℕ) (c : ℕ) → c < n → c < length ms → mark_of (get_or (saved_marks n ms) c 0) ≡ saved (mark_of (get_or ms c 0))
unfolding saved_marks
saved-in n ms c h l = ap mark_of (map-in _ n ms c h l) ∙ mark-byte (saved (mark_of (get_or ms c 0)))

-- the others remain
pub saved-out : (n : ℕ) (ms : List ℕ) (c : ℕ) → n ≤ c → get_or (saved_marks n ms) c 0 ≡ get_or ms c 0
unfolding saved_marks
saved-out n ms c h = map-out _ n ms c h

-- the list stays as long as it is
pub saved-length : (n : ℕ) (ms : List ℕ) → length (saved_marks n ms) ≡ length ms
unfolding saved_marks
saved-length n ms = map-length _ n ms

-- and its bytes are those of marks
pub saved-small : (n : ℕ) (ms : List ℕ) → ((c : ℕ) → get_or ms c 0 ≤ 3) → (c : ℕ) → get_or (saved_marks n ms) c 0 ≤ 3
unfolding saved_marks
saved-small n ms = map-small _ n ms

-- ---- the cells of the set that `stored_cells` gives

stored_same : (n : ℕ) (ms : List ℕ) {s : List ℕ} → SetIs s (to_store n ms) → (c k : ℕ) → c + k ≤ 256 → members_from s c k ≡ stored_from n ms c k
unfolding members_from stored_from
stored_same n ms h c zero l = refl
stored_same n ms h c (suc k) l = rw (h.members c (omega arith), stored_same n ms h (suc c) k (omega arith))

pub stored-members : (n : ℕ) (ms : List ℕ) {s : List ℕ} → SetIs s (to_store n ms) → members s ≡ stored_cells_of n ms
unfolding members stored_cells_of
stored-members n ms h = stored_same n ms h 0 256 (omega arith)

-- a save of n cells holds none behind them
pub stored-none : (n : ℕ) (ms : List ℕ) {s : List ℕ} → SetIs s (to_store n ms) → (c : ℕ) → n ≤ c → c < 256 → has s c ≡ 0
stored-none n ms h c a b = h.members c b ∙ rw (le-ltb c n a)
