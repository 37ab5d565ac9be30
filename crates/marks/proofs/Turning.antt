-- One turn of the loop of `update`, on plain lists: the mark of one more cell is set.
-- Assumes nothing.
use Rattle.std.proofs.Common.{◌≡◌, ℕ, zero, suc, ◌+◌, ◌<◌, ◌≤◌, List, ◌++◌, length, get_or, set, take, drop, refl, ap, arith, add-one, length-take, take-append-drop, get_or-take}
use Rattle.std.proofs.lemmas.List.{set-append_left}
use Rattle.marks.specs.Marks.{byte_of, mark_of, map_below}
use Rattle.marks.specs.declared.Mark.{Mark}
use Rattle.marks.proofs.Laws.{map-length, map-out}

-- before the first turn no mark is set
pub map-first : (f : ℕ → Mark → Mark) (ms : List ℕ) → ms ≡ map_below f 0 ms
unfolding map_below
map-first f ms = refl

-- the mark of cell c is still the one at first, so that the byte stored is that of the definition
pub map-turn : (f : ℕ → Mark → Mark) (c : ℕ) (ms ms' : List ℕ) {m m' : Mark} {b : ℕ}
    → ms' ≡ map_below f c ms → m ≡ mark_of (get_or ms' c 0) → m' ≡ f c m → b ≡ byte_of m' → set ms' c b ≡ map_below f (c + 1) ms
unfolding map_below
map-turn f c ms ms' now m m' b =
    rw (b, m', m, now, add-one c) (ap (λ (b : ℕ). set (map_below f c ms) c (byte_of (f c (mark_of b)))) (map-out f c ms c (omega arith)))

-- what is done to the first n marks by themselves is done to them before the others
pub map-front : (f : ℕ → Mark → Mark) (k n : ℕ) (ms : List ℕ) → k ≤ n → n ≤ length ms
    → map_below f k (take n ms) ++ drop n ms ≡ map_below f k ms
unfolding map_below
map-front f zero n ms h l = take-append-drop n ms
map-front f (suc k) n ms h l =
    let s = map_below f k (take n ms) in
    let b = byte_of (f k (mark_of (get_or ms k 0))) in
    let lt : k < length s = rw (map-length f k (take n ms), length-take n ms) (omega arith) in
    let e : set (s ++ drop n ms) k b ≡ set s k b ++ drop n ms = set-append_left s (drop n ms) k b lt in
    rw (get_or-take n ms k 0 (omega arith), ← e, map-front f k n ms (omega arith) l) refl
