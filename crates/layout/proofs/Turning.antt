-- One turn of the loops that load and of those that store, on plain lists, and the parts that `store_state` stores.
-- Assumes nothing.
use mathlib.Core.Path.{◌≡◌, refl, sym, ap, ◌∙◌}
use mathlib.Core.List.{List, [], ◌∷◌, ◌++◌, map, append_assoc, append-nil}
use Prim.Native.Nat.{ℕ, zero, suc, ◌+◌, ◌*◌, ◌<◌, ◌≤◌}
use Rattle.std.proofs.Common.{mod-eq_of_lt}
use native.Mathlib.Numerals.{add-one}
use native.Mathlib.Omega.{arith}
use lib.IntN.{ℤ, pos}
use lib.ListN.{length, get_or, set, take, drop, length-map, drop_of_length-le, get_or-map}
use lib.Seq.{sets, sets-eq, take-suc, take-suc-set, take_all, length-take-le, drop-cons, drop-drop}
use mir.Syntax.{w32}
use mir.Val.{to_z, of_z, SFits}
use mir.Facts.{to_z-of_z}
use Rattle.word.specs.Word.{val, bits_of}
use Rattle.word.specs.Bytes.{bytes_of, load_of, store_of}
use Rattle.word.proofs.Bytes.{load_one}
use Rattle.step.specs.declared.Regs.{Regs}
use Rattle.layout.specs.Numbers.{numbers_from, bytes_of_all, signed_from, signed_bytes}
use Rattle.layout.specs.Layout.{regs_in, marks_in, regs_list, state_bytes}
use Rattle.layout.proofs.Numbering.{numbers-split, all-length, all_append, signed_all}
use Rattle.layout.proofs.Laws.{stores-join, signed-split, cells-end, marks-end, state-length}

-- ---- loads

-- one more element stands behind the first k
grown : {A : Type 0} (xs : List A) (k : ℕ) (v : A) {ys zs : List A} → take k xs ≡ ys → k < length xs → zs ≡ ys ++ (v ∷ []) → take (k + 1) (set xs k v) ≡ zs
grown xs k v q l e = rw (add-one k, take-suc-set xs k v l, q, e)

-- no number at first
pub numbers-none : (w : ℕ) (b : List ℕ) (at : ℕ) → [] ≡ numbers_from w 0 b at
unfolding numbers_from
numbers-none w b at = refl

-- nor a signed one
pub signed-none : (b : List ℕ) (at : ℕ) → [] ≡ signed_from 0 b at
unfolding signed_from
signed-none b at = refl

-- one more number is the next
numbers-snoc : (w k : ℕ) (b : List ℕ) (at : ℕ) → numbers_from w (k + 1) b at ≡ numbers_from w k b at ++ (load_of w b (at + w * k) ∷ [])
unfolding numbers_from
numbers-snoc w k b at = numbers-split w k 1 b at

-- and one more signed number
signed-snoc : (k : ℕ) (b : List ℕ) (at : ℕ) → signed_from (k + 1) b at ≡ signed_from k b at ++ (val (load_of 4 b (at + 4 * k)) ∷ [])
unfolding signed_from
signed-snoc k b at = signed-split k 1 b at

-- a turn puts it where it belongs
pub loaded-turn : (w at : ℕ) (b xs : List ℕ) (k : ℕ) {i v : ℕ} → take k xs ≡ numbers_from w k b at → k < length xs → v ≡ load_of w b i → i ≡ at + w * k
    → take (k + 1) (set xs k v) ≡ numbers_from w (k + 1) b at
loaded-turn w at b xs k {i} {v} q l e f = grown xs k v q l (rw (e, f) (numbers-snoc w k b at))

-- the same of signed numbers
pub signed-turn : (at : ℕ) (b : List ℕ) (xs : List ℤ) (k : ℕ) {i n : ℕ} {v : ℤ} → take k xs ≡ signed_from k b at → k < length xs → n ≡ load_of 4 b i → i ≡ at + 4 * k
    → v ≡ val n → take (k + 1) (set xs k v) ≡ signed_from (k + 1) b at
signed-turn at b xs k {i} {n} {v} q l e f g = grown xs k v q l (rw (g, e, f) (signed-snoc k b at))

-- behind the last turn all are there
pub loaded-done : (w at : ℕ) (b xs : List ℕ) {k n : ℕ} → take k xs ≡ numbers_from w k b at → length xs ≡ n → k ≡ n → xs ≡ numbers_from w n b at
loaded-done w at b xs {n = n} q l e = sym (take_all n xs (omega arith)) ∙ rw e at q

-- ---- stores

-- no bytes at first
pub stored-none : (w : ℕ) (b : List ℕ) (at : ℕ) → b ≡ sets b at (bytes_of_all w [])
unfolding bytes_of_all
stored-none w b at = refl

-- the bytes of one number more
all_snoc : (w : ℕ) (vs : List ℕ) (k : ℕ) → k < length vs → bytes_of_all w (take (k + 1) vs) ≡ bytes_of_all w (take k vs) ++ bytes_of w (get_or vs k 0)
unfolding bytes_of_all
all_snoc w vs k l =
    rw (add-one k, take-suc vs k 0 l, all_append w (take k vs) (get_or vs k 0 ∷ []))
    (ap (λ (r : List ℕ). bytes_of_all w (take k vs) ++ r) (append-nil (bytes_of w (get_or vs k 0))))

-- a turn stores them where they belong
pub stored-turn : (w at : ℕ) (b₀ b vs : List ℕ) (k : ℕ) {i v : ℕ} {t : List ℕ} → b ≡ sets b₀ at (bytes_of_all w (take k vs)) → k < length vs → t ≡ store_of w b i v
    → i ≡ at + w * k → v ≡ get_or vs k 0 → t ≡ sets b₀ at (bytes_of_all w (take (k + 1) vs))
unfolding store_of
stored-turn w at b₀ b vs k q l e f g =
    let n : length (bytes_of_all w (take k vs)) ≡ w * k = all-length w (take k vs) ∙ ap (λ (m : ℕ). w * m) (length-take-le k vs (omega arith)) in
    let place = f ∙ ap (λ (m : ℕ). at + m) (sym n) in
    rw (e, q, place, g, all_snoc w vs k l) (stores-join b₀ at (bytes_of_all w (take k vs)) (bytes_of w (get_or vs k 0)))

-- behind the last turn all are stored
pub stored-done : (w at : ℕ) (b₀ vs : List ℕ) (k : ℕ) {b : List ℕ} {n : ℕ} → b ≡ sets b₀ at (bytes_of_all w (take k vs)) → length vs ≡ n → k ≡ n
    → b ≡ sets b₀ at (bytes_of_all w vs)
stored-done w at b₀ vs k q l e = q ∙ ap (λ (us : List ℕ). sets b₀ at (bytes_of_all w us)) (take_all k vs (omega arith))

-- the pattern of the k-th signed number v, which is read back as `to_z w32 (of_z w32 v)`: that is v, since v fits
pub pattern-at : (vs : List ℤ) (k : ℕ) {n : ℕ} → n ≡ bits_of (to_z w32 (of_z w32 (get_or vs k (pos 0)))) → SFits w32 (get_or vs k (pos 0)) → n ≡ get_or (map bits_of vs) k 0
pattern-at vs k e f = e ∙ ap bits_of (to_z-of_z f) ∙ sym (get_or-map bits_of vs k (pos 0))

-- behind the last turn the signed numbers are stored
pub signed-done : (at : ℕ) (b₀ : List ℕ) (vs : List ℤ) (k : ℕ) {b : List ℕ} → b ≡ sets b₀ at (bytes_of_all 4 (take k (map bits_of vs))) → k ≡ length vs
    → b ≡ sets b₀ at (signed_bytes vs)
signed-done at b₀ vs k q e = rw (signed_all vs) (stored-done 4 at b₀ (map bits_of vs) k q (length-map vs bits_of) e)

-- ---- bytes

-- numbers of one byte are those bytes
ones-loaded : (n : ℕ) (b : List ℕ) (at : ℕ) → at + n ≤ length b → take n (drop at b) ≡ numbers_from 1 n b at
unfolding numbers_from
ones-loaded zero b at h = refl
ones-loaded (suc n) b at h =
    let i : at < length b = omega arith in
    rw (load_one b at, drop-cons b at 0, ← add-one at) (ap (λ (l : List ℕ). get_or b at 0 ∷ l) (ones-loaded n b (at + 1) (omega arith)))

-- and the bytes of such numbers are the numbers
ones-stored : (vs : List ℕ) → ((k : ℕ) → get_or vs k 0 < 256) → bytes_of_all 1 vs ≡ vs
unfolding bytes_of_all bytes_of
ones-stored [] h = refl
ones-stored (v ∷ vs) h = rw (mod-eq_of_lt (h 0)) (ap (λ (l : List ℕ). v ∷ l) (ones-stored vs (λ k. h (suc k))))

-- the marks are the 256 bytes behind the cells
pub marks-loaded : (b : List ℕ) → 1280 ≤ length b → take 256 (drop 1024 b) ≡ marks_in b
unfolding marks_in
marks-loaded b h = ones-loaded 256 b 1024 h

-- marks in the place of those bytes are stored there
pub marks-stored : (b marks : List ℕ) → length marks ≡ 256 → 1280 ≤ length b → ((k : ℕ) → get_or marks k 0 < 256)
    → take 1024 b ++ (marks ++ drop 256 (drop 1024 b)) ≡ sets b 1024 (bytes_of_all 1 marks)
marks-stored b marks l room h =
    rw (ones-stored marks h, sets-eq marks b 1024 (omega arith), l, drop-drop 256 1024 b)
    (sym (append_assoc (take 1024 b) marks (drop 1280 b)))

-- ---- a state

-- eight numbers that are loaded are the registers
pub regs-loaded : (b : List ℕ) (g h : ℕ) {p x n o s w e v : ℕ} → p ≡ load_of 4 b 1280 → x ≡ load_of 4 b 1284 → n ≡ load_of 4 b 1288 → o ≡ load_of 4 b 1292
    → s ≡ load_of 4 b 1296 → w ≡ load_of 4 b 1300 → e ≡ load_of 4 b 1304 → v ≡ load_of 4 b 1308
    → record { pc = p; exclude = x; readings = n; outputs = o; stop = s; write = w; erase = e; saving = v; page = g; owner = h } ≡ regs_in g h b
unfolding regs_in
regs-loaded b g h p x n o s w e v =
    λ i. record { pc = p i; exclude = x i; readings = n i; outputs = o i; stop = s i; write = w i; erase = e i; saving = v i; page = g; owner = h }

-- one register more
regs-turn : (r : Regs) (b₀ : List ℕ) {b t : List ℕ} (k : ℕ) → k < 8 → b ≡ sets b₀ 1280 (bytes_of_all 4 (take k (regs_list r)))
    → t ≡ store_of 4 b (1280 + 4 * k) (get_or (regs_list r) k 0) → t ≡ sets b₀ 1280 (bytes_of_all 4 (take (k + 1) (regs_list r)))
regs-turn r b₀ {b} k l q e = stored-turn 4 1280 b₀ b (regs_list r) k q l e refl refl

-- all eight
pub regs-stored : (r : Regs) (b : List ℕ) {t₀ t₁ t₂ t₃ t₄ t₅ t₆ t₇ : List ℕ} → t₀ ≡ store_of 4 b 1280 r.pc → t₁ ≡ store_of 4 t₀ 1284 r.exclude
    → t₂ ≡ store_of 4 t₁ 1288 r.readings → t₃ ≡ store_of 4 t₂ 1292 r.outputs → t₄ ≡ store_of 4 t₃ 1296 r.stop → t₅ ≡ store_of 4 t₄ 1300 r.write
    → t₆ ≡ store_of 4 t₅ 1304 r.erase → t₇ ≡ store_of 4 t₆ 1308 r.saving → t₇ ≡ sets b 1280 (bytes_of_all 4 (regs_list r))
regs-stored r b e₀ e₁ e₂ e₃ e₄ e₅ e₆ e₇ =
    let q₁ = regs-turn r b 0 (omega arith) (stored-none 4 b 1280) e₀ in
    let q₂ = regs-turn r b 1 (omega arith) q₁ e₁ in
    let q₃ = regs-turn r b 2 (omega arith) q₂ e₂ in
    let q₄ = regs-turn r b 3 (omega arith) q₃ e₃ in
    let q₅ = regs-turn r b 4 (omega arith) q₄ e₄ in
    let q₆ = regs-turn r b 5 (omega arith) q₅ e₅ in
    let q₇ = regs-turn r b 6 (omega arith) q₆ e₆ in
    regs-turn r b 7 (omega arith) q₇ e₇

-- bytes stored over a whole buffer are what it holds then
whole : (b v : List ℕ) → length v ≡ length b → sets b 0 v ≡ v
whole b v l =
    sets-eq v b 0 (omega arith) ∙ ap (λ (r : List ℕ). v ++ r) (drop_of_length-le b {i = 0 + length v} (omega arith)) ∙ append-nil v

-- cells, marks and registers that are stored where they belong are the bytes of their state
pub state-stored : (r : Regs) (cells marks b : List ℕ) {c d e : List ℕ} → length cells ≡ 256 → length marks ≡ 256 → length b ≡ 1312
    → c ≡ sets b 0 (bytes_of_all 4 cells) → d ≡ sets c 1024 (bytes_of_all 1 marks) → e ≡ sets d 1280 (bytes_of_all 4 (regs_list r)) → e ≡ state_bytes r cells marks
unfolding state_bytes
state-stored r cells marks b {c} {d} {e} l m s f g h =
    let x : List ℕ = bytes_of_all 4 cells in
    let y : List ℕ = bytes_of_all 1 marks in
    let z : List ℕ = bytes_of_all 4 (regs_list r) in
    let first : 1024 ≡ 0 + length x = omega (arith, cells-end cells l) in
    let second : 1280 ≡ 0 + length (x ++ y) = omega (arith, marks-end cells marks l m) in
    let two : d ≡ sets b 0 (x ++ y) = rw (g, f, first) (stores-join b 0 x y) in
    let three : e ≡ sets b 0 (x ++ y ++ z) = rw (h, two, second) (stores-join b 0 (x ++ y) z) in
    three ∙ whole b (x ++ y ++ z) (state-length r cells marks l m ∙ sym s)
