-- What the crates above cite: the bytes of a state hold that state, storing a state that was loaded changes nothing, how large is what was loaded or
-- stored, and how signed numbers that stand one behind the other part and join.
-- Assumes nothing.
use mathlib.Core.Path.{◌≡◌, refl, sym, ap, ◌∙◌}
use mathlib.Core.List.{List, [], ◌∷◌, ◌++◌, map, append_assoc, append-nil}
use Prim.Native.Nat.{ℕ, zero, suc, ◌+◌, ◌-◌, ◌*◌, ◌^◌, ◌<◌, ◌≤◌}
use native.Mathlib.Nat.{add-zero}
use native.Mathlib.Omega.{arith}
use lib.IntN.{ℤ}
use lib.ListN.{length, get_or, set, take, drop, length-append, length-map}
use lib.Seq.{sets, take_all, take_at, take-add, drop_at}
use Rattle.word.specs.Word.{val, bits_of}
use Rattle.step.specs.declared.Regs.{Regs}
use Rattle.layout.specs.Numbers.{numbers_from, bytes_of_all, signed_from, signed_bytes}
use Rattle.layout.specs.Layout.{regs_in, cells_in, marks_in, regs_list, state_bytes}
use Rattle.layout.proofs.Numbering.{numbers-length, numbers-split, all-length, all_append}
use Rattle.layout.proofs.Numbering.{numbers-back, numbers-bytes, signed-numbers, signed_all}

-- ---- stores

-- to store bytes, and others from where they end, is to store both
pub stores-join : (s : List ℕ) (at : ℕ) (xs ys : List ℕ) → sets (sets s at xs) (at + length xs) ys ≡ sets s at (xs ++ ys)
stores-join s at [] ys = rw (add-zero at)
stores-join s at (x ∷ xs) ys =
    let e : at + suc (length xs) ≡ suc at + length xs = omega arith in
    rw e (stores-join (set s at x) (suc at) xs ys)

-- ---- signed numbers

-- a function of each element, of two lists one behind the other
map-append : {A B : Type 0} (f : A → B) (xs ys : List A) → map f (xs ++ ys) ≡ map f xs ++ map f ys
map-append f [] ys = refl
map-append {B = B} f (x ∷ xs) ys = ap (λ (r : List B). f x ∷ r) (map-append f xs ys)

-- n numbers are n numbers
pub signed-length : (n : ℕ) (b : List ℕ) (at : ℕ) → length (signed_from n b at) ≡ n
signed-length n b at = ap length (signed-numbers n b at) ∙ length-map (numbers_from 4 n b at) val ∙ numbers-length 4 n b at

-- the first j of them, and then k more
pub signed-split : (j k : ℕ) (b : List ℕ) (at : ℕ) → signed_from (j + k) b at ≡ signed_from j b at ++ signed_from k b (at + 4 * j)
signed-split j k b at =
    signed-numbers (j + k) b at
    ∙ ap (map val) (numbers-split 4 j k b at)
    ∙ map-append val (numbers_from 4 j b at) (numbers_from 4 k b (at + 4 * j))
    ∙ (λ i. sym (signed-numbers j b at) i ++ sym (signed-numbers k b (at + 4 * j)) i)

-- n numbers, parted behind the first j
signed_parts : (j n : ℕ) (b : List ℕ) (at : ℕ) → j ≤ n → signed_from n b at ≡ signed_from j b at ++ signed_from (n - j) b (at + 4 * j)
signed_parts j n b at h =
    let e : n ≡ j + (n - j) = omega arith in
    ap (λ (m : ℕ). signed_from m b at) e ∙ signed-split j (n - j) b at

-- what stands behind the first j
pub signed-drop : (j n : ℕ) (b : List ℕ) (at : ℕ) → j ≤ n → drop j (signed_from n b at) ≡ signed_from (n - j) b (at + 4 * j)
signed-drop j n b at h =
    ap (drop j) (signed_parts j n b at h) ∙ drop_at (signed_from j b at) (signed_from (n - j) b (at + 4 * j)) j (signed-length j b at)

-- the first j
pub signed-take : (j n : ℕ) (b : List ℕ) (at : ℕ) → j ≤ n → take j (signed_from n b at) ≡ signed_from j b at
signed-take j n b at h =
    ap (take j) (signed_parts j n b at h) ∙ take_at (signed_from j b at) (signed_from (n - j) b (at + 4 * j)) j (signed-length j b at)

-- the bytes of two lists stand one behind the other
pub signed-bytes-append : (vs ws : List ℤ) → signed_bytes (vs ++ ws) ≡ signed_bytes vs ++ signed_bytes ws
signed-bytes-append vs ws =
    signed_all (vs ++ ws)
    ∙ ap (bytes_of_all 4) (map-append bits_of vs ws)
    ∙ all_append 4 (map bits_of vs) (map bits_of ws)
    ∙ (λ i. sym (signed_all vs) i ++ sym (signed_all ws) i)

-- there are four for each number
pub signed-bytes-length : (vs : List ℤ) → length (signed_bytes vs) ≡ 4 * length vs
signed-bytes-length vs = ap length (signed_all vs) ∙ all-length 4 (map bits_of vs) ∙ ap (λ (n : ℕ). 4 * n) (length-map vs bits_of)

-- ---- the state's bytes

-- the registers' numbers fit 32 bits
pub record RegsFit (r : Regs) : Type 0 where
  pub pc : r.pc < 2 ^ 32
  pub exclude : r.exclude < 2 ^ 32
  pub readings : r.readings < 2 ^ 32
  pub outputs : r.outputs < 2 ^ 32
  pub stop : r.stop < 2 ^ 32
  pub write : r.write < 2 ^ 32
  pub erase : r.erase < 2 ^ 32
  pub saving : r.saving < 2 ^ 32

-- so each of the list does
list-fits : {r : Regs} → RegsFit r → (k : ℕ) → get_or (regs_list r) k 0 < 2 ^ 32
list-fits f zero = f.pc
list-fits f (suc zero) = f.exclude
list-fits f (suc (suc zero)) = f.readings
list-fits f (suc (suc (suc zero))) = f.outputs
list-fits f (suc (suc (suc (suc zero)))) = f.stop
list-fits f (suc (suc (suc (suc (suc zero))))) = f.write
list-fits f (suc (suc (suc (suc (suc (suc zero)))))) = f.erase
list-fits f (suc (suc (suc (suc (suc (suc (suc zero))))))) = f.saving
list-fits f (suc (suc (suc (suc (suc (suc (suc (suc k)))))))) = omega arith

-- the registers whose numbers are these
abbrev regs_of : (page owner : ℕ) → List ℕ → Regs
regs_of page owner l =
    record {
      pc = get_or l 0 0;
      exclude = get_or l 1 0;
      readings = get_or l 2 0;
      outputs = get_or l 3 0;
      stop = get_or l 4 0;
      write = get_or l 5 0;
      erase = get_or l 6 0;
      saving = get_or l 7 0;
      page = page;
      owner = owner;
    }

-- the registers that bytes hold are eight numbers, one behind the other
regs-list : (page owner : ℕ) (b : List ℕ) → regs_list (regs_in page owner b) ≡ numbers_from 4 8 b 1280
unfolding regs_in numbers_from
regs-list page owner b = refl

-- where the cells' bytes end
pub cells-end : (cells : List ℕ) → length cells ≡ 256 → length (bytes_of_all 4 cells) ≡ 1024
cells-end cells n = all-length 4 cells ∙ ap (λ (k : ℕ). 4 * k) n

-- where the marks' end, which stand behind them
pub marks-end : (cells marks : List ℕ) → length cells ≡ 256 → length marks ≡ 256 → length (bytes_of_all 4 cells ++ bytes_of_all 1 marks) ≡ 1280
marks-end cells marks n m = omega (arith, length-append (bytes_of_all 4 cells) (bytes_of_all 1 marks), cells-end cells n, all-length 1 marks, m)

module _ (r : Regs) (cells marks : List ℕ) (n : length cells ≡ 256) (m : length marks ≡ 256) where
  -- how many they are
  pub state-length : length (state_bytes r cells marks) ≡ 1312
  unfolding state_bytes
  state-length =
      omega (arith, length-append (bytes_of_all 4 cells ++ bytes_of_all 1 marks) (bytes_of_all 4 (regs_list r)), marks-end cells marks n m, all-length 4 (regs_list r))

  -- the eight numbers behind them
  regs-back : RegsFit r → numbers_from 4 8 (state_bytes r cells marks) 1280 ≡ regs_list r
  unfolding state_bytes
  regs-back f =
      let front : List ℕ = bytes_of_all 4 cells ++ bytes_of_all 1 marks in
      let e = ap (λ (l : List ℕ). front ++ l) (sym (append-nil (bytes_of_all 4 (regs_list r)))) in
      numbers-back 4 8 (regs_list r) front [] 1280 e (marks-end cells marks n m) refl (list-fits f)

  -- the cells in front
  cells-back : ((c : ℕ) → get_or cells c 0 < 2 ^ 32) → cells_in (state_bytes r cells marks) ≡ cells
  unfolding state_bytes cells_in
  cells-back f =
      let e = append_assoc (bytes_of_all 4 cells) (bytes_of_all 1 marks) (bytes_of_all 4 (regs_list r)) in
      numbers-back 4 256 cells [] (bytes_of_all 1 marks ++ bytes_of_all 4 (regs_list r)) 0 e refl n f

  -- the marks between them
  marks-back : ((c : ℕ) → get_or marks c 0 < 256) → marks_in (state_bytes r cells marks) ≡ marks
  unfolding state_bytes marks_in
  marks-back f =
      let e = append_assoc (bytes_of_all 4 cells) (bytes_of_all 1 marks) (bytes_of_all 4 (regs_list r)) in
      numbers-back 1 256 marks (bytes_of_all 4 cells) (bytes_of_all 4 (regs_list r)) 1024 e (cells-end cells n) m f

  -- the bytes of a state hold that state
  pub state-back : ((c : ℕ) → get_or cells c 0 < 2 ^ 32) → ((c : ℕ) → get_or marks c 0 < 256) → RegsFit r
      → (regs_in r.page r.owner (state_bytes r cells marks) ≡ r) × (cells_in (state_bytes r cells marks) ≡ cells) × (marks_in (state_bytes r cells marks) ≡ marks)
  unfolding regs_in
  state-back f g h = (ap (regs_of r.page r.owner) (regs-list r.page r.owner (state_bytes r cells marks) ∙ regs-back h), cells-back f, marks-back g)

module _ (b : List ℕ) (h : (k : ℕ) → get_or b k 0 < 256) where
  -- storing the state that was loaded changes nothing
  pub state-again : (page owner : ℕ) → length b ≡ 1312 → state_bytes (regs_in page owner b) (cells_in b) (marks_in b) ≡ b
  unfolding state_bytes cells_in marks_in
  state-again page owner e =
      (λ i. numbers-bytes 4 256 b 0 (omega arith) h i ++ numbers-bytes 1 256 b 1024 (omega arith) h i
      ++ (ap (bytes_of_all 4) (regs-list page owner b) ∙ numbers-bytes 4 8 b 1280 (omega arith) h) i)
      ∙ ap (λ (l : List ℕ). l ++ take 32 (drop 1280 b)) (sym (take-add 1024 256 b))
      ∙ sym (take-add 1280 32 b)
      ∙ take_all 1312 b (omega arith)
