-- A chip's shape, computed: `shaped` tests whether its bytes are given sound checkpoints, nothing or a part of one more, and FF, and `shape-by` turns that into
-- `Shape`. `saves_in` reads the checkpoints off the bytes; nothing is proved of it, since the test checks what it gives.
-- Assumes nothing.
use Prim.Native.Nat.{ℕ, zero, suc, ◌+◌, ◌-◌, ◌*◌, ◌^◌, ◌<◌}
use mathlib.Core.Path.{◌≡◌, refl, sym}
use mathlib.Core.Bool.{Bool, true, cond, not, ◌&&◌, ◌||◌}
use mathlib.Core.List.{List, [], ◌∷◌, ◌++◌}
use mathlib.Core.Logic.{inl, inr}
use native.Mathlib.Omega.{arith}
use lib.ListN.{length, get_or, take, drop, replicate, take-append-drop, length-drop}
use lib.Dec.{eqb, ltb, leb}
use borrow.Author.Tests.{ltb-true, leb-true, eqb-true, eqb-false, not-true}
use Rattle.word.specs.Bytes.{load_of}
use Rattle.program.proofs.Tests.{and_both, or_cases}
use Rattle.journal.specs.declared.Commit.{Commit}
use Rattle.journal.specs.Format.{Format, owner_width, mark_lead, mark_length, Saved, Checkpoint, fill_of, image, images}
use Rattle.journal.specs.Reading.{Facts, first, Absent, Once, After, Sound, Rising, last_of}
use Rattle.journal.specs.Shape.{Cut, Shape}
use Rattle.restart.proofs.Testing.{all_true, true-at, same_numbers, numbers-same}

-- ---- a sound checkpoint

-- no record is of the cell c
abbrev absent_from : ℕ → List Saved → Bool
absent_from c [] = true
absent_from c (r ∷ rs) = not (eqb c r.cell) && absent_from c rs

absent_by : (c : ℕ) (rs : List Saved) → absent_from c rs ≡ true → Absent c rs
absent_by c [] h = Absent.none
absent_by c (r ∷ rs) h =
    let b = and_both (not (eqb c r.cell)) (absent_from c rs) h in
    Absent.other (eqb-false _ _ (not-true _ b.0)) (absent_by c rs b.1)

-- "its cells exist and none occurs twice"; a value has 32 bits
abbrev record_tests : ℕ → Saved → List Saved → List Bool
record_tests n r rs = ltb r.cell n ∷ ltb r.value (2 ^ 32) ∷ absent_from r.cell rs ∷ []

abbrev once_in : ℕ → List Saved → Bool
once_in n [] = true
once_in n (r ∷ rs) = all_true (record_tests n r rs) && once_in n rs

once_by : (n : ℕ) (rs : List Saved) → once_in n rs ≡ true → Once n rs
once_by n [] h = Once.none
once_by n (r ∷ rs) h =
    let b = and_both (all_true (record_tests n r rs)) (once_in n rs) h in
    let t = true-at (record_tests n r rs) b.0 in
    Once.one (ltb-true _ _ (t 0)) (ltb-true _ _ (t 1)) (absent_by r.cell rs (t 2)) (once_by n rs b.1)

-- "its offsets are such places, and neither count is below the previous mark's"
abbrev after_tests : Facts → Commit → Commit → List Bool
after_tests F b c =
    F.place c.place
    ∷ ltb c.place (2 ^ 16)
    ∷ (eqb c.exclude 0 || F.exclude c.exclude)
    ∷ ltb c.exclude (2 ^ 16)
    ∷ leb b.readings c.readings
    ∷ ltb c.readings (2 ^ 32)
    ∷ leb b.outputs c.outputs
    ∷ ltb c.outputs (2 ^ 32)
    ∷ ltb c.owner (256 ^ owner_width F.format)
    ∷ []

after-by : (F : Facts) (b c : Commit) → all_true (after_tests F b c) ≡ true → After F b c
after-by F b c h =
    let t = true-at (after_tests F b c) h in
    record {
      place_is = t 0;
      place_fits = ltb-true _ _ (t 1);
      exclude_is = or_cases _ _ (t 2) (λ z. inl (eqb-true _ _ z)) (λ _ x. inr x);
      exclude_fits = ltb-true _ _ (t 3);
      readings_rise = leb-true _ _ (t 4);
      readings_fit = ltb-true _ _ (t 5);
      outputs_rise = leb-true _ _ (t 6);
      outputs_fit = ltb-true _ _ (t 7);
      owner_fits = ltb-true _ _ (t 8);
    }

-- the checkpoint is sound after the commit b
abbrev is_sound : Facts → Commit → Checkpoint → Bool
is_sound F b s = once_in F.cells s.records && all_true (after_tests F b s.commit)

sound-by : (F : Facts) (b : Commit) (s : Checkpoint) → is_sound F b s ≡ true → Sound F b s
sound-by F b s h =
    let x = and_both (once_in F.cells s.records) (all_true (after_tests F b s.commit)) h in
    record { once = once_by F.cells s.records x.0; after = after-by F b s.commit x.1 }

-- each is sound after the one before
abbrev rises : Facts → Commit → List Checkpoint → Bool
rises F b [] = true
rises F b (s ∷ js) = is_sound F b s && rises F s.commit js

rising-by : (F : Facts) (b : Commit) (js : List Checkpoint) → rises F b js ≡ true → Rising F b js
rising-by F b [] h = Rising.none
rising-by F b (s ∷ js) h =
    let x = and_both (is_sound F b s) (rises F s.commit js) h in
    Rising.one (sound-by F b s x.0) (rising-by F s.commit js x.1)

-- ---- a chip

-- the chip has the checkpoints js, n bytes of s, which are not all of it, and FF; where n is 0, s may be anything
abbrev shape_tests : Facts → (chip : List ℕ) → List Checkpoint → Checkpoint → (n : ℕ) → List Bool
shape_tests F chip js s n =
    rises F first js
    ∷ (eqb n 0 || (is_sound F (last_of first js) s && ltb n (length (image F.format s))))
    ∷ same_numbers chip (images F.format js ++ take n (image F.format s) ++ replicate (length chip - length (images F.format js) - n) 0xFF)
    ∷ []

abbrev pub shaped : Facts → (chip : List ℕ) → List Checkpoint → Checkpoint → (n : ℕ) → Bool
shaped F chip js s n = all_true (shape_tests F chip js s n)

cut_by : (F : Facts) (b : Commit) (s : Checkpoint) (n : ℕ) → (eqb n 0 || (is_sound F b s && ltb n (length (image F.format s)))) ≡ true → Cut F b (take n (image F.format s))
cut_by F b s n h =
    or_cases (eqb n 0) _ h
    (λ z. let d : n ≡ 0 = eqb-true _ _ z in rw d (inl refl))
    (λ _ t.
    let x = and_both (is_sound F b s) _ t in
    let l : n < length (image F.format s) = ltb-true _ _ x.1 in
    inr (record {
      save = s;
      sound = sound-by F b s x.0;
      more = drop n (image F.format s);
      bytes = sym (take-append-drop n (image F.format s));
      short = omega (arith, l, length-drop n (image F.format s));
    }))

pub shape-by : (F : Facts) (chip : List ℕ) (js : List Checkpoint) (s : Checkpoint) (n : ℕ) → shaped F chip js s n ≡ true → Shape F chip js (take n (image F.format s))
shape-by F chip js s n h =
    let t = true-at (shape_tests F chip js s n) h in
    record {
      free = length chip - length (images F.format js) - n;
      rising = rising-by F first js (t 0);
      cut = cut_by F (last_of first js) s n (t 1);
      bytes = numbers-same _ _ (t 2);
    }

-- ---- the checkpoints of a chip

-- the record and the commit that the bytes l begin with
abbrev record_in : List ℕ → Saved
record_in l = record { cell = get_or l 1 0; value = load_of 4 l 2 }

abbrev commit_in : (width : ℕ) → List ℕ → Commit
commit_in width l = record { place = load_of 2 l 1; exclude = load_of 2 l 3; readings = load_of 4 l 5; outputs = load_of 4 l 9; owner = load_of width l 13 }

-- the checkpoints that they begin with, the first behind the records rs; f bounds the records and commits. `let` leaves a reading that is not taken uncomputed
unfoldable pub saves_from : Format → (f : ℕ) → List Saved → List ℕ → List Checkpoint
saves_from G zero rs l = []
saves_from G (suc f) rs l =
    let onward = saves_from G f (rs ++ record_in l ∷ []) (drop 6 l) in
    let next = saves_from G f [] (drop (mark_length G + fill_of G.page (6 * length rs + mark_length G)) l) in
    cond (eqb (get_or l 0 0) 0xA1) onward
    (cond (eqb (get_or l 0 0) (mark_lead G) && eqb (get_or l (mark_length G - 1) 0) 0x5A) (record { records = rs; commit = commit_in (owner_width G) l } ∷ next)
    [])

abbrev pub saves_in : Format → List ℕ → List Checkpoint
saves_in G chip = saves_from G (length chip) [] chip
