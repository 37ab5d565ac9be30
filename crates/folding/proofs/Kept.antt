-- The save that folding makes holds what the old chip holds: a chip with it and nothing else reads as the old one does (`folded_read`), in the plan's name, and has the engine's shape (`folded-shape`).
-- Assumes nothing.
use Prim.Native.Nat.{ℕ, zero, suc, ◌+◌, ◌^◌, ◌≤◌, ◌<◌}
use mathlib.Core.Path.{◌≡◌, refl, sym, ◌∙◌, ap}
use mathlib.Core.Bool.{Bool, true}
use mathlib.Core.List.{List, [], ◌∷◌, ◌++◌, append-nil}
use mathlib.Core.Logic.{inl, ⊎_elim}
use native.Mathlib.Omega.{arith}
use lib.ListN.{length, get_or, replicate, length-append, get_or-eq_default}
use lib.Dec.{eqb}
use borrow.Author.Tests.{eqb-true, eqb-false, eq-eqb, ne_eqb}
use Rattle.cellset.proofs.Bits.{le-or-lt}
use Rattle.cellset.proofs.Members as members
use Rattle.cellset.proofs.Members.{In, rising-from}
use Rattle.instruction.specs.Bytes.{cells_of}
use Rattle.program.proofs.Tests.{bool_cases}
use Rattle.journal.specs.declared.Commit.{Commit}
use Rattle.journal.specs.Format.{Checkpoint, unowned, owner_of_plan, padded, images}
use Rattle.journal.specs.Reading.{first, Once, After, Rising, last_of, own_all, saved_in, saved_value}
use Rattle.journal.specs.Writing.{records_of}
use Rattle.journal.specs.Answer.{Taken}
use Rattle.journal.specs.Shape.{Shape}
use Rattle.journal.proofs.Paging.{fill_one}
use Rattle.journal.proofs.Decoding.{image-some, padded-length}
use Rattle.journal.proofs.Torn.{trimmed-nil}
use Rattle.journal.proofs.Apart.{after-renamed}
use Rattle.journal.proofs.Back.{shape-whole}
use Rattle.journal.proofs.Written.{records-absent, records-once, records-value, absent-saved}
use Rattle.journal.proofs.Saves.{last_has, saved-has}
use Rattle.journal.proofs.Naming.{owner_fits, owner-small}
use Rattle.folding.specs.Fold.{byte_chip, byte_facts, held_from, named_for, folded_save, folded_bytes}

-- ---- the cells whose value is not 0, of the k from a on

module _ (xs : List ℕ) where
  -- one more cell in front, or not
  held_cons : (a k : ℕ) (P : List ℕ → Type 0) → (get_or xs a 0 ≡ 0 → P (held_from xs (suc a) k)) → (¬ (get_or xs a 0 ≡ 0) → P (a ∷ held_from xs (suc a) k))
      → P (held_from xs a (suc k))
  unfolding held_from
  held_cons a k P f g = bool_cases (eqb (get_or xs a 0) 0) (λ t. rw t (f (eqb-true _ _ t))) (λ t. rw t (g (eqb-false _ _ t)))

  held-rising : (a k : ℕ) → members.Rising a (held_from xs a k)
  unfolding held_from
  held-rising a zero = members.Rising.end
  held-rising a (suc k) =
      let r = held-rising (suc a) k in
      held_cons a k (members.Rising a) (λ _. rising-from (omega arith) r) (λ _. members.Rising.next (omega arith) r)

  held_in : (c a k : ℕ) → a ≤ c → c < a + k → ¬ (get_or xs c 0 ≡ 0) → In c (held_from xs a k)
  held_in c a zero l h n = absurd (omega arith)
  held_in c a (suc k) l h n =
      ⊎_elim
      (λ (q : suc a ≤ c). let r = held_in c (suc a) k q (omega arith) n in held_cons a k (In c) (λ _. r) (λ _. In.there r))
      (λ (q : c < suc a).
      let e : a ≡ c = omega arith in
      held_cons a k (In c) (λ z. absurd (n (ap (λ (i : ℕ). get_or xs i 0) (sym e) ∙ z))) (λ _. rw e In.here))
      (le-or-lt (suc a) c)

  -- in front, or behind
  in-cons : (c a : ℕ) {cs : List ℕ} → ¬ (get_or xs a 0 ≡ 0) → (In c cs → ¬ (get_or xs c 0 ≡ 0)) → In c (a ∷ cs) → ¬ (get_or xs c 0 ≡ 0)
  in-cons c a n f In.here = n
  in-cons c a n f (In.there i) = f i

  held-only : (c a k : ℕ) → In c (held_from xs a k) → ¬ (get_or xs c 0 ≡ 0)
  unfolding held_from
  held-only c a zero i = elim i [ ]
  held-only c a (suc k) i =
      let r = held-only c (suc a) k in
      held_cons a k (λ cs. In c cs → ¬ (get_or xs c 0 ≡ 0)) (λ _. r) (λ n. in-cons c a n r) i

  -- each of 256 reads back its value
  held-value : (c : ℕ) → c < 256 → saved_in c (records_of (held_from xs 0 256) xs) 0 ≡ get_or xs c 0
  held-value c l =
      bool_cases (eqb (get_or xs c 0) 0)
      (λ t.
      let z : get_or xs c 0 ≡ 0 = eqb-true _ _ t in
      absent-saved (records-absent c (held_from xs 0 256) xs (λ i. held-only c 0 256 i z)) 0 ∙ sym z)
      (λ t. records-value xs (held_in c 0 256 (omega arith) (omega arith) (eqb-false _ _ t)) 0)

-- ---- the save

-- a mark's fields but the owner
abbrev pub unnamed : Commit → Commit
unnamed c = named_for unowned c

-- the bytes are those of checkpoints, one or none, which name the plan, with this last commit but for its owner and these values
pub record Kept (p bytes : List ℕ) (last : Commit) (values : List ℕ) : Type 0 where
  pub saves : List Checkpoint
  pub rising : Rising (byte_facts (owner_of_plan p) p) first saves
  pub images_are : images (byte_chip (owner_of_plan p)) saves ≡ bytes
  pub last_is : unnamed (last_of first saves) ≡ unnamed last
  pub own : own_all (owner_of_plan p) saves ≡ true
  pub values_are : (c : ℕ) → c < 256 → get_or values c 0 ≡ saved_value c saves 0

-- what is sound after another is sound as the first, in the plan's name
after-named : (owner : ℕ) (p : List ℕ) {b c : Commit} → After (byte_facts owner p) b c → After (byte_facts (owner_of_plan p) p) first (named_for (owner_of_plan p) c)
after-named owner p a = after-renamed (byte_chip owner) (byte_chip (owner_of_plan p)) p (owner_of_plan p) a (omega arith) (omega arith) (owner_fits (owner_of_plan p) (owner-small p))

module _ (owner : ℕ) (p values : List ℕ) (size : length values ≡ 256) (js : List Checkpoint) (rising : Rising (byte_facts owner p) first js)
    (values_are : (c : ℕ) → c < 256 → get_or values c 0 ≡ saved_value c js 0) where
  -- a value has what each saved value has, and 0
  value-has : (Q : ℕ → Type 0) (c : ℕ) → Q 0 → Q (saved_value c js 0) → Q (get_or values c 0)
  value-has Q c z h =
      ⊎_elim
      (λ (l : 256 ≤ c). let e : get_or values c 0 ≡ 0 = get_or-eq_default values 0 {n = c} (omega (arith, size)) in rw e z)
      (λ (l : c < 256). rw (values_are c l) h)
      (le-or-lt 256 c)

  -- it has 32 bits
  value-small : (c : ℕ) → get_or values c 0 < 2 ^ 32
  value-small c = value-has (λ (x : ℕ). x < 2 ^ 32) c (omega arith) (saved-has c (λ (x : ℕ). x < 2 ^ 32) (λ s cell value e. value) rising 0 (omega arith))

  -- and only a cell that exists has one
  value-exists : (c : ℕ) → ¬ (get_or values c 0 ≡ 0) → c < cells_of p
  value-exists c n =
      ⊎_elim
      (λ (h : cells_of p ≤ c).
      absurd (n (value-has (λ (x : ℕ). x ≡ 0) c refl (saved-has c (λ (x : ℕ). x ≡ 0) (λ s cell value e. absurd (omega arith)) rising 0 refl))))
      (λ (h : c < cells_of p). h)
      (le-or-lt (cells_of p) c)

  held-once : Once (cells_of p) (records_of (held_from values 0 256) values)
  held-once = records-once (cells_of p) (held_from values 0 256) values (held-rising values 0 256) (λ c i. value-exists c (held-only values c 0 256 i)) value-small

keep : (owner : ℕ) (p values : List ℕ) → length values ≡ 256 → (js : List Checkpoint) → Rising (byte_facts owner p) first js
    → ((c : ℕ) → c < 256 → get_or values c 0 ≡ saved_value c js 0)
    → (end : ℕ) (last : Commit) → end ≡ length (images (byte_chip owner) js) → last ≡ last_of first js → Kept p (folded_bytes (owner_of_plan p) end values last) last values
unfolding folded_bytes images last_of saved_value own_all
keep owner p values size [] rising v end last e k =
    record { saves = []; rising = Rising.none; images_are = rw (eq-eqb end 0 e); last_is = ap unnamed (sym k); own = refl; values_are = v }
keep owner p values size (s ∷ js) (Rising.one sound more) v end last e k =
    let G = byte_chip owner in
    let n : ¬ (end ≡ 0) = λ z. omega (arith, e, length-append (padded G s) (images G js), padded-length G s, image-some G s) in
    let P : Commit → Type 0 = λ c. After (byte_facts (owner_of_plan p) p) first (named_for (owner_of_plan p) c) in
    let a : P last = rw k (last_has P (λ b c h. after-named owner p h) (after-named owner p sound.after) more) in
    record {
      saves = folded_save (owner_of_plan p) values last ∷ [];
      rising = Rising.one (record { once = held-once owner p values size (s ∷ js) (Rising.one sound more) v; after = a }) Rising.none;
      images_are = rw (ne_eqb end 0 n) (append-nil (padded (byte_chip (owner_of_plan p)) (folded_save (owner_of_plan p) values last)));
      last_is = refl;
      own = rw (eq-eqb (owner_of_plan p) (owner_of_plan p) refl) refl;
      values_are = λ c h. sym (held-value values c h);
    }

-- ---- the finished chip

module _ (p : List ℕ) {old : List ℕ} {owner end torn : ℕ} {last : Commit} {own : Bool} {values : List ℕ} (t : Taken (byte_facts owner p) old end torn last own values) where
  pub kept : Kept p (folded_bytes (owner_of_plan p) end values last) last values
  kept = keep owner p values t.cells t.saves t.reading.sound t.values_are end last t.end_is t.last_is

  module _ {new : List ℕ} (free : ℕ) (bytes : new ≡ folded_bytes (owner_of_plan p) end values last ++ replicate free 0xFF) where
    -- it has the shape, with nothing torn
    pub folded-shape : Shape (byte_facts (owner_of_plan p) p) new kept.saves []
    folded-shape = record {
      free = free;
      rising = kept.rising;
      cut = inl refl;
      bytes = bytes ∙ ap (λ (l : List ℕ). l ++ replicate free 0xFF) (sym kept.images_are ∙ sym (append-nil (images (byte_chip (owner_of_plan p)) kept.saves)));
    }

    -- IT READS AS THE OLD CHIP DOES: the same last commit but for its owner (`last_is` of `Kept`) and the same values, with nothing to erase, and in the plan's name
    pub folded_read : Taken (byte_facts (owner_of_plan p) p) new (length (folded_bytes (owner_of_plan p) end values last)) 0 (last_of first kept.saves) true values
    folded_read = record {
      saves = kept.saves;
      rest = [];
      reading = shape-whole folded-shape trimmed-nil;
      accepted = inl refl;
      end_is = ap length (sym kept.images_are);
      torn_is = omega (arith, fill_one 0);
      last_is = refl;
      own_is = sym kept.own;
      cells = t.cells;
      values_are = kept.values_are;
    }
