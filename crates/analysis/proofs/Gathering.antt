-- From the numbers of a region to DE and RO: what the two loops over the list compute is what document 01's sentences say of the region.
-- Assumes nothing.
use mathlib.Core.Path.{◌≡◌, refl, ◌∙◌}
use mathlib.Core.Logic.{⊎_elim}
use mathlib.Core.List.{List}
use mathlib.Core.Bool.{true, false, cond}
use Prim.Native.Nat.{ℕ, zero, suc, ◌+◌, ◌*◌, ◌/◌, ◌%◌, ◌≤◌, ◌<◌, min, zero-le}
use native.Mathlib.Omega.{arith}
use lib.ListN.{get_or}
use lib.Dec.{eqb}
use borrow.Author.Tests.{eqb-true, eqb-false, eq-eqb}
use Rattle.cellset.specs.Bits.{member, within}
use Rattle.cellset.proofs.Bits.{bit-lt, within_in, within-high, le-or-lt}
use Rattle.instruction.specs.Bytes.{byte, cells_of, instruction_at_of}
use Rattle.instruction.specs.Table.{may_def_of}
use Rattle.program.proofs.Tests.{bool_cases, clash, or_cases, or-none}
use Rattle.graph.specs.Tables.{start_of, Offsets}
use Rattle.analysis.specs.Paths.{DE, RO, LiveSave, unsaved, live_at, Written}
use Rattle.analysis.specs.Search.{Known, Found, offset_at, saves_at, saves, dead_all, kept_all}
use Rattle.analysis.proofs.Access.{access-lt}

-- one of the first n places of the list
pub record Some (P : ℕ → Type 0) (n : ℕ) : Type 0 where
  pub place : ℕ
  pub below : place < n
  pub holds : P place

more : {P : ℕ → Type 0} {n : ℕ} → Some P n → Some P (suc n)
more s = record { place = s.place; below = omega (arith, s.below); holds = s.holds }

last : {P : ℕ → Type 0} (n : ℕ) → P n → Some P (suc n)
last n h = record { place = n; below = omega arith; holds = h }

-- the last of the places, or one before it
at_most : {C : Type 0} (j n : ℕ) → j < suc n → (j ≡ n → C) → (j < n → C) → C
at_most j n l f g = bool_cases (eqb j n) (λ t. f (eqb-true _ _ t)) (λ t. let d : j ≡ n → ⊥ = eqb-false _ _ t in g (omega arith))

-- a number that is 0 or 1
bit-split : {C : Type 0} (x : ℕ) → x < 2 → (x ≡ 1 → C) → (x ≡ 0 → C) → C
bit-split x l f g = bool_cases (eqb x 1) (λ t. f (eqb-true _ _ t)) (λ t. let d : x ≡ 1 → ⊥ = eqb-false _ _ t in g (omega arith))

within-lt : (n c : ℕ) → within 0 n c < 2
within-lt n c =
    ⊎_elim (λ (h : n ≤ c). omega (arith, within-high 0 n c h)) (λ (h : c < n). omega (arith, within_in 0 n c zero-le h)) (le-or-lt n c)

exists-in : (n c : ℕ) → within 0 n c ≡ 1 → c < n
exists-in n c e = ⊎_elim (λ (h : n ≤ c). absurd (omega (arith, within-high 0 n c h))) (λ (h : c < n). h) (le-or-lt n c)

module _ (p at list : List ℕ) where
  saves-some : (n : ℕ) → saves p at list n ≡ true → Some (λ j. saves_at p at list j ≡ true) n
  saves-some zero h = clash false h refl
  saves-some (suc n) h = or_cases (saves_at p at list n) (saves p at list n) h (λ t. last n t) (λ _ t. more (saves-some n t))

  saves-none : (n : ℕ) → saves p at list n ≡ false → (j : ℕ) → j < n → saves_at p at list j ≡ false
  saves-none zero h j l = absurd (omega arith)
  saves-none (suc n) h j l =
      let b = or-none (saves_at p at list n) (saves p at list n) h in
      at_most j n l (λ d. rw d b.0) (saves-none n b.1 j)

  module _ (dead : List ℕ) (c : ℕ) where
    member-lt : (n : ℕ) → member dead (4 * get_or list n 0) c < 2
    member-lt n = bit-lt (get_or dead (4 * get_or list n 0 + c / 64) 0) (c % 64)

    dead-lt : (n : ℕ) → dead_all p at list dead n c < 2
    dead-lt zero = within-lt (cells_of p) c
    dead-lt (suc n) = bool_cases (saves_at p at list n) (λ t. rw t (omega (arith, dead-lt n))) (λ t. rw t (dead-lt n))

    -- the set's next value, by whether the place is a CHECKPOINT
    dead-step : {C : Type 0} (n v : ℕ) → dead_all p at list dead (suc n) c ≡ v
        → (saves_at p at list n ≡ true → min (dead_all p at list dead n c) (member dead (4 * get_or list n 0) c) ≡ v → C)
        → (saves_at p at list n ≡ false → dead_all p at list dead n c ≡ v → C) → C
    dead-step n v h f g = bool_cases (saves_at p at list n) (λ t. f t (rw t at h)) (λ t. g t (rw t at h))

    dead-exists : (n : ℕ) → dead_all p at list dead n c ≡ 1 → c < cells_of p
    dead-exists zero h = exists-in (cells_of p) c h
    dead-exists (suc n) h = dead-step n 1 h (λ t m. dead-exists n (omega (arith, dead-lt n, member-lt n))) (λ t m. dead-exists n m)

    dead-each : (n : ℕ) → dead_all p at list dead n c ≡ 1 → (j : ℕ) → j < n → saves_at p at list j ≡ true → member dead (4 * get_or list j 0) c ≡ 1
    dead-each zero h j l s = absurd (omega arith)
    dead-each (suc n) h j l s =
        dead-step n 1 h
        (λ t m. at_most j n l (λ d. rw d (omega (arith, dead-lt n, member-lt n))) (λ b. dead-each n (omega (arith, dead-lt n, member-lt n)) j b s))
        (λ t m. at_most j n l (λ d. clash (saves_at p at list n) (rw d at s) t) (λ b. dead-each n m j b s))

    dead_not : (n : ℕ) → c < cells_of p → dead_all p at list dead n c ≡ 0 → Some (λ j. (saves_at p at list j ≡ true) × (member dead (4 * get_or list j 0) c ≡ 0)) n
    dead_not zero e h = absurd (omega (arith, within_in 0 (cells_of p) c zero-le e))
    dead_not (suc n) e h =
        dead-step n 0 h
        (λ t m. bit-split (dead_all p at list dead n c) (dead-lt n) (λ o. last n (t, omega (arith, member-lt n))) (λ z. more (dead_not n e z)))
        (λ t m. more (dead_not n e m))

  module _ (c : ℕ) where
    def-lt : (n : ℕ) → may_def_of (instruction_at_of p (offset_at p at list n)) c < 2
    def-lt n = access-lt _ _ c

    kept-lt : (n : ℕ) → kept_all p at list n c < 2
    kept-lt zero = within-lt (cells_of p) c
    kept-lt (suc n) = omega (arith, kept-lt n)

    kept-exists : (n : ℕ) → kept_all p at list n c ≡ 1 → c < cells_of p
    kept-exists zero h = exists-in (cells_of p) c h
    kept-exists (suc n) h = kept-exists n (omega (arith, kept-lt n))

    kept-each : (n : ℕ) → kept_all p at list n c ≡ 1 → (j : ℕ) → j < n → may_def_of (instruction_at_of p (offset_at p at list j)) c ≡ 0
    kept-each zero h j l = absurd (omega arith)
    kept-each (suc n) h j l = at_most j n l (λ d. rw d (omega (arith, kept-lt n))) (kept-each n (omega (arith, kept-lt n)) j)

    kept-not : (n : ℕ) → c < cells_of p → kept_all p at list n c ≡ 0 → Some (λ j. may_def_of (instruction_at_of p (offset_at p at list j)) c ≡ 1) n
    kept-not zero e h = absurd (omega (arith, within_in 0 (cells_of p) c zero-le e))
    kept-not (suc n) e h =
        bit-split (kept_all p at list n c) (kept-lt n) (λ o. last n (omega (arith, def-lt n))) (λ z. more (kept-not n e z))

-- the list has the region of the EXCLUDE at e
module _ (p at list : List ℕ) (e count : ℕ) (found : Found p e list count) (at_is : Offsets p at) where
  offset : (j : ℕ) → j < count → offset_at p at list j ≡ start_of p (get_or list j 0)
  offset j l = at_is (get_or list j 0) (found.below j l)

  saves-byte : (j : ℕ) → j < count → saves_at p at list j ≡ true → byte p (start_of p (get_or list j 0)) ≡ 0x0E
  saves-byte j l s = rw (← (offset j l)) (eqb-true _ _ s)

  byte-saves : (j : ℕ) → j < count → byte p (start_of p (get_or list j 0)) ≡ 0x0E → saves_at p at list j ≡ true
  byte-saves j l b = rw (offset j l) (eq-eqb _ _ b)

  -- DE as the loop has it
  abbrev pub de_bit : List ℕ → ℕ → ℕ
  de_bit dead c = cond (saves p at list count) (dead_all p at list dead count c) 0

  module _ {writes dead : List ℕ} (known : Known p writes dead) (c : ℕ) where
    in_de : c < 256 → saves p at list count ≡ true → dead_all p at list dead count c ≡ 1 → DE p e c
    in_de small s h =
        let x = saves-some p at list count s in
        record {
          exists = dead-exists p at list dead c count h;
          place = start_of p (get_or list x.place 0);
          within = found.inside x.place x.below;
          saves = saves-byte x.place x.below x.holds;
          dead = λ o r b live.
              let y = found.all o r in
              let b' : byte p (start_of p (get_or list y.0 0)) ≡ 0x0E = rw y.2 b in
              let m = dead-each p at list dead c count h y.0 y.1 (byte-saves y.0 y.1 b') in
              (known.dead_is (get_or list y.0 0) c (found.below y.0 y.1) small m).unread (rw y.2 live);
        }

    pub de-set : c < 256 → de_bit dead c ≡ 1 → DE p e c
    de-set small h =
        bool_cases (saves p at list count)
        (λ s. in_de small s (rw s at h))
        (λ s. let z : ◌≡◌ {A = ℕ} 0 1 = rw s at h in absurd (omega arith))

    out-de : c < cells_of p → dead_all p at list dead count c ≡ 0 → LiveSave p e c
    out-de exists h =
        let x = dead_not p at list dead c count exists h in
        let i = get_or list x.place 0 in
        live_at (start_of p i) (found.inside x.place x.below) (saves-byte x.place x.below x.holds.0)
        (known.live_is i c (found.below x.place x.below) exists x.holds.1)

    pub de-clear : c < cells_of p → de_bit dead c ≡ 0 → LiveSave p e c
    de-clear exists h =
        bool_cases (saves p at list count)
        (λ s. out-de exists (rw s at h))
        (λ s. unsaved λ o r b.
        let y = found.all o r in
        let b' : byte p (start_of p (get_or list y.0 0)) ≡ 0x0E = rw y.2 b in
        clash (saves_at p at list y.0) (byte-saves y.0 y.1 b') (saves-none p at list count s y.0 y.1))

  pub ro-set : (c : ℕ) → kept_all p at list count c ≡ 1 → RO p e c
  ro-set c h = record {
    exists = kept-exists p at list c count h;
    kept = λ o r.
        let y = found.all o r in
        let d : offset_at p at list y.0 ≡ o = offset y.0 y.1 ∙ y.2 in
        rw (← d) (kept-each p at list c count h y.0 y.1);
  }

  pub ro-clear : (c : ℕ) → c < cells_of p → kept_all p at list count c ≡ 0 → Written p e c
  ro-clear c exists h =
      let x = kept-not p at list c count exists h in
      record {
        place = start_of p (get_or list x.place 0);
        within = found.inside x.place x.below;
        writes = rw (← (offset x.place x.below)) x.holds;
      }
