-- A sound state as facts, both ways, and the entries of lists that are 0 or marks from an index on.
-- Assumes nothing.
use mathlib.Core.Path.{◌≡◌, refl, ap, ◌∙◌}
use mathlib.Core.Logic.{◌⊎◌, inl, inr, ⊎_elim}
use mathlib.Core.List.{List}
use mathlib.Core.Bool.{true, ◌||◌, or-true}
use Prim.Native.Nat.{ℕ, zero, suc, ◌+◌, ◌-◌, ◌%◌, ◌≤◌, ◌<◌}
use native.Mathlib.Nat.{eq-zero-or-pos}
use native.Mathlib.Omega.{arith}
use lib.Dec.{eqb, ltb, leb}
use lib.ListN.{length, get_or}
use borrow.Author.Tests.{ltb-true, leb-true, eqb-true, lt-ltb, le-leb, eq-eqb}
use Rattle.cellset.proofs.Bits.{le-or-lt}
use Rattle.instruction.specs.Bytes.{byte, cells_of}
use Rattle.program.specs.Places.{is_start, is_exclude}
use Rattle.program.proofs.Tests.{or_cases, and_both}
use Rattle.journal.specs.Format.{pages_in}
use Rattle.journal.proofs.Paging.{ChipLength}
use Rattle.step.specs.State.{Machine, size_at, zero_from, rest_clear, marks_from, pages_sound_of, saving_sound_of, kinds_sound, sound_of}
use Rattle.step.specs.Ready.{Good}
use Rattle.step.specs.declared.Regs.{Regs}

-- while saving
pub record SavingFacts (p : List ℕ) (m : Machine) : Type 0 where
  pub at : byte p m.regs.pc ≡ 0x0E
  pub nothing : m.regs.erase ≡ 0
  pub stored : m.regs.saving - 1 < size_at p m
  pub whole : (m.regs.saving - 1) % m.regs.page ≡ 0
  pub room : m.regs.write + (size_at p m - (m.regs.saving - 1)) ≤ length m.journal

-- pages have 1 to 16 bytes, and the write position and the bytes to erase are whole ones
pub record Paged (r : Regs) : Type 0 where
  pub some : 0 < r.page
  pub few : r.page ≤ 16
  pub write : r.write % r.page ≡ 0
  pub erase : r.erase % r.page ≡ 0

-- the parts of `sound_of`
pub record Sound (p : List ℕ) (m : Machine) : Type 0 where
  pub stop_small : m.regs.stop ≤ 3
  pub marks_small : marks_from m.marks 0 256 ≡ true
  pub stands : is_start p m.regs.pc ≡ true
  pub exclude_is : (m.regs.exclude ≡ 0) ⊎ (is_exclude p m.regs.exclude ≡ true)
  pub cells_clear_of : zero_from m.cells (cells_of p) (256 - cells_of p) ≡ true
  pub marks_clear_of : zero_from m.marks (cells_of p) (256 - cells_of p) ≡ true
  pub fits : m.regs.write + m.regs.erase ≤ length m.journal
  pub paged : Paged m.regs
  pub saves : 0 < m.regs.saving → SavingFacts p m

-- ---- both ways

saving-facts : (p : List ℕ) (m : Machine) → saving_sound_of p m ≡ true → 0 < m.regs.saving → SavingFacts p m
saving-facts p m h s =
    or_cases (eqb m.regs.saving 0) _ h
    (λ z. let e : m.regs.saving ≡ 0 = eqb-true _ _ z in absurd (omega arith))
    (λ _ t.
    let a = and_both _ (leb (m.regs.write + (size_at p m - (m.regs.saving - 1))) (length m.journal)) t in
    let w = and_both _ (pages_in m.regs.page (m.regs.saving - 1)) a.0 in
    let b = and_both _ (ltb (m.regs.saving - 1) (size_at p m)) w.0 in
    let c = and_both (eqb (byte p m.regs.pc) 0x0E) (eqb m.regs.erase 0) b.0 in
    record {
      at = eqb-true _ _ c.0;
      nothing = eqb-true _ _ c.1;
      stored = ltb-true _ _ b.1;
      whole = eqb-true _ _ w.1;
      room = leb-true _ _ a.1;
    })

paged-facts : (r : Regs) → pages_sound_of r ≡ true → Paged r
paged-facts r h =
    let a = and_both _ (pages_in r.page r.erase) h in
    let b = and_both _ (pages_in r.page r.write) a.0 in
    let c = and_both (ltb 0 r.page) (leb r.page 16) b.0 in
    record { some = ltb-true _ _ c.0; few = leb-true _ _ c.1; write = eqb-true _ _ b.1; erase = eqb-true _ _ a.1 }

pub facts-paged : (r : Regs) → Paged r → pages_sound_of r ≡ true
facts-paged r f = rw (lt-ltb _ _ f.some, le-leb _ _ f.few, eq-eqb _ _ f.write, eq-eqb _ _ f.erase)

pub sound-facts : {p : List ℕ} {m : Machine} → sound_of p m ≡ true → Sound p m
unfolding sound_of
sound-facts {p} {m} h =
    let a = and_both _ (saving_sound_of p m) h in
    let g = and_both _ (pages_sound_of m.regs) a.0 in
    let b = and_both _ (leb (m.regs.write + m.regs.erase) (length m.journal)) g.0 in
    let c = and_both _ (rest_clear (cells_of p) m) b.0 in
    let d = and_both _ (eqb m.regs.exclude 0 || is_exclude p m.regs.exclude) c.0 in
    let e = and_both (kinds_sound m) (is_start p m.regs.pc) d.0 in
    let k = and_both (leb m.regs.stop 3) (marks_from m.marks 0 256) e.0 in
    let r = and_both (zero_from m.cells (cells_of p) (256 - cells_of p)) (zero_from m.marks (cells_of p) (256 - cells_of p)) c.1 in
    record {
      stop_small = leb-true _ _ k.0;
      marks_small = k.1;
      stands = e.1;
      exclude_is =
          or_cases (eqb m.regs.exclude 0) (is_exclude p m.regs.exclude) d.1 (λ z. inl (eqb-true _ _ z)) (λ _ t. inr t);
      cells_clear_of = r.0;
      marks_clear_of = r.1;
      fits = leb-true _ _ b.1;
      paged = paged-facts m.regs g.1;
      saves = saving-facts p m a.1;
    }

facts-saving : (p : List ℕ) (m : Machine) → (0 < m.regs.saving → SavingFacts p m) → saving_sound_of p m ≡ true
facts-saving p m h =
    ⊎_elim
    (λ z. rw (eq-eqb m.regs.saving 0 z))
    (λ s.
    let f = h s in
    rw (eq-eqb _ _ f.at, eq-eqb _ _ f.nothing, lt-ltb _ _ f.stored, eq-eqb _ _ f.whole, le-leb _ _ f.room, or-true))
    (eq-zero-or-pos m.regs.saving)

exclude-held : (p : List ℕ) (x : ℕ) → (x ≡ 0) ⊎ (is_exclude p x ≡ true) → (eqb x 0 || is_exclude p x) ≡ true
exclude-held p x h = ⊎_elim (λ z. rw (eq-eqb x 0 z)) (λ t. ap (λ b. eqb x 0 || b) t ∙ or-true (eqb x 0)) h

pub facts-sound : {p : List ℕ} {m : Machine} → Sound p m → sound_of p m ≡ true
unfolding sound_of
facts-sound {p} {m} s =
    rw (
      le-leb _ _ s.stop_small,
      s.marks_small,
      s.stands,
      exclude-held p m.regs.exclude s.exclude_is,
      s.cells_clear_of,
      s.marks_clear_of,
      le-leb _ _ s.fits,
      facts-paged m.regs s.paged,
      facts-saving p m s.saves,
    )

-- the journal has a length that a chip of its pages may have
pub good_length : {p : List ℕ} {m : Machine} → Good p m → ChipLength m.regs.page (length m.journal)
good_length {p} {m} g =
    let f = (sound-facts g.sound).paged in
    record { some = f.some; few = f.few; most = g.most; whole = g.whole }

-- ---- by entries

pub zero-at : (l : List ℕ) (c k : ℕ) → zero_from l c k ≡ true → (j : ℕ) → c ≤ j → j < c + k → get_or l j 0 ≡ 0
unfolding zero_from
zero-at l c zero h j a b = absurd (omega arith)
zero-at l c (suc k) h j a b =
    let s = and_both (eqb (get_or l c 0) 0) (zero_from l (suc c) k) h in
    let ih = zero-at l (suc c) k s.1 j in
    ⊎_elim (λ (q : suc c ≤ j). ih q (omega arith)) (λ (q : j < suc c). let e : j ≡ c = omega arith in rw e (eqb-true _ _ s.0)) (le-or-lt (suc c) j)

pub zero-from : (l : List ℕ) (c k : ℕ) → ((j : ℕ) → c ≤ j → j < c + k → get_or l j 0 ≡ 0) → zero_from l c k ≡ true
unfolding zero_from
zero-from l c zero h = refl
zero-from l c (suc k) h = rw (h c (omega arith) (omega arith), zero-from l (suc c) k (λ j a b. h j (omega arith) (omega arith)))

pub mark-at : (l : List ℕ) (c k : ℕ) → marks_from l c k ≡ true → (j : ℕ) → c ≤ j → j < c + k → get_or l j 0 ≤ 3
unfolding marks_from
mark-at l c zero h j a b = absurd (omega arith)
mark-at l c (suc k) h j a b =
    let s = and_both (leb (get_or l c 0) 3) (marks_from l (suc c) k) h in
    let ih = mark-at l (suc c) k s.1 j in
    ⊎_elim (λ (q : suc c ≤ j). ih q (omega arith)) (λ (q : j < suc c). let e : j ≡ c = omega arith in rw e (leb-true _ _ s.0)) (le-or-lt (suc c) j)

pub marks-from : (l : List ℕ) (c k : ℕ) → ((j : ℕ) → c ≤ j → j < c + k → get_or l j 0 ≤ 3) → marks_from l c k ≡ true
unfolding marks_from
marks-from l c zero h = refl
marks-from l c (suc k) h =
    rw (le-leb _ _ (h c (omega arith) (omega arith)), marks-from l (suc c) k (λ j a b. h j (omega arith) (omega arith)))
