-- A step keeps a sound state, and the lengths of its lists.
-- Assumes nothing.
use mathlib.Core.Path.{◌≡◌, refl, sym, ◌∙◌, ap}
use mathlib.Core.Logic.{◌⊎◌, inr, ⊎_elim}
use mathlib.Core.List.{List}
use mathlib.Core.Bool.{Bool, true, false, cond, ◌&&◌}
use Prim.Native.Nat.{ℕ, ◌+◌, ◌-◌, ◌*◌, ◌%◌, ◌≤◌, ◌<◌}
use native.Mathlib.Omega.{arith}
use lib.Dec.{eqb, ltb}
use lib.IntN.{ℤ}
use lib.ListN.{length, get_or, set, take, drop, replicate, length-set, get_or-eq_default}
use lib.Seq.{get_or-set_other, length-sets}
use lib.Seq as seq
use borrow.Author.Tests.{ltb-true, ltb-false, leb-true, eqb-false, eq-eqb}
use Rattle.cellset.proofs.Bits.{le-or-lt}
use Rattle.instruction.specs.Bytes.{byte, cells_of}
use Rattle.execution.specs.Effects.{Effect, stops, on, goes, writes, takes, gives, sets, saves, target, stop_after, cells_after, cells_in, next_of}
use Rattle.marks.specs.Marks.{saved_marks}
use Rattle.marks.proofs.Laws.{excluded-out, excluded-length, excluded-small, saved-out, saved-length, saved-small}
use native.Mathlib.Nat.{zero-mod}
use Rattle.journal.proofs.Paging.{whole-add, whole_sub, whole-page}
use Rattle.journal.proofs.Decoding.{image-some, padded-length}
use Rattle.program.specs.Places.{is_start, is_exclude, exclude_number}
use Rattle.program.proofs.Tests.{clash, and_both}
use Rattle.program.proofs.Accepted.{Accepted, accepted, start-next}
use Rattle.step.specs.State.{Env, Machine, machine_of, format_at, checkpoint_at, image_at, size_at, fits_at, zero_from, marks_from}
use Rattle.step.specs.Step.{effect_at, is_saves, exclude_after, marks_after, performed, on_journal, begun, executed_of, erased_of, stored_of, step_of}
use Rattle.step.specs.Ready.{Ready, Good}
use Rattle.step.proofs.Facts.{Paged, Sound, sound-facts, facts-sound, zero-at, zero-from, mark-at, marks-from}
use Rattle.step.proofs.Stepping.{page-left}
use Rattle.step.proofs.Allowed.{Allowed, may_stop, may_pass, may_go, may_write, may_take, may_give, may_set, may_save, allowed}

-- a property of one of two machines, by the test that picks it
pick : (P : Machine → Type 0) (b : Bool) {x y : Machine} → (b ≡ true → P x) → (b ≡ false → P y) → P (cond b x y)
pick P true f g = f refl
pick P false f g = g refl

-- ---- lengths

-- the lists of two machines have the same lengths
record SameLengths (m m' : Machine) : Type 0 where
  cells : length m'.cells ≡ length m.cells
  marks : length m'.marks ≡ length m.marks
  journal : length m'.journal ≡ length m.journal

pub cells-length : (f : Effect) (xs : List ℕ) → length (cells_after f xs) ≡ length xs
cells-length (stops k) xs = refl
cells-length on xs = refl
cells-length (goes t) xs = refl
cells-length (writes d v) xs = length-set xs d v
cells-length (takes d v) xs = length-set xs d v
cells-length (gives v) xs = refl
cells-length sets xs = refl
cells-length saves xs = refl

marks-length : (e : Env) (f : Effect) (o : ℕ) (ms : List ℕ) → length (marks_after e f o ms) ≡ length ms
marks-length e (stops k) o ms = refl
marks-length e on o ms = refl
marks-length e (goes t) o ms = refl
marks-length e (writes d v) o ms = refl
marks-length e (takes d v) o ms = refl
marks-length e (gives v) o ms = refl
marks-length e sets o ms = excluded-length e.sets (8 * exclude_number e.program o) (cells_of e.program) ms
marks-length e saves o ms = refl

performed-lengths : (e : Env) (f : Effect) (m : Machine) → SameLengths m (performed e f m)
unfolding performed
performed-lengths e f m = record { cells = cells-length f m.cells; marks = marks-length e f m.regs.pc m.marks; journal = refl }

erased-lengths : (m : Machine) → SameLengths m (erased_of m)
unfolding erased_of
erased-lengths m = record {
  cells = refl;
  marks = refl;
  journal = length-sets m.journal (m.regs.write + (m.regs.erase - m.regs.page)) (replicate m.regs.page 0xFF);
}

stored-lengths : (p : List ℕ) (m : Machine) → SameLengths m (stored_of p m)
unfolding stored_of
stored-lengths p m =
    let l = length-sets m.journal m.regs.write (take m.regs.page (drop (m.regs.saving - 1) (image_at p m))) in
    pick (SameLengths m) (eqb (m.regs.saving - 1 + m.regs.page) (size_at p m))
    (λ _. record { cells = refl; marks = saved-length (cells_of p) m.marks; journal = l })
    (λ _. record { cells = refl; marks = refl; journal = l })

executed-lengths : (e : Env) (v : ℤ) (m : Machine) → SameLengths m (executed_of e v m)
unfolding executed_of begun
executed-lengths e v m =
    pick (SameLengths m) (is_saves (effect_at e.program v m) && fits_at e.program m)
    (λ _. record { cells = refl; marks = refl; journal = refl })
    (λ _. performed-lengths e (effect_at e.program v m) m)

step-lengths : (e : Env) (v : ℤ) (m : Machine) → SameLengths m (step_of e v m)
unfolding step_of
step-lengths e v m =
    pick (SameLengths m) (ltb 0 m.regs.erase) (λ _. erased-lengths m)
    (λ _. pick (SameLengths m) (ltb 0 m.regs.saving) (λ _. stored-lengths e.program m) (λ _. executed-lengths e v m))

pub step-length : (e : Env) (v : ℤ) (m : Machine) → length (step_of e v m).journal ≡ length m.journal
step-length e v m = (step-lengths e v m).journal

pub step-cells : (e : Env) (v : ℤ) (m : Machine) → length (step_of e v m).cells ≡ length m.cells
step-cells e v m = (step-lengths e v m).cells

pub step-marks : (e : Env) (v : ℤ) (m : Machine) → length (step_of e v m).marks ≡ length m.marks
step-marks e v m = (step-lengths e v m).marks

-- two machines are for one kind of chip
abbrev pub SameKind : Machine → Machine → Type 0
SameKind x m = (x.regs.page ≡ m.regs.page) × (x.regs.owner ≡ m.regs.owner)

-- a step keeps to the kind of chip
pub step-kind : (e : Env) (v : ℤ) (m : Machine) → SameKind (step_of e v m) m
unfolding step_of erased_of stored_of executed_of begun performed
step-kind e v m =
    let P : Machine → Type 0 = λ x. SameKind x m in
    pick P (ltb 0 m.regs.erase) (λ _. (refl, refl))
    (λ _. pick P (ltb 0 m.regs.saving)
    (λ _. pick P (eqb (m.regs.saving - 1 + m.regs.page) (size_at e.program m)) (λ _. (refl, refl)) (λ _. (refl, refl)))
    (λ _. pick P (is_saves (effect_at e.program v m) && fits_at e.program m) (λ _. (refl, refl)) (λ _. (refl, refl))))

-- ---- lists that stay 0 or marks

-- from n on nothing differs, so what was 0 is 0
clear_kept : (n : ℕ) (l l' : List ℕ) → ((j : ℕ) → n ≤ j → get_or l' j 0 ≡ get_or l j 0) → zero_from l n (256 - n) ≡ true → zero_from l' n (256 - n) ≡ true
clear_kept n l l' same h = zero-from l' n (256 - n) λ j a b. same j a ∙ zero-at l n (256 - n) h j a b

set-clear : (n : ℕ) (l : List ℕ) (d v : ℕ) → d < n → zero_from l n (256 - n) ≡ true → zero_from (set l d v) n (256 - n) ≡ true
set-clear n l d v h = clear_kept n l (set l d v) λ j a. get_or-set_other l d j v 0 (λ e. omega arith)

-- each byte of a list of 256 marks is a mark's, and none stands past its end
small-each : (ms : List ℕ) → length ms ≡ 256 → marks_from ms 0 256 ≡ true → (c : ℕ) → get_or ms c 0 ≤ 3
small-each ms e h c =
    ⊎_elim
    (λ (a : 256 ≤ c). omega (arith, get_or-eq_default ms 0 {n = c} (rw e a)))
    (λ (a : c < 256). mark-at ms 0 256 h c (omega arith) (omega arith))
    (le-or-lt 256 c)

small-from : (ms : List ℕ) → ((c : ℕ) → get_or ms c 0 ≤ 3) → marks_from ms 0 256 ≡ true
small-from ms h = marks-from ms 0 256 λ j _ _. h j

-- ---- an effect that is allowed

module _ {p : List ℕ} {o : ℕ} where
  stop-kept : {f : Effect} → Allowed p o f → stop_after f ≤ 3
  stop-kept (may_stop k) = k
  stop-kept (may_pass s) = omega arith
  stop-kept (may_go s) = omega arith
  stop-kept (may_write d s) = omega arith
  stop-kept (may_take d s) = omega arith
  stop-kept (may_give s) = omega arith
  stop-kept (may_set c s) = omega arith
  stop-kept (may_save c s) = omega arith

  -- it goes to an instruction
  place_kept : {f : Effect} → Allowed p o f → is_start p o ≡ true → is_start p (target f o (next_of p o)) ≡ true
  place_kept (may_stop k) h = h
  place_kept (may_pass s) h = s
  place_kept (may_go s) h = s
  place_kept (may_write d s) h = s
  place_kept (may_take d s) h = s
  place_kept (may_give s) h = s
  place_kept (may_set c s) h = s
  place_kept (may_save c s) h = s

  -- the last EXCLUDE is one or 0
  exclude-kept : {f : Effect} → Allowed p o f → is_start p o ≡ true → (x : ℕ) → (x ≡ 0) ⊎ (is_exclude p x ≡ true)
      → (exclude_after f o x ≡ 0) ⊎ (is_exclude p (exclude_after f o x) ≡ true)
  exclude-kept (may_stop k) h x i = i
  exclude-kept (may_pass s) h x i = i
  exclude-kept (may_go s) h x i = i
  exclude-kept (may_write d s) h x i = i
  exclude-kept (may_take d s) h x i = i
  exclude-kept (may_give s) h x i = i
  exclude-kept (may_set c s) h x i = inr (rw (h, eq-eqb (byte p o) 0x0D c))
  exclude-kept (may_save c s) h x i = i

  -- missing cells stay 0
  cells-kept : {f : Effect} → Allowed p o f → (xs : List ℕ) → zero_from xs (cells_of p) (256 - cells_of p) ≡ true
      → zero_from (cells_after f xs) (cells_of p) (256 - cells_of p) ≡ true
  cells-kept (may_stop k) xs h = h
  cells-kept (may_pass s) xs h = h
  cells-kept (may_go s) xs h = h
  cells-kept (may_write {d = d} {v = v} b s) xs h = set-clear (cells_of p) xs d v b h
  cells-kept (may_take {d = d} {v = v} b s) xs h = set-clear (cells_of p) xs d v b h
  cells-kept (may_give s) xs h = h
  cells-kept (may_set c s) xs h = h
  cells-kept (may_save c s) xs h = h

  -- only a CHECKPOINT saves
  save-here : {f : Effect} → Allowed p o f → is_saves f ≡ true → byte p o ≡ 0x0E
  save-here (may_stop k) h = clash false h refl
  save-here (may_pass s) h = clash false h refl
  save-here (may_go s) h = clash false h refl
  save-here (may_write d s) h = clash false h refl
  save-here (may_take d s) h = clash false h refl
  save-here (may_give s) h = clash false h refl
  save-here (may_set c s) h = clash false h refl
  save-here (may_save c s) h = c

-- missing cells stay Include, and bytes of marks bytes of marks
marks-clear-kept : (e : Env) (f : Effect) (o : ℕ) (ms : List ℕ) → zero_from ms (cells_of e.program) (256 - cells_of e.program) ≡ true
    → zero_from (marks_after e f o ms) (cells_of e.program) (256 - cells_of e.program) ≡ true
marks-clear-kept e (stops k) o ms h = h
marks-clear-kept e on o ms h = h
marks-clear-kept e (goes t) o ms h = h
marks-clear-kept e (writes d v) o ms h = h
marks-clear-kept e (takes d v) o ms h = h
marks-clear-kept e (gives v) o ms h = h
marks-clear-kept e sets o ms h =
    clear_kept (cells_of e.program) ms _ (excluded-out e.sets (8 * exclude_number e.program o) (cells_of e.program) ms) h
marks-clear-kept e saves o ms h = h

marks-small-kept : (e : Env) (f : Effect) (o : ℕ) (ms : List ℕ) → ((c : ℕ) → get_or ms c 0 ≤ 3) → (c : ℕ) → get_or (marks_after e f o ms) c 0 ≤ 3
marks-small-kept e (stops k) o ms h = h
marks-small-kept e on o ms h = h
marks-small-kept e (goes t) o ms h = h
marks-small-kept e (writes d v) o ms h = h
marks-small-kept e (takes d v) o ms h = h
marks-small-kept e (gives v) o ms h = h
marks-small-kept e sets o ms h = excluded-small e.sets (8 * exclude_number e.program o) (cells_of e.program) ms h
marks-small-kept e saves o ms h = h

-- ---- each kind of step

erased-sound : (p : List ℕ) (m : Machine) → Sound p m → 0 < m.regs.erase → Sound p (erased_of m)
unfolding erased_of
erased-sound p m s h =
    record {
      stop_small = s.stop_small;
      marks_small = s.marks_small;
      stands = s.stands;
      exclude_is = s.exclude_is;
      cells_clear_of = s.cells_clear_of;
      marks_clear_of = s.marks_clear_of;
      fits = omega (arith, s.fits, length-sets m.journal (m.regs.write + (m.regs.erase - m.regs.page)) (replicate m.regs.page 0xFF));
      paged = record {
        some = s.paged.some;
        few = s.paged.few;
        write = s.paged.write;
        erase = whole_sub m.regs.page m.regs.erase m.regs.page s.paged.erase (whole-page m.regs.page);
      };
      saves = λ k. absurd (omega (arith, (s.saves k).nothing));
    }

-- the save's size depends neither on the write position nor on the bytes stored
size-kept : (p : List ℕ) (m : Machine) (w x k : ℕ) (l : List ℕ)
    → size_at p (machine_of (on_journal m.regs m.regs.pc w x k) m.cells m.marks l) ≡ size_at p m
unfolding size_at image_at checkpoint_at
size-kept p m w x k l = refl

-- a save has a byte
size-some : (p : List ℕ) (m : Machine) → 0 < size_at p m
unfolding size_at image_at
size-some p m = omega (arith, image-some (format_at m.regs) (checkpoint_at p m), padded-length (format_at m.regs) (checkpoint_at p m))

module _ (p : List ℕ) (m : Machine) (s : Sound p m) (h : 0 < m.regs.saving) where
  -- the write position behind the page
  stored-paged : {pc k : ℕ} → Paged (on_journal m.regs pc (m.regs.write + m.regs.page) m.regs.erase k)
  stored-paged = record {
    some = s.paged.some;
    few = s.paged.few;
    write = whole-add m.regs.page m.regs.write m.regs.page s.paged.write (whole-page m.regs.page);
    erase = s.paged.erase;
  }

  -- a page that is not the last
  more-sound : (m.regs.saving - 1 + m.regs.page ≡ size_at p m → ⊥) → (b : List ℕ)
      → Sound p
      (machine_of (on_journal m.regs m.regs.pc (m.regs.write + m.regs.page) m.regs.erase (m.regs.saving + m.regs.page)) m.cells m.marks
      (seq.sets m.journal m.regs.write b))
  more-sound n b =
      let f = s.saves h in
      let L = m.regs.page in
      let i = page-left p m s h in
      let l = length-sets m.journal m.regs.write b in
      let z = size-kept p m (m.regs.write + L) m.regs.erase (m.regs.saving + L) (seq.sets m.journal m.regs.write b) in
      let k : m.regs.saving - 1 + L ≡ m.regs.saving + L - 1 = omega arith in
      record {
        stop_small = s.stop_small;
        marks_small = s.marks_small;
        stands = s.stands;
        exclude_is = s.exclude_is;
        cells_clear_of = s.cells_clear_of;
        marks_clear_of = s.marks_clear_of;
        fits = omega (arith, f.room, f.stored, f.nothing, l);
        paged = stored-paged;
        saves = λ _. record {
          at = f.at;
          nothing = f.nothing;
          stored = omega (arith, i, z);
          whole = ap (λ (x : ℕ). x % L) (sym k) ∙ whole-add L (m.regs.saving - 1) L f.whole (whole-page L);
          room = omega (arith, f.room, f.stored, z, l);
        };
      }

  -- the last page: the plan goes on behind the CHECKPOINT
  last-sound : {c n x : ℕ} → Accepted p c n x → length m.marks ≡ 256 → (b : List ℕ)
      → Sound p
      (machine_of (on_journal m.regs (next_of p m.regs.pc) (m.regs.write + m.regs.page) m.regs.erase 0) m.cells
      (saved_marks (cells_of p) m.marks) (seq.sets m.journal m.regs.write b))
  last-sound a e b =
      let f = s.saves h in
      let i = page-left p m s h in
      let l = length-sets m.journal m.regs.write b in
      record {
        stop_small = s.stop_small;
        marks_small = small-from (saved_marks (cells_of p) m.marks) (saved-small (cells_of p) m.marks (small-each m.marks e s.marks_small));
        stands = start-next p a m.regs.pc s.stands (rw f.at);
        exclude_is = s.exclude_is;
        cells_clear_of = s.cells_clear_of;
        marks_clear_of = clear_kept (cells_of p) m.marks (saved_marks (cells_of p) m.marks) (saved-out (cells_of p) m.marks) s.marks_clear_of;
        fits = omega (arith, f.room, f.stored, f.nothing, l);
        paged = stored-paged;
        saves = λ k. absurd (omega arith);
      }

  stored-sound : {c n x : ℕ} → Accepted p c n x → length m.marks ≡ 256 → Sound p (stored_of p m)
  unfolding stored_of
  stored-sound a e =
      let b = take m.regs.page (drop (m.regs.saving - 1) (image_at p m)) in
      pick (Sound p) (eqb (m.regs.saving - 1 + m.regs.page) (size_at p m)) (λ _. last-sound a e b)
      (λ t. more-sound (eqb-false (m.regs.saving - 1 + m.regs.page) (size_at p m) t) b)

-- a save begins where it fits
begun-sound : (p : List ℕ) (m : Machine) → Sound p m → byte p m.regs.pc ≡ 0x0E → m.regs.erase ≡ 0
    → m.regs.write + size_at p m ≤ length m.journal → Sound p (begun m)
unfolding begun
begun-sound p m s at none room =
    let z = size-kept p m m.regs.write m.regs.erase 1 m.journal in
    record {
      stop_small = s.stop_small;
      marks_small = s.marks_small;
      stands = s.stands;
      exclude_is = s.exclude_is;
      cells_clear_of = s.cells_clear_of;
      marks_clear_of = s.marks_clear_of;
      fits = s.fits;
      paged = record { some = s.paged.some; few = s.paged.few; write = s.paged.write; erase = s.paged.erase };
      saves = λ _. record {
        at = at;
        nothing = none;
        stored = omega (arith, size-some p m, z);
        whole = zero-mod m.regs.page;
        room = omega (arith, room, z);
      };
    }

performed-sound : (e : Env) (f : Effect) (m : Machine) → Sound e.program m → Allowed e.program m.regs.pc f → m.regs.saving ≡ 0
    → length m.marks ≡ 256 → Sound e.program (performed e f m)
unfolding performed
performed-sound e f m s w z l =
    record {
      stop_small = stop-kept w;
      marks_small = small-from _ (marks-small-kept e f m.regs.pc m.marks (small-each m.marks l s.marks_small));
      stands = place_kept w s.stands;
      exclude_is = exclude-kept w s.stands m.regs.exclude s.exclude_is;
      cells_clear_of = cells-kept w m.cells s.cells_clear_of;
      marks_clear_of = marks-clear-kept e f m.regs.pc m.marks s.marks_clear_of;
      fits = s.fits;
      paged = record { some = s.paged.some; few = s.paged.few; write = s.paged.write; erase = s.paged.erase };
      saves = λ k. absurd (omega arith);
    }

executed-sound : (e : Env) (v : ℤ) (m : Machine) {c n x : ℕ} → Accepted e.program c n x → Sound e.program m → m.regs.erase ≡ 0 → m.regs.saving ≡ 0
    → length m.marks ≡ 256 → Sound e.program (executed_of e v m)
unfolding executed_of effect_at
executed-sound e v m a s ze zs l =
    let w = allowed e.program m.regs.pc v m.regs.readings m.regs.outputs (cells_in m.cells) a s.stands in
    pick (Sound e.program) (is_saves (effect_at e.program v m) && fits_at e.program m)
    (λ t.
    let b = and_both (is_saves (effect_at e.program v m)) (fits_at e.program m) t in
    begun-sound e.program m s (save-here w b.0) ze (leb-true _ _ b.1))
    (λ _. performed-sound e (effect_at e.program v m) m s w zs l)

-- ---- the step

none_left : (n : ℕ) → ltb 0 n ≡ false → n ≡ 0
none_left n h = omega (arith, ltb-false 0 n h)

step-sound : (e : Env) (v : ℤ) (m : Machine) {c n x : ℕ} → Accepted e.program c n x → Sound e.program m → length m.marks ≡ 256
    → Sound e.program (step_of e v m)
unfolding step_of
step-sound e v m a s l =
    pick (Sound e.program) (ltb 0 m.regs.erase)
    (λ t. erased-sound e.program m s (ltb-true _ _ t))
    (λ t. pick (Sound e.program) (ltb 0 m.regs.saving)
    (λ u. stored-sound e.program m s (ltb-true _ _ u) a l)
    (λ u. executed-sound e v m a s (none_left m.regs.erase t) (none_left m.regs.saving u) l))

pub good-step : {e : Env} {table : List ℕ} {m : Machine} (v : ℤ) → Ready e table → Good e.program m → m.regs.stop ≡ 0 → Good e.program (step_of e v m)
good-step {e} {table} {m} v r g _ =
    record {
      sound = facts-sound (step-sound e v m (accepted e.program (sym r.accepted)) (sound-facts g.sound) g.marks);
      most = rw (step-length e v m) g.most;
      whole = rw (step-length e v m, (step-kind e v m).0) g.whole;
      cells = step-cells e v m ∙ g.cells;
      marks = step-marks e v m ∙ g.marks;
    }
