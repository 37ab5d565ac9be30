-- What a step leaves, by what is due: a page erased, a page stored, and the instruction by its opcode.
-- Assumes nothing.
use mathlib.Core.Path.{◌≡◌, refl, sym, ◌∙◌, ap}
use mathlib.Core.Bool.{Bool, true, false, cond, ◌&&◌}
use mathlib.Core.List.{List, ◌++◌}
use mathlib.Core.Logic.{◌⊎◌, inl, inr}
use Prim.Native.Nat.{ℕ, zero, suc, ◌+◌, ◌-◌, ◌*◌, ◌<◌, ◌≤◌}
use native.Mathlib.Nat.{add-zero, sub-zero}
use native.Mathlib.Omega.{arith}
use borrow.Author.Tests.{eq-eqb, ne_eqb, lt-ltb, le-ltb}
use lib.Dec.{eqb, leb}
use lib.IntN.{ℤ}
use lib.ListN.{length, get_or, set, take, drop, replicate, length-append, length-replicate}
use Rattle.std.proofs.Common.{length-drop, append-nil, append_assoc, drop-drop}
use Rattle.std.proofs.lemmas.List.{length-take-le, drop_all}
use borrow.Rule.Slice.PartMut.{put_mid, mid_of}
use lib.Seq as seq
use mir.Syntax.{w16, w32}
use mir.Val.{Fits}
use Rattle.cellset.specs.Sets.{SetIs}
use Rattle.word.specs.Word.{val, bits_of}
use Rattle.instruction.specs.Bytes.{byte, cells_of, length_of, instruction_at_of}
use Rattle.instruction.proofs.Lengths.{length_most}
use Rattle.program.specs.Places.{is_exclude, exclude_number}
use Rattle.program.proofs.Tests.{bool_cases}
use Rattle.execution.specs.Effects.{Effect, stops, takes, gives, sets, saves, count_full, is_full, effect_of, cells_in, next_of}
use Rattle.execution.specs.Effects.{target, readings_after, outputs_after, stop_after, cells_after}
use Rattle.marks.specs.Marks.{excluded_marks, saved_marks, to_store, stored_from, stored_cells_of}
use Rattle.marks.proofs.Laws.{stored-members}
use Rattle.journal.specs.declared.Commit.{Commit}
use Rattle.journal.specs.Format.{Format, format_of, kind_of, fill_of, image, padded}
use Rattle.journal.specs.Writing.{checkpoint_of}
use Rattle.journal.proofs.Paging.{whole-none, whole-next, fill-lt}
use Rattle.journal.proofs.Padding.{ff-behind}
use Rattle.journal.proofs.Decoding.{padded-length, padded-whole}
use Rattle.journal.proofs.Written.{image-length}
use Rattle.journal.proofs.Naming.{kind-most}
use Rattle.step.specs.declared.Regs.{Regs}
use Rattle.step.specs.State.{Env, env_of, Machine, machine_of, format_at, commit_at_of, checkpoint_at, image_at, size_at, fits_at}
use Rattle.step.specs.Step.{effect_at, is_saves, exclude_after, marks_after, performed, on_journal, begun, executed_of, erased_of, stored_of, step_of}
use Rattle.step.specs.Ready.{Good, halted, emitted}
use Rattle.step.proofs.Facts.{Sound, sound-facts}
use Rattle.step.proofs.Fetching.{start-below, exclude-start}

-- ---- a page erased

pub erased : (r : Regs) (xs ms l : List ℕ) {t : List ℕ} → t ≡ seq.sets l (r.write + (r.erase - r.page)) (replicate r.page 0xFF)
    → machine_of (on_journal r r.pc r.write (r.erase - r.page) r.saving) xs ms t ≡ erased_of (machine_of r xs ms l)
unfolding erased_of
erased r xs ms l e = λ i. machine_of (on_journal r r.pc r.write (r.erase - r.page) r.saving) xs ms (e i)

-- a page is there to be erased
pub erasable : {p : List ℕ} {m : Machine} → Good p m → 0 < m.regs.erase → m.regs.page ≤ m.regs.erase
erasable {p} {m} g h =
    let f = (sound-facts g.sound).paged in
    omega (arith, whole-next m.regs.page 0 m.regs.erase (whole-none m.regs.page) f.erase h)

-- ---- n bytes stored

-- a part of a list that is written whole
pub sets-put : (l vs : List ℕ) (a k : ℕ) {ys : List ℕ} → ys ≡ vs → length vs ≡ k → a + k ≤ length l → put_mid a k l ys ≡ seq.sets l a vs
sets-put l vs a k e n h = let m : a + length vs ≤ length l = omega arith in rw (e, seq.sets-eq vs l a m, n, drop-drop) (simp append_assoc)

-- it has the length that its ends say
pub length-part : (l : List ℕ) (a n : ℕ) → a + n ≤ length l → length (mid_of a (a + n - a) l) ≡ n
length-part l a n h = let k : a + n - a ≡ n = omega arith in rw (k, length-take-le n (drop a l) (omega (arith, length-drop a l)))

-- `put_bytes`: what is still to be stored leaves what all of it leaves, of the bytes of b from `from` on, where `byte` has them, and FF past the end of its image
pub record Putting (from n : ℕ) (image l₀ l : List ℕ) (i : ℕ) : Type 0 where
  pub rest : (f : ℕ) → from + n ≤ length image + f
      → seq.sets l i (take (n - i) (drop (from + i) (image ++ replicate f 0xFF))) ≡ seq.sets l₀ 0 (take n (drop from (image ++ replicate f 0xFF)))

pub putting-first : (from n : ℕ) (image l : List ℕ) → Putting from n image l l 0
putting-first from n image l = record { rest = λ f h. rw (add-zero from, sub-zero n) }

module _ {from n : ℕ} {image l₀ l : List ℕ} {i : ℕ} (q : Putting from n image l₀ l i) where
  pub putting-turn : i < n → {x : ℕ} → x ≡ get_or image (from + i) 0xFF → Putting from n image l₀ (set l i x) (i + 1)
  putting-turn h {x} e =
      let a : i + 1 ≡ suc i = omega arith in
      let b : from + (i + 1) ≡ suc (from + i) = omega arith in
      let k : n - i ≡ suc (n - suc i) = omega arith in
      record {
        rest = λ f g.
            let stored = image ++ replicate f 0xFF in
            let z : length (replicate {A = ℕ} f 0xFF) ≡ f = length-replicate f 0xFF in
            let d : from + i < length stored = omega (arith, length-append image (replicate f 0xFF)) in
            let y : get_or stored (from + i) 0xFF ≡ x = ff-behind image f (from + i) ∙ sym e in
            rw (b, a) (rw (k, seq.drop-cons stored (from + i) 0xFF d, y) at (q.rest f g));
      }

  pub putting-done : n ≤ i → (f : ℕ) → from + n ≤ length image + f → l ≡ seq.sets l₀ 0 (take n (drop from (image ++ replicate f 0xFF)))
  putting-done h f g = let k : n - i ≡ 0 = omega arith in rw k at (q.rest f g)

-- what is stored of a checkpoint
pub put-page : (G : Format) (s values : List ℕ) (c : Commit) (to from n : ℕ) (l : List ℕ) {ys : List ℕ}
    → ((f : ℕ) → from + n ≤ length (image G (checkpoint_of s values c)) + f
    → ys ≡ seq.sets (mid_of to (to + n - to) l) 0 (take n (drop from (image G (checkpoint_of s values c) ++ replicate f 0xFF))))
    → to + n ≤ length l → from + n ≤ length (padded G (checkpoint_of s values c))
    → put_mid to (to + n - to) l ys ≡ seq.sets l to (take n (drop from (padded G (checkpoint_of s values c))))
unfolding padded
put-page G s values c to from n l h r g =
    let f = fill_of G.page (length (image G (checkpoint_of s values c))) in
    let b = padded G (checkpoint_of s values c) in
    let part = mid_of to (to + n - to) l in
    let vs = take n (drop from b) in
    let v : length vs ≡ n = length-take-le n (drop from b) (omega (arith, length-drop from b)) in
    let p : length part ≡ n = length-part l to n r in
    let m : 0 + length vs ≤ length part = omega arith in
    let e : seq.sets part 0 vs ≡ vs = rw (seq.sets-eq vs part 0 m, drop_all (0 + length vs) part (omega arith), append-nil) in
    sets-put l vs to (to + n - to) (h f (omega (arith, padded-length G (checkpoint_of s values c))) ∙ e) (omega arith) (omega arith)

-- ---- the instruction, by its effect

-- the registers that an instruction concerns
abbrev pub on_program : Regs → (pc exclude readings outputs stop : ℕ) → Regs
on_program r t x n k s =
    record {
      pc = t;
      exclude = x;
      readings = n;
      outputs = k;
      stop = s;
      write = r.write;
      erase = r.erase;
      saving = r.saving;
      page = r.page;
      owner = r.owner;
    }

-- unless it begins a save, the effect f is performed
pub performs : (e : Env) (v : ℤ) (m : Machine) (f : Effect) → effect_at e.program v m ≡ f → {t x n k s : ℕ} {ys zs : List ℕ}
    → (is_saves f && fits_at e.program m) ≡ false → t ≡ target f m.regs.pc (next_of e.program m.regs.pc)
    → x ≡ exclude_after f m.regs.pc m.regs.exclude → n ≡ readings_after f m.regs.readings → k ≡ outputs_after f m.regs.outputs
    → s ≡ stop_after f → ys ≡ cells_after f m.cells → zs ≡ marks_after e f m.regs.pc m.marks
    → machine_of (on_program m.regs t x n k s) ys zs m.journal ≡ executed_of e v m
unfolding executed_of performed
performs e v m f is b et ex en ek es ey ez =
    rw (is, b) (λ i. machine_of (on_program m.regs (et i) (ex i) (en i) (ek i) (es i)) (ey i) (ez i) m.journal)

-- a stop changes the kind of stop alone
pub halts : (e : Env) (v : ℤ) (m : Machine) (k : ℕ) → effect_at e.program v m ≡ stops k
    → machine_of (halted m.regs k) m.cells m.marks m.journal ≡ executed_of e v m
halts e v m k is = performs e v m (stops k) is refl refl refl refl refl refl refl refl

-- ---- by its opcode

-- EMIT's registers
module _ (p ws : List ℕ) (v : ℤ) (r : Regs) (xs ms l : List ℕ) where
  -- READ
  read-effect : byte p r.pc ≡ 0x07
      → effect_at p v (machine_of r xs ms l) ≡ cond (is_full r.readings) (stops count_full) (takes (byte p (r.pc + 1)) (bits_of v))
  unfolding effect_at instruction_at_of effect_of
  read-effect q = rw q

  pub read-full : {s : Regs} → byte p r.pc ≡ 0x07 → r.readings ≡ 4294967295 → s ≡ halted r 3
      → machine_of s xs ms l ≡ executed_of (env_of p ws) v (machine_of r xs ms l)
  read-full q h es = rw es (halts (env_of p ws) v (machine_of r xs ms l) 3 (read-effect q ∙ rw h))

  pub read-takes : {t b : ℕ} {ys : List ℕ} → byte p r.pc ≡ 0x07 → r.stop ≡ 0 → (r.readings ≡ 4294967295 → ⊥) → t ≡ r.pc + length_of 0x07
      → b ≡ bits_of v → ys ≡ set xs (byte p (r.pc + 1)) b
      → machine_of (on_program r t r.exclude (r.readings + 1) r.outputs r.stop) ys ms l ≡ executed_of (env_of p ws) v (machine_of r xs ms l)
  read-takes q z h et eb ey =
      performs (env_of p ws) v (machine_of r xs ms l) (takes (byte p (r.pc + 1)) (bits_of v)) (read-effect q ∙ rw (ne_eqb _ _ h)) refl
      (rw q et) refl (omega arith) refl z (rw (← eb) ey) refl

  -- EMIT
  emit-effect : byte p r.pc ≡ 0x08
      → effect_at p v (machine_of r xs ms l) ≡ cond (is_full r.outputs) (stops count_full) (gives (val (cells_in xs (byte p (r.pc + 1)))))
  unfolding effect_at instruction_at_of effect_of
  emit-effect q = rw q

  pub emits : {s : Regs} → byte p r.pc ≡ 0x08 → r.stop ≡ 0 → s ≡ emitted r → machine_of s xs ms l ≡ executed_of (env_of p ws) v (machine_of r xs ms l)
  emits q z es =
      bool_cases (is_full r.outputs)
      (λ t. rw (es, t) (halts (env_of p ws) v (machine_of r xs ms l) 3 (emit-effect q ∙ rw t)))
      (λ t. rw (es, t)
      (performs (env_of p ws) v (machine_of r xs ms l) (gives (val (cells_in xs (byte p (r.pc + 1))))) (emit-effect q ∙ rw t) refl
      (rw q) refl refl (omega arith) z refl refl))

  -- EXCLUDE
  exclude-effect : byte p r.pc ≡ 0x0D → effect_at p v (machine_of r xs ms l) ≡ sets
  unfolding effect_at instruction_at_of effect_of
  exclude-effect q = rw q

  pub excludes : {t n k : ℕ} {zs : List ℕ} → byte p r.pc ≡ 0x0D → r.stop ≡ 0 → t ≡ r.pc + length_of 0x0D → n ≡ cells_of p
      → k ≡ exclude_number p r.pc → zs ≡ excluded_marks ws (8 * k) n ms
      → machine_of (on_program r t r.pc r.readings r.outputs r.stop) xs zs l ≡ executed_of (env_of p ws) v (machine_of r xs ms l)
  excludes {t} {n} {k} q z et en ek ez =
      let ea : 8 * k ≡ 8 * exclude_number p r.pc = omega arith in
      performs (env_of p ws) v (machine_of r xs ms l) sets (exclude-effect q) refl
      (rw q et) refl refl refl z refl (rw (← ea, ← en) ez)

  -- CHECKPOINT
  save-effect : byte p r.pc ≡ 0x0E → effect_at p v (machine_of r xs ms l) ≡ saves
  unfolding effect_at instruction_at_of effect_of
  save-effect q = rw q

  pub begins : byte p r.pc ≡ 0x0E → fits_at p (machine_of r xs ms l) ≡ true
      → machine_of (on_journal r r.pc r.write r.erase 1) xs ms l ≡ executed_of (env_of p ws) v (machine_of r xs ms l)
  unfolding executed_of begun
  begins q h = rw (save-effect q, h)

  pub passes : {t : ℕ} → byte p r.pc ≡ 0x0E → r.stop ≡ 0 → fits_at p (machine_of r xs ms l) ≡ false → t ≡ r.pc + length_of 0x0E
      → machine_of (on_program r t r.exclude r.readings r.outputs r.stop) xs ms l ≡ executed_of (env_of p ws) v (machine_of r xs ms l)
  passes q z h et = performs (env_of p ws) v (machine_of r xs ms l) saves (save-effect q) h (rw q et) refl refl refl z refl refl

-- ---- a page stored

-- a save holds 256 cells at most
stored-few : (n : ℕ) (ms : List ℕ) (c k : ℕ) → length (stored_from n ms c k) ≤ k
unfolding stored_from
stored-few n ms c zero = omega arith
stored-few n ms c (suc k) =
    let i = stored-few n ms (suc c) k in
    bool_cases (eqb (to_store n ms c) 1) (λ t. rw t (omega arith)) (λ t. rw t (omega arith))

module _ (p : List ℕ) (r : Regs) (xs ms l : List ℕ) {s : List ℕ} {n : ℕ} (en : n ≡ cells_of p) (h : SetIs s (to_store n ms)) where
  -- the checkpoint of the set of cells to store is that of the state; t is the place that it has
  pub image-same : {t kind : ℕ} → t ≡ next_of p r.pc → kind ≡ kind_of r.owner
      → padded (format_of r.page kind r.owner) (checkpoint_of s xs (record { place = t; exclude = r.exclude; readings = r.readings; outputs = r.outputs; owner = r.owner }))
      ≡ image_at p (machine_of r xs ms l)
  unfolding checkpoint_of checkpoint_at image_at
  image-same et ed = rw (stored-members n ms h, en, et, ed)

  -- k is its size, b whether it fits
  pub size_same : {k kind : ℕ} → kind ≡ kind_of r.owner
      → ((owner : ℕ) (values : List ℕ) (c : Commit) → k ≡ length (padded (format_of r.page kind owner) (checkpoint_of s values c))) → k ≡ size_at p (machine_of r xs ms l)
  unfolding size_at
  size_same ed f = f r.owner xs (commit_at_of p (machine_of r xs ms l)) ∙ ap length (image-same refl ed)

  pub fits-same : {b : Bool} {kind : ℕ} → kind ≡ kind_of r.owner
      → ((owner : ℕ) (values : List ℕ) (c : Commit) → b ≡ leb (r.write + length (padded (format_of r.page kind owner) (checkpoint_of s values c))) (length l))
      → b ≡ fits_at p (machine_of r xs ms l)
  unfolding size_at
  fits-same ed f = f r.owner xs (commit_at_of p (machine_of r xs ms l)) ∙ ap (λ (q : List ℕ). leb (r.write + length q) (length l)) (image-same refl ed)

  pub size_small : 0 < r.page → r.page ≤ 16 → size_at p (machine_of r xs ms l) ≤ 1569
  unfolding size_at stored_cells_of
  size_small some few =
      let c = commit_at_of p (machine_of r xs ms l) in
      let e = image-length (format_at r) s xs c in
      let o = kind-most r.owner in
      let d = padded-length (format_at r) (checkpoint_of s xs c) in
      let z = fill-lt r.page (length (image (format_at r) (checkpoint_of s xs c))) some in
      let f = ap length (image-same refl refl) in
      let g = ap length (stored-members n ms h) in
      let i = stored-few n ms 0 256 in
      omega arith

  module _ {t k kind : ℕ} {l' : List ℕ} (ed : kind ≡ kind_of r.owner) (q : byte p r.pc ≡ 0x0E) (et : t ≡ r.pc + length_of 0x0E)
      (eb : (page owner : ℕ)
      → r.saving - 1 + r.page ≤ length (padded (format_of page kind owner) (checkpoint_of s xs (record { place = t; exclude = r.exclude; readings = r.readings; outputs = r.outputs; owner = r.owner })))
      → l' ≡ seq.sets l r.write (take r.page (drop (r.saving - 1)
      (padded (format_of page kind owner) (checkpoint_of s xs (record { place = t; exclude = r.exclude; readings = r.readings; outputs = r.outputs; owner = r.owner }))))))
      (ek : (owner : ℕ) (values : List ℕ) (c : Commit) → k ≡ length (padded (format_of r.page kind owner) (checkpoint_of s values c)))
      (room : r.saving - 1 + r.page ≤ size_at p (machine_of r xs ms l)) where
    next-same : t ≡ next_of p r.pc
    next-same = rw q et

    page-same : l' ≡ seq.sets l r.write (take r.page (drop (r.saving - 1) (image_at p (machine_of r xs ms l))))
    unfolding size_at
    page-same =
        let i = image-same next-same ed in
        eb r.page r.owner (omega (arith, ap length i)) ∙ ap (λ (x : List ℕ). seq.sets l r.write (take r.page (drop (r.saving - 1) x))) i

    pub stores-last : {zs : List ℕ} → r.saving - 1 + r.page ≡ k → zs ≡ saved_marks n ms
        → machine_of (on_journal r t (r.write + r.page) r.erase 0) xs zs l' ≡ stored_of p (machine_of r xs ms l)
    unfolding stored_of
    stores-last f ez = rw (eq-eqb _ _ (f ∙ size_same ed ek), ← page-same, ← next-same, ← en, ← ez)

    pub stores-next : (r.saving - 1 + r.page ≡ k → ⊥)
        → machine_of (on_journal r r.pc (r.write + r.page) r.erase (r.saving + r.page)) xs ms l' ≡ stored_of p (machine_of r xs ms l)
    unfolding stored_of
    stores-next f = rw (ne_eqb _ _ (λ g. f (g ∙ sym (size_same ed ek))), ← page-same)

-- what `store_one` needs of the numbers
pub record Storing (p : List ℕ) (m : Machine) : Type 0 where
  pub place : m.regs.pc < 2048
  pub exclude : m.regs.exclude < 2048
  pub at : byte p m.regs.pc ≡ 0x0E
  pub stored : m.regs.saving - 1 + m.regs.page ≤ size_at p m
  pub inside : m.regs.write + m.regs.page ≤ length m.journal
  pub some : 0 < m.regs.page
  pub few : m.regs.page ≤ 16
  pub most : length m.journal ≤ 65536

-- the last EXCLUDE stands within the program
exclude-within : (p : List ℕ) (n : ℕ) → length p ≤ 2048 → (n ≡ 0) ⊎ (is_exclude p n ≡ true) → n < 2048
exclude-within p n l (inl z) = omega arith
exclude-within p n l (inr h) = let b = start-below p n (exclude-start p n h).0 in omega arith

-- a page of the save at work is still to be stored
pub page-left : (p : List ℕ) (m : Machine) → Sound p m → 0 < m.regs.saving → m.regs.saving - 1 + m.regs.page ≤ size_at p m
unfolding size_at image_at
page-left p m f k =
    let s = f.saves k in
    whole-next m.regs.page (m.regs.saving - 1) (size_at p m) s.whole (padded-whole (format_at m.regs) f.paged.some (checkpoint_at p m)) s.stored

pub storing : (p : List ℕ) (m : Machine) → Good p m → length p ≤ 2048 → 0 < m.regs.saving → Storing p m
storing p m g l k =
    let f = sound-facts g.sound in
    let s = f.saves k in
    let b = start-below p m.regs.pc f.stands in
    let i = page-left p m f k in
    let o = s.room in
    let some = f.paged.some in
    record {
      place = omega arith;
      exclude = exclude-within p m.regs.exclude l f.exclude_is;
      at = s.at;
      stored = i;
      inside = omega arith;
      some = some;
      few = f.paged.few;
      most = g.most;
    }

-- the offset after the CHECKPOINT and one more page stored fit
pub place_fits : {t o : ℕ} → o < 2048 → t ≡ o + length_of 0x0E → Fits w16 t
place_fits h e = omega (arith, length_most 0x0E)

pub saving-fits : (p : List ℕ) (r : Regs) (xs ms l : List ℕ) {s : List ℕ} {n : ℕ} → n ≡ cells_of p → SetIs s (to_store n ms)
    → Storing p (machine_of r xs ms l) → Fits w32 (r.saving + r.page)
saving-fits p r xs ms l en h f = omega (arith, f.stored, f.few, size_small p r xs ms l en h f.some f.few)

-- ---- the step that is due

module _ (e : Env) (v : ℤ) (m : Machine) {n : Machine} where
  pub erases : 0 < m.regs.erase → n ≡ erased_of m → n ≡ step_of e v m
  unfolding step_of
  erases h d = rw (lt-ltb _ _ h) d

  pub stores : m.regs.erase ≤ 0 → 0 < m.regs.saving → n ≡ stored_of e.program m → n ≡ step_of e v m
  unfolding step_of
  stores g h d = rw (le-ltb _ _ g, lt-ltb _ _ h) d

  pub executes : {w : ℤ} → m.regs.erase ≤ 0 → m.regs.saving ≤ 0 → w ≡ v → n ≡ executed_of e w m → n ≡ step_of e v m
  unfolding step_of
  executes g h q d = rw (le-ltb _ _ g, le-ltb _ _ h, ← q) d
