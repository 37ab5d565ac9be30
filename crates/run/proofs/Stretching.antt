-- Many bytes of a save at once: the bytes copied, the checkpoint made, and the run that is the same from further on.
-- Assumes nothing.
use mathlib.Core.Path.{◌≡◌, refl, sym, ◌∙◌, ap}
use mathlib.Core.Bool.{cond}
use mathlib.Core.List.{List, [], ◌∷◌, ◌++◌, append-nil}
use Rattle.std.proofs.Common.{None}
use Prim.Native.Nat.{ℕ, zero, suc, ◌+◌, ◌-◌, ◌*◌, ◌/◌, ◌%◌, ◌≤◌, ◌<◌, min}
use native.Mathlib.Nat.{add-zero, zero-add, suc-add, suc-ne-zero, zero-mul, one-mul, suc-mul, mul-le-mul_right, div-mul-le_self}
use native.Mathlib.Omega.{arith}
use lib.Dec.{eqb}
use lib.IntN.{ℤ, pos}
use lib.ListN.{length, set, take, drop, length-drop}
use lib.Seq.{sets, sets-eq, length-sets, drop-append-le, take-append-le, drop-drop, take-add, length-take-le}
use borrow.Author.Tests.{eq-eqb, ne_eqb, eqb-true, eqb-false, lt-ltb}
use Rattle.cellset.specs.Sets.{SetIs}
use Rattle.instruction.specs.Bytes.{byte, cells_of, length_of}
use Rattle.program.proofs.Tests.{bool_cases}
use Rattle.execution.specs.Effects.{next_of}
use Rattle.marks.specs.Marks.{to_store, saved_marks}
use Rattle.journal.specs.Format.{format_of, kind_of, padded}
use Rattle.journal.proofs.Paging.{whole-add, whole-page, whole-next}
use Rattle.journal.proofs.Decoding.{padded-whole}
use Rattle.journal.specs.Writing.{checkpoint_of}
use Rattle.step.specs.declared.Regs.{Regs}
use Rattle.run.specs.declared.Pass.{Pass}
use Rattle.step.specs.State.{format_at, Env, Machine, machine_of, checkpoint_at, image_at, size_at}
use Rattle.step.specs.Step.{on_journal, stored_of, step_of, due_opcode_of, given_of, taken_of}
use Rattle.run.specs.Run.{Call, exit_before_of, stepped, run_of}
use Rattle.step.specs.Ready.{Ready, Good}
use Rattle.run.specs.Stretch.{stored_regs, StoreIs}
use Rattle.step.proofs.Facts.{sound-facts}
use Rattle.step.proofs.Stepping.{image-same, size_small, page-left, storing, stores}
use Rattle.step.proofs.Keeping.{good-step}

-- ---- the checkpoint

-- `make`: the buffer and the number of bytes that `image_into` leaves
pub makes : (p : List ℕ) (r : Regs) (xs ms b : List ℕ) {s : List ℕ} {n t k kind : ℕ} {b' : List ℕ} → kind ≡ kind_of r.owner → n ≡ cells_of p → SetIs s (to_store n ms)
    → byte p r.pc ≡ 0x0E → 0 < r.page → r.page ≤ 16 → t ≡ r.pc + length_of 0x0E
    → ((owner : ℕ) → (k ≡ length (padded (format_of r.page kind owner) (checkpoint_of s xs (record { place = t; exclude = r.exclude; readings = r.readings; outputs = r.outputs; owner = r.owner }))))
    × (b' ≡ sets b 0 (padded (format_of r.page kind owner) (checkpoint_of s xs (record { place = t; exclude = r.exclude; readings = r.readings; outputs = r.outputs; owner = r.owner })))))
    → (k ≤ 1584) × ((l : List ℕ) → (k ≡ length (image_at p (machine_of r xs ms l))) × (b' ≡ sets b 0 (image_at p (machine_of r xs ms l))))
unfolding size_at
makes p r xs ms b {t = t} {k = k} ed en h q some few et g =
    let e = g r.owner in
    let next : t ≡ next_of p r.pc = rw q et in
    let size : k ≡ length (image_at p (machine_of r xs ms [])) = e.0 ∙ ap length (image-same p r xs ms [] en h next ed) in (
      omega (arith, size_small p r xs ms [] en h some few),
      λ l. (e.0 ∙ ap length (image-same p r xs ms l en h next ed), e.1 ∙ ap (sets b 0) (image-same p r xs ms l en h next ed)),
    )

-- ---- the registers

pub stored-whole : (r : Regs) (m : ℕ) {t total : ℕ} → t ≡ r.pc + length_of 0x0E → r.saving - 1 + m ≡ total
    → on_journal r t (r.write + m) r.erase 0 ≡ stored_regs r m total
stored-whole r m et h = rw (et, eq-eqb _ _ h)

pub stored-part : (r : Regs) (m total : ℕ) → (r.saving - 1 + m ≡ total → ⊥)
    → on_journal r r.pc (r.write + m) r.erase (r.saving + m) ≡ stored_regs r m total
stored-part r m total h = rw (ne_eqb _ _ h)

-- ---- bytes stored one by one

-- where a run stands
abbrev at : Machine → (steps taken : ℕ) → List ℤ → Call
at m steps taken given = record { machine = m; steps = steps; taken = taken; given = given }

-- the step that is due stores a byte
record Storage (m : Machine) : Type 0 where
  runs : m.regs.stop ≡ 0
  nothing : m.regs.erase ≡ 0
  some : 0 < m.regs.saving

module _ {m : Machine} (s : Storage m) where
  no-exit : (p : List ℕ) (left n room steps taken : ℕ) (given : List ℤ) → exit_before_of p (suc left) n room (at m steps taken given) ≡ None
  unfolding exit_before_of due_opcode_of
  no-exit p left n room steps taken given = rw (s.runs, ne_eqb (suc left) 0 (suc-ne-zero left), s.nothing, lt-ltb _ _ s.some)

  one-step : (e : Env) (ρ : List ℤ) (steps taken : ℕ) (given : List ℤ)
      → stepped e ρ (at m steps taken given) ≡ at (stored_of e.program m) (suc steps) taken given
  unfolding stepped step_of taken_of given_of
  one-step e ρ steps taken given = rw (s.nothing, lt-ltb _ _ s.some, add-zero taken, append-nil given)

  one-run : {p : List ℕ} (e : Env) (ρ : List ℤ) (room left steps taken : ℕ) (given : List ℤ) → e.program ≡ p
      → run_of e ρ room (suc left) (at m steps taken given) ≡ run_of e ρ room left (at (stored_of p m) (suc steps) taken given)
  unfolding run_of
  one-run e ρ room left steps taken given d =
      rw (no-exit e.program left (length ρ) room steps taken given, one-step e ρ steps taken given)
      (ap (λ (q : List ℕ). run_of e ρ room left (at (stored_of q m) (suc steps) taken given)) d)

  one-good : {e : Env} {table : List ℕ} → Ready e table → Good e.program m → Good e.program (stored_of e.program m)
  one-good {e} r g =
      let v : ℤ = pos 0 in
      rw (stores e v m (omega (arith, s.nothing)) s.some refl) (good-step v r g s.runs)

-- k bytes stored lead from m to m': the run is the same from further on, and a good state stays good
record Leads (p : List ℕ) (k : ℕ) (m m' : Machine) : Type 0 where
  same : (e : Env) (ρ : List ℤ) (room left steps taken : ℕ) (given : List ℤ) → e.program ≡ p
      → run_of e ρ room left (at m' (steps + k) taken given) ≡ run_of e ρ room (k + left) (at m steps taken given)
  good : (e : Env) (table : List ℕ) → e.program ≡ p → Ready e table → Good p m → Good p m'

leads-none : (p : List ℕ) (m : Machine) → Leads p 0 m m
leads-none p m =
    record {
      same = λ e ρ room left steps taken given d. rw (add-zero steps, zero-add left);
      good = λ e table d r g. g;
    }

leads_one : (p : List ℕ) (k : ℕ) (m m' : Machine) → Storage m → Leads p k (stored_of p m) m' → Leads p (suc k) m m'
leads_one p k m m' s q =
    record {
      same = λ e ρ room left steps taken given d.
          let a : steps + suc k ≡ suc steps + k = omega arith in
          rw (a, suc-add k left, one-run s e ρ room (k + left) steps taken given d) (q.same e ρ room left (suc steps) taken given d);
      good = λ e table d r g. q.good e table d r (rw d at (one-good s r (rw d g)));
    }

-- a save of the bytes q is at work
record Saves (p q : List ℕ) (r : Regs) (xs ms l : List ℕ) : Type 0 where
  storage : Storage (machine_of r xs ms l)
  here : byte p r.pc ≡ 0x0E
  image : image_at p (machine_of r xs ms l) ≡ q
  stored : r.saving - 1 + r.page ≤ length q
  page : 0 < r.page
  whole : (r.saving - 1) % r.page ≡ 0
  pages : length q % r.page ≡ 0

-- where k more pages of them are stored
abbrev after : (p q : List ℕ) (r : Regs) (xs ms l : List ℕ) (k : ℕ) → Machine
after p q r xs ms l k =
    machine_of (stored_regs r (k * r.page) (length q)) xs (cond (eqb (r.saving - 1 + k * r.page) (length q)) (saved_marks (cells_of p) ms) ms)
    (sets l r.write (take (k * r.page) (drop (r.saving - 1) q)))

-- bytes stored behind bytes
sets_then : (l : List ℕ) (at next : ℕ) (a b : List ℕ) → next ≡ at + length a → sets (sets l at a) next b ≡ sets l at (a ++ b)
sets_then l at next [] b e = rw (e, add-zero at)
sets_then l at next (x ∷ a) b e = sets_then (set l at x) (suc at) next a b (omega arith)

module _ {p q : List ℕ} {r : Regs} {xs ms l : List ℕ} (s : Saves p q r xs ms l) where
  after_none : after p q r xs ms l 0 ≡ machine_of r xs ms l
  after_none =
      rw (zero-mul r.page, add-zero (r.saving - 1), add-zero r.write, add-zero r.saving, ne_eqb (r.saving - 1) (length q) (λ z. omega (arith, s.stored, s.page)))

  -- it is the last
  after_last : r.saving - 1 + r.page ≡ length q → after p q r xs ms l 1 ≡ stored_of p (machine_of r xs ms l)
  unfolding stored_of size_at
  after_last z = rw (one-mul r.page, s.image, eq-eqb _ _ z, s.here)

  -- it is not: the registers and the journal with it
  abbrev more : Regs
  more = on_journal r r.pc (r.write + r.page) r.erase (r.saving + r.page)

  abbrev journal : List ℕ
  journal = sets l r.write (take r.page (drop (r.saving - 1) q))

  more-is : (r.saving - 1 + r.page ≡ length q → ⊥) → machine_of more xs ms journal ≡ stored_of p (machine_of r xs ms l)
  unfolding stored_of size_at
  more-is z = rw (s.image, ne_eqb _ _ z)

  more-saves : (r.saving - 1 + r.page ≡ length q → ⊥) → Saves p q more xs ms journal
  unfolding image_at checkpoint_at
  more-saves z =
      let L = r.page in
      let d : r.saving - 1 + L ≡ r.saving + L - 1 = omega (arith, s.storage.some) in
      let w : (r.saving - 1 + L) % L ≡ 0 = whole-add L (r.saving - 1) L s.whole (whole-page L) in
      let n = whole-next L (r.saving - 1 + L) (length q) w s.pages (omega (arith, s.stored)) in
      record {
        storage = record { runs = s.storage.runs; nothing = s.storage.nothing; some = omega (arith, s.storage.some) };
        here = s.here;
        image = s.image;
        stored = omega (arith, n, d);
        page = s.page;
        whole = ap (λ (x : ℕ). x % L) (sym d) ∙ w;
        pages = s.pages;
      }

  after_more : (k : ℕ) → after p q more xs ms journal k ≡ after p q r xs ms l (suc k)
  after_more k =
      let L = r.page in
      let f = r.saving - 1 in
      let n : suc k * L ≡ L + k * L = omega (arith, suc-mul k L) in
      let d : r.saving + L - 1 ≡ f + L = omega (arith, s.storage.some) in
      let a : f + L + k * L ≡ f + (L + k * L) = omega arith in
      let b : r.write + L + k * L ≡ r.write + (L + k * L) = omega arith in
      let c : r.saving + L + k * L ≡ r.saving + (L + k * L) = omega arith in
      let v : length (take L (drop f q)) ≡ L = length-take-le L (drop f q) (omega (arith, length-drop f q, s.stored)) in
      let j : sets journal (r.write + L) (take (k * L) (drop (f + L) q)) ≡ sets l r.write (take (L + k * L) (drop f q)) =
      sets_then l r.write (r.write + L) (take L (drop f q)) (take (k * L) (drop (f + L) q)) (omega (arith, v))
      ∙ ap (λ (x : List ℕ). sets l r.write (take L (drop f q) ++ take (k * L) x)) (sym (drop-drop L f q))
      ∙ ap (sets l r.write) (sym (take-add L (k * L) (drop f q))) in
      rw (n, d, a, b, c, j)

leads-after : {p q : List ℕ} (k : ℕ) {r : Regs} {xs ms l : List ℕ} → Saves p q r xs ms l → r.saving - 1 + k * r.page ≤ length q
    → Leads p k (machine_of r xs ms l) (after p q r xs ms l k)
leads-after {p} zero {r} {xs} {ms} {l} s h = rw (after_none s) (leads-none p (machine_of r xs ms l))
leads-after {p} {q} (suc k) {r} {xs} {ms} {l} s h =
    leads_one p k (machine_of r xs ms l) (after p q r xs ms l (suc k)) s.storage
    (bool_cases (eqb (r.saving - 1 + r.page) (length q))
    (λ t.
    let z : r.saving - 1 + r.page ≡ length q = eqb-true _ _ t in
    let n : k ≡ 0 = none_more k r.page s.page (omega (arith, h, z, suc-mul k r.page)) in
    rw (n, after_last s z) (leads-none p (stored_of p (machine_of r xs ms l))))
    (λ t.
    let z : r.saving - 1 + r.page ≡ length q → ⊥ = eqb-false _ _ t in
    rw (← more-is s z, ← after_more s k) (leads-after k (more-saves s z) (omega (arith, h, s.storage.some, suc-mul k r.page)))))
  where
    none_more : (n L : ℕ) → 0 < L → n * L ≤ 0 → n ≡ 0
    none_more zero L a b = refl
    none_more (suc n) L a b = absurd (omega (arith, suc-mul n L))

-- ---- `store_some`

-- the save at work has this many bytes, and its rest fits
pub record Stretch (p : List ℕ) (r : Regs) (xs ms l : List ℕ) (total : ℕ) : Type 0 where
  saves : Saves p (image_at p (machine_of r xs ms l)) r xs ms l
  pub size : total ≡ length (image_at p (machine_of r xs ms l))
  pub some : 0 < r.saving
  pub begun : r.saving - 1 + r.page ≤ total
  pub page : 0 < r.page
  pub most : total ≤ 1584
  pub place : r.pc < 2048
  pub room : r.write + (total - (r.saving - 1)) ≤ length l
  pub small : length l ≤ 65536

pub stretch : (p : List ℕ) (r : Regs) (xs ms l : List ℕ) {total : ℕ} → Good p (machine_of r xs ms l) → length p ≤ 2048 → r.stop ≡ 0 → ¬ (r.saving ≡ 0)
    → total ≤ 1584 → total ≡ length (image_at p (machine_of r xs ms l)) → Stretch p r xs ms l total
unfolding size_at image_at
stretch p r xs ms l g n z k h e =
    let some : 0 < r.saving = omega arith in
    let sound = sound-facts g.sound in
    let f = sound.saves some in
    let left = page-left p (machine_of r xs ms l) sound some in
    let s = storing p (machine_of r xs ms l) g n some in
    record {
      saves =
          record {
            storage = record { runs = z; nothing = f.nothing; some = some };
            here = f.at;
            image = refl;
            stored = left;
            page = sound.paged.some;
            whole = f.whole;
            pages = padded-whole (format_at r) sound.paged.some (checkpoint_at p (machine_of r xs ms l));
          };
      size = e;
      some = some;
      begun = omega (arith, left);
      page = sound.paged.some;
      most = h;
      place = s.place;
      room = omega (arith, f.room);
      small = g.most;
    }

-- a buffer that is filled in keeps its length
pub filled-length : (p : List ℕ) (r : Regs) (xs ms l b : List ℕ) {b' : List ℕ} {n : ℕ} → length b ≡ n → b' ≡ sets b 0 (image_at p (machine_of r xs ms l))
    → length b' ≡ n
filled-length p r xs ms l b h e = ap length e ∙ length-sets b 0 (image_at p (machine_of r xs ms l)) ∙ h

-- bytes of a buffer's front that was filled in
front_same : (b q : List ℕ) (k m : ℕ) → length q ≤ length b → k + m ≤ length q → take m (drop k (sets b 0 q)) ≡ take m (drop k q)
front_same b q k m h n =
    let rest : List ℕ = drop (0 + length q) b in
    ap (λ (t : List ℕ). take m (drop k t)) (sets-eq q b 0 (omega arith))
    ∙ ap (take m) (drop-append-le k q rest (omega arith))
    ∙ take-append-le m (drop k q) rest (omega (arith, length-drop k q))

-- the marks, where the save is whole and where it is not
pub marks-whole : (p ms : List ℕ) {ms' : List ℕ} {n k total : ℕ} → k ≡ total → n ≡ cells_of p → ms' ≡ saved_marks n ms
    → ms' ≡ cond (eqb k total) (saved_marks (cells_of p) ms) ms
marks-whole p ms h en e = rw (eq-eqb _ _ h, ← en) e

pub marks-part : (p ms : List ℕ) {ms' : List ℕ} {k total : ℕ} → (k ≡ total → ⊥) → ms' ≡ ms → ms' ≡ cond (eqb k total) (saved_marks (cells_of p) ms) ms
marks-part p ms h e = rw (ne_eqb _ _ h) e

-- the pages that the budget allows are of the save
pub pages-fit : (k rest page left : ℕ) → k ≡ min (rest / page) left → k * page ≤ rest
pages-fit k rest page left e =
    let h : k ≤ rest / page = omega arith in
    omega (arith, mul-le-mul_right page h, div-mul-le_self rest page)

-- as `count_pages` counts them
pub least-pages : (rest page left : ℕ) {k n : ℕ} → n ≡ rest / page → k ≡ min n left → k ≡ min (rest / page) left
least-pages rest page left e h = h ∙ ap (λ (n : ℕ). min n left) e

pub store_is : (p : List ℕ) (budget : ℕ) (b : Pass) (xs ms l b₀ : List ℕ) (k : ℕ) {total : ℕ} {r' : Regs} {ms' l' b₁ : List ℕ}
    → Stretch p b.regs xs ms l total → Good p (machine_of b.regs xs ms l) → b.steps ≤ budget
    → k ≡ min ((total - (b.regs.saving - 1)) / b.regs.page) (budget - b.steps) → length b₀ ≡ 1584
    → b₁ ≡ sets b₀ 0 (image_at p (machine_of b.regs xs ms l))
    → l' ≡ sets l b.regs.write (take (k * b.regs.page) (drop (b.regs.saving - 1) b₁)) → r' ≡ stored_regs b.regs (k * b.regs.page) total
    → ms' ≡ cond (eqb (b.regs.saving - 1 + k * b.regs.page) total) (saved_marks (cells_of p) ms) ms
    → StoreIs p budget xs b ms l (record { regs = r'; steps = b.steps + k; taken = b.taken; written = b.written }) ms' l'
store_is p budget b xs ms l b₀ k {total} {r'} {ms'} {l'} s g h em n eb el er es =
    let q = image_at p (machine_of b.regs xs ms l) in
    let from = b.regs.saving - 1 in
    let m = k * b.regs.page in
    let w : from + m ≤ length q = omega (arith, s.size, s.begun, pages-fit k (total - from) b.regs.page (budget - b.steps) em) in
    let part : take m (drop from (sets b₀ 0 q)) ≡ take m (drop from q) = front_same b₀ q from m (omega (arith, s.size, s.most)) w in
    let journal : l' ≡ sets l b.regs.write (take m (drop from q)) = el ∙ rw (eb, part) in
    let is : machine_of r' xs ms' l' ≡ after p q b.regs xs ms l k = rw (er, es, journal, s.size) in
    let leads = leads-after k s.saves w in
    let few : k ≤ budget - b.steps = omega arith in
    record {
      more = omega arith;
      steps = omega arith;
      taken = refl;
      written = refl;
      size = ap length journal ∙ length-sets l b.regs.write (take m (drop from q));
      same = λ e ρ room outs d.
          let z : budget - b.steps ≡ k + (budget - (b.steps + k)) = omega arith in
          rw (is, z) (leads.same e ρ room (budget - (b.steps + k)) b.steps b.taken (take b.written outs) d);
      good = λ e table d r. rw is (leads.good e table d r g);
    }
