-- The test of a state, on plain numbers and lists: the sums over cells and marks, what the table says of the places, the size of the present save, and the
-- parts of `saving_sound_of` and of `sound_of` in the order of the code.
-- Assumes nothing.
use mathlib.Core.Path.{◌≡◌, refl, sym, ◌∙◌, ap}
use mathlib.Core.Bool.{Bool, true, false, cond, ◌&&◌, ◌||◌, and_assoc}
use mathlib.Core.List.{List, []}
use Prim.Native.Nat.{ℕ, zero, suc, ◌+◌, ◌-◌, ◌*◌, ◌%◌, ◌≤◌, ◌<◌}
use native.Mathlib.Nat.{zero-add}
use native.Mathlib.Numerals.{add-one}
use native.Mathlib.Omega.{arith}
use lib.Dec.{eqb, ltb, leb}
use Rattle.std.proofs.Common.{length-drop}
use lib.ListN.{length, get_or, take, drop}
use Rattle.std.specs.List.{sum, sum_by}
use Rattle.std.proofs.lemmas.List.Elements.{All-from_get_or}
use Rattle.std.proofs.lemmas.List.Sums.{sum_by-drop_more, sum_by-le}
use Rattle.std.proofs.lemmas.List.{drop_all, take_all}
use borrow.Author.Tests.{eq-eqb, ne_eqb, lt-ltb, le-leb, lt-leb, ltb-true, ltb-false, leb-true}
use Rattle.cellset.specs.Bits.{has}
use Rattle.cellset.specs.Sets.{SetIs}
use Rattle.cellset.specs.Members.{members_from, members}
use Rattle.instruction.specs.Bytes.{byte, cells_of}
use Rattle.program.specs.Starts.{starts}
use Rattle.program.specs.Places.{Places, is_start, is_exclude, exclude_number, entry_at, read_place}
use Rattle.program.specs.Places.{Place}
use Rattle.program.proofs.Tests.{bool_cases, clash, and_both}
use Rattle.program.proofs.Filling.{none-past}
use Rattle.program.proofs.PlaceLaws.{place_read}
use Rattle.marks.specs.Marks.{to_store}
use Rattle.marks.proofs.Laws.{stored-members}
use Rattle.journal.specs.declared.Commit.{Commit}
use Rattle.journal.specs.Format.{pages_in, format_of, kind_of, image, padded}
use Rattle.journal.specs.Writing.{records_of, checkpoint_of}
use Rattle.journal.proofs.Paging.{fill-lt}
use Rattle.journal.proofs.Decoding.{padded-length}
use Rattle.journal.proofs.Written.{image-length}
use Rattle.step.specs.State.{Machine, format_at, commit_at_of, checkpoint_at, image_at, size_at, zero_from, marks_from, pages_sound_of, saving_sound_of, sound_of}
use Rattle.step.specs.declared.Regs.{Regs}

-- ---- the sums of `cells_clear`, `marks_clear` and `are_marks`

pub sum-most : (f : ℕ → ℕ) (m : ℕ) (l : List ℕ) → ((k : ℕ) → f (get_or l k 0) ≤ m) → sum_by f l ≤ length l * m
sum-most f m l h = sum_by-le f m l (All-from_get_or (λ x. f x ≤ m) l 0 (λ k _. h k))

-- a sum is 0 where both numbers are
sum-zero : (s x : ℕ) → eqb (s + x) 0 ≡ (eqb s 0 && eqb x 0)
sum-zero zero x = rw (zero-add x)
sum-zero (suc s) x = rw (ne_eqb (suc s) 0 (λ z. omega arith), ne_eqb (suc s + x) 0 (λ z. omega arith))

-- a test T that goes over the numbers from c on asks each for what f makes of it to be 0: so their sum tells it
sum-tests : (f : ℕ → ℕ) (l : List ℕ) (T : (c k : ℕ) → Bool) → ((c : ℕ) → T c 0 ≡ true)
    → ((c k : ℕ) → T c (suc k) ≡ (eqb (f (get_or l c 0)) 0 && T (suc c) k)) → (c k : ℕ) → c + k ≡ length l
    → eqb (sum_by f (drop c l)) 0 ≡ T c k
sum-tests f l T end more c zero e = let n : length l ≤ c = omega arith in rw (drop_all c l n) (sym (end c))
sum-tests f l T end more c (suc k) e =
    rw (sum_by-drop_more f l c 0 (omega arith), sum-zero, add-one c, sum-tests f l T end more (suc c) k (omega arith)) (sym (more c k))

pub zero-sum : (l : List ℕ) (c : ℕ) → c ≤ 256 → length l ≡ 256 → eqb (sum (take (256 - c) (drop c l))) 0 ≡ zero_from l c (256 - c)
unfolding zero_from
zero-sum l c h e = rw (take_all (256 - c) (drop c l) (omega (arith, length-drop c l)))
    (sum-tests (λ x. x) l (zero_from l) (λ c. refl) (λ c k. refl) c (256 - c) (omega arith))

-- 1 where a byte is no mark's
abbrev pub wrong_of : ℕ → ℕ
wrong_of x = cond (ltb 3 x) 1 0

wrong-zero : (x : ℕ) → leb x 3 ≡ eqb (wrong_of x) 0
wrong-zero x = bool_cases (ltb 3 x) (λ t. rw (t, lt-leb x 3 (ltb-true 3 x t))) (λ t. rw (t, le-leb x 3 (ltb-false 3 x t)))

pub marks-sum : (l : List ℕ) → length l ≡ 256 → eqb (sum_by wrong_of l) 0 ≡ marks_from l 0 256
unfolding marks_from
marks-sum l e = sum-tests wrong_of l (marks_from l) (λ c. refl) (λ c k. ap (λ b. b && marks_from l (suc c) k) (wrong-zero (get_or l c 0))) 0 256 (omega arith)

pub wrong-most : (x : ℕ) → wrong_of x ≤ 1
wrong-most x = bool_cases (ltb 3 x) (λ t. rw t (omega arith)) (λ t. rw t (omega arith))

-- ---- the places

-- the number of an EXCLUDE is above 0
some : (b : Bool) (n : ℕ) → ltb 0 (cond b (n + 1) 0) ≡ b
some true n = lt-ltb 0 (n + 1) (omega arith)
some false n = refl

-- the table says where an instruction starts, and where an EXCLUDE does
module _ (p table : List ℕ) (h : Places p table) (t : ℕ) {q : Place} (e : q ≡ read_place (entry_at table t)) where
  pub start-read : q.start ≡ is_start p t
  start-read = ap (λ (y : Place). y.start) (e ∙ place_read p table h t)

  pub exclude-read : ltb 0 q.exclude ≡ is_exclude p t
  exclude-read =
      let k : q.exclude ≡ cond (is_exclude p t) (exclude_number p t + 1) 0 = ap (λ (y : Place). y.exclude) (e ∙ place_read p table h t) in
      rw k (some (is_exclude p t) (exclude_number p t))

-- ---- the save at work

members-most : (s : List ℕ) (c k : ℕ) → length (members_from s c k) ≤ k
unfolding members_from
members-most s c zero = omega arith
members-most s c (suc k) =
    let ih = members-most s (suc c) k in
    bool_cases (eqb (has s c) 1) (λ t. rw t (omega arith)) (λ t. rw t (omega arith))

-- b is how many bytes a checkpoint of the set s has, whatever its values
abbrev pub SizeIs : ℕ → List ℕ → (page kind : ℕ) → Type 0
SizeIs b s page kind = (owner : ℕ) (values : List ℕ) (c : Commit) → b ≡ length (padded (format_of page kind owner) (checkpoint_of s values c))

-- 256 records, a commit and the filling at most
pub size-most : (s : List ℕ) {b page kind : ℕ} → SizeIs b s page kind → 0 < page → page ≤ 16 → kind ≤ 1 → b ≤ 1569
unfolding members
size-most s {page = page} {kind = kind} h some few two =
    let none : Commit = record { place = 0; exclude = 0; readings = 0; outputs = 0; owner = 0 } in
    let x = checkpoint_of s [] none in
    let G = format_of page kind 0 in
    omega (arith, h 0 [] none, padded-length G x, fill-lt page (length (image G x)) some, image-length G s [] none, members-most s 0 256)

-- with the set of the present cells to store it is the size of the present save
pub size_is : (p : List ℕ) (m : Machine) {s : List ℕ} {b kind : ℕ} → kind ≡ kind_of m.regs.owner → SetIs s (to_store (cells_of p) m.marks) → SizeIs b s m.regs.page kind
    → b ≡ size_at p m
unfolding size_at image_at checkpoint_at checkpoint_of
size_is p m {s} ed is h =
    h m.regs.owner m.cells (commit_at_of p m)
    ∙ ap (λ (k : ℕ). length (padded (format_of m.regs.page k m.regs.owner) (checkpoint_of s m.cells (commit_at_of p m)))) ed
    ∙ ap (λ (cs : List ℕ). length (padded (format_at m.regs) (record { records = records_of cs m.cells; commit = commit_at_of p m }))) (stored-members (cells_of p) m.marks is)

module _ (p : List ℕ) (m : Machine) where
  -- of a save at work its bytes decide
  pub saving-bytes : {b len : ℕ} → ¬ (m.regs.saving ≡ 0) → byte p m.regs.pc ≡ 14 → m.regs.erase ≡ 0 → b ≡ size_at p m → length m.journal ≡ len
      → ((ltb (m.regs.saving - 1) b && pages_in m.regs.page (m.regs.saving - 1)) && leb (m.regs.write + (b - (m.regs.saving - 1))) len) ≡ saving_sound_of p m
  saving-bytes s k e b j = rw (ne_eqb _ _ s, eq-eqb _ _ k, eq-eqb _ _ e, b, ← j) (simp and_assoc)

-- ---- the whole test

-- its parts in the code's order, but for the save at work
unfoldable pub parts_of : List ℕ → Regs → (cells marks : List ℕ) → ℕ → Bool
parts_of p r xs ms len =
    (((((leb r.stop 3 && marks_from ms 0 256)
    && (is_start p r.pc && (eqb r.exclude 0 || is_exclude p r.exclude)))
    && zero_from xs (cells_of p) (256 - cells_of p))
    && zero_from ms (cells_of p) (256 - cells_of p))
    && leb (r.write + r.erase) len)
    && pages_sound_of r

pub sound-parts : (p : List ℕ) (m : Machine) {len : ℕ} → length m.journal ≡ len → sound_of p m ≡ (parts_of p m.regs m.cells m.marks len && saving_sound_of p m)
unfolding sound_of parts_of
sound-parts p m e = rw (← e) (simp and_assoc)

-- where they hold, the place is inside the program, and pages have 1 to 16 bytes
pub parts-hold : (p : List ℕ) (r : Regs) (xs ms : List ℕ) (len : ℕ) → parts_of p r xs ms len ≡ true → (r.pc < length p) × (0 < r.page) × (r.page ≤ 16)
unfolding parts_of starts
parts-hold p r xs ms len e =
    let a = and_both _ (pages_sound_of r) e in
    let b = and_both _ (leb (r.write + r.erase) len) a.0 in
    let c = and_both _ (zero_from ms (cells_of p) (256 - cells_of p)) b.0 in
    let d = and_both _ (zero_from xs (cells_of p) (256 - cells_of p)) c.0 in
    let f = and_both (leb r.stop 3 && marks_from ms 0 256) (is_start p r.pc && (eqb r.exclude 0 || is_exclude p r.exclude)) d.0 in
    let s = and_both (is_start p r.pc) (eqb r.exclude 0 || is_exclude p r.exclude) f.1 in
    let g = and_both _ (eqb (r.erase % r.page) 0) a.1 in
    let h = and_both _ (eqb (r.write % r.page) 0) g.0 in
    let k = and_both (ltb 0 r.page) (leb r.page 16) h.0 in (
      bool_cases (ltb r.pc (length p)) (λ l. ltb-true _ _ l) (λ l. clash (is_start p r.pc) s.0 (none-past p (length p) 1 r.pc (ltb-false _ _ l))),
      ltb-true _ _ k.0,
      leb-true _ _ k.1,
    )
