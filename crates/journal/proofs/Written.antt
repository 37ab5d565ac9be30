-- The checkpoint that is stored for a set of cells: its length and its bytes one by one, as `size`, `fits` and `image_byte` give them, and what every order of
-- its records has in common: each cell of the set once (`written_once`), with its value (`written_all`), and no other (`written-only`). So it is sound
-- (`written-sound`), and a cell of the set reads back its value (`written-value`). The lengths and bytes of its parts are those of proofs/Images.antt.
-- Assumes nothing.
use Rattle.std.proofs.Common.{◌≡◌, ℕ, zero, suc, ◌+◌, ◌-◌, ◌*◌, ◌/◌, ◌%◌, ◌^◌, ◌<◌, ◌≤◌, Bool, false, cond, eqb, leb, List, [], ◌∷◌, length, get_or, sym, refl, ap, ◌∙◌, ⊎_elim, arith, eq-eqb, ne_eqb, eqb-true, le-leb}
use lib.ListN.{get_or-eq_default}
use borrow.Author.Tests.{lt-leb}
use Rattle.cellset.specs.Bits.{has}
use Rattle.cellset.specs.Members.{members}
use Rattle.cellset.proofs.Bits.{le-or-lt}
use Rattle.cellset.proofs.Members.{In, Rising, members-rising, members-in, members_only, members-below}
use Rattle.program.proofs.Tests.{bool_cases}
use Rattle.journal.specs.declared.Commit.{Commit}
use Rattle.journal.specs.Format.{Saved, fill_of, Format, mark_length, record_image, commit_image, image, padded}
use Rattle.journal.specs.Reading.{Facts, Absent, Once, After, Sound, saved_in}
use Rattle.journal.specs.Writing.{records_of, checkpoint_of}
pub use Rattle.journal.proofs.Decoding.{padded-length}
use Rattle.journal.proofs.Numbers.{byte-here}
pub use Rattle.journal.proofs.Images.{record-length, commit-length, commit-readings, commit-outputs, commit-owner, commit-last, commit-past, records-append, records-length, records-at, records-past}

-- ---- the checkpoint for a set of cells

-- as many records as cells
written-length : (cs values : List ℕ) → length (records_of cs values) ≡ length cs
unfolding records_of
written-length [] values = refl
written-length (c ∷ cs) values = ap suc (written-length cs values)

-- the record of the cell c
abbrev record_of : List ℕ → ℕ → Saved
record_of values c = record { cell = c; value = get_or values c 0 }

-- that of number i is of the cell of number i
written_at : (cs values : List ℕ) (i : ℕ) → get_or (records_of cs values) i (record_of values 0) ≡ record_of values (get_or cs i 0)
unfolding records_of
written_at [] values i = refl
written_at (c ∷ cs) values zero = refl
written_at (c ∷ cs) values (suc i) = written_at cs values i

pub image-length : (G : Format) (s values : List ℕ) (c : Commit) → length (image G (checkpoint_of s values c)) ≡ 6 * length (members s) + mark_length G
unfolding checkpoint_of image
image-length G s values c =
    omega (arith, records-length (records_of (members s) values) (commit_image G c), written-length (members s) values, commit-length G c)

-- with the filling
pub stored-length : (G : Format) (s values : List ℕ) (c : Commit) {n f : ℕ} → n ≡ 6 * length (members s) + mark_length G → f ≡ fill_of G.page n
    → n + f ≡ length (padded G (checkpoint_of s values c))
stored-length G s values c {n} {f} e g =
    let i = length (image G (checkpoint_of s values c)) in
    let z : n ≡ i = e ∙ sym (image-length G s values c) in
    let h : f ≡ fill_of G.page i = g ∙ ap (fill_of G.page) z in
    omega (arith, padded-length G (checkpoint_of s values c))

-- past its end the filling is read
pub image-past : (G : Format) (s values : List ℕ) (c : Commit) (k : ℕ) {n : ℕ} → n ≡ length (members s) → 6 * n + mark_length G ≤ k
    → 0xFF ≡ get_or (image G (checkpoint_of s values c)) k 0xFF
image-past G s values c k e h = sym (get_or-eq_default (image G (checkpoint_of s values c)) 0xFF {n = k} (omega (arith, image-length G s values c)))

-- n cells: the byte k is one of the record of the cell number k / 6, or one of the commit
module _ (G : Format) (s values : List ℕ) (c : Commit) (n k x : ℕ) (e : n ≡ length (members s)) where
  -- a byte that is there
  stands : k < 6 * n + mark_length G → x ≡ get_or (image G (checkpoint_of s values c)) k 0 → x ≡ get_or (image G (checkpoint_of s values c)) k 0xFF
  stands l h = h ∙ byte-here (image G (checkpoint_of s values c)) k (omega (arith, image-length G s values c))

  pub image-record : (cell : ℕ) → k < 6 * n → cell ≡ get_or (members s) (k / 6) 0
      → x ≡ get_or (record_image (record { cell = cell; value = get_or values cell 0 })) (k % 6) 0 → x ≡ get_or (image G (checkpoint_of s values c)) k 0xFF
  unfolding checkpoint_of image
  image-record cell l d h =
      stands (omega arith) (h
      ∙ ap (λ (y : ℕ). get_or (record_image (record_of values y)) (k % 6) 0) d
      ∙ ap (λ (r : Saved). get_or (record_image r) (k % 6) 0) (sym (written_at (members s) values (k / 6)))
      ∙ sym (records-at (records_of (members s) values) (commit_image G c) k (record_of values 0) (omega (arith, written-length (members s) values))))

  pub image-commit : 6 * n ≤ k → k < 6 * n + mark_length G → x ≡ get_or (commit_image G c) (k - 6 * n) 0 → x ≡ get_or (image G (checkpoint_of s values c)) k 0xFF
  unfolding checkpoint_of image
  image-commit l m h =
      stands m (h ∙ sym (records-past (records_of (members s) values) (commit_image G c) k (k - 6 * n) (omega (arith, written-length (members s) values))))

-- none fits where `at` lies past the end
pub no_room : (n at len : ℕ) → len < at → false ≡ leb (at + n) len
no_room n at len h = sym (lt-leb (at + n) len (omega arith))

-- it fits behind `at` where there is room for its bytes
pub room : (n at len : ℕ) → at ≤ len → leb n (len - at) ≡ leb (at + n) len
room n at len h =
    ⊎_elim
    (λ (l : at + n ≤ len). le-leb n (len - at) (omega arith) ∙ sym (le-leb (at + n) len l))
    (λ (l : len < at + n). lt-leb n (len - at) (omega arith) ∙ sym (lt-leb (at + n) len l))
    (le-or-lt (at + n) len)

-- ---- what every order of the records has in common

-- r is one of the records
pub data Listed (r : Saved) : List Saved → Type 0 where
  here : {rs : List Saved} → Listed r (r ∷ rs)
  there : {q : Saved} {rs : List Saved} → Listed r rs → Listed r (q ∷ rs)

-- cells of which none is c
pub records-absent : (c : ℕ) (cs values : List ℕ) → ¬ In c cs → Absent c (records_of cs values)
unfolding records_of
records-absent c [] values h = Absent.none
records-absent c (x ∷ cs) values h =
    Absent.other (λ (e : c ≡ x). h (rw e In.here)) (records-absent c cs values (λ i. h (In.there i)))

-- what rises lies at or above the bound
rising-above : {b c : ℕ} {cs : List ℕ} → Rising b cs → In c cs → b ≤ c
rising-above Rising.end i = elim i [ ]
rising-above (Rising.next h r) In.here = h
rising-above (Rising.next h r) (In.there i) = let l = rising-above r i in omega arith

pub records-once : {b : ℕ} (n : ℕ) (cs values : List ℕ) → Rising b cs → ((c : ℕ) → In c cs → c < n) → ((c : ℕ) → get_or values c 0 < 2 ^ 32)
    → Once n (records_of cs values)
unfolding records_of
records-once n [] values Rising.end h v = Once.none
records-once n (x ∷ cs) values (Rising.next l r) h v =
    Once.one (h x In.here) (v x) (records-absent x cs values (λ i. let g = rising-above r i in omega arith))
    (records-once n cs values r (λ c i. h c (In.there i)) v)

records-listed : {c : ℕ} {cs : List ℕ} (values : List ℕ) → In c cs → Listed (record { cell = c; value = get_or values c 0 }) (records_of cs values)
unfolding records_of
records-listed values In.here = here
records-listed values (In.there i) = there (records-listed values i)

-- a value that is right stays so
record-kept : (c x : ℕ) (values : List ℕ) → cond (eqb c x) (get_or values x 0) (get_or values c 0) ≡ get_or values c 0
record-kept c x values =
    bool_cases (eqb c x)
    (λ t. let e : c ≡ x = eqb-true _ _ t in rw (t, e))
    (λ t. rw t)

records-kept : (c : ℕ) (cs values : List ℕ) → saved_in c (records_of cs values) (get_or values c 0) ≡ get_or values c 0
unfolding records_of saved_in
records-kept c [] values = refl
records-kept c (x ∷ cs) values = ap (saved_in c (records_of cs values)) (record-kept c x values) ∙ records-kept c cs values

-- and a record of the cell makes it right
pub records-value : {c : ℕ} {cs : List ℕ} (values : List ℕ) → In c cs → (v : ℕ) → saved_in c (records_of cs values) v ≡ get_or values c 0
unfolding records_of saved_in
records-value {c} values (In.here {l}) v =
    ap (λ (b : Bool). saved_in c (records_of l values) (cond b (get_or values c 0) v)) (eq-eqb c c refl) ∙ records-kept c l values
records-value {c} values (In.there {x} {l} i) v = records-value values i (cond (eqb c x) (get_or values x 0) v)

-- records of other cells leave it
pub absent-saved : {c : ℕ} {rs : List Saved} → Absent c rs → (v : ℕ) → saved_in c rs v ≡ v
unfolding saved_in
absent-saved Absent.none v = refl
absent-saved {c} (Absent.other {r} {rs} n a) v = rw (ne_eqb c r.cell n) (absent-saved a v)

-- each cell of the set exists and stands once
pub written_once : (n : ℕ) (s values : List ℕ) → ((c : ℕ) → c < 256 → has s c ≡ 1 → c < n) → ((c : ℕ) → get_or values c 0 < 2 ^ 32)
    → Once n (records_of (members s) values)
written_once n s values h v = records-once n (members s) values (members-rising s) (λ c i. h c (members-below s c i) (members_only s c i)) v

-- with its value
pub written_all : (s values : List ℕ) (c : ℕ) → c < 256 → has s c ≡ 1 → Listed (record { cell = c; value = get_or values c 0 }) (records_of (members s) values)
written_all s values c l h = records-listed values (members-in s c l h)

-- and no other
pub written-absent : (s values : List ℕ) (c : ℕ) → has s c ≡ 0 → Absent c (records_of (members s) values)
written-absent s values c h = records-absent c (members s) values (λ i. omega (arith, members_only s c i))

pub written-only : (s values : List ℕ) (c v : ℕ) → c < 256 → has s c ≡ 0 → saved_in c (records_of (members s) values) v ≡ v
written-only s values c v l h = absent-saved (written-absent s values c h) v

-- so it reads back the values of its cells
pub written-value : (s values : List ℕ) (c v : ℕ) → c < 256 → has s c ≡ 1 → saved_in c (records_of (members s) values) v ≡ get_or values c 0
written-value s values c v l h = records-value values (members-in s c l h) v

-- and is sound
pub written-sound : (F : Facts) (b : Commit) (s values : List ℕ) (c : Commit) → ((x : ℕ) → x < 256 → has s x ≡ 1 → x < F.cells)
    → ((x : ℕ) → get_or values x 0 < 2 ^ 32) → After F b c → Sound F b (checkpoint_of s values c)
unfolding checkpoint_of
written-sound F b s values c h v a = record { once = written_once F.cells s values h v; after = a }
