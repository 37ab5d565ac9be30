-- What the parts of the scan decide. A journal is read without its trailing FF bytes, so that one test serves a checkpoint that is whole and one that is cut.
-- Assumes nothing.
use Rattle.std.specs.Prelude.{◌≡◌, ℕ, ◌+◌, ◌-◌, ◌*◌, ◌%◌, ◌^◌, ◌<◌, ◌≤◌, Bool, true, false, cond, ◌||◌, List, [], ◌∷◌, ◌++◌, length, take, drop, replicate, ◌==◌, nat_eq, slice_index, slice_index_or}
use Rattle.word.specs.Bytes.{bytes_of, load_of}
use Rattle.journal.specs.declared.Commit.{Commit}
use Rattle.journal.specs.Scanned.{Scanned}
use Rattle.journal.specs.Scanned as scanned
use Rattle.journal.specs.declared.tail.Tail.{Tail}
use Rattle.journal.specs.declared.tail.Tail.TheVariants.{Whole, Cut, Bad}
use Rattle.journal.specs.Format.{Saved, Checkpoint, fields_of, fields_image, commit_image, records_image, filled_of, owner_width, mark_length, images}
use Rattle.journal.specs.Answer.{Blank}
use Rattle.journal.specs.Reading
use Rattle.journal.specs.Reading.{Facts, first, Once, After, Rising, last_of, Torn, own_all, saved_in, saved_value}

-- b says whether P holds
abbrev pub Decides : Type 0 → Bool → Type 0
Decides P true = P
Decides P false = ¬ P

-- l without its trailing FF bytes is its first r
pub record Content (l : List ℕ) (r : ℕ) : Type 0 where
  pub most : r ≤ length l
  pub erased : ℕ
  pub bytes : l ≡ take r l ++ replicate erased 0xFF
  pub trimmed : (k : List ℕ) → ¬ (take r l ≡ k ++ (0xFF ∷ []))

-- ---- a commit

-- the bytes m and l are the same as far as both go
pub data Meets : List ℕ → List ℕ → Type 0 where
  ends : {l : List ℕ} → Meets [] l
  cut : {m : List ℕ} → Meets m []
  same : {x : ℕ} {m l : List ℕ} → Meets m l → Meets (x ∷ m) (x ∷ l)

-- the byte at i, FF past the end: the largest number that a cut one begins
abbrev pub byte_at : List ℕ → ℕ → ℕ
byte_at l i = slice_index_or l i 0xFF

-- the offsets that a commit may name, as its last EXCLUDE or as its place
abbrev pub offset_in : Facts → Bool → ℕ → Bool
offset_in F excludes t = cond excludes (t == 0 || F.exclude t) (F.place t)

-- some such offset leaves the remainder low when divided by step
pub record Some (F : Facts) (excludes : Bool) (low step : ℕ) : Type 0 where
  pub offset : ℕ
  pub is : offset_in F excludes offset ≡ true
  pub fits : offset < 2 ^ 16
  pub low_is : offset % step ≡ low

-- the bytes at the front of l, as many as there are, begin a number of w bytes that has the property P
pub record Number (P : ℕ → Type 0) (w : ℕ) (l : List ℕ) : Type 0 where
  pub number : ℕ
  pub holds : P number
  pub fits : number < 256 ^ w
  pub meets : Meets (bytes_of w number) l

-- they begin the fields and the last byte of a commit that is sound after b
pub record Fields (F : Facts) (b : Commit) (l : List ℕ) : Type 0 where
  pub commit : Commit
  pub after : After F b commit
  pub meets : Meets (fields_image (fields_of F.format commit) 0x5A) l

-- the commit whose fields stand at i, with an owner of so many bytes
abbrev pub commit_at_of : (width : ℕ) → List ℕ → ℕ → Commit
commit_at_of width l i =
    record {
      place = load_of 2 l i;
      exclude = load_of 2 l (i + 2);
      readings = load_of 4 l (i + 4);
      outputs = load_of 4 l (i + 8);
      owner = load_of width l (i + 12);
    }

-- ---- records

-- a record is of the cell c
unfoldable pub among : ℕ → List Saved → Bool
among c [] = false
among c (r ∷ rs) = c == r.cell || among c rs

-- the cells of the records have the stamp m in seen, and no others
abbrev pub Stamped : List Saved → ℕ → List ℕ → Type 0
Stamped rs m seen = (c : ℕ) → c < 256 → (slice_index seen c == m) ≡ among c rs

-- no stamp is above m
abbrev pub UpTo : ℕ → List ℕ → Type 0
UpTo m seen = (c : ℕ) → c < 256 → slice_index seen c ≤ m

-- a whole record that stands at i is of a cell that does not exist or has the stamp m
abbrev pub NoRecord : ℕ → ℕ → List ℕ → List ℕ → ℕ → Type 0
NoRecord n m seen l i = i + 6 ≤ length l → slice_index l i ≡ 0xA1 → slice_index l (i + 1) < n → slice_index seen (slice_index l (i + 1)) ≡ m

-- the records of l from `at` on, each of another cell that exists, end at r, and no other follows; seen has the stamps
pub record Passed (n : ℕ) (l : List ℕ) (at : ℕ) (seen : List ℕ) (r : ℕ) : Type 0 where
  pub saved : List Saved
  pub once : Once n saved
  pub bytes : drop at l ≡ records_image saved (drop r l)
  pub end_is : r ≡ at + 6 * length saved
  pub most : r ≤ length l
  pub size : length seen ≡ 256
  pub stamped : Stamped saved (at + 1) seen
  pub up_to : UpTo (at + 1) seen
  pub no_more : NoRecord n (at + 1) seen l r

-- a cell below n without the stamp m in seen is begun by the bytes at the front of l, if there are any
pub record Free (n m : ℕ) (seen l : List ℕ) : Type 0 where
  pub cell : ℕ
  pub exists : cell < n
  pub fresh : nat_eq (slice_index seen cell) m ≡ false
  pub meets : Meets (cell ∷ []) l

-- the values after the records that stand in l from `at` to `end`
abbrev pub Restored : List ℕ → (at end : ℕ) → (old new : List ℕ) → Type 0
Restored l at end old new = (n : ℕ) (rs : List Saved) → n ≤ 256 → Once n rs → drop at l ≡ records_image rs (drop end l) → end ≡ at + 6 * length rs
    → (c : ℕ) → c < 256 → slice_index new c ≡ saved_in c rs (slice_index old c)

-- ---- what follows the records

-- the records rs, more of them, and a commit make a checkpoint sound after b that l begins, or that begins l
pub record Goes (F : Facts) (b : Commit) (rs : List Saved) (l : List ℕ) : Type 0 where
  pub more : List Saved
  pub commit : Commit
  pub once : Once F.cells (rs ++ more)
  pub after : After F b commit
  pub meets : Meets (records_image more (commit_image F.format commit)) l

-- a commit that is sound after b stands in l at i
pub record Ends (F : Facts) (b : Commit) (l : List ℕ) (i : ℕ) : Type 0 where
  pub most : i + mark_length F.format ≤ length l
  pub after : After F b (commit_at_of (owner_width F.format) l (i + 1))
  pub bytes : drop i l ≡ commit_image F.format (commit_at_of (owner_width F.format) l (i + 1)) ++ drop (i + mark_length F.format) l

-- what stands in l at i, behind the records rs
abbrev pub TailIs : Facts → Commit → List Saved → List ℕ → ℕ → Tail → Type 0
TailIs F b rs l i Whole = Ends F b l i
TailIs F b rs l i Cut = Goes F b rs (drop i l) × ((g : Goes F b rs (drop i l)) → length (drop i l) < length (records_image g.more (commit_image F.format g.commit)))
TailIs F b rs l i Bad = ¬ Goes F b rs (drop i l)

-- ---- the whole journal

-- the bytes of l from `from` to `to` are FF, as far as there are any
pub record Erased (l : List ℕ) (from to : ℕ) : Type 0 where
  pub are : (k : ℕ) → from ≤ k → k < to → byte_at l k ≡ 0xFF

-- l, with FF bytes behind it up to `at`, is the sound whole checkpoints js, as many as there are, and a remainder
pub record Stops (F : Facts) (l : List ℕ) (at : ℕ) (js : List Checkpoint) (rest : List ℕ) : Type 0 where
  pub rising : Rising F first js
  pub at_is : at ≡ length (images F.format js)
  pub bytes : l ++ replicate (at - length l) 0xFF ≡ images F.format js ++ rest
  pub most : at < length l + F.format.page
  pub rest_is : rest ≡ drop at l
  pub no_more : (m : ℕ) → ¬ Reading.Whole F (last_of first js) (rest ++ replicate m 0xFF)

pub record Refuses (F : Facts) (l : List ℕ) : Type 0 where
  pub at : ℕ
  pub saves : List Checkpoint
  pub rest : List ℕ
  pub stops : Stops F l at saves rest
  pub refused : ¬ Torn F (last_of first saves) rest

pub record Accepts (F : Facts) (l : List ℕ) (end torn : ℕ) (last : Commit) (own : Bool) (values : List ℕ) : Type 0 where
  pub saves : List Checkpoint
  pub rest : List ℕ
  pub stops : Stops F l end saves rest
  pub accepted : Torn F (last_of first saves) rest
  pub torn_is : torn ≡ filled_of F.format.page (length rest)
  pub last_is : last ≡ last_of first saves
  pub own_is : own ≡ own_all F.format.owner saves
  pub cells : length values ≡ 256
  pub values_are : (c : ℕ) → c < 256 → slice_index values c ≡ saved_value c saves 0

-- what is found in a journal without its trailing FF bytes, whose length a chip may have
abbrev pub WalkIs : Facts → List ℕ → Scanned → List ℕ → Type 0
WalkIs F l scanned.BadLength values = ⊥
WalkIs F l scanned.Damaged values = Refuses F l × Blank values
WalkIs F l (scanned.Found end torn last own) values = Accepts F l end torn last own values
