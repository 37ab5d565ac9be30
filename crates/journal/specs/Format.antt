-- The bytes of a checkpoint (document 01: a save): "for each Include or Pending cell that exists, `A1`, cell, value (6 bytes), in any order, then a MARK of 14
-- bytes", and since Q-8 "The MARK becomes 18 bytes". A journal's checkpoints stand one after the other.
-- Assumes nothing.
use Rattle.std.specs.Prelude.{ℕ, ◌+◌, ◌-◌, ◌*◌, ◌%◌, Bool, cond, ◌&&◌, List, [], ◌∷◌, ◌++◌, length, replicate, ◌==◌, nat_le, nat_lt}
use Rattle.word.specs.Bytes.{bytes_of}
use Rattle.journal.specs.declared.Commit.{Commit}
use Rattle.journal.specs.declared.owners.Kind.{Kind}
use Rattle.journal.specs.declared.owners.Kind.TheVariants.{A2, A3}

-- how a chip is written: how many bytes it stores as a unit, 1 on the byte chip, and 16 on the page chip ("stores 16 bytes as a unit"); which kind its MARKs are
-- of, 0 for those of document 01, which begin with `A2` and name no plan, and 1 for those of Q-8, which begin with `A3` and name one; and the owner: the number of
-- the plan that writes, to which the MARKs that are read are compared
pub record Format : Type 0 where
  pub page : ℕ
  pub kind : ℕ
  pub owner : ℕ

abbrev pub format_of : (page kind owner : ℕ) → Format
format_of page kind owner = record { page = page; kind = kind; owner = owner }

-- the sum of the bytes
unfoldable pub sum_of : List ℕ → ℕ
sum_of [] = 0
sum_of (x ∷ l) = x + sum_of l

-- a plan's owner: "plan length (2), sum of all plan bytes modulo 65,536 (2)", one behind the other, are the four bytes of this number (`owner-bytes` of
-- proofs/Naming.antt)
unfoldable pub owner_of_plan : List ℕ → ℕ
owner_of_plan p = length p % 65536 + 65536 * (sum_of p % 65536)

-- in the owner's place, where MARKs name no plan; no plan that is accepted has this owner (`owner-some` of proofs/Naming.antt)
abbrev pub unowned : ℕ
unowned = 0

-- the kind of MARK that names this owner
unfoldable pub kind_of : ℕ → ℕ
kind_of owner = cond (owner == unowned) 0 1

-- the number of the code's kind
abbrev pub kind_number : Kind → ℕ
kind_number A2 = 0
kind_number A3 = 1

-- what a plan of that owner writes: document 01's chip for `unowned`, today's for `owner_of_plan` a plan
abbrev pub format_for : (page owner : ℕ) → Format
format_for page owner = format_of page (kind_of owner) owner

-- the first byte of a MARK, "`A2`" or "`A3`"
abbrev pub mark_lead : Format → ℕ
mark_lead G = 0xA2 + G.kind

-- how many bytes the owner takes, none or 4, and how many the whole MARK, 14 or 18
abbrev pub owner_width : Format → ℕ
owner_width G = 4 * G.kind

abbrev pub mark_length : Format → ℕ
mark_length G = 14 + owner_width G

-- n bytes are whole pages
abbrev pub pages_in : (page n : ℕ) → Bool
pages_in page n = n % page == 0

-- a chip may have n bytes: "A chip is 0 to 65,536 bytes", and whole pages; the pages of a chip have 1 to 16 bytes
unfoldable pub chip_length : (page n : ℕ) → Bool
chip_length page n = nat_lt 0 page && nat_le page 16 && nat_le n 65536 && pages_in page n

-- how many bytes fill the last page behind n bytes
unfoldable pub fill_of : (page n : ℕ) → ℕ
fill_of page n = cond (n % page == 0) 0 (page - n % page)

-- n bytes with the last page filled
abbrev pub filled_of : (page n : ℕ) → ℕ
filled_of page n = n + fill_of page n

-- a cell and its value, a 32-bit pattern
pub record Saved : Type 0 where
  pub cell : ℕ
  pub value : ℕ

pub record Checkpoint : Type 0 where
  pub records : List Saved
  pub commit : Commit

-- "`A1`, cell, value"
abbrev pub record_image : Saved → List ℕ
record_image r = 0xA1 ∷ r.cell ∷ bytes_of 4 r.value

-- a number and how many bytes it takes
pub record Field : Type 0 where
  pub width : ℕ
  pub number : ℕ

-- the fields of a MARK: "offset after the CHECKPOINT (2), offset of the last EXCLUDE executed or 0 (2), readings taken (4), outputs given (4)", and
-- in kind 1 "plan length (2), sum of all plan bytes modulo 65,536 (2)"
abbrev pub fields_of : Format → Commit → List Field
fields_of G c =
    record { width = 2; number = c.place }
    ∷ record { width = 2; number = c.exclude }
    ∷ record { width = 4; number = c.readings }
    ∷ record { width = 4; number = c.outputs }
    ∷ record { width = owner_width G; number = c.owner }
    ∷ []

-- fields one after the other, and then a byte
unfoldable pub fields_image : List Field → ℕ → List ℕ
fields_image [] end = end ∷ []
fields_image (f ∷ fs) end = bytes_of f.width f.number ++ fields_image fs end

-- "`A2`, .., `5A`", or "`A3`, .., `5A`"
abbrev pub commit_image : Format → Commit → List ℕ
commit_image G c = mark_lead G ∷ fields_image (fields_of G c) 0x5A

-- the records, then the rest
unfoldable pub records_image : List Saved → List ℕ → List ℕ
records_image [] rest = rest
records_image (r ∷ rs) rest = record_image r ++ records_image rs rest

unfoldable pub image : Format → Checkpoint → List ℕ
image G s = records_image s.records (commit_image G s.commit)

-- what is stored of it: "behind its MARK the page is filled with `FF`"; on a byte chip its bytes alone
unfoldable pub padded : Format → Checkpoint → List ℕ
padded G s = image G s ++ replicate (fill_of G.page (length (image G s))) 0xFF

-- the checkpoints one after the other
unfoldable pub images : Format → List Checkpoint → List ℕ
images G [] = []
images G (s ∷ js) = padded G s ++ images G js
