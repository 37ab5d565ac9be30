-- What follows the records of a checkpoint, told by the first byte: nothing, a commit, one more record, or what no checkpoint has there. For each return of
-- `tail_at` a lemma, `-cut`, `-whole` or `-bad` by its answer.
-- Assumes nothing.
use Rattle.std.proofs.Common.{◌≡◌, ℕ, ◌+◌, ◌^◌, ◌<◌, ◌≤◌, Bool, true, false, List, [], ◌∷◌, ◌++◌, length, get_or, drop, sym, refl, ◌∙◌, subst, inl, ⊎_elim, append-nil, arith, length-drop}
use native.Mathlib.Nat.{one-le-pow}
use borrow.Author.Tests.{eqb-false}
use Rattle.word.specs.Bytes.{bytes_of}
use Rattle.word.proofs.Bytes.{length-bytes}
use Rattle.cellset.proofs.Bits.{le-or-lt}
use Rattle.journal.specs.declared.Commit.{Commit}
use Rattle.journal.specs.declared.tail.Tail.TheVariants.{Cut}
use Rattle.journal.specs.Format.{Format, mark_lead, owner_width, mark_length, Saved, fields_of, fields_image, commit_image, records_image}
use Rattle.journal.specs.Reading.{Facts, Once, After}
use Rattle.journal.specs.Parts.{Decides, Meets, Some, Fields, commit_at_of, Stamped, NoRecord, Free, Goes, Ends, TailIs}
use Rattle.journal.proofs.Images.{records-length, commit-length}
use Rattle.journal.proofs.Meeting.{decides-yes, decides-no, meets-append, meets-join, past-meets, meets_at, first-meets, meets-first}
use Rattle.journal.proofs.Numbers.{Small, small-drop, some_number}
use Rattle.journal.proofs.Fieldwise.{fields-loaded}
use Rattle.journal.proofs.Passing.{once-snoc, once-fresh}

-- bytes that are too few for a commit are cut
tail-cut : {F : Facts} {b : Commit} {rs : List Saved} (l : List ℕ) (i : ℕ) → length l < i + mark_length F.format → Goes F b rs (drop i l) → TailIs F b rs l i Cut
tail-cut {F} l i h g =
    (g, λ k. omega (arith, length-drop i l, records-length k.more (commit_image F.format k.commit), commit-length F.format k.commit))

-- no more records, then a commit
commit-goes : {F : Facts} {b : Commit} {rs : List Saved} {l : List ℕ} (c : Commit) → Once F.cells rs → After F b c → Meets (commit_image F.format c) l → Goes F b rs l
unfolding records_image
commit-goes {F} {b} {rs} c o a m =
    record { more = []; commit = c; once = subst (λ (x : List Saved). Once F.cells x) (sym (append-nil rs)) o; after = a; meets = m }

-- ---- a commit at any place

-- without a place there is no commit
pub no_place : {F : Facts} {b : Commit} {rs : List Saved} {l : List ℕ} (some : Bool) → Decides (Some F false 0 1) some → some ≡ false → ¬ Goes F b rs l
no_place some d e g =
    decides-no some e d (record { offset = g.commit.place; is = g.after.place_is; fits = g.after.place_fits; low_is = omega arith })

-- with one there is a commit that is sound after b
abbrev placed : Commit → ℕ → Commit
placed b t = record { place = t; exclude = 0; readings = b.readings; outputs = b.outputs; owner = 0 }

placed-after : {F : Facts} (b : Commit) (s : Some F false 0 1) → b.readings < 2 ^ 32 → b.outputs < 2 ^ 32 → After F b (placed b s.offset)
placed-after {F} b s r o = record {
  place_is = s.is;
  place_fits = s.fits;
  exclude_is = inl refl;
  exclude_fits = omega arith;
  readings_rise = omega arith;
  readings_fit = r;
  outputs_rise = omega arith;
  outputs_fit = o;
  owner_fits = one-le-pow (owner_width F.format) 256 (omega arith);
}

-- nothing follows: any sound commit may
pub none-cut : {F : Facts} {b : Commit} {rs : List Saved} (l : List ℕ) (i : ℕ) (some : Bool) → length l ≤ i → Decides (Some F false 0 1) some → some ≡ true
    → b.readings < 2 ^ 32 → b.outputs < 2 ^ 32 → Once F.cells rs → TailIs F b rs l i Cut
none-cut {F} {b} l i some h d e r o u =
    let s : Some F false 0 1 = decides-yes some e d in
    let c = placed b s.offset in
    tail-cut l i (omega arith) (commit-goes c u (placed-after b s r o) (past-meets (commit_image F.format c) l i h))

-- ---- the first byte

-- x and the bytes t behind it meet a commit, or one of the records first
data Front (G : Format) (c : Commit) (x : ℕ) (t : List ℕ) : List Saved → Type 0 where
  is_commit : x ≡ mark_lead G → Meets (fields_image (fields_of G c) 0x5A) t → Front G c x t []
  is_record : {r : Saved} {rs : List Saved} → x ≡ 0xA1 → Meets (r.cell ∷ []) t → Front G c x t (r ∷ rs)

front : (G : Format) (rs : List Saved) (c : Commit) (l : List ℕ) (i : ℕ) → i < length l → Meets (records_image rs (commit_image G c)) (drop i l)
    → Front G c (get_or l i 0) (drop (i + 1) l) rs
unfolding records_image
front G [] c l i h m = let d = first-meets l i h m in is_commit d.0 d.1
front G (r ∷ rs) c l i h m = let d = first-meets l i h m in is_record d.0 (meets-append (r.cell ∷ []) d.1).0

goes-front : {F : Facts} {b : Commit} {rs : List Saved} (l : List ℕ) (i : ℕ) → i < length l → (g : Goes F b rs (drop i l))
    → Front F.format g.commit (get_or l i 0) (drop (i + 1) l) g.more
goes-front {F} l i h g = front F.format g.more g.commit l i h g.meets

-- other first bytes begin nothing
pub other-bad : {F : Facts} {b : Commit} {rs : List Saved} (l : List ℕ) (i : ℕ) → i < length l → ¬ (get_or l i 0 ≡ mark_lead F.format) → ¬ (get_or l i 0 ≡ 0xA1)
    → ¬ Goes F b rs (drop i l)
other-bad {F} l i h no-commit no_record g = go (goes-front l i h g)
  where
    go : {ms : List Saved} → Front F.format g.commit (get_or l i 0) (drop (i + 1) l) ms → ⊥
    go (is_commit e m) = no-commit e
    go (is_record e m) = no_record e

-- ---- a commit

pub commit-bad : {F : Facts} {b : Commit} {rs : List Saved} (l : List ℕ) (i : ℕ) (fields : Bool) → i < length l → get_or l i 0 ≡ mark_lead F.format
    → Decides (Fields F b (drop (i + 1) l)) fields → fields ≡ false → ¬ Goes F b rs (drop i l)
commit-bad {F} l i fields h x d n g = go (goes-front l i h g)
  where
    go : {ms : List Saved} → Front F.format g.commit (get_or l i 0) (drop (i + 1) l) ms → ⊥
    go (is_commit e m) = decides-no fields n d (record { commit = g.commit; after = g.after; meets = m })
    go (is_record e m) = omega arith

pub commit-cut : {F : Facts} {b : Commit} {rs : List Saved} (l : List ℕ) (i : ℕ) (fields : Bool) → i < length l → get_or l i 0 ≡ mark_lead F.format
    → Decides (Fields F b (drop (i + 1) l)) fields → fields ≡ true → length l < i + mark_length F.format → Once F.cells rs → TailIs F b rs l i Cut
commit-cut {F} {b} l i fields h x d e short u =
    let f : Fields F b (drop (i + 1) l) = decides-yes fields e d in
    tail-cut l i short (commit-goes f.commit u f.after (meets-first l i (mark_lead F.format) h x f.meets))

pub commit-whole : {F : Facts} {b : Commit} (l : List ℕ) (i : ℕ) (fields : Bool) → get_or l i 0 ≡ mark_lead F.format → Decides (Fields F b (drop (i + 1) l)) fields
    → fields ≡ true → i + mark_length F.format ≤ length l → Ends F b l i
commit-whole {F} {b} l i fields x d e h =
    let f : Fields F b (drop (i + 1) l) = decides-yes fields e d in
    let c : f.commit ≡ commit_at_of (owner_width F.format) l (i + 1) = fields-loaded l (i + 1) f (omega arith) in
    let m : Meets (commit_image F.format f.commit) (drop i l) = meets-first l i (mark_lead F.format) (omega arith) x f.meets in
    record {
      most = h;
      after = subst (λ (k : Commit). After F b k) c f.after;
      bytes = subst (λ (k : Commit). drop i l ≡ commit_image F.format k ++ drop (i + mark_length F.format) l) c (meets_at l i (mark_length F.format) m (commit-length F.format f.commit) h);
    }

-- ---- one more record

-- the cell of a record that goes on is free
pub record-bad : {F : Facts} {b : Commit} {rs : List Saved} (l : List ℕ) (i m : ℕ) (seen : List ℕ) (free : Bool) → i < length l → get_or l i 0 ≡ 0xA1
    → F.cells ≤ 256 → Decides (Free F.cells m seen (drop (i + 1) l)) free → free ≡ false → Stamped rs m seen → ¬ Goes F b rs (drop i l)
record-bad {F} {b} {rs} l i m seen free h x small d n stamps g = go g.once (goes-front l i h g)
  where
    go : {ms : List Saved} → Once F.cells (rs ++ ms) → Front F.format g.commit (get_or l i 0) (drop (i + 1) l) ms → ⊥
    go o (is_commit e k) = omega arith
    go o (is_record {r} {rs = ms} e k) =
        let f = once-fresh rs r ms o in
        decides-no free n d (record { cell = r.cell; exists = f.0; fresh = stamps r.cell (omega (arith, f.0)) ∙ f.1; meets = k })

-- a free cell is not that of a whole record
free-short : (n m : ℕ) (seen l : List ℕ) (i : ℕ) → get_or l i 0 ≡ 0xA1 → NoRecord n m seen l i → Free n m seen (drop (i + 1) l) → length l < i + 6
free-short n m seen l i x no_record f =
    ⊎_elim
    (λ (h : i + 6 ≤ length l).
    let e = (first-meets l (i + 1) (omega arith) f.meets).0 in
    absurd (eqb-false _ _ f.fresh (rw e at (no_record h x (omega (arith, f.exists, e))))))
    (λ h. h)
    (le-or-lt (i + 6) (length l))

-- a record is begun by bytes that are too few for it
record-meets : (G : Format) (r : Saved) (c : Commit) (l : List ℕ) (i : ℕ) → i < length l → get_or l i 0 ≡ 0xA1 → length l < i + 6 → Meets (r.cell ∷ []) (drop (i + 1) l)
    → Meets (bytes_of 4 r.value) (drop 1 (drop (i + 1) l)) → Meets (records_image (r ∷ []) (commit_image G c)) (drop i l)
unfolding records_image
record-meets G r c l i h x short k m =
    let v = bytes_of 4 r.value in
    let t = drop (i + 1) l in
    let p = past-meets (commit_image G c) (drop 1 t) (length v) (omega (arith, length-bytes 4 r.value, length-drop 1 t, length-drop (i + 1) l)) in
    meets-first l i 0xA1 h x (meets-join (r.cell ∷ []) k (meets-join v m p))

-- and a free cell is that of a record that goes on
pub record-cut : {F : Facts} {b : Commit} {rs : List Saved} (l : List ℕ) (i m : ℕ) (seen : List ℕ) (some free : Bool) → i < length l → get_or l i 0 ≡ 0xA1
    → F.cells ≤ 256 → Small l → NoRecord F.cells m seen l i → Decides (Some F false 0 1) some → some ≡ true → b.readings < 2 ^ 32 → b.outputs < 2 ^ 32
    → Decides (Free F.cells m seen (drop (i + 1) l)) free → free ≡ true → Once F.cells rs → Stamped rs m seen → TailIs F b rs l i Cut
record-cut {F} {b} l i m seen some free h x few small no_record d e r o p q u stamps =
    let s : Some F false 0 1 = decides-yes some e d in
    let f : Free F.cells m seen (drop (i + 1) l) = decides-yes free q p in
    let short = free-short F.cells m seen l i x no_record f in
    let v = some_number 4 (drop 1 (drop (i + 1) l)) (small-drop 1 (drop (i + 1) l) (small-drop (i + 1) l small)) in
    let new : Saved = record { cell = f.cell; value = v.number } in
    let c = placed b s.offset in
    tail-cut l i (omega arith) (record {
      more = new ∷ [];
      commit = c;
      once = once-snoc new u f.exists v.fits (sym (stamps f.cell (omega (arith, f.exists))) ∙ f.fresh);
      after = placed-after b s r o;
      meets = record-meets F.format new c l i h x short f.meets v.meets;
    })
