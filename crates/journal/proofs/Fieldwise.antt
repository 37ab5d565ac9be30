-- The fields of a commit one by one: bytes begin those of a sound commit where each field begins a number that it may hold (`fields-parts`, `parts-fields`),
-- and fields that are all there are those of the commit that is read there (`fields-loaded`).
-- Assumes nothing.
use Rattle.std.proofs.Common.{◌≡◌, ℕ, ◌+◌, ◌<◌, ◌≤◌, true, false, eqb, ◌⊎◌, List, [], ◌∷◌, ◌++◌, length, get_or, drop, sym, refl, subst, inl, inr, arith, drop-drop, eq-eqb, eqb-true}
use mathlib.Core.Bool.{or-true}
use Rattle.word.specs.Bytes.{bytes_of, load_of}
use Rattle.word.proofs.Bytes.{length-bytes}
use Rattle.program.proofs.Tests.{or_cases}
use Rattle.journal.specs.declared.Commit.{Commit}
use Rattle.journal.specs.Format.{Format, owner_width, fields_of, fields_image}
use Rattle.journal.specs.Reading.{Facts}
use Rattle.journal.specs.Parts.{Decides, Meets, offset_in, Number, Fields, commit_at_of}
use Rattle.journal.proofs.Meeting.{decides, meets-append, meets-join, first-meets, meets-first}
use Rattle.journal.proofs.Numbers.{Small, small-drop, some_number, meets-load}

-- each field and the last byte, where they stand from i on
pub record Fieldwise (F : Facts) (b : Commit) (l : List ℕ) (i : ℕ) : Type 0 where
  pub place : Number (λ t. offset_in F false t ≡ true) 2 (drop i l)
  pub exclude : Number (λ t. offset_in F true t ≡ true) 2 (drop (i + 2) l)
  pub readings : Number (λ x. b.readings ≤ x) 4 (drop (i + 4) l)
  pub outputs : Number (λ x. b.outputs ≤ x) 4 (drop (i + 8) l)
  pub owner : Number (λ x. Unit) (owner_width F.format) (drop (i + 12) l)
  pub end : Meets (0x5A ∷ []) (drop (i + 12 + owner_width F.format) l)

-- a last EXCLUDE, as `After` and as `offset_in` say it
exclude-named : (F : Facts) (t : ℕ) → (t ≡ 0) ⊎ (F.exclude t ≡ true) → offset_in F true t ≡ true
exclude-named F t (inl e) = rw e
exclude-named F t (inr e) = rw e (or-true (eqb t 0))

named-exclude : (F : Facts) (t : ℕ) → offset_in F true t ≡ true → (t ≡ 0) ⊎ (F.exclude t ≡ true)
named-exclude F t h = or_cases (eqb t 0) (F.exclude t) h (λ e. inl (eqb-true t 0 e)) (λ _ e. inr e)

-- a number of w bytes at i, and what follows it at j
module _ (w v : ℕ) (m l : List ℕ) (i j : ℕ) (e : j ≡ i + w) where
  next : drop (length (bytes_of w v)) (drop i l) ≡ drop j l
  next = rw (length-bytes w v, e) (drop-drop w i l)

  number-split : Meets (bytes_of w v ++ m) (drop i l) → Meets (bytes_of w v) (drop i l) × Meets m (drop j l)
  number-split h = let r = meets-append (bytes_of w v) h in (r.0, rw (sym next) r.1)

  number-join : Meets (bytes_of w v) (drop i l) → Meets m (drop j l) → Meets (bytes_of w v ++ m) (drop i l)
  number-join h k = meets-join (bytes_of w v) h (rw next k)

module _ (G : Format) (c : Commit) (l : List ℕ) (i : ℕ) where
  -- the bytes of each field of c, and the last byte
  abbrev Apart : Type 0
  Apart =
      Meets (bytes_of 2 c.place) (drop i l)
      × Meets (bytes_of 2 c.exclude) (drop (i + 2) l)
      × Meets (bytes_of 4 c.readings) (drop (i + 4) l)
      × Meets (bytes_of 4 c.outputs) (drop (i + 8) l)
      × Meets (bytes_of (owner_width G) c.owner) (drop (i + 12) l)
      × Meets (0x5A ∷ []) (drop (i + 12 + owner_width G) l)

  fields-apart : Meets (fields_image (fields_of G c) 0x5A) (drop i l) → Apart
  unfolding fields_image
  fields-apart h =
      let p = number-split 2 c.place _ l i (i + 2) refl h in
      let x = number-split 2 c.exclude _ l (i + 2) (i + 4) (omega arith) p.1 in
      let r = number-split 4 c.readings _ l (i + 4) (i + 8) (omega arith) x.1 in
      let o = number-split 4 c.outputs _ l (i + 8) (i + 12) (omega arith) r.1 in
      let n = number-split (owner_width G) c.owner _ l (i + 12) (i + 12 + owner_width G) refl o.1 in
      (p.0, x.0, r.0, o.0, n.0, n.1)

module _ {F : Facts} {b : Commit} (l : List ℕ) (i : ℕ) where
  pub fields-parts : Fields F b (drop i l) → Fieldwise F b l i
  fields-parts f =
      let c = f.commit in
      let a = f.after in
      let m = fields-apart F.format c l i f.meets in
      record {
        place = record { number = c.place; holds = a.place_is; fits = a.place_fits; meets = m.0 };
        exclude = record { number = c.exclude; holds = exclude-named F c.exclude a.exclude_is; fits = a.exclude_fits; meets = m.1 };
        readings = record { number = c.readings; holds = a.readings_rise; fits = a.readings_fit; meets = m.2 };
        outputs = record { number = c.outputs; holds = a.outputs_rise; fits = a.outputs_fit; meets = m.3 };
        owner = record { number = c.owner; holds = tt; fits = a.owner_fits; meets = m.4 };
        end = m.5;
      }

  pub parts-fields : Fieldwise F b l i → Fields F b (drop i l)
  unfolding fields_image
  parts-fields f =
      let p = f.place in
      let x = f.exclude in
      let r = f.readings in
      let o = f.outputs in
      let n = f.owner in
      let w = owner_width F.format in
      record {
        commit = record { place = p.number; exclude = x.number; readings = r.number; outputs = o.number; owner = n.number };
        after =
            record {
              place_is = p.holds;
              place_fits = p.fits;
              exclude_is = named-exclude F x.number x.holds;
              exclude_fits = x.fits;
              readings_rise = r.holds;
              readings_fit = r.fits;
              outputs_rise = o.holds;
              outputs_fit = o.fits;
              owner_fits = n.fits;
            };
        meets =
            number-join 2 p.number _ l i (i + 2) refl p.meets
            (number-join 2 x.number _ l (i + 2) (i + 4) (omega arith) x.meets
            (number-join 4 r.number _ l (i + 4) (i + 8) (omega arith) r.meets
            (number-join 4 o.number _ l (i + 8) (i + 12) (omega arith) o.meets
            (number-join w n.number _ l (i + 12) (i + 12 + w) refl n.meets f.end))));
      }

  -- where the numbers before the owner are begun and the last byte is, so is the commit: any bytes begin an owner
  pub begun-fields : (end : ℕ) → Small l → Number (λ t. offset_in F false t ≡ true) 2 (drop i l) → Number (λ t. offset_in F true t ≡ true) 2 (drop (i + 2) l)
      → Number (λ x. b.readings ≤ x) 4 (drop (i + 4) l) → Number (λ x. b.outputs ≤ x) 4 (drop (i + 8) l) → end ≡ i + 12 + owner_width F.format
      → Meets (0x5A ∷ []) (drop end l) → Fields F b (drop i l)
  begun-fields end small p x r o e m =
      parts-fields
      (record {
        place = p;
        exclude = x;
        readings = r;
        outputs = o;
        owner = some_number (owner_width F.format) (drop (i + 12) l) (small-drop (i + 12) l small);
        end = subst (λ (k : ℕ). Meets (0x5A ∷ []) (drop k l)) e m;
      })

  -- where the numbers are begun, the last byte decides
  pub last-decides : {end : ℕ} → end ≡ i + 12 + owner_width F.format → end < length l → (Meets (0x5A ∷ []) (drop end l) → Fields F b (drop i l))
      → Decides (Fields F b (drop i l)) (eqb (get_or l end 0) 0x5A)
  last-decides {end} z h g =
      decides (eqb (get_or l end 0) 0x5A)
      (λ t. g (meets-first l end 0x5A h (eqb-true _ _ t) Meets.ends))
      (λ f. eq-eqb (get_or l end 0) 0x5A (first-meets l end h (subst (λ (k : ℕ). Meets (0x5A ∷ []) (drop k l)) (sym z) (fields-parts f).end)).0)

  -- where all of them are there, the commit is the one read there
  pub fields-loaded : (f : Fields F b (drop i l)) → i + 12 + owner_width F.format ≤ length l → f.commit ≡ commit_at_of (owner_width F.format) l i
  fields-loaded f h =
      let c = f.commit in
      let a = f.after in
      let w = owner_width F.format in
      let m = fields-apart F.format c l i f.meets in
      let place : c.place ≡ load_of 2 l i = sym (meets-load 2 c.place l i a.place_fits (omega arith) m.0) in
      let exclude : c.exclude ≡ load_of 2 l (i + 2) = sym (meets-load 2 c.exclude l (i + 2) a.exclude_fits (omega arith) m.1) in
      let readings : c.readings ≡ load_of 4 l (i + 4) = sym (meets-load 4 c.readings l (i + 4) a.readings_fit (omega arith) m.2) in
      let outputs : c.outputs ≡ load_of 4 l (i + 8) = sym (meets-load 4 c.outputs l (i + 8) a.outputs_fit (omega arith) m.3) in
      let owner : c.owner ≡ load_of w l (i + 12) = sym (meets-load w c.owner l (i + 12) a.owner_fits (omega arith) m.4) in
      λ k. record { place = place k; exclude = exclude k; readings = readings k; outputs = outputs k; owner = owner k }
