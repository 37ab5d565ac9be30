-- A chip has marks of one kind: where it reads with marks that begin with one byte and also with marks that begin with another, it has no mark at all (`no-marks`). What an
-- engine with the one kind leaves reads with the other kind as damaged where it has a mark, and else as a part of a save (`other-kind`).
-- Assumes nothing.
use Rattle.std.proofs.Common.{◌≡◌, ℕ, zero, suc, ◌+◌, ◌^◌, ◌<◌, ◌≤◌, ◌⊎◌, List, [], ◌∷◌, ◌++◌, length, replicate, sym, refl, ap, ◌∙◌, subst, inl, inr, ⊎_elim, append_assoc, arith, length-append}
use mathlib.Core.List.{head-eq_of_cons-eq, tail-eq_of_cons-eq, cons-ne-nil}
use Rattle.cellset.proofs.Bits.{le-or-lt}
use Rattle.journal.specs.declared.Commit.{Commit}
use Rattle.journal.specs.Format.{Format, owner_width, Saved, Checkpoint, fields_of, fields_image, commit_image, records_image, image, fill_of, padded, images}
use Rattle.journal.specs.Reading.{Facts, facts_of, first, Once, After, Sound, Rising, last_of, Reading, Torn, Damaged}
use Rattle.journal.proofs.Images.{records-append}
use Rattle.journal.proofs.Decoding.{peel}
use Rattle.journal.proofs.Torn.{Front, whole-front, nested, trim, part-begins, Part, Cut}
use Rattle.journal.proofs.Back.{Shape}

-- ---- the first mark's first byte

-- l begins with records and then the first byte of a mark of kind x
record Leads (n x : ℕ) (l : List ℕ) : Type 0 where
  saved : List Saved
  once : Once n saved
  rest : List ℕ
  bytes : l ≡ records_image saved ((0xA2 + x) ∷ rest)

-- with two kinds of mark it does not
leads-apart : {n n' x x' : ℕ} {l : List ℕ} → Leads n x l → Leads n' x' l → ¬ (x ≡ x') → ⊥
unfolding records_image
leads-apart {x = x} {x' = x'} h k z =
    let p = peel x ((0xA2 + x') ∷ k.rest) h.rest k.once h.once (sym h.bytes ∙ k.bytes) in
    go p.0 p.2
  where
    go : (more : List Saved) → records_image more ((0xA2 + x) ∷ h.rest) ≡ (0xA2 + x') ∷ k.rest → ⊥
    go [] e = let a : 0xA2 + x ≡ 0xA2 + x' = head-eq_of_cons-eq e in z (omega arith)
    go (r ∷ more) e = let a : 0xA1 ≡ 0xA2 + x' = head-eq_of_cons-eq e in omega arith

-- more bytes behind it make no difference
leads-more : {n x : ℕ} {q : List ℕ} (t : List ℕ) → Leads n x q → Leads n x (q ++ t)
leads-more {x = x} t h = record {
  saved = h.saved;
  once = h.once;
  rest = h.rest ++ t;
  bytes = ap (λ (l : List ℕ). l ++ t) h.bytes ∙ records-append h.saved ((0xA2 + x) ∷ h.rest) t;
}

leads-front : {F : Facts} {b : Commit} {l : List ℕ} → Front F b l → Leads F.cells F.format.kind l
unfolding image
leads-front {F} h = record {
  saved = h.save.records;
  once = h.sound.once;
  rest = fields_image (fields_of F.format h.save.commit) 0x5A ++ h.rest;
  bytes = h.bytes ∙ records-append h.save.records (commit_image F.format h.save.commit) h.rest;
}

-- FF bytes hold no such byte
no_lead : (m x : ℕ) (u t : List ℕ) → x < 2 → ¬ (replicate m 0xFF ≡ u ++ (0xA2 + x) ∷ t)
no_lead zero x [] t l e = cons-ne-nil _ _ (sym e)
no_lead zero x (y ∷ u) t l e = cons-ne-nil _ _ (sym e)
no_lead (suc m) x [] t l e = let z : 0xFF ≡ 0xA2 + x = head-eq_of_cons-eq e in omega arith
no_lead (suc m) x (y ∷ u) t l e = no_lead m x u t l (tail-eq_of_cons-eq e)

-- ---- a part of a save

-- of a save that begins with records and then a byte, a beginning has that byte, or is a part of the records
split : (rs : List Saved) (y : ℕ) (t q u : List ℕ) → records_image rs (y ∷ t) ≡ q ++ u
    → ((v : List ℕ) × (q ≡ records_image rs (y ∷ v))) ⊎ ((v : List ℕ) × (records_image rs [] ≡ q ++ v))
split rs y t q u e =
    let rec = records_image rs [] in
    let f : rec ++ (y ∷ t) ≡ q ++ u = records-append rs [] (y ∷ t) ∙ e in
    ⊎_elim
    (λ (l : length q ≤ length rec). let n = nested q rec u (y ∷ t) (sym f) l in inr (n.0, n.1))
    (λ (l : length rec < length q).
    let n = nested rec q (y ∷ t) u f (omega arith) in
    go n.0 n.1 n.2 (omega (arith, ap length n.1, length-append rec n.0)))
    (le-or-lt (length q) (length rec))
  where
    go : (v : List ℕ) → q ≡ records_image rs [] ++ v → y ∷ t ≡ v ++ u → 0 < length v
        → ((v : List ℕ) × (q ≡ records_image rs (y ∷ v))) ⊎ ((v : List ℕ) × (records_image rs [] ≡ q ++ v))
    go [] a b l = absurd (omega arith)
    go (z ∷ v) a b l =
        let h : z ≡ y = sym (head-eq_of_cons-eq b) in
        inl (v, a ∙ records-append rs [] (z ∷ v) ∙ ap (λ (w : ℕ). records_image rs (w ∷ v)) h)

-- a part of the records of a save, and FF bytes, hold no mark of another kind
part_apart : {n n' x x' : ℕ} {rs : List Saved} (q v : List ℕ) (m : ℕ) → Once n' rs → records_image rs [] ≡ q ++ v → x < 2 → ¬ (x ≡ x')
    → ¬ Leads n x (q ++ replicate m 0xFF)
part_apart {x = x} {x' = x'} {rs = rs} q v m o e l z h =
    let f = h.bytes in
    ⊎_elim
    (λ (k : ((w : List ℕ) × (q ≡ records_image h.saved ((0xA2 + x) ∷ w)))).
    leads-apart
    (leads-more (v ++ (0xA2 + x') ∷ []) (record { saved = h.saved; once = h.once; rest = k.0; bytes = k.1 }))
    (record { saved = rs; once = o; rest = []; bytes = sym (append_assoc q v ((0xA2 + x') ∷ [])) ∙ ap (λ (y : List ℕ). y ++ (0xA2 + x') ∷ []) (sym e) ∙ records-append rs [] ((0xA2 + x') ∷ []) })
    z)
    (λ (k : ((w : List ℕ) × (records_image h.saved [] ≡ q ++ w))).
    let n = nested q (q ++ k.0) (replicate m 0xFF) ((0xA2 + x) ∷ h.rest)
    (f ∙ sym (records-append h.saved [] ((0xA2 + x) ∷ h.rest)) ∙ ap (λ (y : List ℕ). y ++ (0xA2 + x) ∷ h.rest) k.1) (omega (arith, length-append q k.0)) in
    no_lead m x n.0 h.rest l n.2)
    (split h.saved (0xA2 + x) h.rest q (replicate m 0xFF) (sym f))

-- ---- a chip

-- a chip with a whole save begins with its kind of mark
leads-saves : {F : Facts} {b : Commit} {chip : List ℕ} (s : Checkpoint) (js : List Checkpoint) (q : List ℕ) (e : ℕ) → Sound F b s
    → chip ≡ images F.format (s ∷ js) ++ q ++ replicate e 0xFF → Leads F.cells F.format.kind chip
unfolding images padded
leads-saves {F} s js q e h k =
    let G = F.format in
    let i = image G s in
    let f : List ℕ = replicate (fill_of G.page (length i)) 0xFF in
    let z : List ℕ = replicate e 0xFF in
    leads-front {F = F}
    (record {
      save = s;
      sound = h;
      rest = f ++ images G js ++ q ++ z;
      bytes = k
          ∙ ap (λ (l : List ℕ). l ++ q ++ z) (append_assoc i f (images G js))
          ∙ ap (λ (l : List ℕ). l ++ z) (append_assoc i (f ++ images G js) q)
          ∙ append_assoc i (f ++ images G js ++ q) z;
    })

-- of a chip that begins with a mark of kind x, read with marks of another
module _ {x : ℕ} (F : Facts) (few : x < 2) (apart : ¬ (x ≡ F.format.kind)) where
  -- it has no reading whose remainder is torn at most
  unread : {n : ℕ} {chip : List ℕ} (js : List Checkpoint) (q : List ℕ) (e : ℕ) → Leads n x chip → Rising F first js
      → chip ≡ images F.format js ++ q ++ replicate e 0xFF → Torn F (last_of first js) q → ⊥
  unfolding images image last_of records_image
  unread (s ∷ js) q e h (Rising.one k r) b t = leads-apart h (leads-saves {F = F} s js q e k b) apart
  unread {n} [] q e h Rising.none b (inl z) =
      part_apart {n' = 0} {x' = F.format.kind} {rs = []} [] [] e Once.none refl few apart (subst (Leads n x) (b ∙ ap (λ (l : List ℕ). l ++ replicate e 0xFF) z) h)
  unread {n} [] q e h Rising.none b (inr g) =
      let s = g.save in
      let t = fields_image (fields_of F.format s.commit) 0x5A in
      let at = subst (Leads n x) b h in
      ⊎_elim
      (λ (k : ((v : List ℕ) × (q ≡ records_image s.records ((0xA2 + F.format.kind) ∷ v)))).
      leads-apart at (leads-more (replicate e 0xFF) (record { saved = s.records; once = g.sound.once; rest = k.0; bytes = k.1 })) apart)
      (λ (k : ((v : List ℕ) × (records_image s.records [] ≡ q ++ v))). part_apart q k.0 e g.sound.once k.1 few apart at)
      (split s.records (0xA2 + F.format.kind) t q g.rest g.bytes)

  -- so it is damaged
  leads-damaged : {n : ℕ} {chip : List ℕ} → Leads n x chip → Damaged F chip
  unfolding images last_of
  leads-damaged {n} {chip} h =
      let t = trim chip in
      record {
        saves = [];
        rest = t.kept;
        reading =
            record {
              erased = t.cut;
              sound = Rising.none;
              bytes = t.bytes;
              no_more = λ w. leads-apart (subst (Leads n x) t.bytes h) (leads-front (whole-front w)) apart;
              trimmed = t.trimmed;
            };
        refused = unread [] t.kept t.cut h Rising.none t.bytes;
      }

-- 0 fits a field of any width
power-some : (n : ℕ) → 0 < 256 ^ n
power-some zero = omega arith
power-some (suc n) = let h = power-some n in omega arith

-- what is cut is torn at most
cut-torn : {F : Facts} {b : Commit} {q : List ℕ} → Cut F b q → Torn F b q
cut-torn (inl e) = inl e
cut-torn (inr p) = inr (part-begins p)

-- WHERE A CHIP READS WITH TWO KINDS OF MARK IT HAS NO WHOLE MARK: F reads what an engine with the one kind left, F' with the other
module _ {F F' : Facts} (few : F.format.kind < 2) (few' : F'.format.kind < 2) (apart : ¬ (F.format.kind ≡ F'.format.kind)) {chip q : List ℕ} where
  pub no-marks : {q' : List ℕ} (js js' : List Checkpoint) → Shape F chip js q → Reading F' chip js' q' → Torn F' (last_of first js') q' → (js ≡ []) × (js' ≡ [])
  no-marks [] [] s r t = (refl, refl)
  no-marks {q'} (c ∷ js) js' s r t = absurd (unread F' few apart js' q' r.erased (whole c js s s.rising) r.sound r.bytes t)
    where
      whole : (c : Checkpoint) (js : List Checkpoint) → Shape F chip (c ∷ js) q → Rising F first (c ∷ js) → Leads F.cells F.format.kind chip
      whole c js s (Rising.one k x) = leads-saves {F = F} c js q s.free k s.bytes
  no-marks {q'} [] (c ∷ js') s r t = absurd (unread F few' (λ e. apart (sym e)) [] q s.free (whole c js' r r.sound) s.rising s.bytes (cut-torn s.cut))
    where
      whole : (c : Checkpoint) (js : List Checkpoint) → Reading F' chip (c ∷ js) q' → Rising F' first (c ∷ js) → Leads F'.cells F'.format.kind chip
      whole c js r (Rising.one k x) = leads-saves {F = F'} c js q' r.erased k r.bytes

-- what is sound with marks of one kind is sound with another, whatever owner it then names
pub after-renamed : (G G' : Format) (p : List ℕ) (owner : ℕ) {b b' c : Commit} → After (facts_of G p) b c → b'.readings ≤ c.readings → b'.outputs ≤ c.outputs
    → owner < 256 ^ owner_width G'
    → After (facts_of G' p) b' (record { place = c.place; exclude = c.exclude; readings = c.readings; outputs = c.outputs; owner = owner })
after-renamed G G' p owner a r o w = record {
  place_is = a.place_is;
  place_fits = a.place_fits;
  exclude_is = a.exclude_is;
  exclude_fits = a.exclude_fits;
  readings_rise = r;
  readings_fit = a.readings_fit;
  outputs_rise = o;
  outputs_fit = a.outputs_fit;
  owner_fits = w;
}

-- a part of a save's records is a part of a save with another kind of mark
part-moves : (G G' : Format) (p : List ℕ) {b : Commit} {q : List ℕ} (h : Part (facts_of G p) b q) (v : List ℕ) → records_image h.save.records [] ≡ q ++ v → Part (facts_of G' p) b q
unfolding image
part-moves G G' p {q = q} h v e =
    let c = h.save.commit in
    let a = h.sound.after in
    let named : Commit = record { place = c.place; exclude = c.exclude; readings = c.readings; outputs = c.outputs; owner = 0 } in
    let t = commit_image G' named in
    record {
      save = record { records = h.save.records; commit = named };
      sound = record { once = h.sound.once; after = after-renamed G G' p 0 a a.readings_rise a.outputs_rise (power-some (owner_width G')) };
      more = v ++ t;
      bytes = sym (records-append h.save.records [] t) ∙ ap (λ (l : List ℕ). l ++ t) e ∙ append_assoc q v t;
      short = omega (arith, length-append v t);
    }

-- WHAT AN ENGINE WITH ONE KIND OF MARK LEAVES is damaged read with the other, or has no mark and has the shape for the other too
pub other-kind : (G G' : Format) (p : List ℕ) → G.kind < 2 → ¬ (G.kind ≡ G'.kind) → {chip q : List ℕ} {js : List Checkpoint} → Shape (facts_of G p) chip js q
    → Damaged (facts_of G' p) chip ⊎ ((js ≡ []) × Shape (facts_of G' p) chip [] q)
unfolding images image last_of
other-kind G G' p few apart {chip} {q} {js} s = go js s.rising s.bytes s.cut
  where
    go : (js : List Checkpoint) → Rising (facts_of G p) first js → chip ≡ images G js ++ q ++ replicate s.free 0xFF → Cut (facts_of G p) (last_of first js) q
        → Damaged (facts_of G' p) chip ⊎ ((js ≡ []) × Shape (facts_of G' p) chip [] q)
    go (c ∷ js) (Rising.one k r) b t = inl (leads-damaged (facts_of G' p) few apart (leads-saves {F = facts_of G p} c js q s.free k b))
    go [] Rising.none b (inl e) = inr (refl, record { free = s.free; rising = Rising.none; cut = inl e; bytes = b })
    go [] Rising.none b (inr h) =
        let c = h.save in
        ⊎_elim
        (λ (k : ((v : List ℕ) × (q ≡ records_image c.records ((0xA2 + G.kind) ∷ v)))).
        inl (leads-damaged (facts_of G' p) few apart
        (subst (Leads (facts_of G p).cells G.kind) (sym b) (leads-more (replicate s.free 0xFF) (record { saved = c.records; once = h.sound.once; rest = k.0; bytes = k.1 })))))
        (λ (k : ((v : List ℕ) × (records_image c.records [] ≡ q ++ v))).
        inr (refl, record { free = s.free; rising = Rising.none; cut = inr (part-moves G G' p h k.0 k.1); bytes = b }))
        (split c.records (0xA2 + G.kind) (fields_image (fields_of G c.commit) 0x5A) q h.more h.bytes)
