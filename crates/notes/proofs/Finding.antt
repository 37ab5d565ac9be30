-- The record whose value stands at an offset, found by a walk over whole checkpoints (`record_at`): what stands ahead of the walk (`Ahead`), and its turns.
-- Assumes nothing.
use Prim.Native.Nat.{ℕ, ◌+◌, ◌*◌, ◌≤◌, ◌<◌}
use mathlib.Core.Path.{◌≡◌, sym, ◌∙◌, ap, subst}
use mathlib.Core.List.{List, [], ◌∷◌, ◌++◌, append_assoc}
use mathlib.Core.Logic.{◌⊎◌, inl, inr}
use native.Mathlib.Omega.{arith}
use lib.ListN.{length, get_or, drop, replicate, length-append, length-replicate}
use lib.Seq.{drop-drop, drop_at, get_or-drop}
use Rattle.journal.specs.declared.Commit.{Commit}
use Rattle.journal.specs.Format.{Format, mark_length, fill_of, filled_of, Saved, Checkpoint, record_image, records_image, commit_image, image, padded, images}
use Rattle.journal.proofs.Written.{record-length, commit-length, records-append, records-length}
use Rattle.journal.proofs.Paging.{Whole, whole-none, fill-whole, fill-behind}
use Rattle.notes.specs.Notes.{RecordAt, ValueAt}

no_record : {c at from : ℕ} → ¬ RecordAt c at from []
no_record = elim [ ]

no_value : {G : Format} {c at from : ℕ} → ¬ ValueAt G c at from []
no_value = elim [ ]

-- what stands behind the records of a checkpoint: its MARK, the filling, and what follows
abbrev tail_of : Format → (end : ℕ) → Commit → (js : List Checkpoint) → (rest : List ℕ) → List ℕ
tail_of G end c js rest = commit_image G c ++ (replicate (fill_of G.page end) 0xFF ++ (images G js ++ rest))

-- Of holds of the cells whose record's value stands at `at`. At i no checkpoint is left, and Of holds of none; or records rs of one with the commit c, then the checkpoints js from
-- `next` on, and it is a record of these
pub data Ahead (G : Format) (chip : List ℕ) (end at : ℕ) (Of : ℕ → Type 0) (i : ℕ) : Type 0 where
  none : i ≡ end → ((x : ℕ) → ¬ Of x) → Ahead G chip end at Of i
  some : (rs : List Saved) (c : Commit) (js : List Checkpoint) (rest : List ℕ) (next : ℕ)
      → drop i chip ≡ records_image rs (tail_of G (i + 6 * length rs + mark_length G) c js rest)
      → next ≡ filled_of G.page (i + 6 * length rs + mark_length G) → end ≡ next + length (images G js)
      → ((x : ℕ) → Of x → RecordAt x at i rs ⊎ ValueAt G x at next js) → ((x : ℕ) → RecordAt x at i rs ⊎ ValueAt G x at next js → Of x) → Ahead G chip end at Of i

-- where a checkpoint's bytes end
image-length : (G : Format) (s : Checkpoint) → length (image G s) ≡ 6 * length s.records + mark_length G
unfolding image
image-length G s = records-length s.records (commit_image G s.commit) ∙ ap (λ (n : ℕ). 6 * length s.records + n) (commit-length G s.commit)

-- at the beginning of checkpoints
module _ (G : Format) (chip : List ℕ) (end at : ℕ) (Of : ℕ → Type 0) where
  enter : (i : ℕ) (js : List Checkpoint) (rest : List ℕ) → Whole G.page i → drop i chip ≡ images G js ++ rest → end ≡ i + length (images G js)
      → ((x : ℕ) → Of x → ValueAt G x at i js) → ((x : ℕ) → ValueAt G x at i js → Of x) → Ahead G chip end at Of i
  unfolding images padded image
  enter i [] rest w b e to from = none (omega arith) (λ x v. no_value (to x v))
  enter i (s ∷ js) rest w b e to from =
      let n = length (image G s) in
      let l = image-length G s in
      let fill = replicate {A = ℕ} (fill_of G.page n) 0xFF in
      let k : fill_of G.page n ≡ fill_of G.page (i + 6 * length s.records + mark_length G) =
      sym (fill-behind G.page i n w) ∙ ap (fill_of G.page) (omega arith) in
      let m : i + length (padded G s) ≡ filled_of G.page (i + 6 * length s.records + mark_length G) =
      omega (arith, length-append (image G s) fill, length-replicate {A = ℕ} (fill_of G.page n) 0xFF) in
      some s.records s.commit js rest (i + length (padded G s))
      (b ∙ append_assoc (padded G s) (images G js) rest ∙ append_assoc (image G s) fill (images G js ++ rest)
      ∙ records-append s.records (commit_image G s.commit) (fill ++ (images G js ++ rest))
      ∙ ap (λ (f : ℕ). records_image s.records (commit_image G s.commit ++ (replicate f 0xFF ++ (images G js ++ rest)))) k)
      m (omega (arith, e, length-append (padded G s) (images G js)))
      (λ x v. split (to x v))
      (λ x v. from x (join v))
    where
      split : {x : ℕ} → ValueAt G x at i (s ∷ js) → RecordAt x at i s.records ⊎ ValueAt G x at (i + length (padded G s)) js
      split (ValueAt.within r) = inl r
      split (ValueAt.behind r) = inr r

      join : {x : ℕ} → RecordAt x at i s.records ⊎ ValueAt G x at (i + length (padded G s)) js → ValueAt G x at i (s ∷ js)
      join (inl r) = ValueAt.within r
      join (inr r) = ValueAt.behind r

-- ---- the loop

-- the walk begins
pub ahead-first : (G : Format) {chip : List ℕ} {end : ℕ} (at : ℕ) (js : List Checkpoint) (rest : List ℕ) → chip ≡ images G js ++ rest → end ≡ length (images G js)
    → Ahead G chip end at (λ x. ValueAt G x at 0 js) 0
ahead-first G {chip} {end} at js rest b e = enter G chip end at (λ x. ValueAt G x at 0 js) 0 js rest (whole-none G.page) b (omega arith) (λ x v. v) (λ x v. v)

-- the first byte of what is left
byte-here : (chip : List ℕ) (i : ℕ) {x : ℕ} {l : List ℕ} → drop i chip ≡ x ∷ l → get_or chip i 0 ≡ x
byte-here chip i e = let z : i ≡ i + 0 = omega arith in ap (λ (k : ℕ). get_or chip k 0) z ∙ sym (get_or-drop i chip 0 0) ∙ ap (λ (l : List ℕ). get_or l 0 0) e

module _ {G : Format} {chip : List ℕ} {end at : ℕ} {Of : ℕ → Type 0} {i : ℕ} where
  -- a record stands at i, and its value at `at`
  pub ahead-found : {x : ℕ} → Ahead G chip end at Of i → i < end → get_or chip i 0 ≡ 0xA1 → i + 2 ≡ at → x ≡ get_or chip (i + 1) 0 → Of x
  unfolding records_image
  ahead-found (none e f) l h k y = absurd (omega arith)
  ahead-found (some [] c js rest next b n e to from) l h k y = absurd (omega (arith, byte-here chip i b, h))
  ahead-found (some (r ∷ rs) c js rest next b n e to from) l h k y =
      from _ (inl (RecordAt.here (y ∙ sym (get_or-drop i chip 1 0) ∙ ap (λ (l : List ℕ). get_or l 1 0) b) (omega arith)))

  -- or not there
  pub ahead-record : Ahead G chip end at Of i → i < end → get_or chip i 0 ≡ 0xA1 → ¬ (i + 2 ≡ at) → Ahead G chip end at Of (i + 6)
  unfolding records_image
  ahead-record (none e f) l h k = absurd (omega arith)
  ahead-record (some [] c js rest next b n e to from) l h k = absurd (omega (arith, byte-here chip i b, h))
  ahead-record (some (r ∷ rs) c js rest next b n e to from) l h k =
      let z : i + 6 * length (r ∷ rs) + mark_length G ≡ i + 6 + 6 * length rs + mark_length G = omega arith in
      some rs c js rest next
      (sym (drop-drop 6 i chip) ∙ ap (drop 6) b ∙ drop_at (record_image r) _ 6 (record-length r)
      ∙ ap (λ (k : ℕ). records_image rs (tail_of G k c js rest)) z)
      (n ∙ ap (filled_of G.page) z) e (λ x v. pass (to x v)) (λ x v. from x (back v))
    where
      pass : {x : ℕ} → RecordAt x at i (r ∷ rs) ⊎ ValueAt G x at next js → RecordAt x at (i + 6) rs ⊎ ValueAt G x at next js
      pass (inl (RecordAt.here d j)) = absurd (k (sym j))
      pass (inl (RecordAt.later v)) = inl v
      pass (inr v) = inr v

      back : {x : ℕ} → RecordAt x at (i + 6) rs ⊎ ValueAt G x at next js → RecordAt x at i (r ∷ rs) ⊎ ValueAt G x at next js
      back (inl v) = inl (RecordAt.later v)
      back (inr v) = inr v

  -- no record stands at i, so the MARK does
  pub ahead-mark : {fill : ℕ} → 0 < G.page → Ahead G chip end at Of i → i < end → ¬ (get_or chip i 0 ≡ 0xA1) → fill ≡ fill_of G.page (i + mark_length G)
      → Ahead G chip end at Of (i + mark_length G + fill)
  unfolding records_image
  ahead-mark p (none e f) l h k = absurd (omega arith)
  ahead-mark p (some (r ∷ rs) c js rest next b n e to from) l h k = absurd (h (byte-here chip i b))
  ahead-mark {fill} p (some [] c js rest next b n e to from) l h k =
      let z : i + 6 * length {A = Saved} [] + mark_length G ≡ i + mark_length G = omega arith in
      let q : next ≡ i + mark_length G + fill = n ∙ ap (filled_of G.page) z ∙ ap (λ (f : ℕ). i + mark_length G + f) (sym k) in
      let m = replicate {A = ℕ} (fill_of G.page (i + 6 * length {A = Saved} [] + mark_length G)) 0xFF in
      let w : Whole G.page (i + mark_length G + fill) = subst (λ (f : ℕ). Whole G.page (i + mark_length G + f)) (sym k) (fill-whole G.page (i + mark_length G) p) in
      let s : length (commit_image G c ++ m) ≡ mark_length G + fill =
      omega (arith, length-append (commit_image G c) m, commit-length G c, length-replicate {A = ℕ} (fill_of G.page (i + 6 * length {A = Saved} [] + mark_length G)) 0xFF, k, ap (fill_of G.page) z) in
      let j : i + mark_length G + fill ≡ i + (mark_length G + fill) = omega arith in
      enter G chip end at Of (i + mark_length G + fill) js rest w
      (ap (λ (y : ℕ). drop y chip) j ∙ sym (drop-drop (mark_length G + fill) i chip) ∙ ap (drop (mark_length G + fill)) (b ∙ sym (append_assoc (commit_image G c) m (images G js ++ rest)))
      ∙ drop_at (commit_image G c ++ m) (images G js ++ rest) (mark_length G + fill) s)
      (omega arith)
      (λ x v. subst (λ (y : ℕ). ValueAt G x at y js) q (pass (to x v)))
      (λ x v. from x (inr (subst (λ (y : ℕ). ValueAt G x at y js) (sym q) v)))
    where
      pass : {x : ℕ} → RecordAt x at i [] ⊎ ValueAt G x at next js → ValueAt G x at next js
      pass (inl v) = absurd (no_record v)
      pass (inr v) = v

  -- the walk is over
  pub ahead-done : Ahead G chip end at Of i → end ≤ i → (x : ℕ) → ¬ Of x
  ahead-done (none e f) l = f
  ahead-done (some rs c js rest next b n e to from) l = absurd (omega arith)

-- a checkpoint's records end before it does
pub records-end : (G : Format) (s : Checkpoint) → 6 * length s.records ≤ length (padded G s)
unfolding padded
records-end G s = omega (arith, image-length G s, length-append (image G s) (replicate (fill_of G.page (length (image G s))) 0xFF))
