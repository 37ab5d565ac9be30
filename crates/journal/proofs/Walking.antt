-- The loop of `walk`: the checkpoints up to `at` are whole and sound, and seen and values are as they leave them (`Walking`). What stands at `at` takes it a
-- checkpoint further (`walking-turn`), or ends it with an answer (`walking-cut`, `walking-bad`, `walking-done`).
-- Assumes nothing.
use Rattle.std.proofs.Common.{◌≡◌, ℕ, zero, suc, ◌+◌, ◌-◌, ◌<◌, ◌≤◌, Bool, true, ◌&&◌, eqb, List, [], ◌∷◌, ◌++◌, length, get_or, drop, replicate, sym, refl, ap, ◌∙◌, subst, inl, inr, ⊎_elim, append_assoc, append-nil, arith, length-append, length-drop, drop_of_length-le}
use lib.ListN.{length-replicate}
use Rattle.journal.specs.declared.Commit.{Commit}
use Rattle.journal.specs.declared.tail.Tail.{Tail}
use Rattle.journal.specs.declared.tail.Tail.TheVariants.{Whole, Cut, Bad}
use Rattle.journal.specs.Format.{Format, owner_width, mark_length, fill_of, filled_of, Saved, Checkpoint, image, padded, images}
use Rattle.journal.specs.Reading.{Facts, first, Once, Rising, last_of, own_all, saved_in, saved_value}
use Rattle.journal.specs.Reading
use Rattle.journal.specs.Answer.{Blank}
use Rattle.journal.specs.Parts.{Stamped, UpTo, Passed, Restored, Ends, TailIs, commit_at_of, Erased, Stops, Refuses, Accepts}
use Rattle.journal.proofs.Paging as pages
use Rattle.journal.proofs.Paging.{whole-none, fill-lt, fill_none, fill-behind}
use Rattle.journal.proofs.Padding.{erased-bytes, erased-past, filling-erased}
use Rattle.journal.proofs.Decoding.{unique, padded-length, images-whole}
use Rattle.journal.proofs.Torn.{no_front, erased-not-whole}
use Rattle.journal.proofs.Storing.{images-snoc, rising_snoc, last_snoc, saved-snoc, own-snoc}
use Rattle.journal.proofs.Peeling.{cut_of, bad-of, whole_of}

-- the checkpoints of l up to `at`, the commit of the last one, no stamp above `at`, and the values that they leave
pub record Walking (F : Facts) (l : List ℕ) (at : ℕ) (last : Commit) (own : Bool) (seen values : List ℕ) : Type 0 where
  pub saves : List Checkpoint
  pub rising : Rising F first saves
  pub bytes : l ++ replicate (at - length l) 0xFF ≡ images F.format saves ++ drop at l
  pub at_is : at ≡ length (images F.format saves)
  pub most : at < length l + F.format.page
  pub last_is : last ≡ last_of first saves
  pub own_is : own ≡ own_all F.format.owner saves
  pub stamps : length seen ≡ 256
  pub up_to : UpTo at seen
  pub cells : length values ≡ 256
  pub values_are : (c : ℕ) → c < 256 → get_or values c 0 ≡ saved_value c saves 0

-- what `tail_at` tells of the bytes at i, behind any records that have the stamp
abbrev pub Tells : Facts → Commit → List ℕ → ℕ → List ℕ → ℕ → Tail → Type 0
Tells F last l at seen i r = (rs : List Saved) → Once F.cells rs → Stamped rs (at + 1) seen → TailIs F last rs l i r

-- it tells so of the records that were passed
tail-is : {F : Facts} {l : List ℕ} {at i : ℕ} {last : Commit} {own : Bool} {seen seen' values : List ℕ} {r t : Tail} → Walking F l at last own seen values
    → (p : Passed F.cells l at seen' i) → Tells F last l at seen' i r → r ≡ t → TailIs F last p.saved l i t
tail-is {F} {l} {i = i} {last = last} w p h e = subst (λ (x : Tail). TailIs F last p.saved l i x) e (h p.saved p.once p.stamped)

-- ---- the first turn

zeros : (n c : ℕ) → get_or {A = ℕ} (replicate n 0) c 0 ≡ 0
zeros zero c = refl
zeros (suc n) zero = refl
zeros (suc n) (suc c) = zeros n c

-- an array of zeros is blank
pub blank : (n : ℕ) → n ≡ 256 → Blank (replicate n 0)
blank n e = record { cells = length-replicate {A = ℕ} n 0 ∙ e; values_are = zeros n }

pub walking-first : {F : Facts} {l seen values : List ℕ} → 0 < F.format.page → Blank seen → Blank values → Walking F l 0 first true seen values
unfolding images last_of saved_value own_all
walking-first {l = l} pos s v = record {
  saves = [];
  rising = Rising.none;
  bytes = let z : 0 - length l ≡ 0 = omega arith in ap (λ (n : ℕ). l ++ replicate n 0xFF) z ∙ append-nil l;
  at_is = refl;
  most = omega arith;
  last_is = refl;
  own_is = refl;
  stamps = s.cells;
  up_to = λ c h. omega (arith, s.values_are c);
  cells = v.cells;
  values_are = λ c h. v.values_are c;
}

-- ---- a checkpoint further

-- the bytes before what is stored of a checkpoint
before : (l i : List ℕ) (at : ℕ) → at ≤ length l → l ++ replicate (at - length l) 0xFF ≡ i ++ drop at l → l ≡ i ++ drop at l
before l i at h e = let z : at - length l ≡ 0 = omega arith in sym (append-nil l) ∙ ap (λ (n : ℕ). l ++ replicate n 0xFF) (sym z) ∙ e

-- the bytes up to a checkpoint, then its image, then the filling
next-bytes : (G : Format) (l : List ℕ) (at end next : ℕ) (js : List Checkpoint) (s : Checkpoint) → l ≡ images G js ++ drop at l
    → drop at l ≡ image G s ++ drop end l → end ≤ length l → next ≡ end + fill_of G.page (length (image G s)) → Erased l end next
    → l ++ replicate (next - length l) 0xFF ≡ images G (js ++ (s ∷ [])) ++ drop next l
unfolding padded
next-bytes G l at end next js s b e h n f =
    let i = images G js in
    let z : List ℕ = replicate (next - length l) 0xFF in
    let k = fill_of G.page (length (image G s)) in
    let y : List ℕ = replicate k 0xFF in
    let g : drop end l ++ z ≡ y ++ drop next l = erased-bytes k f n h in
    ap (λ (x : List ℕ). x ++ z) (b ∙ ap (λ (x : List ℕ). i ++ x) e)
    ∙ append_assoc i (image G s ++ drop end l) z
    ∙ ap (λ (x : List ℕ). i ++ x)
    (append_assoc (image G s) (drop end l) z ∙ ap (λ (x : List ℕ). image G s ++ x) g ∙ sym (append_assoc (image G s) y (drop next l)))
    ∙ sym (append_assoc i (image G s ++ y) (drop next l))
    ∙ ap (λ (x : List ℕ). x ++ drop next l) (sym (images-snoc G js s))

-- the commit is within the journal
pub walking-most : {F : Facts} {l : List ℕ} {at i : ℕ} {last : Commit} {own : Bool} {seen seen' values : List ℕ} {r : Tail} → Walking F l at last own seen values
    → Passed F.cells l at seen' i → Tells F last l at seen' i r → r ≡ Whole → i + mark_length F.format ≤ length l
walking-most w p t e = (tail-is w p t e).most

-- the checkpoint that stands there
record Stands (F : Facts) (b : Commit) (l : List ℕ) (at end : ℕ) (rs : List Saved) (c : Commit) : Type 0 where
  sound : Reading.Sound F b (record { records = rs; commit = c })
  bytes : drop at l ≡ image F.format (record { records = rs; commit = c }) ++ drop end l
  size : length (image F.format (record { records = rs; commit = c })) ≡ end - at
  most : end ≤ length l
  more : at ≤ end

stands : {F : Facts} {l : List ℕ} {at i : ℕ} {last : Commit} {own : Bool} {seen seen' values : List ℕ} {r : Tail} → Walking F l at last own seen values
    → (p : Passed F.cells l at seen' i) → Tells F last l at seen' i r → r ≡ Whole → at ≤ length l
    → Stands F last l at (i + mark_length F.format) p.saved (commit_at_of (owner_width F.format) l (i + 1))
stands {F} {l} {at} {i} {last = last} w p t q m =
    let h : Ends F last l i = tail-is w p t q in
    let o = whole_of p.once p.bytes h in
    let s : Checkpoint = record { records = p.saved; commit = commit_at_of (owner_width F.format) l (i + 1) } in
    record {
      sound = o.0;
      bytes = o.1;
      size = omega (arith, ap length o.1, length-append (image F.format s) (drop (i + mark_length F.format) l), length-drop (i + mark_length F.format) l, length-drop at l, h.most, p.end_is);
      most = h.most;
      more = omega (arith, p.end_is);
    }

-- the checkpoint begins with a page, so that what fills its last page is told by its end alone
pub walking-fill : {F : Facts} {l : List ℕ} {at i : ℕ} {last : Commit} {own : Bool} {seen seen' values : List ℕ} → Walking F l at last own seen values → Passed F.cells l at seen' i
    → 0 < F.format.page → fill_of F.format.page (i + mark_length F.format) ≡ fill_of F.format.page (i + mark_length F.format - at)
walking-fill {F} {at = at} {i = i} w p pos =
    let e : i + mark_length F.format ≡ at + (i + mark_length F.format - at) = omega (arith, p.end_is) in
    let h : pages.Whole F.format.page at = rw w.at_is (images-whole F.format pos w.saves) in
    ap (fill_of F.format.page) e ∙ fill-behind F.format.page at (i + mark_length F.format - at) h

-- the records that were passed, the commit behind them and the filling are the next checkpoint
pub walking-turn : {F : Facts} {l : List ℕ} {at i next : ℕ} {last commit : Commit} {own : Bool} {seen seen' values values' : List ℕ} {r : Tail} → Walking F l at last own seen values
    → Passed F.cells l at seen' i → Tells F last l at seen' i r → r ≡ Whole → F.cells ≤ 256 → at < length l → 0 < F.format.page
    → next ≡ i + mark_length F.format + fill_of F.format.page (i + mark_length F.format - at) → Erased l (i + mark_length F.format) next
    → (length values' ≡ 256) × Restored l at i values values' → commit ≡ commit_at_of (owner_width F.format) l (i + 1) → {also : Bool}
    → also ≡ (own && eqb commit.owner F.format.owner) → Walking F l next commit also seen' values'
walking-turn {F} {l} {at} {i} {next} {own = own} w p t q n a pos f h v e k =
    let G = F.format in
    let s : Checkpoint = record { records = p.saved; commit = commit_at_of (owner_width F.format) l (i + 1) } in
    let o = stands w p t q (omega arith) in
    let g : next ≡ i + mark_length F.format + fill_of G.page (length (image G s)) = f ∙ ap (λ (k : ℕ). i + mark_length F.format + fill_of G.page k) (sym o.size) in
    let b = next-bytes G l at (i + mark_length F.format) next w.saves s (before l (images G w.saves) at (omega arith) w.bytes) o.bytes o.most g h in
    record {
      saves = w.saves ++ (s ∷ []);
      rising = rising_snoc s w.rising (subst (λ (x : Commit). Reading.Sound F x s) w.last_is o.sound);
      bytes = b;
      at_is =
          omega (arith, g, o.size, o.more, w.at_is, ap length (images-snoc G w.saves s), length-append (images G w.saves) (padded G s), padded-length G s);
      most = omega (arith, f, o.most, fill-lt G.page (i + mark_length F.format - at) pos);
      last_is = e ∙ sym (last_snoc first w.saves s);
      own_is =
          k
          ∙ ap (λ (d : Commit). own && eqb d.owner G.owner) e
          ∙ ap (λ (b : Bool). b && eqb (commit_at_of (owner_width G) l (i + 1)).owner G.owner) w.own_is
          ∙ sym (own-snoc G.owner w.saves s);
      stamps = p.size;
      up_to = λ c k. omega (arith, p.up_to c k, o.more, p.end_is, f);
      cells = v.0;
      values_are =
          λ c k.
          v.1 F.cells p.saved n p.once p.bytes p.end_is c k
          ∙ ap (saved_in c p.saved) (w.values_are c k)
          ∙ sym (saved-snoc c w.saves s 0);
    }

-- ---- the answers

-- no whole checkpoint follows
stops : {F : Facts} {l : List ℕ} {at : ℕ} {last : Commit} {own : Bool} {seen values : List ℕ} (w : Walking F l at last own seen values)
    → ((m : ℕ) → ¬ Reading.Whole F last (drop at l ++ replicate m 0xFF)) → Stops F l at w.saves (drop at l)
stops {F} {l} {at} w n = record {
  rising = w.rising;
  at_is = w.at_is;
  bytes = w.bytes;
  most = w.most;
  rest_is = refl;
  no_more = subst (λ (x : Commit). (m : ℕ) → ¬ Reading.Whole F x (drop at l ++ replicate m 0xFF)) w.last_is n;
}

-- and the remainder is torn at most
accepts : {F : Facts} {l : List ℕ} {at torn : ℕ} {last : Commit} {own : Bool} {seen values : List ℕ} → Walking F l at last own seen values
    → ((m : ℕ) → ¬ Reading.Whole F last (drop at l ++ replicate m 0xFF)) → Reading.Torn F last (drop at l)
    → torn ≡ filled_of F.format.page (length (drop at l)) → Accepts F l at torn last own values
accepts {F} {l} {at} w n t e = record {
  saves = w.saves;
  rest = drop at l;
  stops = stops w n;
  accepted = subst (λ (x : Commit). Reading.Torn F x (drop at l)) w.last_is t;
  torn_is = e;
  last_is = w.last_is;
  own_is = w.own_is;
  cells = w.cells;
  values_are = w.values_are;
}

-- or it is not
refuses : {F : Facts} {l : List ℕ} {at : ℕ} {last : Commit} {own : Bool} {seen values : List ℕ} → Walking F l at last own seen values
    → ((m : ℕ) → ¬ Reading.Whole F last (drop at l ++ replicate m 0xFF)) → ¬ Reading.Begins F last (drop at l) → at < length l → Refuses F l
refuses {F} {l} {at} w n t h = record {
  at = at;
  saves = w.saves;
  rest = drop at l;
  stops = stops w n;
  refused = subst (λ (x : Commit). ¬ Reading.Torn F x (drop at l)) w.last_is (⊎_elim (λ e. omega (arith, ap length e, length-drop at l)) t);
}

-- what follows is cut
pub walking-cut : {F : Facts} {l : List ℕ} {at i torn : ℕ} {last : Commit} {own : Bool} {seen seen' values : List ℕ} {r : Tail} → Walking F l at last own seen values
    → Passed F.cells l at seen' i → Tells F last l at seen' i r → r ≡ Cut → torn ≡ length l - at + fill_of F.format.page (length l - at)
    → Accepts F l at torn last own values
walking-cut {F} {l = l} {at = at} w p t e n =
    let c = cut_of p.once p.bytes (tail-is w p t e) in
    accepts w (no_front (drop at l) c.1) (inr c.0) (n ∙ ap (filled_of F.format.page) (sym (length-drop at l)))

-- it is neither cut nor whole
pub walking-bad : {F : Facts} {l : List ℕ} {at i : ℕ} {last : Commit} {own : Bool} {seen seen' values : List ℕ} {r : Tail} → Walking F l at last own seen values
    → Passed F.cells l at seen' i → Tells F last l at seen' i r → r ≡ Bad → at < length l → Refuses F l
walking-bad {F} {l} {at} w p t q h =
    let c = bad-of p.once p.bytes (tail-is w p t q) in
    refuses w (no_front (drop at l) c.1) c.0 h

-- where a checkpoint stands and a whole one too, the filling is FF
whole-filling : {F : Facts} {b : Commit} {l : List ℕ} {at end next : ℕ} {rs : List Saved} {c : Commit} → Stands F b l at end rs c
    → next ≡ end + fill_of F.format.page (end - at) → (m : ℕ) → Reading.Whole F b (drop at l ++ replicate m 0xFF) → Erased l end next
unfolding padded
whole-filling {F} {l = l} {at} {end} {next} {rs} {c} o f m x =
    let s : Checkpoint = record { records = rs; commit = c } in
    let z : List ℕ = replicate m 0xFF in
    let k : Checkpoint → ℕ = λ y. fill_of F.format.page (length (image F.format y)) in
    let y = x.save in
    let e : image F.format s ++ (drop end l ++ z) ≡ image F.format y ++ (replicate (k y) 0xFF ++ x.rest) =
    sym (append_assoc (image F.format s) (drop end l) z)
    ∙ ap (λ (v : List ℕ). v ++ z) (sym o.bytes)
    ∙ x.bytes
    ∙ append_assoc (image F.format y) (replicate (k y) 0xFF) x.rest in
    let u = unique s y (drop end l ++ z) (replicate (k y) 0xFF ++ x.rest) o.sound x.sound e in
    let d : k y ≡ fill_of F.format.page (end - at) = ap k (sym u.0) ∙ ap (fill_of F.format.page) o.size in
    filling-erased l end next m (k y) x.rest u.1 (f ∙ ap (λ (v : ℕ). end + v) (sym d))

-- and where it begins one, nothing follows
begun-filling : {F : Facts} {b : Commit} {l : List ℕ} {at end next : ℕ} {rs : List Saved} {c : Commit} → Stands F b l at end rs c
    → Reading.Begins F b (drop at l) → Erased l end next
begun-filling {F} {l = l} {end = end} {rs = rs} {c = c} o g =
    let s : Checkpoint = record { records = rs; commit = c } in
    let e : image F.format g.save ++ [] ≡ image F.format s ++ (drop end l ++ g.rest) =
    append-nil (image F.format g.save)
    ∙ g.bytes
    ∙ ap (λ (v : List ℕ). v ++ g.rest) o.bytes
    ∙ append_assoc (image F.format s) (drop end l) g.rest in
    let u = unique g.save s [] (drop end l ++ g.rest) g.sound o.sound e in
    erased-past (omega (arith, ap length u.1, length-append (drop end l) g.rest, length-drop end l))

-- it is whole, but its filling is other than FF
pub walking-filling : {F : Facts} {l : List ℕ} {at i next : ℕ} {last : Commit} {own : Bool} {seen seen' values : List ℕ} {r : Tail} → Walking F l at last own seen values
    → Passed F.cells l at seen' i → Tells F last l at seen' i r → r ≡ Whole → at < length l
    → next ≡ i + mark_length F.format + fill_of F.format.page (i + mark_length F.format - at) → ¬ Erased l (i + mark_length F.format) next → Refuses F l
walking-filling w p t q a f n =
    let o = stands w p t q (omega arith) in
    refuses w (λ m x. n (whole-filling o f m x)) (λ g. n (begun-filling o g)) a

-- nothing follows
pub walking-done : {F : Facts} {l : List ℕ} {at : ℕ} {last : Commit} {own : Bool} {seen values : List ℕ} → Walking F l at last own seen values → length l ≤ at
    → Accepts F l at 0 last own values
walking-done {F} {l} {at} {last = last} w h =
    let z : drop at l ≡ [] = drop_of_length-le l {i = at} h in
    let n : 0 ≡ filled_of F.format.page 0 = omega (arith, fill_none F.format.page 0 (whole-none F.format.page)) in
    accepts w (subst (λ (x : List ℕ). (m : ℕ) → ¬ Reading.Whole F last (x ++ replicate m 0xFF)) (sym z) erased-not-whole) (inl z)
    (n ∙ ap (λ (x : List ℕ). filled_of F.format.page (length x)) (sym z))
