-- What stands behind the records of a checkpoint decides whether it is whole (`whole_of`), cut (`cut_of`) or neither (`bad-of`): every checkpoint whose bytes
-- begin with those of the records rs has rs as its first records (`peel` of proofs/Decoding.antt).
-- Assumes nothing.
use Rattle.std.proofs.Common.{◌≡◌, ℕ, ◌+◌, ◌<◌, ◌≤◌, List, ◌++◌, length, drop, sym, ap, ◌∙◌, subst, arith, length-append}
use Rattle.journal.specs.declared.Commit.{Commit}
use Rattle.journal.specs.Format.{Saved, Checkpoint, commit_image, records_image, owner_width, mark_length, image}
use Rattle.journal.specs.Reading.{Facts, Once, Sound, Begins}
use Rattle.journal.specs.Parts.{Meets, Goes, Ends, commit_at_of}
use Rattle.journal.proofs.Images.{records-append, records-join}
use Rattle.journal.proofs.Decoding.{peel}
use Rattle.journal.proofs.Torn.{Front}
use Rattle.journal.proofs.Meeting.{meets-cut, whole_meets, cut-meets}

-- a sound checkpoint whose first records are rs goes on behind them with the others
abbrev goes_on : {F : Facts} {b : Commit} {rs : List Saved} {m : List ℕ} (s : Checkpoint) (more : List Saved) → Sound F b s → s.records ≡ rs ++ more
    → Meets (records_image more (commit_image F.format s.commit)) m → Goes F b rs m
goes_on {F} s more h e k =
    record { more = more; commit = s.commit; once = subst (λ (x : List Saved). Once F.cells x) e h.once; after = h.after; meets = k }

-- a whole checkpoint goes on behind the records, and what follows them is not shorter
whole-goes : {F : Facts} {b : Commit} {rs : List Saved} {q m : List ℕ} → Once F.cells rs → q ≡ records_image rs m → Front F b q
    → (g : Goes F b rs m) × (length (records_image g.more (commit_image F.format g.commit)) ≤ length m)
unfolding image
whole-goes {F} {b} {rs} {q} {m} o e w =
    let c = w.save.commit in
    let f = sym (records-append w.save.records (commit_image F.format c) w.rest) ∙ sym w.bytes ∙ e in
    let p = peel F.format.kind m _ o w.sound.once f in
    let d : m ≡ records_image p.0 (commit_image F.format c) ++ w.rest = sym p.2 ∙ sym (records-append p.0 (commit_image F.format c) w.rest) in (
      goes_on w.save p.0 w.sound p.1 (whole_meets _ w.rest d),
      omega (arith, ap length d, length-append (records_image p.0 (commit_image F.format c)) w.rest),
    )

-- so does a beginning
begins-goes : {F : Facts} {b : Commit} {rs : List Saved} {q m : List ℕ} → Once F.cells rs → q ≡ records_image rs m → Begins F b q → Goes F b rs m
unfolding image
begins-goes {F} {b} {rs} {q} {m} o e g =
    let f = g.bytes ∙ ap (λ (l : List ℕ). l ++ g.rest) e ∙ records-append rs m g.rest in
    let p = peel F.format.kind (m ++ g.rest) _ o g.sound.once f in
    goes_on g.save p.0 g.sound p.1 (cut-meets m g.rest p.2)

-- what goes on and is shorter begins a checkpoint
goes-begins : {F : Facts} {b : Commit} {rs : List Saved} {q m : List ℕ} → q ≡ records_image rs m → (g : Goes F b rs m)
    → length m < length (records_image g.more (commit_image F.format g.commit)) → Begins F b q
unfolding image
goes-begins {F} {b} {rs} {q} {m} e g h =
    let i = records_image g.more (commit_image F.format g.commit) in
    let t = drop (length m) i in
    record {
      save = record { records = rs ++ g.more; commit = g.commit };
      sound = record { once = g.once; after = g.after };
      rest = t;
      bytes =
          records-join rs g.more (commit_image F.format g.commit)
          ∙ ap (records_image rs) (meets-cut g.meets (omega arith))
          ∙ sym (records-append rs m t)
          ∙ ap (λ (l : List ℕ). l ++ t) (sym e);
    }

-- a cut checkpoint begins one and is not whole
pub cut_of : {F : Facts} {b : Commit} {rs : List Saved} {q m : List ℕ} → Once F.cells rs → q ≡ records_image rs m
    → Goes F b rs m × ((g : Goes F b rs m) → length m < length (records_image g.more (commit_image F.format g.commit))) → Begins F b q × ¬ Front F b q
cut_of o e c = (goes-begins e c.0 (c.1 c.0), λ w. let g = whole-goes o e w in omega (arith, g.1, c.1 g.0))

-- what does not go on neither begins one nor is whole
pub bad-of : {F : Facts} {b : Commit} {rs : List Saved} {q m : List ℕ} → Once F.cells rs → q ≡ records_image rs m → ¬ Goes F b rs m
    → ¬ Begins F b q × ¬ Front F b q
bad-of o e n = (λ g. n (begins-goes o e g), λ w. n (whole-goes o e w).0)

-- records and a sound commit behind them are a checkpoint
pub whole_of : {F : Facts} {b : Commit} {rs : List Saved} {q l : List ℕ} {i : ℕ} → Once F.cells rs → q ≡ records_image rs (drop i l) → Ends F b l i
    → Sound F b (record { records = rs; commit = commit_at_of (owner_width F.format) l (i + 1) })
    × (q ≡ image F.format (record { records = rs; commit = commit_at_of (owner_width F.format) l (i + 1) }) ++ drop (i + mark_length F.format) l)
unfolding image
whole_of {F} {rs = rs} {l = l} {i = i} o e h = (
  record { once = o; after = h.after },
  e ∙ ap (records_image rs) h.bytes ∙ sym (records-append rs (commit_image F.format (commit_at_of (owner_width F.format) l (i + 1))) (drop (i + mark_length F.format) l)),
)
