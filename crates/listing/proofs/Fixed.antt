-- The contract of `list` fixes its result and every byte of the buffer, though it leaves open in which words the sets stand; and the cells that a line names
-- after `dead`, `fixed` and `saved` are those in DE, in RO and in neither.
-- Assumes nothing.
use mathlib.Core.Path.{◌≡◌, refl, sym, ◌∙◌}
use mathlib.Core.Logic.{⊎_elim}
use mathlib.Core.List.{List, [], ◌∷◌}
use mathlib.Core.Bool.{true, or-true}
use Prim.Native.Nat.{ℕ, ◌+◌, ◌-◌, ◌*◌, ◌%◌, ◌≤◌, ◌<◌, max}
use native.Mathlib.Omega.{arith}
use lib.Dec.{eqb}
use borrow.Author.Tests.{eq-eqb}
use Rattle.cellset.specs.Bits.{bit, member}
use Rattle.cellset.proofs.Bits.{bit-lt, bit-cases}
use Rattle.instruction.specs.Bytes.{byte, cells_of}
use Rattle.program.specs.Starts.{starts, among}
use Rattle.program.specs.Places.{is_start, is_exclude, exclude_number}
use Rattle.program.proofs.Tests.{bool_cases}
use Rattle.analysis.specs.Paths.{DE, RO}
use Rattle.analysis.specs.Analyse.{analyse_of, ExcludeSets}
use Rattle.analysis.specs.Analyse.{Analysed}
use Rattle.analysis.specs.Analyse.{Sets, Refused}
use Rattle.analysis.proofs.Fixed.{de-apart, ro-apart}
use Rattle.listing.specs.Listing.{in_neither, line_at, line_of, lines_of, accepted_of, listing_of, Lists}
use Rattle.listing.proofs.Lines.{line_same}

-- ---- what a bit tells

-- it is 1 exactly where the cell has the property
abbrev pub Tells : ℕ → Type 0 → Type 0
Tells b In = (b ≡ 1 → In) × (In → b ≡ 1)

-- a bit tells the property if a 1 shows it and a 0 refutes it
tells : {In : Type 0} (x k : ℕ) → (bit x k ≡ 1 → In) → (bit x k ≡ 0 → ¬ In) → Tells (bit x k) In
tells x k shows refutes = (shows, λ h. ⊎_elim (λ (b : bit x k ≡ 0). absurd (refutes b h)) (λ (b : bit x k ≡ 1). b) (bit-cases x k))

-- two bits that tell the same are equal
same_bit : {In : Type 0} (x y k : ℕ) → Tells (bit x k) In → Tells (bit y k) In → bit x k ≡ bit y k
same_bit x y k s t =
    ⊎_elim
    (λ (a : bit x k ≡ 0).
    ⊎_elim (λ (b : bit y k ≡ 0). a ∙ sym b) (λ (b : bit y k ≡ 1). s.1 (t.0 b) ∙ sym b) (bit-cases y k))
    (λ (a : bit x k ≡ 1). a ∙ sym (t.1 (s.0 a)))
    (bit-cases x k)

-- the bit of what is in neither
neither : {In In' : Type 0} (x y k : ℕ) → Tells (bit x k) In → Tells (bit y k) In' → Tells (1 - max (bit x k) (bit y k)) ((¬ In) × (¬ In'))
neither x y k s t = (
  λ b. (λ i. omega (arith, s.1 i), λ i. omega (arith, t.1 i)),
  λ n.
      let u : bit x k ≡ 1 → ⊥ = λ b. n.0 (s.0 b) in
      let v : bit y k ≡ 1 → ⊥ = λ b. n.1 (t.0 b) in
      omega (arith, bit-lt x k, bit-lt y k),
)

-- ---- the sets of an EXCLUDE

-- the bits of the cells that exist tell DE and RO
module _ {p lent s : List ℕ} (few : cells_of p ≤ 256) (x : ExcludeSets p lent s) (e c : ℕ) (is : is_exclude p e ≡ true) (l : c < cells_of p) where
  tells-de : Tells (member s (8 * exclude_number p e) c) (DE p e c)
  tells-de = tells _ _ (x.de e c is (omega arith)) (λ b d. de-apart d (x.no_de e c is l b))

  tells-ro : Tells (member s (8 * exclude_number p e + 4) c) (RO p e c)
  tells-ro = tells _ _ (x.ro e c is (omega arith)) (λ b r. ro-apart r (x.no_ro e c is l b))

-- ---- the text

module _ {p lent lent' s s' : List ℕ} (few : cells_of p ≤ 256) (x : ExcludeSets p lent s) (y : ExcludeSets p lent' s') where
  same-de : (e c : ℕ) → is_exclude p e ≡ true → c < cells_of p → member s' (8 * exclude_number p e) c ≡ member s (8 * exclude_number p e) c
  same-de e c is l = same_bit _ _ (c % 64) (tells-de few y e c is l) (tells-de few x e c is l)

  same-ro : (e c : ℕ) → is_exclude p e ≡ true → c < cells_of p → member s' (8 * exclude_number p e + 4) c ≡ member s (8 * exclude_number p e + 4) c
  same-ro e c is l = same_bit _ _ (c % 64) (tells-ro few y e c is l) (tells-ro few x e c is l)

  -- an EXCLUDE's line
  same_line : (e : ℕ) → is_exclude p e ≡ true → line_of p s e ≡ line_of p s' e
  unfolding line_at
  same_line e is =
      line_same {s = s} {number = exclude_number p e}
      (record { in_de = λ c. same-de e c is; in_ro = λ c. same-ro e c is; in_neither_of = λ c l. rw (same-de e c is l, same-ro e c is l) })
      e

  -- the lines of instructions that start at the offsets os
  same_lines : (os : List ℕ) → ((o : ℕ) → among o os ≡ true → is_start p o ≡ true) → lines_of p s os ≡ lines_of p s' os
  unfolding among lines_of
  same_lines [] h = refl
  same_lines (o ∷ os) h =
      let ih = same_lines os (λ t a. h t (rw (a, or-true))) in
      let here : is_start p o ≡ true = h o (rw (eq-eqb o o refl)) in
      bool_cases (eqb (byte p o) 0x0D) (λ b. let line = same_line o (rw (here, b)) in rw (b, ih, line)) (λ b. rw (b, ih))

  same-accepted : accepted_of p s ≡ accepted_of p s'
  unfolding accepted_of
  same-accepted = rw (same_lines (starts p) (λ o a. a))

-- the text for a refused program does not look at the sets
same_text : {p lent lent' s s' : List ℕ} → cells_of p ≤ 256 → (answer : Analysed)
    → ((cells instructions excludes : ℕ) → answer ≡ Sets cells instructions excludes → ExcludeSets p lent s)
    → ((cells instructions excludes : ℕ) → answer ≡ Sets cells instructions excludes → ExcludeSets p lent' s') → listing_of answer p s ≡ listing_of answer p s'
same_text few (Sets cells instructions excludes) x y = same-accepted few (x cells instructions excludes refl) (y cells instructions excludes refl)
same_text few (Refused n) x y = refl

-- ---- the whole call

-- the program and the buffer as it was lent fix the result and every byte; byte strings have at most 256 cells
pub list-fixed : (p before : List ℕ) {after after' : List ℕ} {r r' : ℕ} → cells_of p ≤ 256 → Lists p before after r → Lists p before after' r'
    → (after ≡ after') × (r ≡ r')
list-fixed p before few x y =
    let t = same_text few (analyse_of p 2048 512) x.filled y.filled in
    let v = x.listed.wrote in
    let w = y.listed.wrote in
    (v.stored ∙ rw t (sym w.stored), v.end ∙ rw t (sym w.end))

-- the cells of an accepted program's line
module _ {p before after : List ℕ} {r cells instructions excludes : ℕ} (few : cells_of p ≤ 256) (l : Lists p before after r)
    (accepted : analyse_of p 2048 512 ≡ Sets cells instructions excludes) (e c : ℕ) (is : is_exclude p e ≡ true) (below : c < cells_of p) where
  -- after `dead`
  pub listed-de : Tells (member l.sets (8 * exclude_number p e) c) (DE p e c)
  listed-de = tells-de few (l.filled cells instructions excludes accepted) e c is below

  -- after `fixed`
  pub listed-ro : Tells (member l.sets (8 * exclude_number p e + 4) c) (RO p e c)
  listed-ro = tells-ro few (l.filled cells instructions excludes accepted) e c is below

  -- after `saved`
  pub listed-saved : Tells (in_neither (member l.sets (8 * exclude_number p e)) (member l.sets (8 * exclude_number p e + 4)) c) ((¬ DE p e c) × (¬ RO p e c))
  listed-saved = neither _ _ _ listed-de listed-ro
