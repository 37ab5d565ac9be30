-- The contract of `analyse` fixes its answer and every word of the two buffers: what it allows of one call is one result. The bits of cells that do not exist are 0.
-- Assumes nothing.
use mathlib.Core.Path.{◌≡◌, refl, sym, ◌∙◌, subst}
use mathlib.Core.Logic.{⊎_elim}
use mathlib.Core.List.{List}
use mathlib.Core.Bool.{Bool, true, false}
use Prim.Native.Nat.{ℕ, ◌+◌, ◌*◌, ◌/◌, ◌%◌, ◌^◌, ◌≤◌, ◌<◌}
use native.Mathlib.Omega.{arith}
use lib.ListN.{length, get_or}
use lib.Seq.{ext_get_or}
use lib.Dec.{eqb}
use borrow.Author.Tests.{eqb-true, eqb-false}
use Rattle.cellset.specs.Bits.{bit, member}
use Rattle.cellset.proofs.Bits.{bit-cases, bit-ext, le-or-lt}
use Rattle.instruction.specs.Bytes.{cells_of}
use Rattle.program.specs.Starts.{starts, excludes}
use Rattle.program.specs.Places.{is_exclude, exclude_number}
use Rattle.program.specs.Check.{check_of}
use Rattle.program.specs.Check.{Checked}
use Rattle.program.specs.Check as checked
use Rattle.program.proofs.Tests.{bool_cases}
use Rattle.program.proofs.Accepted.{Accepted, accepted}
use Rattle.graph.specs.Tables.{count_of}
use Rattle.graph.proofs.Numbers.{exclude-at}
use Rattle.analysis.specs.Paths.{DE, RO, LiveSave, unsaved, live_at, Written}
use Rattle.analysis.specs.Analyse.{analysed_from, analyse_of, DeadSets, ExcludeSets, Analyses}
use Rattle.analysis.specs.Analyse.{Analysed}
use Rattle.analysis.specs.Analyse.{Sets, Refused}
use Rattle.analysis.proofs.Certificates.{not-ro}

-- ---- lists of sets

-- a list of 64-bit words
abbrev pub Words : List ℕ → Type 0
Words d = (k : ℕ) → get_or d k 0 < 2 ^ 64

-- a bit that says of a cell whether it has a property is fixed: 1 where the cell exists and has it, 0 where it exists and has not
same_bit : {In Out : Type 0} {c n : ℕ} → (In → c < n) → (In → ¬ Out) → (x y k : ℕ)
    → (bit x k ≡ 1 → In) → (c < n → bit x k ≡ 0 → Out) → (bit y k ≡ 1 → In) → (c < n → bit y k ≡ 0 → Out) → bit x k ≡ bit y k
same_bit exists apart x y k in-x out-x in-y out-y =
    ⊎_elim
    (λ (a : bit x k ≡ 0).
    ⊎_elim (λ (b : bit y k ≡ 0). a ∙ sym b) (λ (b : bit y k ≡ 1). absurd (apart (in-y b) (out-x (exists (in-y b)) a))) (bit-cases y k))
    (λ (a : bit x k ≡ 1).
    ⊎_elim (λ (b : bit y k ≡ 0). absurd (apart (in-x a) (out-y (exists (in-x a)) b))) (λ (b : bit y k ≡ 1). a ∙ sym b) (bit-cases y k))
    (bit-cases x k)

-- a bit that is not 1 is 0
clear-bit : (x k : ℕ) → (bit x k ≡ 1 → ⊥) → bit x k ≡ 0
clear-bit x k n = ⊎_elim (λ (a : bit x k ≡ 0). a) (λ (a : bit x k ≡ 1). absurd (n a)) (bit-cases x k)

-- bit b of word k is cell 64 × (k % 4) + b of set k / 4
bit-of : (xs : List ℕ) (k b : ℕ) → b < 64 → member xs (4 * (k / 4)) (64 * (k % 4) + b) ≡ bit (get_or xs k 0) b
bit-of xs k b l =
    let q : 4 * (k / 4) + (64 * (k % 4) + b) / 64 ≡ k = omega arith in
    let r : (64 * (k % 4) + b) % 64 ≡ b = omega arith in
    rw (q, r)

-- lists of words are equal if their first n sets have the same members and the words behind those are the same
same-sets : (n : ℕ) (x y : List ℕ) → Words x → Words y → length x ≡ length y
    → ((i c : ℕ) → i < n → c < 256 → member x (4 * i) c ≡ member y (4 * i) c) → ((k : ℕ) → 4 * n ≤ k → get_or x k 0 ≡ get_or y k 0) → x ≡ y
same-sets n x y fits-x fits-y long e rest = ext_get_or 0 x y long λ k _. ⊎_elim (rest k) (within k) (le-or-lt (4 * n) k)
  where
    within : (k : ℕ) → k < 4 * n → get_or x k 0 ≡ get_or y k 0
    within k l =
        bit-ext 64 (get_or x k 0) (get_or y k 0) (fits-x k) (fits-y k)
        λ b h. sym (bit-of x k b h) ∙ e (k / 4) (64 * (k % 4) + b) (omega arith) (omega arith) ∙ bit-of y k b h

-- ---- the dead sets

-- a cell that does not exist has no bit
pub missing-dead : {p d₀ d : List ℕ} → DeadSets p d₀ d → (i c : ℕ) → i < count_of p → cells_of p ≤ c → c < 256 → member d (4 * i) c ≡ 0
missing-dead x i c l h small = clear-bit _ (c % 64) λ b. omega (arith, (x.dead i c l small b).exists)

-- the program and the buffer as it was lent fix every word
pub dead-fixed : {p d₀ d d' : List ℕ} → DeadSets p d₀ d → DeadSets p d₀ d' → Words d → Words d' → d ≡ d'
dead-fixed {p} {d₀} {d} {d'} x y fits fits' =
    same-sets (count_of p) d d' fits fits' (x.size ∙ sym y.size)
    (λ i c l small. same_bit (λ h. h.exists) (λ h. h.unread) _ _ (c % 64) (x.dead i c l small) (x.live i c l) (y.dead i c l small) (y.live i c l))
    (λ k l. x.rest k l ∙ sym (y.rest k l))

-- ---- DE and RO

-- a cell is not both in DE and kept out of it
pub de-apart : {p : List ℕ} {e c : ℕ} → DE p e c → ¬ LiveSave p e c
de-apart d (unsaved n) = n d.place d.within d.saves
de-apart d (live_at o r s l) = d.dead o r s l

-- nor both in RO and written
pub ro-apart : {p : List ℕ} {e c : ℕ} → RO p e c → ¬ Written p e c
ro-apart {p} {e} {c} r w = not-ro p e c w.place w.within w.writes r

-- a cell that does not exist has no bit in either
pub missing-sets : {p s₀ s : List ℕ} → ExcludeSets p s₀ s → (e c : ℕ) → is_exclude p e ≡ true → cells_of p ≤ c → c < 256
    → (member s (8 * exclude_number p e) c ≡ 0) × (member s (8 * exclude_number p e + 4) c ≡ 0)
missing-sets x e c is h small = (
  clear-bit _ (c % 64) (λ b. omega (arith, (x.de e c is small b).exists)),
  clear-bit _ (c % 64) (λ b. omega (arith, (x.ro e c is small b).exists)),
)

-- here too every word is fixed: the sets at even places are DE, the others RO
pub sets-fixed : {p : List ℕ} {m n k : ℕ} → Accepted p m n k → {s₀ s s' : List ℕ} → ExcludeSets p s₀ s → ExcludeSets p s₀ s' → Words s → Words s' → s ≡ s'
sets-fixed {p} a {s₀} {s} {s'} x y fits fits' =
    same-sets (2 * excludes p (starts p)) s s' fits fits' (x.size ∙ sym y.size)
    (λ i c l small.
    let mark = exclude-at p a (i / 2) (omega arith) in
    let e = mark.0 in
    let is = mark.1 in
    bool_cases (eqb (i % 2) 0)
    (λ t.
    let even : i % 2 ≡ 0 = eqb-true _ _ t in
    let at : 4 * i ≡ 8 * exclude_number p e = omega (arith, mark.2) in
    rw at (same_bit (λ h. h.exists) de-apart _ _ (c % 64) (x.de e c is small) (x.no_de e c is) (y.de e c is small) (y.no_de e c is)))
    (λ t.
    let odd : i % 2 ≡ 0 → ⊥ = eqb-false _ _ t in
    let at : 4 * i ≡ 8 * exclude_number p e + 4 = omega (arith, mark.2) in
    rw at (same_bit (λ h. h.exists) ro-apart _ _ (c % 64) (x.ro e c is small) (x.no_ro e c is) (y.ro e c is small) (y.no_ro e c is))))
    (λ k l. x.rest k (omega arith) ∙ sym (y.rest k (omega arith)))

-- ---- the whole call

-- sets are answered only for a program that check passes
passes : {cells instructions excludes : ℕ} (k : Checked) (short : Bool) → Sets cells instructions excludes ≡ analysed_from k short
    → checked.Program cells instructions excludes ≡ k
passes (checked.Refused n) short h = absurd (let z : ◌≡◌ {A = ℕ} 0 1 = cc in omega arith)
passes (checked.Program cells instructions excludes) true h = absurd (let z : ◌≡◌ {A = ℕ} 0 1 = cc in omega arith)
passes (checked.Program cells instructions excludes) false h = cc

-- those of a program with these numbers
pub sets-accepted : (p : List ℕ) (dead sets : ℕ) {cells instructions excludes : ℕ} → Sets cells instructions excludes ≡ analyse_of p dead sets
    → Accepted p cells instructions excludes
unfolding analyse_of
sets-accepted p dead sets h = accepted p (passes (check_of p) _ h)

pub analysed-accepted : {p d₀ s₀ d s : List ℕ} {cells instructions excludes : ℕ} → Analyses p d₀ s₀ d s (Sets cells instructions excludes)
    → Accepted p cells instructions excludes
analysed-accepted {p} {d₀} {s₀} x = sets-accepted p (length d₀) (length s₀) x.answer

module _ {p d₀ s₀ d s d' s' : List ℕ} (fits-d : Words d) (fits-s : Words s) (fits-d' : Words d') (fits-s' : Words s') where
  same-buffers : (r : Analysed) → Analyses p d₀ s₀ d s r → Analyses p d₀ s₀ d' s' r → (d ≡ d') × (s ≡ s')
  same-buffers (Refused n) x y =
      let a = x.refused n refl in
      let b = y.refused n refl in
      (a.0 ∙ sym b.0, a.1 ∙ sym b.1)
  same-buffers (Sets cells instructions excludes) x y =
      let a = x.filled cells instructions excludes refl in
      let b = y.filled cells instructions excludes refl in
      (dead-fixed a.0 b.0 fits-d fits-d', sets-fixed (analysed-accepted x) a.1 b.1 fits-s fits-s')

  pub analyse-fixed : {r r' : Analysed} → Analyses p d₀ s₀ d s r → Analyses p d₀ s₀ d' s' r' → (r ≡ r') × (d ≡ d') × (s ≡ s')
  analyse-fixed {r} {r'} x y =
      let e = x.answer ∙ sym y.answer in
      let b = same-buffers r' (subst (Analyses p d₀ s₀ d s) e x) y in
      (e, b.0, b.1)
