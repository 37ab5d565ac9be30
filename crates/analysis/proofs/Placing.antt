-- DE and RO of one EXCLUDE, stored one behind the other, and of all EXCLUDEs in order.
-- Assumes nothing.
use mathlib.Core.Path.{◌≡◌, refl, sym, ap, ◌∙◌, subst}
use mathlib.Core.Logic.{◌⊎◌, inl, inr, ⊎_elim}
use mathlib.Core.List.{List}
use mathlib.Core.Bool.{true, cond}
use Prim.Native.Nat.{ℕ, zero, suc, ◌+◌, ◌-◌, ◌*◌, ◌/◌, ◌%◌, ◌≤◌, ◌<◌, zero-le}
use native.Mathlib.Nat.{add-zero}
use native.Mathlib.Omega.{arith}
use lib.ListN.{length, get_or, take, length-take}
use lib.Seq.{sets, get_or-take}
use lib.Dec.{eqb}
use borrow.Author.Tests.{eqb-true, eqb-false, eq-eqb, ne_eqb}
use Rattle.cellset.specs.Bits.{bit, member}
use Rattle.cellset.specs.Sets.{SetIs}
use Rattle.cellset.proofs.Sets.{member-store, member_below, store_below, store-above}
use Rattle.instruction.specs.Bytes.{byte, cells_of}
use Rattle.program.specs.Starts.{starts, excludes}
use Rattle.program.specs.Places.{is_start, is_exclude, exclude_number}
use Rattle.program.proofs.Tests.{bool_cases, and_both}
use Rattle.program.proofs.Accepted.{Accepted}
use Rattle.graph.specs.Tables.{count_of, start_of, Offsets}
use Rattle.graph.proofs.Numbers.{index_of, excludes-take, excludes-all, number_of}
use Rattle.analysis.specs.Analyse.{ExcludeSets}
use Rattle.analysis.specs.Search.{Mapped, Known, Found, saves, dead_all, kept_all, SetsAt}
use Rattle.analysis.proofs.Searching.{start-inside, node-start}
use Rattle.analysis.proofs.Gathering.{de-set, de-clear, ro-set, ro-clear}

-- two sets stored from index `to` on
module _ (s s₁ s₂ de ro : List ℕ) {f g : ℕ → ℕ} (to : ℕ) (room : to + 8 ≤ length s) (same : length s₁ ≡ length s)
    (is_f : SetIs de f) (is-g : SetIs ro g) (e₁ : s₁ ≡ sets s to de) (e₂ : s₂ ≡ sets s₁ (to + 4) ro) where
  first-members : (c : ℕ) → c < 256 → member s₂ to c ≡ f c
  first-members c l =
      ap (λ (x : List ℕ). member x to c) e₂ ∙ member_below s₁ (to + 4) ro to c (omega arith) l
      ∙ ap (λ (x : List ℕ). member x to c) e₁ ∙ member-store s to de c (omega arith) is_f.four l ∙ is_f.members c l

  second-members : (c : ℕ) → c < 256 → member s₂ (to + 4) c ≡ g c
  second-members c l = ap (λ (x : List ℕ). member x (to + 4) c) e₂ ∙ member-store s₁ (to + 4) ro c (omega arith) is-g.four l ∙ is-g.members c l

  others : (k : ℕ) → (k < to) ⊎ (to + 8 ≤ k) → get_or s₂ k 0 ≡ get_or s k 0
  others k h =
      ap (λ (x : List ℕ). get_or x k 0) e₂
      ∙ ⊎_elim (λ (b : k < to). store_below s₁ (to + 4) ro k (omega arith)) (λ (b : to + 8 ≤ k). store-above s₁ (to + 4) ro k is-g.four (omega arith)) h
      ∙ ap (λ (x : List ℕ). get_or x k 0) e₁
      ∙ ⊎_elim (λ (b : k < to). store_below s to de k b) (λ (b : to + 8 ≤ k). store-above s to de k is_f.four (omega arith)) h

-- the sets of a region that was listed whole are the EXCLUDE's
module _ (p at list writes dead : List ℕ) (e count : ℕ) (small : cells_of p ≤ 256) (found : Found p e list count) (at_is : Offsets p at) (known : Known p writes dead)
    (s s₁ s₂ de ro : List ℕ) (to : ℕ) (room : to + 8 ≤ length s) (same : length s₁ ≡ length s)
    (is-de : SetIs de (λ c. cond (saves p at list count) (dead_all p at list dead count c) 0)) (is-ro : SetIs ro (kept_all p at list count))
    (e₁ : s₁ ≡ sets s to de) (e₂ : s₂ ≡ sets s₁ (to + 4) ro) where
  stored : SetsAt p e s₂ to
  stored = record {
    de = λ c l h. de-set p at list e count found at_is known c l (sym (first-members s s₁ s₂ de ro to room same is-de is-ro e₁ e₂ c l) ∙ h);
    no_de = λ c l h. de-clear p at list e count found at_is known c l (sym (first-members s s₁ s₂ de ro to room same is-de is-ro e₁ e₂ c (omega arith)) ∙ h);
    ro = λ c l h. ro-set p at list e count found at_is c (sym (second-members s s₁ s₂ de ro to room same is-de is-ro e₁ e₂ c l) ∙ h);
    no_ro = λ c l h. ro-clear p at list e count found at_is c l (sym (second-members s s₁ s₂ de ro to room same is-de is-ro e₁ e₂ c (omega arith)) ∙ h);
  }

  pub placed : SetsAt p e s₂ to × ((k : ℕ) → (k < to) ⊎ (to + 8 ≤ k) → get_or s₂ k 0 ≡ get_or s k 0)
  placed = (stored, others s s₁ s₂ de ro to room same is-de is-ro e₁ e₂)

-- ---- all EXCLUDEs

-- how many EXCLUDEs stand before instruction i
abbrev before : List ℕ → ℕ → ℕ
before p i = excludes p (take i (starts p))

before-step : (p : List ℕ) (i : ℕ) → i < count_of p → before p i ≤ before p (i + 1)
before-step p i l = omega (arith, excludes-take p i l)

before-rise : (p : List ℕ) (i n : ℕ) → i + n ≤ count_of p → before p i ≤ before p (i + n)
before-rise p i zero l = rw (add-zero i) (omega arith)
before-rise p i (suc n) l =
    let e : i + suc n ≡ i + n + 1 = omega arith in
    rw e (omega (arith, before-rise p i n (omega arith), before-step p (i + n) (omega arith)))

before-mono : (p : List ℕ) (i j : ℕ) → i ≤ j → j ≤ count_of p → before p i ≤ before p j
before-mono p i j l h = let e : j ≡ i + (j - i) = omega arith in rw e (before-rise p i (j - i) (omega arith))

-- an EXCLUDE is one more
before-one : (p : List ℕ) (i : ℕ) → i < count_of p → byte p (start_of p i) ≡ 0x0D → before p (i + 1) ≡ before p i + 1
before-one p i l b = rw (eq-eqb _ _ b) at (excludes-take p i l)

before-none : (p : List ℕ) (i : ℕ) → i < count_of p → ¬ (byte p (start_of p i) ≡ 0x0D) → before p (i + 1) ≡ before p i
before-none p i l n = rw (ne_eqb _ _ n, add-zero) at (excludes-take p i l)

-- sets in words that remain remain
sets-kept : (p s s' : List ℕ) (e x : ℕ) → cells_of p ≤ 256 → ((k : ℕ) → k < x + 8 → get_or s' k 0 ≡ get_or s k 0) → SetsAt p e s x → SetsAt p e s' x
sets-kept p s s' e x small same a = record {
  de = λ c l h. a.de c l (sym (low c l) ∙ h);
  no_de = λ c l h. a.no_de c l (sym (low c (omega arith)) ∙ h);
  ro = λ c l h. a.ro c l (sym (high c l) ∙ h);
  no_ro = λ c l h. a.no_ro c l (sym (high c (omega arith)) ∙ h);
}
  where
    low : (c : ℕ) → c < 256 → member s' x c ≡ member s x c
    low c l = ap (λ (w : ℕ). bit w (c % 64)) (same (x + c / 64) (omega arith))

    high : (c : ℕ) → c < 256 → member s' (x + 4) c ≡ member s (x + 4) c
    high c l = ap (λ (w : ℕ). bit w (c % 64)) (same (x + 4 + c / 64) (omega arith))

-- `exclude_sets`: the sets of the EXCLUDEs before instruction i stand there, and `to` is the next index
pub record Placing (p s₀ s : List ℕ) (to i : ℕ) : Type 0 where
  pub size : length s ≡ length s₀
  pub most : i ≤ count_of p
  pub next : to ≡ 8 * before p i
  pub done : (k : ℕ) → k < i → byte p (start_of p k) ≡ 0x0D → SetsAt p (start_of p k) s (8 * before p k)
  pub rest : (k : ℕ) → to ≤ k → get_or s k 0 ≡ get_or s₀ k 0

-- number i of the front of the offsets' table is an instruction, whose offset stands there
pub table-node : {p at left right : List ℕ} {n i : ℕ} → Mapped p at left right → n ≡ count_of p → i < length (take n at)
    → (i < count_of p) × (get_or (take n at) i 0 ≡ start_of p i) × (start_of p i < length p)
table-node {at = at} {n = n} {i = i} m e l =
    let few : i < n = omega (arith, length-take n at) in
    (omega arith, get_or-take n at i 0 few ∙ node-start m i (omega arith), start-inside m.passed i (omega arith))

pub placing-first : (p s : List ℕ) → Placing p s s 0 0
unfolding excludes
placing-first p s = record { size = refl; most = zero-le; next = refl; done = λ k l. absurd (omega arith); rest = λ k l. refl }

module _ (p s₀ : List ℕ) {c n m : ℕ} (accepted : Accepted p c n m) where
  -- another EXCLUDE's sets have room
  pub placing-room : {s : List ℕ} {to i : ℕ} → 512 ≤ length s₀ → Placing p s₀ s to i → i < count_of p → byte p (start_of p i) ≡ 0x0D → to + 8 ≤ length s
  placing-room {to = to} {i = i} room q l b =
      omega (arith, q.size, q.next, before-one p i l b, before-mono p (i + 1) (count_of p) (omega arith) (omega arith), excludes-all p, accepted.few_excludes)

  pub placing-turn : {s s' : List ℕ} {to i : ℕ} → cells_of p ≤ 256 → Placing p s₀ s to i → i < count_of p → byte p (start_of p i) ≡ 0x0D → length s' ≡ length s
      → SetsAt p (start_of p i) s' to → ((k : ℕ) → (k < to) ⊎ (to + 8 ≤ k) → get_or s' k 0 ≡ get_or s k 0) → Placing p s₀ s' (to + 8) (i + 1)
  placing-turn {s} {s'} {to} {i} small q l b same here others = record {
    size = same ∙ q.size;
    most = omega arith;
    next = omega (arith, q.next, before-one p i l b);
    done = λ k h d.
        bool_cases (eqb k i)
        (λ t. let x : k ≡ i = eqb-true _ _ t in rw (x, ← q.next) here)
        (λ t.
        let ne : k ≡ i → ⊥ = eqb-false _ _ t in
        let below : k < i = omega arith in
        let room : 8 * before p k + 8 ≤ to = omega (arith, q.next, before-one p k (omega arith) d, before-mono p (k + 1) i (omega arith) (omega arith)) in
        sets-kept p s s' (start_of p k) (8 * before p k) small (λ j z. others j (inl (omega arith))) (q.done k below d));
    rest = λ k h. others k (inr h) ∙ q.rest k (omega arith);
  }

  pub placing-skip : {s : List ℕ} {to i : ℕ} → Placing p s₀ s to i → i < count_of p → ¬ (byte p (start_of p i) ≡ 0x0D) → Placing p s₀ s to (i + 1)
  placing-skip {s} {to} {i} q l b = record {
    size = q.size;
    most = omega arith;
    next = omega (arith, q.next, before-none p i l b);
    done = λ k h d.
        bool_cases (eqb k i)
        (λ t. let x : k ≡ i = eqb-true _ _ t in absurd (b (rw x at d)))
        (λ t. let ne : k ≡ i → ⊥ = eqb-false _ _ t in q.done k (omega arith) d);
    rest = q.rest;
  }

  -- the sets of the EXCLUDE at e
  found_at : {s : List ℕ} {to i : ℕ} → count_of p ≤ i → Placing p s₀ s to i → (e : ℕ) → is_exclude p e ≡ true → SetsAt p e s (8 * exclude_number p e)
  found_at {s} l q e h =
      let b = and_both (is_start p e) (eqb (byte p e) 0x0D) h in
      let x = index_of p e b.0 in
      let d : byte p (start_of p x.0) ≡ 0x0D = rw x.2 (eqb-true _ _ b.1) in
      let a = q.done x.0 (omega (arith, x.1)) d in
      let y : exclude_number p e ≡ before p x.0 = rw x.2 at (number_of p accepted x.0 x.1) in
      rw y (subst (λ o. SetsAt p o s (8 * before p x.0)) x.2 a)

  pub placing-done : {s : List ℕ} {to i : ℕ} → count_of p ≤ i → Placing p s₀ s to i → ExcludeSets p s₀ s
  placing-done {s} {to} {i} l q = record {
    size = q.size;
    de = λ e c h. (found_at l q e h).de c;
    no_de = λ e c h. (found_at l q e h).no_de c;
    ro = λ e c h. (found_at l q e h).ro c;
    no_ro = λ e c h. (found_at l q e h).no_ro c;
    rest = λ k h. let z : i ≡ count_of p = omega (arith, q.most) in q.rest k (omega (arith, q.next, ap (before p) z, excludes-all p));
  }
