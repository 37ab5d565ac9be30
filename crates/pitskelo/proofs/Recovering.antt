-- What is loaded from the bytes that are lent, from recovery's outcome to what `pitskelo_recover` leaves, and that its contract decides the result and every byte of the
-- state (`recover-fixed`).
-- Assumes nothing.
use Prim.Native.Nat.{ℕ, ◌/◌, min}
use mathlib.Core.Path.{◌≡◌, sym, ◌∙◌, ap, subst}
use mathlib.Core.List.{List}
use mathlib.Core.Bool.{cond}
use lib.Dec.{eqb}
use borrow.Author.Tests.{eqb-true, eq-eqb, ne_eqb}
use lib.ListN.{length, take}
use Rattle.step.specs.declared.Regs.{Regs}
use Rattle.step.specs.State.{Env, env_of, Machine, machine_of}
use Rattle.journal.specs.Format.{owner_of_plan}
use Rattle.recovery.specs.Recover.{Recovered}
use Rattle.recovery.specs.Recover.{Restored}
use Rattle.program.proofs.Tests.{bool_cases}
use Rattle.recovery.specs.Recover.{Recovers, Outcome, outcome, answer_of}
use Rattle.recovery.proofs.Laws.{one-outcome}
use Rattle.layout.specs.Numbers.{numbers_from}
use Rattle.layout.specs.Layout.{state_size, regs_in, cells_in, marks_in, machine_in, bytes_of_state}
use Rattle.pitskelo.specs.Runs.{sets_in, odd_state_of, RecoverCall}
use Rattle.pitskelo.proofs.OddStates.{odd_refused}

-- the words are those of the buffer
pub words-in : (ws words : List ℕ) {n : ℕ} → n ≡ min (length ws / 8) 512 → take n words ≡ numbers_from 8 n ws 0 → take n words ≡ sets_in ws
unfolding sets_in
words-in ws words e h = h ∙ ap (λ (n : ℕ). numbers_from 8 n ws 0) e

-- a state as it was loaded, in a call for an owner
abbrev pub Loaded : (page owner : ℕ) → List ℕ → Regs → (cells marks : List ℕ) → Type 0
Loaded page owner b r xs ms = (r ≡ regs_in page owner b) × (xs ≡ cells_in b) × (ms ≡ marks_in b)

-- with a chip it is the machine of the bytes, where the owner is the plan's
pub machine-loaded : (page : ℕ) (p b : List ℕ) {o : ℕ} {r : Regs} {xs ms : List ℕ} (chip : List ℕ) → o ≡ owner_of_plan p → Loaded page o b r xs ms
    → machine_of r xs ms chip ≡ machine_in page (owner_of_plan p) b chip
machine-loaded page p b chip named l = λ i. machine_of ((l.0 ∙ ap (λ (o : ℕ). regs_in page o b) named) i) (l.1 i) (l.2 i) chip

-- what holds of the words and the machine holds of those that they are equal to
pub carried : (P : Env → Machine → Type 0) (p : List ℕ) {vs ws : List ℕ} {m n : Machine} → vs ≡ ws → m ≡ n → P (env_of p vs) m → P (env_of p ws) n
carried P p {ws} {m} e f h = subst (λ (n : Machine). P (env_of p ws) n) f (subst (λ (us : List ℕ). P (env_of p us) m) e h)

-- a state of another length
pub odd-recovery : (page : ℕ) (p ws chip state : List ℕ) {k : ℕ} → ¬ (length state ≡ 1312) → k ≡ odd_state_of p ws → RecoverCall page p ws chip state state k
odd-recovery page p ws chip state {k} odd h =
    record {
      outcome = outcome Restored (machine_in page (owner_of_plan p) state chip);
      recovers = λ e. absurd (odd e);
      number = rw (ne_eqb (length state) 1312 odd) h;
      left = rw (ne_eqb k 0 (λ z. odd_refused p ws (sym h ∙ z)));
    }

module _ (page : ℕ) (p ws chip state words : List ℕ) {n : ℕ} {q : Regs} {xs ms : List ℕ} (size : length state ≡ 1312) (few : n ≡ min (length ws / 8) 512)
    (loaded : take n words ≡ numbers_from 8 n ws 0) {o : ℕ} (named : o ≡ owner_of_plan p) (from : Loaded page o state q xs ms) {a : Recovered} {m : Machine}
    (r : Recovers (env_of p (take n words)) page o (machine_of q xs ms chip) (outcome a m)) where
  -- the outcome is that of what the bytes hold
  recovered : Recovers (env_of p (sets_in ws)) page (owner_of_plan p) (machine_in page (owner_of_plan p) state chip) (outcome a m)
  recovered =
      carried (λ (e : Env) (m₀ : Machine). Recovers e page (owner_of_plan p) m₀ (outcome a m)) p (words-in ws words few loaded)
      (machine-loaded page p state chip named from) (subst (λ (o : ℕ). Recovers (env_of p (take n words)) page o (machine_of q xs ms chip) (outcome a m)) named r)

  -- a refusal leaves the state
  pub refused_recovery : {k : ℕ} → k ≡ (answer_of a).number → ¬ (k ≡ 0) → RecoverCall page p ws chip state state k
  refused_recovery {k} h some =
      record { outcome = outcome a m; recovers = λ e. recovered; number = rw (eq-eqb (length state) 1312 size) h; left = rw (ne_eqb k 0 some) }

  -- else the outcome's is stored
  pub done-recovery : {k : ℕ} → k ≡ (answer_of a).number → k ≡ 0 → {b : List ℕ} → b ≡ bytes_of_state m → RecoverCall page p ws chip state b 0
  done-recovery h z l = record { outcome = outcome a m; recovers = λ e. recovered; number = rw (eq-eqb (length state) 1312 size) (sym z ∙ h); left = l }

-- ---- one result, and one content of the state

pub recover-fixed : {page : ℕ} {p ws chip state left left' : List ℕ} {k k' : ℕ} → RecoverCall page p ws chip state left k → RecoverCall page p ws chip state left' k'
    → (k ≡ k') × (left ≡ left')
recover-fixed {p = p} {ws = ws} {state = state} {k = k} {k' = k'} x y =
    bool_cases (eqb (length state) state_size)
    (λ b.
    let size = eqb-true _ _ b in
    let o = one-outcome _ _ _ _ _ _ (x.recovers size) (y.recovers size) in
    let same : k ≡ k' = rw b at x.number ∙ ap (λ (r : Outcome). (answer_of r.answer).number) o ∙ sym (rw b at y.number) in
    (same, x.left ∙ (λ i. cond (eqb (same i) 0) (bytes_of_state (o i).machine) state) ∙ sym y.left))
    (λ b.
    let h : k ≡ odd_state_of p ws = rw b at x.number in
    let h' : k' ≡ odd_state_of p ws = rw b at y.number in
    let lent = rw (ne_eqb k 0 (λ z. odd_refused p ws (sym h ∙ z))) at x.left in
    let lent' = rw (ne_eqb k' 0 (λ z. odd_refused p ws (sym h' ∙ z))) at y.left in
    (h ∙ sym h', lent ∙ sym lent'))
