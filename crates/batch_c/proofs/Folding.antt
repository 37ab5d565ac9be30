-- Q-6'S CLAIM OF EVERY LIST OF CALLS OF pitskelo_fold AND CUTS (`q-6`): such a list is one of crate `folding` (`list_of`), so that its claim holds.
-- Assumes nothing.
use Prim.Native.Nat.{ℕ, ◌+◌, ◌/◌, ◌≤◌, min}
use mathlib.Core.Path.{◌≡◌, refl, sym, ◌∙◌, ap, subst}
use mathlib.Core.Bool.{true, false, cond}
use mathlib.Core.List.{List, [], ◌∷◌}
use native.Mathlib.Omega.{arith}
use lib.ListN.{length, get_or}
use lib.Dec.{eqb}
use borrow.Author.Tests.{eq-eqb}
use Rattle.journal.specs.Format.{owner_of_plan}
use Rattle.step.specs.State.{env_of}
use Rattle.recovery.specs.Recover as recovery
use Rattle.recovery.specs.Recover.{Recovered}
use Rattle.recovery.specs.Recover.{Restored}
use Rattle.folding.specs.Fold.{Folded}
use Rattle.folding.specs.Fold.{Stored, Refused}
use Rattle.folding.specs.Fold.{outcome, Begun, Folds, answer_of, numbers_of}
use Rattle.folding.specs.Lists as lists
use Rattle.folding.proofs.Calls.{refused-not-zero}
use Rattle.folding.proofs.Theorem as folding
use Rattle.layout.proofs.Numbering.{numbers-length}
use Rattle.layout.specs.Layout.{state_size, machine_in, bytes_of_state}
use Rattle.pitskelo.specs.Calls.{leaves}
use Rattle.pitskelo.specs.Runs.{sets_in, RecoverCall}
use Rattle.pitskelo.specs.Folds.{FoldLent, FoldLeft, FoldCall}
use Rattle.restart_c.proofs.Calling.{accepted-size, accepted-restored}
use Rattle.batch_c.specs.Fold.{Lends, FoldCalls, Finishes, SameBytes, Gives, Q6, Finished}
use Rattle.batch_c.proofs.Bytes.{restored-full, same_bytes}

-- ---- one call

-- its outcome is one of crate `folding`
pub folds-of : {p old new : List ℕ} {l : FoldLent} {o : FoldLeft} → Lends p old new l → (x : FoldCall l o) → Folds (env_of p (sets_in l.sets)) old new l.stored l.budget x.outcome
folds-of {p} {old} {new} {l} n x =
    let w = sets_in l.sets in
    subst (λ (q : List ℕ). Folds (env_of q w) old new l.stored l.budget x.outcome) n.plan
    (subst (λ (q : List ℕ). Folds (env_of l.plan w) q new l.stored l.budget x.outcome) n.old_is
    (subst (λ (q : List ℕ). Folds (env_of l.plan w) l.old q l.stored l.budget x.outcome) n.new_is x.folds.folds))

-- the answer that the numbers tell
finished-answer : (a : Folded) (numbers before : List ℕ) → ((n : ℕ) → a ≡ Refused n → ¬ (n ≡ 0)) → (answer_of a).number ≡ 0 → numbers ≡ leaves (answer_of a) before
    → get_or numbers 1 0 ≡ 1 → a ≡ Stored (get_or numbers 0 0) true
finished-answer (Refused n) numbers before f z e h = absurd (f n refl z)
finished-answer (Stored k true) numbers before f z e h = ap (λ (i : ℕ). Stored i true) (ap (λ (v : List ℕ). get_or v 0 0) (sym e))
finished-answer (Stored k false) numbers before f z e h = absurd (omega (arith, ap (λ (v : List ℕ). get_or v 1 0) e))

module _ {l : FoldLent} {o : FoldLeft} (x : Finishes l o) where
  -- of a call that finishes
  finished-outcome : x.call.outcome ≡ outcome (Stored (get_or o.numbers 0 0) true) o.new
  finished-outcome =
      let c = x.call in
      let a = finished-answer c.outcome.answer o.numbers l.numbers (λ n e. refused-not-zero c.folds.folds e) (sym c.number ∙ x.accepted) c.numbers_are x.finished in
      λ i. record { answer = a i; chip = sym c.chip i }

finishing : {p old new : List ℕ} {l : FoldLent} {o : FoldLeft} → Lends p old new l → Finishes l o
    → Folds (env_of p (sets_in l.sets)) old new l.stored l.budget (outcome (Stored (get_or o.numbers 0 0) true) o.new)
finishing {p} {old} {new} {l} n x = subst (Folds (env_of p (sets_in l.sets)) old new l.stored l.budget) (finished-outcome x) (folds-of n x.call)

-- ---- lists of them

list_of : {p old : List ℕ} {n : ℕ} {new : List ℕ} → FoldCalls p old n new → lists.Folding p old n new
list_of FoldCalls.blank = lists.Folding.blank
list_of {p} {old} {n = n} (FoldCalls.calls h l s o x) =
    subst (lists.Folding p old n) (sym x.chip) (lists.Folding.calls (list_of h) (sets_in l.sets) l.stored l.budget x.outcome (folds-of s x))
list_of {p} {old} {n = n} (FoldCalls.cut h budget l s w o x) =
    subst (lists.Folding p old n) (sym x.chip) (lists.Folding.cut (list_of h) (sets_in l.sets) l.stored budget l.budget x.outcome w (folds-of s x))
list_of {p} {old} {n = n} (FoldCalls.refused {new} h l e o x z) =
    subst (lists.Folding p old n) (sym x.chip)
    (lists.Folding.refused (list_of h) (env_of l.plan (sets_in l.sets)) l.old l.stored l.budget x.outcome
    (subst (λ (q : List ℕ). Folds (env_of l.plan (sets_in l.sets)) l.old q l.stored l.budget x.outcome) e x.folds.folds)
    (λ k. z (x.number ∙ k)))

pub finished-of : {p old new : List ℕ} → Finished p old new → lists.Finished p old new
finished-of {p} {old} f = record {
  size = f.size;
  before = f.chip;
  list = list_of f.list;
  words = sets_in f.lent.sets;
  stored = f.lent.stored;
  budget = f.lent.budget;
  count = get_or f.left.numbers 0 0;
  call =
      subst (λ (q : List ℕ). Folds (env_of p (sets_in f.lent.sets)) old f.chip f.lent.stored f.lent.budget (outcome (Stored (get_or f.left.numbers 0 0) true) q)) f.new_is
      (finishing f.lends f.last);
}

-- ---- Q-6

-- bytes enough for the words
words-enough : (ws : List ℕ) → 4096 ≤ length ws → 512 ≤ length (sets_in ws)
unfolding sets_in
words-enough ws l = omega (arith, numbers-length 8 (min (length ws / 8) 512) ws 0)

-- an accepted call of pitskelo_recover leaves the bytes that recovery for marks in the plan's name gives
pub call-gives : {p ws chip state left : List ℕ} → RecoverCall 1 p ws chip state left 0 → Gives (owner_of_plan p) p ws chip left
call-gives {p} {ws} {chip} {state} x = record {
  machine = machine_in 1 (owner_of_plan p) state chip;
  chip_is_of = refl;
  outcome = x.outcome;
  recovers = x.recovers (accepted-size x);
  restored = accepted-restored x;
  left_is = x.left;
}

-- where recovery of a finished chip is restored to the state that the old one gives, the call says so, in bytes
pub same_left : {p ws chip left : List ℕ} {owner : ℕ} (x : Gives owner p ws chip left) {new state' left' : List ℕ} {result : ℕ} (size : length state' ≡ state_size)
    (y : RecoverCall 1 p ws new state' left' result) → (y.outcome.answer ≡ Restored) × lists.SameState x.outcome.machine y.outcome.machine
    → (result ≡ 0) × SameBytes left left'
same_left {p} {ws} {owner = owner} x {left' = left'} {result = result} size y g =
    let z : result ≡ 0 = y.number ∙ rw (eq-eqb _ state_size size) (ap (λ (a : Recovered). (recovery.answer_of a).number) g.0) in
    let w = sets_in ws in
    let b = same_bytes x.outcome.machine y.outcome.machine (restored-full p w 1 owner x.recovers x.restored) (restored-full p w 1 (owner_of_plan p) (y.recovers size) g.0) g.1 in
    let e : left' ≡ bytes_of_state y.outcome.machine = y.left ∙ rw (eq-eqb result 0 z) in (
      z,
      subst (λ (u : List ℕ). SameBytes u left') (sym x.left_is) (subst (SameBytes (bytes_of_state x.outcome.machine)) (sym e) b),
    )

module _ {p old save new : List ℕ} {owner n : ℕ} (c : lists.FoldClaim p old owner save n new) where
  goes_on : (l : FoldLent) → Lends p old new l → n ≤ 65536 → length old ≤ 65536 → 4096 ≤ length l.sets → length save ≤ n → Begun save l.stored new → (o : FoldLeft)
      → FoldCall l o → (o.result ≡ 0) × (o.numbers ≡ numbers_of save l.stored l.budget) × Begun save (min (l.stored + l.budget) (length save)) o.new
  goes_on l s ln lo lw fits b o x =
      let g = c.goes_on (sets_in l.sets) l.stored l.budget x.outcome ln lo (words-enough l.sets lw) fits b (folds-of s x) in
      let a = g.answer in (
        x.number ∙ ap (λ (a : Folded). (answer_of a).number) a,
        x.numbers_are
            ∙ ap (λ (a : Folded). leaves (answer_of a) l.numbers) a
            ∙ ap (λ (i : ℕ). i ∷ cond (eqb i (length save)) 1 0 ∷ []) g.after_is,
        subst (λ (i : ℕ). Begun save i o.new) g.after_is (subst (Begun save g.after) (sym x.chip) g.begun),
      )

  recovers : (l : FoldLent) → Lends p old new l → (o : FoldLeft) → Finishes l o → (ws left : List ℕ) → Gives owner p ws old left
      → (state' left' : List ℕ) (result : ℕ) → length state' ≡ state_size → RecoverCall 1 p ws o.new state' left' result → (result ≡ 0) × SameBytes left left'
  recovers l s o f ws left x state' left' result size y =
      same_left x size y
      (c.recovers (sets_in l.sets) (sets_in ws) l.stored l.budget (get_or o.numbers 0 0) o.new (finishing s f) x.machine (machine_in 1 (owner_of_plan p) state' o.new)
      x.chip_is_of refl x.outcome y.outcome x.recovers (y.recovers size) x.restored)

pub q-6 : Q6
q-6 p legal old owner end torn last values t n new h =
    let c = folding.q-6 p legal old owner end torn last values t n new (list_of h) in
    record {
      size = c.size;
      stored = c.stored;
      most = c.most;
      beginning = c.beginning;
      goes_on = goes_on c;
      found = c.found;
      finishes = λ l s o f. c.finishes (sets_in l.sets) l.stored l.budget (get_or o.numbers 0 0) o.new (finishing s f);
      recovers = recovers c;
    }
