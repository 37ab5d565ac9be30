-- Q-6'S CLAIM OF EVERY LIST OF CALLS AND CUTS (`q-6`); a finished chip has the save of the old one (`finished-copied`).
-- Assumes nothing.
use Prim.Native.Nat.{ℕ, ◌-◌, ◌≤◌}
use mathlib.Core.Path.{◌≡◌, refl, sym, ◌∙◌, ap, subst}
use mathlib.Core.Bool.{true, ◌&&◌}
use mathlib.Core.List.{List, ◌++◌}
use mathlib.Core.Logic.{◌⊎◌, ⊎_elim}
use native.Mathlib.Omega.{arith}
use lib.ListN.{length, take, replicate, length-append, length-replicate}
use lib.Seq.{take-length}
use lib.Dec.{eqb, ltb}
use borrow.Author.Tests.{eqb-true, eqb-false, le-ltb}
use Rattle.program.specs.Check.{check_of, number_of}
use Rattle.program.proofs.Tests.{bool_cases, and_both}
use Rattle.journal.specs.declared.Commit.{Commit}
use Rattle.journal.specs.Format.{owner_of_plan, chip_length}
use Rattle.journal.specs.Answer.{Taken}
use Rattle.journal.proofs.Paging.{chip-of-pages, byte-whole}
use Rattle.step.specs.State.{Env, env_of, Machine}
use Rattle.step.specs.Ready.{Legal}
use Rattle.recovery.specs.Recover as recovery
use Rattle.recovery.specs.Recover.{Recovers}
use Rattle.recovery.specs.Recover.{Restored}
use Rattle.folding.specs.Fold.{Stored}
use Rattle.folding.specs.Fold.{byte_facts, Holds, folded_bytes, refusal_of, Outcome, outcome, progress, fold_steps, Begun, Puts, Folds}
use Rattle.folding.specs.Lists.{Folding, SameState, Stores, Finished, Q6}
use Rattle.folding.proofs.Beginning.{length-begun, begun-found, advance}
use Rattle.folding.proofs.Calls.{stored-apart, puts-same, refusal-alters-nothing, Unchanged, Went, call-cases}
use Rattle.folding.proofs.Contents.{holds-taken, holds-whole, holds-own}
use Rattle.folding.proofs.Kept.{kept, folded_read}
use Rattle.folding.proofs.Same.{same-state}

-- ---- the lengths that a chip may have

-- a byte chip may have any up to 65,536
chip-fits : (n : ℕ) → n ≤ 65536 → chip_length 1 n ≡ true
chip-fits n l = sym (chip-of-pages 1 n true (omega arith) (omega arith) l (byte-whole 1 n refl))

-- where no test refuses, both chips have one
both-fit : (e : Env) (old new : ℕ) → refusal_of e old new ≡ 0 → (chip_length 1 old && chip_length 1 new) ≡ true
unfolding refusal_of
both-fit e old new z =
    let n = number_of (check_of e.program) in
    bool_cases (eqb n 0)
    (λ t.
    bool_cases (ltb (length e.sets) 512)
    (λ u. let y : ◌≡◌ {A = ℕ} 9 0 = rw (t, u) at z in absurd (omega arith))
    (λ u.
    bool_cases (chip_length 1 old && chip_length 1 new)
    (λ w. w)
    (λ w. let y : ◌≡◌ {A = ℕ} 11 0 = rw (t, u, w) at z in absurd (omega arith))))
    (λ t. let y : n ≡ 0 = rw t at z in absurd (eqb-false _ _ t y))

-- ---- calls and cuts

-- some bytes of the save stand on the new chip, and FF
record Stands (save : List ℕ) (n : ℕ) (new : List ℕ) : Type 0 where
  pub size : length new ≡ n
  pub stored : ℕ
  pub begun : Begun save stored new

call-stands : {e : Env} {save old new : List ℕ} {n k budget : ℕ} {r : Outcome} → Stands save n new → Unchanged new r ⊎ Went e save old new k budget r
    → Stands save n r.chip
call-stands {e} {save} {old} {new} {n} {k} {budget} {r} s c =
    ⊎_elim
    (λ (u : Unchanged new r). subst (Stands save n) (sym u.chip) s)
    (λ (w : Went e save old new k budget r).
    let a = w.advanced in
    let c : r.chip ≡ w.after.chip = ap (λ (o : Outcome). o.chip) w.is in
    subst (Stands save n) (sym c) (record { size = a.size ∙ s.size; stored = w.after.stored; begun = a.begun }))
    c

-- ---- a finished call

-- the whole save stands on the new chip
record Done (save new : List ℕ) (count : ℕ) (after : List ℕ) : Type 0 where
  pub all : count ≡ length save
  pub size : length after ≡ length new
  pub fits : chip_length 1 (length new) ≡ true
  pub free : ℕ
  pub bytes : after ≡ save ++ replicate free 0xFF

went-done : {e : Env} {save old new after : List ℕ} {k budget j : ℕ} → Went e save old new k budget (outcome (Stored j true) after) → Done save new j after
went-done {e} {save} {old} {new} {after} {k} {budget} {j} w =
    let x : Stored j true ≡ Stored w.after.stored (eqb w.after.stored (length save)) = ap (λ (o : Outcome). o.answer) w.is in
    let y : eqb w.after.stored (length save) ≡ true = cc in
    let z : j ≡ w.after.stored = cc in
    let n : w.after.stored ≡ length save = eqb-true _ _ y in
    let c : after ≡ w.after.chip = ap (λ (o : Outcome). o.chip) w.is in
    let b = w.advanced.begun in
    record {
      all = z ∙ n;
      size = ap length c ∙ w.advanced.size;
      fits = (and_both (chip_length 1 (length old)) (chip_length 1 (length new)) (both-fit e (length old) (length new) w.accepted)).1;
      free = b.free;
      bytes = c ∙ b.bytes ∙ ap (λ (i : ℕ). take i save ++ replicate b.free 0xFF) n ∙ ap (λ (l : List ℕ). l ++ replicate b.free 0xFF) (take-length save);
    }

-- on a chip that holds so much
call-done : (p words : List ℕ) {old new after : List ℕ} {owner end torn : ℕ} {last : Commit} {values : List ℕ} {k budget j : ℕ} → Holds p old owner end torn last values
    → Folds (env_of p words) old new k budget (outcome (Stored j true) after) → Done (folded_bytes (owner_of_plan p) end values last) new j after
call-done p words {old} {new} {after} {end = end} {last = last} {values = values} {k = k} {budget = budget} {j = j} h f =
    ⊎_elim
    (λ (u : Unchanged new (outcome (Stored j true) after)). absurd (stored-apart u.answer refl))
    (λ (w : Went (env_of p words) (folded_bytes (owner_of_plan p) end values last) old new k budget (outcome (Stored j true) after)). went-done w)
    (call-cases {e = env_of p words} h f)

-- and one that finishes was called on such a chip
pub record Copied (p old new : List ℕ) : Type 0 where
  pub owner : ℕ
  pub end : ℕ
  pub torn : ℕ
  pub last : Commit
  pub values : List ℕ
  pub holds : Holds p old owner end torn last values
  pub free : ℕ
  pub bytes : new ≡ folded_bytes (owner_of_plan p) end values last ++ replicate free 0xFF
  pub fits : chip_length 1 (length new) ≡ true

call-copied : (p words : List ℕ) {old new after : List ℕ} {k budget j : ℕ} → Folds (env_of p words) old new k budget (outcome (Stored j true) after) → Copied p old after
call-copied p words (Folds.refuses n z l x) = absurd (stored-apart (ap (λ (o : Outcome). o.answer) x) refl)
call-copied p words (Folds.damaged z d a x) = absurd (stored-apart (ap (λ (o : Outcome). o.answer) x) refl)
call-copied p words (Folds.another z t x) = absurd (stored-apart (ap (λ (o : Outcome). o.answer) x) refl)
call-copied p words {old} {new} {after} {k} {budget} {j} (Folds.reads z owner end torn last values h q) =
    let f : Folds (env_of p words) old new k budget (outcome (Stored j true) after) = Folds.reads z owner end torn last values h q in
    let d = call-done p words h f in
    record { owner = owner; end = end; torn = torn; last = last; values = values; holds = h; free = d.free; bytes = d.bytes; fits = ap (chip_length 1) d.size ∙ d.fits }

pub finished-copied : {p old new : List ℕ} → Finished p old new → Copied p old new
finished-copied {p} f = call-copied p f.words f.call

-- ---- a call that is told a right number

put-goes : {save new : List ℕ} {k budget : ℕ} {r : Outcome} → Begun save k new → length save ≤ length new → Puts save new k budget r → Stores save k budget r
put-goes b fits (Puts.differs d e) = absurd (d b)
put-goes b fits (Puts.long d l e) = absurd (omega arith)
put-goes {save} {new} {k} {budget} {r} b fits (Puts.stores d l e) =
    let s = fold_steps save budget (progress new k) in
    let a = advance save budget k new d l in
    record {
      after = s.stored;
      after_is = a.stored_is;
      answer = ap (λ (o : Outcome). o.answer) e;
      begun = subst (Begun save s.stored) (sym (ap (λ (o : Outcome). o.chip) e)) a.begun;
    }

-- ---- Q-6

module _ (p : List ℕ) (legal : Legal p) (old : List ℕ) (owner end torn : ℕ) (last : Commit) (values : List ℕ) (holds : Holds p old owner end torn last values) where
  abbrev save : List ℕ
  save = folded_bytes (owner_of_plan p) end values last

  -- every list leaves a beginning of the save
  list-stands : (n : ℕ) {new : List ℕ} → Folding p old n new → Stands save n new
  list-stands n Folding.blank = record { size = length-replicate {A = ℕ} n 0xFF; stored = 0; begun = record { most = omega arith; free = n; bytes = refl } }
  list-stands n (Folding.calls h words k budget r f) = call-stands (list-stands n h) (call-cases {e = env_of p words} holds f)
  list-stands n (Folding.cut h words k budget done r l f) = call-stands (list-stands n h) (call-cases {e = env_of p words} holds f)
  list-stands n (Folding.refused h e other k budget r f z) = subst (Stands save n) (sym (refusal-alters-nothing f z)) (list-stands n h)

  goes_on : (words new : List ℕ) (k budget : ℕ) (r : Outcome) → length new ≤ 65536 → length old ≤ 65536 → 512 ≤ length words → length save ≤ length new
      → Begun save k new → Folds (env_of p words) old new k budget r → Stores save k budget r
  unfolding refusal_of
  goes_on words new k budget r ln lo lw fits b (Folds.refuses n z l e) =
      let y : 0 ≡ n = rw (legal.accepted, le-ltb (length words) 512 lw, chip-fits (length old) lo, chip-fits (length new) ln) at z in
      absurd (omega arith)
  goes_on words new k budget r ln lo lw fits b (Folds.damaged z d a e) = absurd (holds-whole holds d a)
  goes_on words new k budget r ln lo lw fits b (Folds.another z t e) = absurd (holds-own holds t)
  goes_on words new k budget r ln lo lw fits b (Folds.reads z owner' end' torn' last' values' h q) = put-goes b fits (puts-same holds h q)

  finishes : (words : List ℕ) (n : ℕ) {new : List ℕ} → length new ≡ n → (k budget j : ℕ) (after : List ℕ)
      → Folds (env_of p words) old new k budget (outcome (Stored j true) after) → (j ≡ length save) × (after ≡ save ++ replicate (n - length save) 0xFF)
  finishes words n size k budget j after f =
      let d = call-done p words holds f in
      let l : length (replicate {A = ℕ} d.free 0xFF) ≡ d.free = length-replicate d.free 0xFF in
      let y : d.free ≡ n - length save = omega (arith, ap length d.bytes, length-append save (replicate d.free 0xFF), d.size, size) in
      (d.all, d.bytes ∙ ap (λ (i : ℕ). save ++ replicate i 0xFF) y)

  recovers : (lent words new : List ℕ) (k budget j : ℕ) (after : List ℕ) → Folds (env_of p lent) old new k budget (outcome (Stored j true) after)
      → (m m' : Machine) → m.journal ≡ old → m'.journal ≡ after → (a b : recovery.Outcome) → Recovers (env_of p words) 1 owner m a
      → Recovers (env_of p words) 1 (owner_of_plan p) m' b
      → a.answer ≡ Restored → (b.answer ≡ Restored) × SameState a.machine b.machine
  recovers lent words new k budget j after f m m' mo mn a b x y restored =
      let d = call-done p lent holds f in
      let t = holds-taken holds in
      same-state (env_of p words) owner (owner_of_plan p) m m' (subst (λ (l : List ℕ). Taken (byte_facts owner p) l end torn last true values) (sym mo) t)
      (folded_read p t d.free (mn ∙ d.bytes)) (kept p t).last_is (ap (chip_length 1) (ap length mn ∙ d.size) ∙ d.fits) a b x y restored

pub q-6 : Q6
q-6 p legal old owner end torn last values t n new h =
    let s = list-stands p legal old owner end torn last values t n h in
    let b = s.begun in
    let z : b.free ≡ n - s.stored = omega (arith, length-begun b, s.size) in
    record {
      size = s.size;
      stored = s.stored;
      most = b.most;
      beginning = b.bytes ∙ ap (λ (i : ℕ). take s.stored (folded_bytes (owner_of_plan p) end values last) ++ replicate i 0xFF) z;
      goes_on = λ words k budget r ln lo lw fits g f.
          goes_on p legal old owner end torn last values t words new k budget r (omega (arith, s.size)) lo lw (omega (arith, s.size)) g f;
      found = begun-found b;
      finishes = λ words k budget j after f. finishes p legal old owner end torn last values t words n s.size k budget j after f;
      recovers = λ lent words k budget j after. recovers p legal old owner end torn last values t lent words new k budget j after;
    }
