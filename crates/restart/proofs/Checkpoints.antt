-- The checkpoint of the present state: a cell that its mark stores has its value there, no other stands there, and it is sound.
-- Assumes nothing.
use Prim.Native.Nat.{ℕ, zero, suc, ◌+◌, ◌^◌, ◌≤◌, ◌<◌}
use mathlib.Core.Path.{◌≡◌, refl, sym, ◌∙◌, ap}
use mathlib.Core.Bool.{Bool, true, false, cond, and-false}
use mathlib.Core.List.{List}
use mathlib.Core.Logic.{◌⊎◌, ⊎_elim}
use native.Mathlib.Omega.{arith}
use lib.Dec.{eqb}
use lib.ListN.{get_or}
use borrow.Author.Tests.{eqb-true, eq-eqb, lt-ltb, le-ltb}
use Rattle.cellset.proofs.Bits.{le-or-lt}
use Rattle.instruction.specs.Bytes.{byte, cells_of, length_of}
use Rattle.program.specs.Places.{is_start, after_checkpoint, is_exclude}
use Rattle.program.proofs.Tests.{bool_cases, and_both}
use Rattle.program.proofs.Accepted.{Accepted, accepted, start-within}
use Rattle.program.proofs.AfterLaws.{after-checkpoint}
use Rattle.execution.specs.Effects.{next_of}
use Rattle.marks.specs.Marks.{is_stored_of, to_store, stored_from, stored_cells_of}
use Rattle.journal.specs.Format.{Format, owner_width}
use Rattle.journal.specs.declared.Commit.{Commit}
use Rattle.journal.specs.Reading.{facts_of, Absent, Once, Sound, saved_in}
use Rattle.journal.specs.Writing.{records_of}
use Rattle.journal.proofs.Written.{absent-saved}
use Rattle.step.specs.State.{Machine, checkpoint_at}
use Rattle.restart.specs.Claim.{Plan}
use Rattle.restart.proofs.Invariant.{mark_at, Small}

-- ---- the cells that their marks store

module _ (n : ℕ) (ms : List ℕ) where
  -- a cell that exists is to store where its mark says so
  store_is : (c : ℕ) → c < n → is_stored_of (mark_at ms c) ≡ true → to_store n ms c ≡ 1
  store_is c h s = rw (lt-ltb c n h, s)

  -- and no cell where its mark does not
  store-not : (c : ℕ) → is_stored_of (mark_at ms c) ≡ false → to_store n ms c ≡ 0
  store-not c s = rw (s, and-false)

  -- a cell to store exists
  store_below : (c : ℕ) → to_store n ms c ≡ 1 → c < n
  store_below c h =
      ⊎_elim
      (λ (q : n ≤ c). let z : to_store n ms c ≡ 0 = rw (le-ltb c n q) in absurd (omega arith))
      (λ (q : c < n). q)
      (le-or-lt n c)

  -- ---- their records, for the k cells from a on

  module _ (xs : List ℕ) where
    -- a cell that is none of them has no record
    absent-from : (c a k : ℕ) → ((j : ℕ) → a ≤ j → to_store n ms j ≡ 1 → ¬ (c ≡ j)) → Absent c (records_of (stored_from n ms a k) xs)
    unfolding stored_from records_of
    absent-from c a zero h = Absent.none
    absent-from c a (suc k) h =
        let r = absent-from c (suc a) k (λ j l. h j (omega arith)) in
        bool_cases (eqb (to_store n ms a) 1)
        (λ t. rw t (Absent.other (h a (omega arith) (eqb-true _ _ t)) r))
        (λ t. rw t r)

    -- so none behind its own is of the cell a
    absent-later : (a k : ℕ) → Absent a (records_of (stored_from n ms (suc a) k) xs)
    absent-later a k = absent-from a (suc a) k (λ j l _ e. omega arith)

    -- they exist, and none has two
    once-from : ((c : ℕ) → get_or xs c 0 < 2 ^ 32) → (a k : ℕ) → Once n (records_of (stored_from n ms a k) xs)
    unfolding stored_from records_of
    once-from v a zero = Once.none
    once-from v a (suc k) =
        let r = once-from v (suc a) k in
        bool_cases (eqb (to_store n ms a) 1)
        (λ t. rw t (Once.one (store_below a (eqb-true _ _ t)) (v a) (absent-later a k) r))
        (λ t. rw t r)

    -- the first of them has its value
    value-first : (a k : ℕ) → to_store n ms a ≡ 1 → (v : ℕ) → saved_in a (records_of (stored_from n ms a (suc k)) xs) v ≡ get_or xs a 0
    unfolding stored_from records_of saved_in
    value-first a k s v =
        rw (eq-eqb (to_store n ms a) 1 s)
        (ap (λ (b : Bool). saved_in a (records_of (stored_from n ms (suc a) k) xs) (cond b (get_or xs a 0) v)) (eq-eqb a a refl)
        ∙ absent-saved (absent-later a k) (get_or xs a 0))

    -- and so has each
    value-from : (c a k : ℕ) → a ≤ c → c < a + k → to_store n ms c ≡ 1 → (v : ℕ) → saved_in c (records_of (stored_from n ms a k) xs) v ≡ get_or xs c 0
    unfolding stored_from records_of saved_in
    value-from c a zero l h s v = absurd (omega arith)
    value-from c a (suc k) l h s v =
        ⊎_elim
        (λ (q : suc a ≤ c).
        let r = value-from c (suc a) k q (omega arith) s in
        bool_cases (eqb (to_store n ms a) 1) (λ t. rw t (r (cond (eqb c a) (get_or xs a 0) v))) (λ t. rw t (r v)))
        (λ (q : c < suc a). let e : a ≡ c = omega arith in rw e (value-first c k s v))
        (le-or-lt (suc a) c)

-- ---- the checkpoint

-- a cell that its mark stores reads back its value
pub stored_here : (p : List ℕ) → Plan p → (m : Machine) (c v : ℕ) → c < cells_of p → is_stored_of (mark_at m.marks c) ≡ true
    → saved_in c (checkpoint_at p m).records v ≡ get_or m.cells c 0
unfolding checkpoint_at stored_cells_of
stored_here p l m c v h s =
    value-from (cells_of p) m.marks m.cells c 0 256 (omega arith) (omega (arith, l.bytes 0)) (store_is (cells_of p) m.marks c h s) v

-- a cell that its mark does not store reads back what it was before
pub stored-not : (p : List ℕ) (m : Machine) (c v : ℕ) → is_stored_of (mark_at m.marks c) ≡ false → saved_in c (checkpoint_at p m).records v ≡ v
unfolding checkpoint_at stored_cells_of
stored-not p m c v s =
    absent-saved
    (absent-from (cells_of p) m.marks m.cells c 0 256
    (λ j _ t e. let z : to_store (cells_of p) m.marks c ≡ 1 = rw e t in omega (arith, store-not (cells_of p) m.marks c s)))
    v

-- a CHECKPOINT has one byte
next_one : (p : List ℕ) (o : ℕ) → byte p o ≡ 0x0E → next_of p o ≡ o + 1
unfolding length_of
next_one p o k = rw k

module _ (p : List ℕ) {c n e : ℕ} (a : Accepted p c n e) where
  -- the offset behind a start has 16 bits
  start_small : (o : ℕ) → is_start p o ≡ true → suc o < 2 ^ 16
  start_small o h = omega (arith, (start-within p a o h).1, a.most)

  -- so has that of an EXCLUDE, or 0
  exclude-small : (o : ℕ) → (o ≡ 0) ⊎ (is_exclude p o ≡ true) → o < 2 ^ 16
  exclude-small o h =
      ⊎_elim (λ (z : o ≡ 0). omega arith) (λ t. omega (arith, start_small o (and_both (is_start p o) (eqb (byte p o) 0x0D) t).0)) h

-- at a CHECKPOINT it is sound after each commit whose counts are not higher
pub checkpoint-sound : (G : Format) (p : List ℕ) → Plan p → (m : Machine) → Small m → is_start p m.regs.pc ≡ true → byte p m.regs.pc ≡ 0x0E
    → (m.regs.exclude ≡ 0) ⊎ (is_exclude p m.regs.exclude ≡ true) → (b : Commit) → b.readings ≤ m.regs.readings → b.outputs ≤ m.regs.outputs
    → m.regs.owner < 256 ^ owner_width G → Sound (facts_of G p) b (checkpoint_at p m)
unfolding checkpoint_at stored_cells_of
checkpoint-sound G p l m s st k x b r o w =
    let a = accepted p (sym l.legal.accepted) in
    let e = next_one p m.regs.pc k in
    record {
      once = once-from (cells_of p) m.marks m.cells s.values 0 256;
      after =
          record {
            place_is = ap (after_checkpoint p) e ∙ after-checkpoint p a m.regs.pc st k;
            place_fits = omega (arith, e, start_small p a m.regs.pc st);
            exclude_is = x;
            exclude_fits = exclude-small p a m.regs.exclude x;
            readings_rise = r;
            readings_fit = s.readings;
            outputs_rise = o;
            outputs_fit = s.outputs;
            owner_fits = w;
          };
    }
