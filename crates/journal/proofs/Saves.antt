-- What sound checkpoints pass on: what each commit has, the last one has; and what each record's value has, the saved value of a cell has.
-- Assumes nothing.
use Rattle.std.proofs.Common.{◌≡◌, ℕ, ◌^◌, ◌<◌, cond, eqb, List, eqb-true}
use Rattle.program.proofs.Tests.{bool_cases}
use Rattle.journal.specs.declared.Commit.{Commit}
use Rattle.journal.specs.Format.{Saved, Checkpoint}
use Rattle.journal.specs.Reading.{Facts, After, Once, Rising, last_of, saved_in, saved_value}

-- the last of rising commits has what each commit after another has, and the one before them
pub last_has : {F : Facts} (P : Commit → Type 0) → ((b c : Commit) → After F b c → P c) → {b : Commit} {js : List Checkpoint} → P b → Rising F b js
    → P (last_of b js)
unfolding last_of
last_has P f h Rising.none = h
last_has P f h (Rising.one {b = b} {s = s} sound more) = last_has P f (f b s.commit sound.after) more

-- a property of the value that a record of cell c may have
abbrev pub Holds : (n c : ℕ) → (ℕ → Type 0) → Type 0
Holds n c Q = (r : Saved) → r.cell < n → r.value < 2 ^ 32 → c ≡ r.cell → Q r.value

-- the value that records give the cell c has it, where the value before them has it
saved-in-has : {n : ℕ} (c : ℕ) (Q : ℕ → Type 0) → Holds n c Q → {rs : List Saved} → Once n rs → (v : ℕ) → Q v → Q (saved_in c rs v)
unfolding saved_in
saved-in-has c Q f Once.none v h = h
saved-in-has c Q f (Once.one {r = r} cell value absent more) v h =
    saved-in-has c Q f more (cond (eqb c r.cell) r.value v)
    (bool_cases (eqb c r.cell) (λ t. rw t (f r cell value (eqb-true _ _ t))) (λ t. rw t h))

-- and so has the saved value
pub saved-has : {F : Facts} (c : ℕ) (Q : ℕ → Type 0) → Holds F.cells c Q → {b : Commit} {js : List Checkpoint} → Rising F b js → (v : ℕ) → Q v
    → Q (saved_value c js v)
unfolding saved_value
saved-has c Q f Rising.none v h = h
saved-has c Q f (Rising.one {s = s} sound more) v h = saved-has c Q f more (saved_in c s.records v) (saved-in-has c Q f sound.once v h)
