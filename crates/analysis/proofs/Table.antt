-- What document 01's text says of the sets of given programs, as a table of rows (specs/Rows.antt); its rows marked (M) are in the table of crate `restart`. One test of
-- a table, computed, shows that every row holds.
-- Assumes nothing.
use mathlib.Core.Path.{◌≡◌, refl}
use mathlib.Core.List.{List, [], ◌∷◌}
use mathlib.Core.Bool.{Bool, true, false, cond, not, ◌&&◌, ◌||◌}
use Prim.Native.Nat.{ℕ, zero, suc, ◌<◌}
use native.Mathlib.Omega.{arith}
use lib.Dec.{ltb, eqb}
use borrow.Author.Tests.{ltb-true, eqb-true, eqb-false, not-true}
use Rattle.word.specs.Bytes.{number_of}
use Rattle.instruction.specs.Bytes.{byte, cells_of, length_of, instruction_at_of}
use Rattle.instruction.specs.Table.{access, may_def_of, successors}
use Rattle.program.specs.Starts.{starts_from, starts, refusal_at_of, first_refusal, excludes, last_opcode, among, jumps_among}
use Rattle.program.specs.Places.{is_start}
use Rattle.program.specs.Check.{check_of}
use Rattle.program.specs.Check.{Checked}
use Rattle.program.specs.Check.{Program, Refused}
use Rattle.program.proofs.Tests.{bool_cases, clash, and_both, or_cases}
use Rattle.program.proofs.Accepted.{Accepted, accepted}
use Rattle.graph.specs.Tables.{Passed}
use Rattle.analysis.specs.Paths.{Live, LiveSave, unsaved, live_at, Written}
use Rattle.analysis.specs.Rows.{Question, dead_before, de_of_set, ro_of_set, Row, row, In, Holds}
use Rattle.analysis.proofs.Certificates.{all_of, all-at, closed_live, dead-at, closed_region, de-by, no-save, ro-by}
use Rattle.analysis.proofs.Fixed.{de-apart, ro-apart}
use Rattle.analysis.proofs.Rounds.{some_of, some_at, live_of, live-found, region_of, region-found}

-- the cells of a set exist
in-exists : (p : List ℕ) (q : Question) (c : ℕ) → In p q c → c < cells_of p
in-exists p (dead_before o) c h = h.exists
in-exists p (de_of_set e) c h = h.exists
in-exists p (ro_of_set e) c h = h.exists

-- ---- the test of a row

-- a CHECKPOINT stands at o; one before which the cell is live; if one does, the cell is dead before it
abbrev saves : List ℕ → ℕ → Bool
saves p o = eqb (byte p o) 0x0E

abbrev live_save : List ℕ → ℕ → ℕ → Bool
live_save p c o = saves p o && among o (live_of p c)

abbrev dead_save : List ℕ → ℕ → ℕ → Bool
dead_save p c o = not (saves p o) || (is_start p o && not (among o (live_of p c)))

-- the instruction at o may write the cell, v being 1, or may not, v being 0
abbrev defines : List ℕ → ℕ → ℕ → ℕ → Bool
defines p c v o = eqb (may_def_of (instruction_at_of p o) c) v

-- what shows that a cell is in the set
abbrev pub shown_in : List ℕ → Question → ℕ → Bool
shown_in p (dead_before o) c = (is_start p o && closed_live p c (live_of p c)) && not (among o (live_of p c))
shown_in p (de_of_set e) c =
    (closed_region p e (region_of p e) && closed_live p c (live_of p c)) && (some_of (saves p) (region_of p e) && all_of (dead_save p c) (region_of p e))
shown_in p (ro_of_set e) c = closed_region p e (region_of p e) && all_of (defines p c 0) (region_of p e)

pub shown-in : (p : List ℕ) {m n k : ℕ} → Accepted p m n k → (q : Question) (c : ℕ) → c < cells_of p → shown_in p q c ≡ true → In p q c
shown-in p a (dead_before o) c l h =
    let x = and_both _ _ h in
    let y = and_both _ _ x.0 in
    record { exists = l; unread = dead-at p a c (live_of p c) y.1 o y.0 (not-true _ x.1) }
shown-in p a (de_of_set e) c l h =
    let x = and_both _ _ h in
    let y = and_both _ _ x.0 in
    let z = and_both _ _ x.1 in
    let s = some_at (saves p) (region_of p e) z.0 in
    de-by p e (region_of p e) y.0 c a (live_of p c) y.1 z.1 l s.0 (region-found p e s.0 s.1) (eqb-true _ _ s.2)
shown-in p a (ro_of_set e) c l h = let x = and_both _ _ h in ro-by p e (region_of p e) x.0 c x.1 l

-- what keeps a cell out of the set: a path or an instruction
abbrev pub Out : List ℕ → Question → ℕ → Type 0
Out p (dead_before o) c = Live p c o
Out p (de_of_set e) c = LiveSave p e c
Out p (ro_of_set e) c = Written p e c

-- a cell of the set is not kept out
in-not-out : (p : List ℕ) (q : Question) (c : ℕ) → In p q c → ¬ Out p q c
in-not-out p (dead_before o) c d = d.unread
in-not-out p (de_of_set e) c d = de-apart d
in-not-out p (ro_of_set e) c d = ro-apart d

-- and what shows that it is kept out
abbrev pub shown_out : List ℕ → Question → ℕ → Bool
shown_out p (dead_before o) c = among o (live_of p c)
shown_out p (de_of_set e) c = some_of (live_save p c) (region_of p e) || (closed_region p e (region_of p e) && all_of (λ o. not (saves p o)) (region_of p e))
shown_out p (ro_of_set e) c = some_of (defines p c 1) (region_of p e)

pub shown-out : (p : List ℕ) (q : Question) (c : ℕ) → shown_out p q c ≡ true → Out p q c
shown-out p (dead_before o) c h = live-found p c o h
shown-out p (de_of_set e) c h =
    or_cases _ _ h
    (λ t.
    let s = some_at (live_save p c) (region_of p e) t in
    let x = and_both _ _ s.2 in
    live_at s.0 (region-found p e s.0 s.1) (eqb-true _ _ x.0) (live-found p c s.0 x.1))
    (λ _ t. let x = and_both _ _ t in unsaved (no-save p e (region_of p e) x.0 x.1))
shown-out p (ro_of_set e) c h =
    let s = some_at (defines p c 1) (region_of p e) h in
    record { place = s.0; within = region-found p e s.0 s.1; writes = eqb-true _ _ s.2 }

-- check passes the program
abbrev passes : Checked → Bool
passes (Program cells instructions excludes) = true
passes (Refused n) = false

passed : (p : List ℕ) (k : Checked) → k ≡ check_of p → passes k ≡ true → Passed p
passed p (Program cells instructions excludes) e h = record { cells = cells; instructions = instructions; excludes = excludes; is = e }
passed p (Refused n) e h = clash false h refl

-- each number below n passes it
abbrev pub each_below : (ℕ → Bool) → ℕ → Bool
each_below f zero = true
each_below f (suc n) = f n && each_below f n

pub below_at : (f : ℕ → Bool) (n c : ℕ) → each_below f n ≡ true → c < n → f c ≡ true
below_at f zero c h l = absurd (omega arith)
below_at f (suc n) c h l =
    let b = and_both (f n) (each_below f n) h in
    bool_cases (eqb c n)
    (λ t. let d : c ≡ n = eqb-true _ _ t in rw d b.0)
    (λ t. let d : c ≡ n → ⊥ = eqb-false _ _ t in below_at f n c b.1 (omega arith))

-- each cell of the program is shown to be in the set or not, as the row says, and the row has no others
abbrev shown : Row → ℕ → Bool
shown r c = cond (among c r.cells) (shown_in r.program r.asks c) (shown_out r.program r.asks c)

abbrev pub row_right : Row → Bool
row_right r =
    (passes (check_of r.program) && all_of (λ c. ltb c (cells_of r.program)) r.cells) && each_below (shown r) (cells_of r.program)

pub row-holds : (r : Row) → row_right r ≡ true → Holds r
row-holds r h c =
    let p = r.program in
    let x = and_both _ _ h in
    let y = and_both _ _ x.0 in
    let a = accepted p (passed p (check_of p) refl y.0).is in
    let at : c < cells_of p → shown r c ≡ true = below_at (shown r) (cells_of p) c x.1 in (
      (λ t.
          let l : c < cells_of p = ltb-true _ _ (all-at (λ x. ltb x (cells_of p)) r.cells c y.1 t) in
          shown-in p a r.asks c l (rw t at (at l))),
      (λ t d. in-not-out p r.asks c d (shown-out p r.asks c (rw t at (at (in-exists p r.asks c d))))),
    )

abbrev pub right : List Row → Bool
right [] = true
right (r ∷ rs) = row_right r && right rs

-- every row holds
abbrev pub Hold : List Row → Type 0
Hold [] = Unit
Hold (r ∷ rs) = Holds r × Hold rs

pub all_hold : (rs : List Row) → right rs ≡ true → Hold rs
all_hold [] h = tt
all_hold (r ∷ rs) h = let x = and_both (row_right r) (right rs) h in (row-holds r x.0, all_hold rs x.1)

-- ---- the table

abbrev pub rows : List Row
rows =
    -- "ADD 0 0 1 keeps cell 0 live"; "Everything is dead at END"
    row (0x01 ∷ 0x04 ∷ 0 ∷ 0 ∷ 1 ∷ 0x01 ∷ []) (dead_before 1) []
    ∷ row (0x01 ∷ 0x04 ∷ 0 ∷ 0 ∷ 1 ∷ 0x01 ∷ []) (dead_before 5) (0 ∷ 1 ∷ [])
    -- "PUT must write nothing": cell 0 of its table is live before it, since EMIT reads it
    ∷ row (0x02 ∷ 0x0C ∷ 0 ∷ 2 ∷ 2 ∷ 2 ∷ 0x08 ∷ 0 ∷ 0x01 ∷ []) (dead_before 1) (1 ∷ [])
    -- "RO: the cells that no command of the region may write": cell 0 is read there, and cell 1 is written
    ∷ row (0x02 ∷ 0x0D ∷ 0x03 ∷ 1 ∷ 0 ∷ 0x01 ∷ []) (ro_of_set 1) (0 ∷ 2 ∷ [])
    ∷ []

pub rows-hold : Hold rows
unfolding check_of length_of instruction_at_of number_of access successors starts_from starts refusal_at_of first_refusal excludes last_opcode among jumps_among
rows-hold = all_hold rows refl
