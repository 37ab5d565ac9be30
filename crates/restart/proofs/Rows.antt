-- Every row of specs/Rows.antt holds: a test that computes (`row_right`), a lemma that turns it into what the row claims (`row-right`), and one `refl` over the table
-- (`rows-hold`). Another row changes the table alone.
-- Assumes nothing.
use Prim.Native.Nat.{ℕ, suc, ◌-◌, ◌<◌}
use mathlib.Core.Path.{◌≡◌, refl, sym, ◌∙◌, ap, subst}
use mathlib.Core.Bool.{Bool, true, not, ◌&&◌}
use mathlib.Core.List.{List, [], ◌∷◌, map}
use native.Mathlib.Omega.{arith}
use lib.IntN.{pos}
use lib.ListN.{length, get_or, take, replicate, length-take, length-replicate}
use lib.Seq.{ext_get_or}
use lib.Dec.{eqb}
use borrow.Author.Tests.{eqb-true, not-true}
use Rattle.word.specs.Word.{bits_of}
use Rattle.program.proofs.Tests.{and_both}
use Rattle.execution.specs.Effects.{effect_of, cells_in}
use Rattle.analysis.proofs.Table as analysis
use Rattle.analysis.proofs.Table.{each_below, below_at}
use Rattle.marks.specs.Marks.{byte_of, mark_of, excluded}
use Rattle.marks.proofs.Laws.{mark-byte}
use Rattle.journal.specs.Format.{Checkpoint, format_for, filled_of, chip_length, image}
use Rattle.journal.specs.Reading.{facts_of, first, own_all}
use Rattle.journal.specs.Shape.{Shape}
use Rattle.step.specs.State.{Env, Machine, machine_of, checkpoint_at}
use Rattle.run.specs.Run as run
use Rattle.run.specs.Run.{Ended}
use Rattle.run.specs.Run.{NoReading, Spent}
use Rattle.recovery.specs.Recover as recovery
use Rattle.recovery.specs.Recover.{regs_of, Outcome, outcome}
use Rattle.recovery.specs.Recover.{Restored, Refused}
use Rattle.restart.specs.Reference.{zeros, numbered_from, stays, ref_at, emitted}
use Rattle.restart.specs.History.{wrote}
use Rattle.restart.specs.Rows.{Trial, env_in, ran_from, AfterRecovery, AfterRun, Row, set_is, outputs_are, chip_begins, chip_is, cut_after, chip_refused, mark_becomes, effect_is_of, Holds, Hold, rows}
use Rattle.restart.proofs.Frames.{emitted-stays}
use Rattle.restart.proofs.Testing.{all_true, true-at, same_numbers, numbers-same, same_outputs, outputs-same, same_end, end_same, same_effect, effect-same}
use Rattle.restart.proofs.Shaped.{shaped, shape-by, saves_in}
use Rattle.restart.proofs.Outcomes.{refusal_of, Values, values_of, values-some, state_of, outcome-some, outcome-made, refused-length, refused-11}
use Rattle.restart.proofs.Computing.{computing}

-- ---- recovery

-- the values of checkpoints are those computed
values_same : (js : List Checkpoint) (v : List ℕ) → Values js v → v ≡ values_of js
values_same js v h =
    let w = values-some js in
    ext_get_or 0 v (values_of js) (h.size ∙ sym w.size)
    (λ c l. let k : c < 256 = omega (arith, l, h.size) in h.values_are c k ∙ sym (w.values_are c k))

-- how many bytes of the checkpoint that a machine is saving are stored
abbrev torn_of : Machine → ℕ
torn_of m = m.regs.saving - 1

-- recovery with the chip of a machine that was cut is accepted; the chip has the checkpoints that are read off it and the torn bytes of the one that m had begun; and what
-- recovery leaves passes the test, however many torn bytes it finds, since it takes those that end in FF for erased
abbrev recovery_tests : Env → (page owner : ℕ) → Machine → (Machine → Bool) → List Bool
recovery_tests e page owner m test =
    let js = saves_in (format_for page owner) m.journal in
    eqb (refusal_of e page (length m.journal)) 0
    ∷ shaped (facts_of (format_for page owner) e.program) m.journal js (checkpoint_at e.program m) (torn_of m)
    ∷ each_below (λ k. test (state_of e page owner js (filled_of page k) (values_of js) m.journal)) (suc (torn_of m))
    ∷ own_all owner js
    ∷ []

recovery-by : (e : Env) (page owner : ℕ) (m : Machine) (test : Machine → Bool) (Q : Machine → Type 0) → ((m' : Machine) → test m' ≡ true → Q m')
    → all_true (recovery_tests e page owner m test) ≡ true → AfterRecovery e page owner m.journal Q
recovery-by e page owner m test Q right h m' is =
    let F = facts_of (format_for page owner) e.program in
    let chip = m.journal in
    let js = saves_in (format_for page owner) chip in
    let s = checkpoint_at e.program m in
    let q = take (torn_of m) (image F.format s) in
    let t = true-at (recovery_tests e page owner m test) h in
    let shape = subst (λ (l : List ℕ). Shape F l js q) (sym is) (shape-by F chip js s (torn_of m) (t 1)) in
    let accepted = subst (λ (l : List ℕ). refusal_of e page (length l) ≡ 0) (sym is) (eqb-true _ _ (t 0)) in (
      outcome-some e page owner m' js (t 3) q shape accepted,
      λ r x.
          let o = outcome-made e page owner m' js (t 3) q shape accepted r x in
          let k = length o.rest in
          let v = values_same js o.values o.saved in
          let i : r ≡ outcome Restored (state_of e page owner js (filled_of page k) (values_of js) chip) =
          o.is ∙ (λ i. outcome Restored (state_of e page owner js (filled_of page k) (v i) (is i))) in
          let l : k < suc (torn_of m) = omega (arith, o.less, length-take (torn_of m) (image F.format s)) in
          let f : ℕ → Bool = λ k. test (state_of e page owner js (filled_of page k) (values_of js) chip) in
          (ap (λ (o : Outcome). o.answer) i, subst (λ (o : Outcome). Q o.machine) (sym i) (right _ (below_at f (suc (torn_of m)) k (t 2) l))),
    )

-- ---- runs

-- a machine with an erased chip, which has begun nothing
abbrev unwritten : (page owner n : ℕ) → Machine
unwritten page owner n = machine_of (regs_of 0 0 first page owner) [] [] (replicate n 0xFF)

-- from m the run ends with x, and what it leaves passes the test
abbrev ends : Trial → Ended → (Machine → run.Outcome → Bool) → Machine → Bool
ends t x test m = same_end (ran_from t m).ended x && test m (ran_from t m)

-- so it is after recovery on an erased chip
abbrev run_right : Trial → Ended → (Machine → run.Outcome → Bool) → Bool
run_right t x test = all_true (recovery_tests (env_in t) t.page t.owner (unwritten t.page t.owner t.chip) (ends t x test))

run_by : (t : Trial) (x : Ended) (test : Machine → run.Outcome → Bool) (Q : Machine → run.Outcome → Type 0)
    → ((m : Machine) (o : run.Outcome) → test m o ≡ true → Q m o) → run_right t x test ≡ true → AfterRun t x Q
run_by t x test Q right h =
    recovery-by (env_in t) t.page t.owner (unwritten t.page t.owner t.chip) (ends t x test) (λ m. ((ran_from t m).ended ≡ x) × Q m (ran_from t m))
    (λ m b. let y = and_both (same_end (ran_from t m).ended x) (test m (ran_from t m)) b in (end_same _ _ y.0, right _ _ y.1))
    h

-- ---- rows

-- cell c has the value v, and the counts are i and j
abbrev takes_up : (c v i j : ℕ) → Machine → List Bool
takes_up c v i j m = eqb (get_or m.cells c 0) v ∷ eqb m.regs.readings i ∷ eqb m.regs.outputs j ∷ []

-- the test of a row
abbrev pub row_right : Row → Bool
row_right (set_is r) = analysis.row_right r
row_right (outputs_are t n vs) =
    run_right t NoReading (λ m o. same_outputs (wrote m o) (numbered_from 0 vs))
    && (same_outputs (emitted t.program t.readings zeros 0 n) (numbered_from 0 vs)
    && stays t.program t.readings (ref_at t.program t.readings zeros n))
row_right (chip_begins t bytes) = run_right t NoReading (λ m o. same_numbers (take (length bytes) o.machine.journal) bytes)
row_right (chip_is t bytes) = run_right t NoReading (λ m o. same_numbers o.machine.journal bytes)
row_right (cut_after t n c v i j) =
    run_right t Spent (λ m o.
    eqb o.machine.regs.write n && all_true (recovery_tests (env_in t) t.page t.owner o.machine (λ m'. all_true (takes_up c (bits_of v) i j m'))))
row_right (chip_refused t n) = eqb (recovery.refusal_of (env_in t)) 0 && (not (chip_length t.page t.chip) && eqb n 11)
row_right (mark_becomes k de ro after) = eqb (byte_of (excluded k de ro)) (byte_of after)
row_right (effect_is_of i vs e) = same_effect (effect_of i (pos 0) 0 0 (cells_in (map bits_of vs))) e

-- a row that passes holds
pub row-right : (r : Row) → row_right r ≡ true → Holds r
row-right (set_is r) h = analysis.row-holds r h
row-right (outputs_are t n vs) h =
    let x = and_both _ _ h in
    let y = and_both _ _ x.1 in (
      run_by t NoReading (λ m o. same_outputs (wrote m o) (numbered_from 0 vs)) _ (λ m o. outputs-same _ _) x.0,
      λ k l. emitted-stays t.program t.readings zeros 0 n k (omega arith) l y.1 ∙ outputs-same _ _ y.0,
    )
row-right (chip_begins t bytes) h =
    run_by t NoReading (λ m o. same_numbers (take (length bytes) o.machine.journal) bytes) _ (λ m o. numbers-same _ _) h
row-right (chip_is t bytes) h = run_by t NoReading (λ m o. same_numbers o.machine.journal bytes) _ (λ m o. numbers-same _ _) h
row-right (cut_after t n c v i j) h =
    let test : Machine → Bool = λ m. all_true (takes_up c (bits_of v) i j m) in
    let Q : Machine → Type 0 = λ m. (get_or m.cells c 0 ≡ bits_of v) × (m.regs.readings ≡ i) × (m.regs.outputs ≡ j) in
    let tells : (m : Machine) → test m ≡ true → Q m =
    λ m b. let y = true-at (takes_up c (bits_of v) i j m) b in (eqb-true _ _ (y 0), eqb-true _ _ (y 1), eqb-true _ _ (y 2)) in
    run_by t Spent (λ m o. eqb o.machine.regs.write n && all_true (recovery_tests (env_in t) t.page t.owner o.machine test))
    (λ m o. (o.machine.regs.write ≡ n) × AfterRecovery (env_in t) t.page t.owner o.machine.journal Q)
    (λ m o b. let x = and_both _ _ b in (eqb-true _ _ x.0, recovery-by (env_in t) t.page t.owner o.machine test Q tells x.1))
    h
row-right (chip_refused t n) h = λ m is.
    let x = and_both _ _ h in
    let y = and_both (not (chip_length t.page t.chip)) (eqb n 11) x.1 in
    let long = ap (chip_length t.page) (ap length is ∙ length-replicate {A = ℕ} t.chip 0xFF) ∙ not-true _ y.0 in
    (refused-length (env_in t) t.page t.owner m (eqb-true _ _ x.0) long, λ r d. refused-11 (env_in t) t.page t.owner m (eqb-true _ _ x.0) long r d ∙ ap Refused (sym (eqb-true _ _ y.1)))
row-right (mark_becomes k de ro after) h =
    let e : byte_of (excluded k de ro) ≡ byte_of after = eqb-true _ _ h in
    sym (mark-byte (excluded k de ro)) ∙ ap mark_of e ∙ mark-byte after
row-right (effect_is_of i vs e) h = effect-same _ _ h

-- ---- the table

-- all rows pass
abbrev pub right : List Row → Bool
right [] = true
right (r ∷ rs) = row_right r && right rs

-- then all of them hold
pub all_right : (rs : List Row) → right rs ≡ true → Hold rs
all_right [] h = tt
all_right (r ∷ rs) h = let x = and_both (row_right r) (right rs) h in (row-right r x.0, all_right rs x.1)

-- every row holds
pub rows-hold : Hold rows
unfolding computing
rows-hold = all_right rows refl
