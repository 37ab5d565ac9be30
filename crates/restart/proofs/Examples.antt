-- Histories that exist, computed, so that demand 3 speaks of something. The small plan of document 01: a run is cut inside its second save, recovery finds the
-- first save and torn bytes, and the next run erases these, takes up at the first save and gives an output again (`small-history`, `small-facts`, `small-claim`).
-- The same on a page chip, cut between two pages (`page-history`, `page-facts`, `page-claim`).
-- A plan that ends behind its saves: one run, with the budget that the claim asks for, stops where the uncut run does (`ending-history`, `ending-facts`,
-- `ending-uses`).
-- Assumes nothing.
use Prim.Native.Nat.{ℕ, zero, suc, ◌+◌, ◌*◌, ◌≤◌, ◌<◌}
use mathlib.Core.Path.{◌≡◌, refl, ap, subst}
use mathlib.Core.Bool.{true, false}
use mathlib.Core.List.{List, [], ◌∷◌, ◌++◌}
use mathlib.Core.Logic.{inl, inr}
use native.Mathlib.Omega.{arith}
use lib.IntN.{ℤ, pos}
use lib.ListN.{length, get_or, take, drop, replicate, length-replicate}
use lib.Dec.{ltb}
use borrow.Author.Tests.{ltb-true}
use Rattle.program.specs.Check.{check_of}
use Rattle.program.specs.Check.{Program}
use Rattle.program.proofs.Tests.{and_both}
use Rattle.execution.specs.Effects.{ended}
use Rattle.analysis.proofs.Certificates.{all_of}
use Rattle.analysis.proofs.Computed.{analyses-by}
use Rattle.journal.specs.Format.{Checkpoint, unowned, owner_of_plan, format_for, filled_of, image}
use Rattle.journal.specs.Reading.{facts_of, own_all}
use Rattle.journal.specs.Shape.{Shape}
use Rattle.journal.proofs.Paging.{whole-none, fill_none}
use Rattle.journal.proofs.Torn.{Trimmed, trimmed-nil, trimmed-snoc}
use Rattle.journal.proofs.Back.{erased-shape}
use Rattle.step.specs.State.{env_of, Machine, machine_of}
use Rattle.run.specs.Run.{call_of}
use Rattle.run.specs.Run.{Stopped, NoReading, BufferFull}
use Rattle.recovery.specs.Recover.{outcome}
use Rattle.recovery.specs.Recover.{Restored}
use Rattle.restart.specs.Reference.{zeros, Numbered, ref_at, emitted}
use Rattle.restart.specs.History.{Tally, set_back, System, unused, restored, crashed, Lent, given, refused_run, Request, outcome_of, ran, History, begins, recovers, runs, crashed_run}
use Rattle.restart.specs.Claim.{Plan, Found, distinct, Claim, Chain, one, more, beside_run, Erased}
use Rattle.restart.specs.Rows.{Trial, env_in, small, small_sets, trial_on, trial_until, first_save, first_until}
use Rattle.restart.proofs.Outcomes.{refusal_of, values_of, values-some, state_of, outcome-is}
use Rattle.restart.proofs.Computing.{computing}
use Rattle.restart.proofs.Shaped.{shape-by}
use Rattle.restart.proofs.Theorem.{demand-3}
use Rattle.restart.proofs.Hosts.{host, called, host-chain, host-stops}

-- ---- plans

-- a list of numbers below 256 is of bytes
bytes-by : (p : List ℕ) → all_of (λ b. ltb b 256) p ≡ true → (k : ℕ) → get_or p k 0 < 256
bytes-by [] h k = omega arith
bytes-by (x ∷ p) h zero = ltb-true _ _ (and_both (ltb x 256) _ h).0
bytes-by (x ∷ p) h (suc k) = bytes-by p (and_both (ltb x 256) _ h).1 k

-- what check passes and is of bytes is a plan
pub plan-by : (p : List ℕ) {c n e : ℕ} → check_of p ≡ Program c n e → all_of (λ b. ltb b 256) p ≡ true → Plan p
plan-by p {c} {n} {e} h b = record { legal = record { cells = c; instructions = n; excludes = e; accepted = h }; bytes = bytes-by p b }

-- sets of cells below 64, four words each
abbrev pub in_four : List ℕ → List ℕ
in_four [] = []
in_four (x ∷ xs) = x ∷ 0 ∷ 0 ∷ 0 ∷ in_four xs

-- ---- calls

-- what a state may hold before a recovery: no cells, no marks, registers that are not sound
abbrev pub spoiled : List ℕ → Machine
spoiled chip = machine_of (record { pc = 4; exclude = 9; readings = 8; outputs = 7; stop = 6; write = 50; erase = 40; saving = 3; page = 5; owner = 3 }) [] [] chip

abbrev pub tally_of : (retired committed highest : ℕ) → Tally
tally_of r c h = record { retired = r; committed = c; highest = h }

abbrev pub output : ℕ → ℤ → Numbered
output n v = record { number = n; value = v }

module _ (t : Trial) where
  -- 01's own lists
  abbrev pub Lists : System → Type 0
  Lists = History t.program t.readings t.page t.owner t.chip 0 (Erased t.chip) (λ w. w ≡ t.words)

  -- the system after a recovery that finds the checkpoints js and so many torn bytes; the first one finds none
  abbrev pub recovered : System → List Checkpoint → ℕ → System
  recovered s js torn = restored s (outcome Restored (state_of (env_in t) t.page t.owner js torn (values_of js) s.machine.journal))

  abbrev pub begun : System
  begun = recovered (unused 0 (spoiled (replicate t.chip 0xFF))) [] 0

  -- a run of the trial
  abbrev pub request : Request
  request = record { words = t.words; readings = length t.readings; budget = t.budget; places = t.places }

  -- a recovery finds what stands on the chip
  recovery : {s : System} → Lists s → (js : List Checkpoint) (q : List ℕ) → Shape (facts_of (format_for t.page t.owner) t.program) s.machine.journal js q
      → own_all t.owner js ≡ true → refusal_of (env_in t) t.page (length s.machine.journal) ≡ 0 → Trimmed q → Lists (recovered s js (filled_of t.page (length q)))
  recovery {s} h js q shape own z trimmed =
      recovers h t.words refl _ (outcome-is (env_in t) t.page t.owner s.machine js own q shape z trimmed (values_of js) (values-some js)) refl

  -- a list begins, and recovers
  pub beginning : refusal_of (env_in t) t.page (length {A = ℕ} (replicate t.chip 0xFF)) ≡ 0 → Lists begun
  unfolding own_all
  beginning z =
      let none : filled_of t.page 0 ≡ 0 = omega (arith, fill_none t.page 0 (whole-none t.page)) in
      subst (λ (torn : ℕ). Lists (recovered (unused 0 (spoiled (replicate t.chip 0xFF))) [] torn)) none
      (recovery (begins (spoiled (replicate t.chip 0xFF)) (length-replicate {A = ℕ} t.chip 0xFF) refl) [] [] (erased-shape t.chip) refl z trimmed-nil)

-- ---- the small plan

-- its dead sets, instruction by instruction
small_dead : List ℕ
small_dead = in_four (7 ∷ 6 ∷ 4 ∷ 6 ∷ 6 ∷ 6 ∷ 6 ∷ []) ++ replicate 2020 0

-- it is a plan
pub small-plan : Plan small
unfolding computing
small-plan = plan-by small refl refl

-- and the sets that document 01 gives are those that analyse finds
pub small-found : Found small small_sets
unfolding computing small_dead
small-found = record {
  lent = small_sets;
  dead_lent = small_dead;
  dead = small_dead;
  cells = 3;
  instructions = 7;
  excludes = 1;
  analyses = analyses-by small small_dead small_sets refl refl;
}

-- 5, 7, −2
abbrev pub small_readings : List ℤ
small_readings = (trial_until 60 1000).readings

-- the checkpoint of cell 0 behind its CHECKPOINT
abbrev pub save_of_one : (owner value readings outputs : ℕ) → Checkpoint
save_of_one owner v n m =
    record { records = record { cell = 0; value = v } ∷ []; commit = record { place = 17; exclude = 15; readings = n; outputs = m; owner = owner } }

-- the 13 bytes of the second one that are stored
abbrev pub torn_bytes : List ℕ
torn_bytes = take 13 (image (format_for 1 unowned) (save_of_one unowned 12 2 2))

-- after the first recovery
unfoldable pub small_begun : System
small_begun = begun (trial_until 60 45)

-- after a run that is cut behind 45 steps; the state is lost
unfoldable pub small_cut_of : System
small_cut_of = crashed (ran small small_readings small_begun (request (trial_until 60 45))) (spoiled [])

-- after a recovery that finds the first save and 13 torn bytes
unfoldable pub small_taken : System
small_taken = recovered (trial_until 60 1000) small_cut_of (save_of_one unowned 5 1 1 ∷ []) 13

-- after a run that takes the readings that are left
unfoldable pub small_done : System
small_done = ran small small_readings small_taken (request (trial_until 60 1000))

-- the torn bytes do not end in FF
torn-trimmed : Trimmed torn_bytes
unfolding computing
torn-trimmed = trimmed-snoc (take 12 (image (format_for 1 unowned) (save_of_one unowned 12 2 2))) 0 (λ e. omega arith)

small_cut : Lists (trial_until 60 45) small_cut_of
unfolding computing small_begun small_cut_of
small_cut = crashed_run (beginning (trial_until 60 45) refl) refl (request (trial_until 60 45)) refl tt (spoiled [])

small-taken : Lists (trial_until 60 1000) small_taken
unfolding computing small_begun small_cut_of small_taken
small-taken =
    recovery (trial_until 60 1000) small_cut (save_of_one unowned 5 1 1 ∷ []) torn_bytes
    (shape-by (facts_of (format_for 1 unowned) small) small_cut_of.machine.journal (save_of_one unowned 5 1 1 ∷ []) (save_of_one unowned 12 2 2) 13 refl) refl refl torn-trimmed

-- these calls are a history
pub small-history : History small small_readings 1 unowned 60 0 (Erased 60) (λ w. w ≡ small_sets) small_done
unfolding computing small_begun small_cut_of small_taken small_done
small-history = runs small-taken refl (request (trial_until 60 1000)) refl tt

-- the cut falls inside the second save: of 11 commands executed 6 are committed, two outputs are given, and 33 bytes are stored
pub cut-facts : (small_cut_of.tally ≡ tally_of 11 6 11)
    × (small_cut_of.outputs ≡ output 0 (pos 5) ∷ output 1 (pos 12) ∷ [])
    × (take 20 small_cut_of.machine.journal ≡ first_until)
    × (take 13 (drop 20 small_cut_of.machine.journal)
    ≡ 0xA1 ∷ 0x00 ∷ 0x0C ∷ 0x00 ∷ 0x00 ∷ 0x00 ∷ 0xA2 ∷ 0x11 ∷ 0x00 ∷ 0x0F ∷ 0x00 ∷ 0x02 ∷ 0x00 ∷ [])
    × (drop 33 small_cut_of.machine.journal ≡ replicate 27 0xFF)
    × (small_cut_of.good ≡ false)
unfolding computing small_begun small_cut_of
cut-facts = (refl, refl, refl, refl, refl, refl)

-- recovery sets the tally back to the first save; 13 bytes are to be erased
pub taken-facts : (small_taken.tally ≡ tally_of 6 6 11)
    × (small_taken.machine.regs.pc ≡ 17)
    × (small_taken.machine.regs.erase ≡ 13)
    × (small_taken.good ≡ true)
unfolding computing small_taken
taken-facts = (ap set_back cut-facts.0, refl, refl, refl)

-- the last run ends for want of a reading; the second output is given again, and repetitions aside they are 5, 12, 10; three saves fill the chip
pub small-facts : ((outcome_of small small_readings small_taken.machine (request (trial_until 60 1000))).ended ≡ NoReading)
    × (small_done.tally ≡ tally_of 19 18 19)
    × (small_done.outputs ≡ output 0 (pos 5) ∷ output 1 (pos 12) ∷ output 1 (pos 12) ∷ output 2 (pos 10) ∷ [])
    × (distinct [] small_done.outputs ≡ output 0 (pos 5) ∷ output 1 (pos 12) ∷ output 2 (pos 10) ∷ [])
    × (small_done.machine.regs.write ≡ 60)
    × (small_done.steps ≡ 66)
    × (small_done.good ≡ true)
unfolding computing small_begun small_cut_of small_taken small_done
small-facts = (refl, refl, refl, refl, refl, refl, refl)

-- demand 3 of it
pub small-claim : Claim small small_readings zeros 60 0 (λ w. w ≡ small_sets) 1 unowned small_done
small-claim = demand-3 1 small small-plan unowned (inr refl) small_readings 60 small_sets small-found small_done small-history

-- ---- the small plan on a page chip

-- 96 bytes; the run is cut between the two pages of its second save, behind 15 steps
unfoldable pub page_begun : System
page_begun = begun (trial_on 16 (owner_of_plan small) 96 15)

unfoldable pub page_cut : System
page_cut = crashed (ran small small_readings page_begun (request (trial_on 16 (owner_of_plan small) 96 15))) (spoiled [])

-- recovery finds the first save and a torn page
unfoldable pub page_taken : System
page_taken = recovered (trial_on 16 (owner_of_plan small) 96 1000) page_cut (save_of_one (owner_of_plan small) 5 1 1 ∷ []) 16

unfoldable pub page_done : System
page_done = ran small small_readings page_taken (request (trial_on 16 (owner_of_plan small) 96 1000))

-- the page does not end in FF
page-trimmed : Trimmed (take 16 (image (format_for 16 (owner_of_plan small)) (save_of_one (owner_of_plan small) 12 2 2)))
unfolding computing
page-trimmed = trimmed-snoc (take 15 (image (format_for 16 (owner_of_plan small)) (save_of_one (owner_of_plan small) 12 2 2))) 2 (λ e. omega arith)

page-cut : Lists (trial_on 16 (owner_of_plan small) 96 15) page_cut
unfolding computing page_begun page_cut
page-cut = crashed_run (beginning (trial_on 16 (owner_of_plan small) 96 15) refl) refl (request (trial_on 16 (owner_of_plan small) 96 15)) refl tt (spoiled [])

page-taken : Lists (trial_on 16 (owner_of_plan small) 96 1000) page_taken
unfolding computing page_begun page_cut page_taken
page-taken =
    recovery (trial_on 16 (owner_of_plan small) 96 1000) page-cut (save_of_one (owner_of_plan small) 5 1 1 ∷ []) (take 16 (image (format_for 16 (owner_of_plan small)) (save_of_one (owner_of_plan small) 12 2 2)))
    (shape-by (facts_of (format_for 16 (owner_of_plan small)) small) page_cut.machine.journal (save_of_one (owner_of_plan small) 5 1 1 ∷ []) (save_of_one (owner_of_plan small) 12 2 2) 16 refl) refl refl page-trimmed

pub page-history : History small small_readings 16 (owner_of_plan small) 96 0 (Erased 96) (λ w. w ≡ small_sets) page_done
unfolding computing page_begun page_cut page_taken page_done
page-history = runs page-taken refl (request (trial_on 16 (owner_of_plan small) 96 1000)) refl tt

-- the first save is filled, of the second one a page is stored, and one page is to be erased; the outputs are those of the byte chip, in fewer steps
pub page-facts : (take 48 page_cut.machine.journal ≡ first_save ++ replicate 8 0xFF ++ take 16 (image (format_for 16 (owner_of_plan small)) (save_of_one (owner_of_plan small) 12 2 2)))
    × (page_taken.machine.regs.erase ≡ 16)
    × (page_done.outputs ≡ output 0 (pos 5) ∷ output 1 (pos 12) ∷ output 1 (pos 12) ∷ output 2 (pos 10) ∷ [])
    × (page_done.machine.regs.write ≡ 96)
    × (page_done.steps ≡ 18)
unfolding computing page_begun page_cut page_taken page_done
page-facts = (refl, refl, refl, refl, refl)

-- demand 3 of it
pub page-claim : Claim small small_readings zeros 96 0 (λ w. w ≡ small_sets) 16 (owner_of_plan small) page_done
page-claim = demand-3 16 small small-plan (owner_of_plan small) (inl refl) small_readings 96 small_sets small-found page_done page-history

-- ---- a plan that ends

-- EXCLUDE, CHECKPOINT, EMIT 0, CHECKPOINT, END, with one cell
abbrev pub ending : List ℕ
ending = 0x00 ∷ 0x0D ∷ 0x0E ∷ 0x08 ∷ 0 ∷ 0x0E ∷ 0x01 ∷ []

-- its sets: the cell is live at the first CHECKPOINT, and nothing writes it
unfoldable pub ending_sets : List ℕ
ending_sets = 0 ∷ 0 ∷ 0 ∷ 0 ∷ 1 ∷ 0 ∷ 0 ∷ 0 ∷ replicate 504 0

ending_dead : List ℕ
ending_dead = in_four (0 ∷ 0 ∷ 0 ∷ 1 ∷ 1 ∷ []) ++ replicate 2028 0

pub ending-plan : Plan ending
unfolding computing
ending-plan = plan-by ending refl refl

pub ending-found : Found ending ending_sets
unfolding computing ending_sets ending_dead
ending-found = record {
  lent = ending_sets;
  dead_lent = ending_dead;
  dead = ending_dead;
  cells = 1;
  instructions = 5;
  excludes = 1;
  analyses = analyses-by ending ending_dead ending_sets refl refl;
}

-- no readings, and the budget that the claim asks for: 5 + 2 * 60
abbrev pub ending_trial : Trial
ending_trial = record { program = ending; words = ending_sets; chip = 60; page = 1; owner = unowned; readings = []; budget = 125; places = pos 0 ∷ [] }

-- after the first recovery, and after the run
unfoldable pub ending_begun : System
ending_begun = begun ending_trial

unfoldable pub ending_done : System
ending_done = ran ending [] ending_begun (request ending_trial)

ending-begun : Lists ending_trial ending_begun
unfolding computing ending_sets ending_begun
ending-begun = beginning ending_trial refl

-- these calls are a history
pub ending-history : History ending [] 1 unowned 60 0 (Erased 60) (λ w. w ≡ ending_sets) ending_done
unfolding computing ending_sets ending_begun ending_done
ending-history = runs ending-begun refl (request ending_trial) refl tt

-- 5 commands are executed, and 20 and 14 bytes stored: the second save leaves the cell out, since the first holds it
pub ending-facts : (ending_done.tally ≡ tally_of 5 4 5)
    × (ending_done.outputs ≡ output 0 (pos 0) ∷ [])
    × (ending_done.machine.regs.write ≡ 34)
    × (ending_done.machine.regs.stop ≡ ended)
    × (ending_done.steps ≡ 39)
    × (ending_done.good ≡ true)
unfolding computing ending_sets ending_begun ending_done
ending-facts = (refl, refl, refl, refl, refl, refl)

-- the uncut run stops after 5 commands
pub uncut-stop : (ref_at ending [] zeros 5).stop ≡ ended
unfolding computing
uncut-stop = refl

-- the run is a chain that is given enough
pub ending-chain : Chain ending [] zeros 60 0 (λ w. w ≡ ending_sets) 5 ending_begun 125 (Stopped ended) ending_done
unfolding computing ending_sets ending_begun ending_done
ending-chain = one (request ending_trial) 125 (refl, record { steps = omega arith; reads = inr (inl (omega arith)); gives = inl (omega arith) })

-- demand 3 of both systems
module _ (s : System) (h : Lists ending_trial s) where
  ending-claim : Claim ending [] zeros 60 0 (λ w. w ≡ ending_sets) 1 unowned s
  ending-claim = demand-3 1 ending ending-plan unowned (inr refl) [] 60 ending_sets ending-found s h

-- so what the claim says of a stop is said of this one: `stopped`, `all`, `steps`, `stops`
pub ending-uses : ¬ ((ref_at ending [] zeros ending_done.tally.highest).stop ≡ 0)
    × ((k : ℕ) → ending_done.tally.highest ≤ k → distinct [] ending_done.outputs ≡ emitted ending [] zeros 0 k)
    × (ending_done.steps ≤ 5 + 2 * 60)
    × (Stopped ended ≡ Stopped (ref_at ending [] zeros 5).stop)
unfolding ending_begun
ending-uses =
    let c = ending-claim ending_done ending-history in
    let stopped = c.stopped ending-facts.5 (λ e. omega (arith, ending-facts.3)) in
    let uncut : ¬ ((ref_at ending [] zeros 5).stop ≡ 0) = λ e. omega (arith, uncut-stop) in (
      stopped,
      c.all stopped,
      c.steps 5 uncut,
      (ending-claim ending_begun ending-begun).stops refl 5 uncut 125 (Stopped ended) ending_done ending-chain (omega arith),
    )

-- ---- hosts that lend little

-- READ 0, CHECKPOINT, EMIT 0, READ 0, EMIT 0, EMIT 0, END, with one cell
abbrev pub echo : List ℕ
echo = 0x00 ∷ 0x07 ∷ 0 ∷ 0x0E ∷ 0x08 ∷ 0 ∷ 0x07 ∷ 0 ∷ 0x08 ∷ 0 ∷ 0x08 ∷ 0 ∷ 0x01 ∷ []

unfoldable pub echo_sets : List ℕ
echo_sets = replicate 512 0

echo_dead : List ℕ
echo_dead = in_four (1 ∷ 0 ∷ 0 ∷ 1 ∷ 0 ∷ 0 ∷ 1 ∷ []) ++ replicate 2020 0

pub echo-plan : Plan echo
unfolding computing
echo-plan = plan-by echo refl refl

pub echo-found : Found echo echo_sets
unfolding computing echo_sets echo_dead
echo-found = record {
  lent = echo_sets;
  dead_lent = echo_dead;
  dead = echo_dead;
  cells = 1;
  instructions = 7;
  excludes = 0;
  analyses = analyses-by echo echo_dead echo_sets refl refl;
}

-- a chip of 20 bytes, which one save fills, and a run with the budget 1,000 that is lent both readings and one place
abbrev pub echo_trial : Trial
echo_trial = record { program = echo; words = echo_sets; chip = 20; page = 1; owner = unowned; readings = pos 5 ∷ pos 7 ∷ []; budget = 1000; places = pos 0 ∷ [] }

abbrev pub echo_readings : List ℤ
echo_readings = echo_trial.readings

unfoldable pub echo_begun : System
echo_begun = begun echo_trial

echo-begun : Lists echo_trial echo_begun
unfolding computing echo_sets echo_begun
echo-begun = beginning echo_trial refl

-- the uncut run stops after 7 commands
pub echo-stop : (ref_at echo echo_readings zeros 7).stop ≡ ended
unfolding computing
echo-stop = refl

-- a host that lends one reading, one place and a budget of 1 a call: 47 calls are a chain of 47 steps, and the last answers the stop
pub least-facts : let last = (outcome_of echo echo_readings (called echo echo_readings 20 echo_sets 1 46 echo_begun).machine (host echo echo_readings 20 echo_sets 1)).ended in
    Chain echo echo_readings zeros 20 0 (λ w. w ≡ echo_sets) 7 echo_begun 47 last (called echo echo_readings 20 echo_sets 1 47 echo_begun)
    × (last ≡ Stopped (ref_at echo echo_readings zeros 7).stop)
unfolding echo_begun
least-facts = (
  host-chain echo echo_readings 20 echo_sets 1 7 46 echo_begun,
  host-stops echo echo_readings 20 echo_sets 1 1 unowned (inr refl) echo-plan echo-found 7 46 echo_begun echo-begun refl (λ e. omega (arith, echo-stop)) (omega arith),
)

-- three runs with the budget 1,000 and one place each, and a refused call behind the first
unfoldable pub echo_first : System
echo_first = ran echo echo_readings echo_begun (request echo_trial)

abbrev own : Lent
own = record { state = true; journal = true; other = spoiled [] }

unfoldable pub echo_refused : System
echo_refused = refused_run echo_first own (call_of (env_of [] []) [] 9 (given own echo_first.machine) [])

unfoldable pub echo_second : System
echo_second = ran echo echo_readings echo_refused (request echo_trial)

unfoldable pub echo_done : System
echo_done = ran echo echo_readings echo_second (request echo_trial)

-- two runs end for want of a place; in all three outputs are given, and the third run stops
pub echo-facts : ((outcome_of echo echo_readings echo_begun.machine (request echo_trial)).ended ≡ BufferFull)
    × ((outcome_of echo echo_readings echo_refused.machine (request echo_trial)).ended ≡ BufferFull)
    × (echo_done.outputs ≡ output 0 (pos 5) ∷ output 1 (pos 7) ∷ output 2 (pos 7) ∷ [])
    × (echo_done.steps ≡ 27)
unfolding computing echo_sets echo_begun echo_first echo_refused echo_second echo_done
echo-facts = (refl, refl, refl, refl)

-- the first two are equipped for one step, since they have one place; the third has places for all outputs that are left, and so for its whole budget
pub echo-chain : Chain echo echo_readings zeros 20 0 (λ w. w ≡ echo_sets) 7 echo_begun (1 + 1 + 1000) (Stopped ended) echo_done
unfolding computing echo_sets echo_begun echo_first echo_refused echo_second echo_done
echo-chain =
    more
    (more
    (beside_run
    (one (request echo_trial) 1 (refl, record { steps = omega arith; reads = inr (inl (omega arith)); gives = inr (omega arith) }))
    (env_of [] []) own [] 9 [] (λ z. z))
    (request echo_trial) 1 (refl, record { steps = omega arith; reads = inr (inl (omega arith)); gives = inr (omega arith) }))
    (request echo_trial) 1000 (refl, record { steps = omega arith; reads = inr (inl (omega arith)); gives = inl (omega arith) })

-- and the claim says that it answers the stop
pub echo-uses : Stopped ended ≡ Stopped (ref_at echo echo_readings zeros 7).stop
unfolding echo_begun
echo-uses =
    (demand-3 1 echo echo-plan unowned (inr refl) echo_readings 20 echo_sets echo-found echo_begun echo-begun
    ).stops refl 7 (λ e. omega (arith, echo-stop)) 1002 (Stopped ended) echo_done echo-chain (omega arith)

-- ---- a plan for a host in C

-- EMIT 0, EMIT 0, END, with one cell
abbrev pub twice : List ℕ
twice = 0x00 ∷ 0x08 ∷ 0 ∷ 0x08 ∷ 0 ∷ 0x01 ∷ []

pub twice-plan : Plan twice
unfolding computing
twice-plan = plan-by twice refl refl

-- the uncut run stops after 3 commands
pub twice-stop : (ref_at twice [] zeros 3).stop ≡ ended
unfolding computing
twice-stop = refl
