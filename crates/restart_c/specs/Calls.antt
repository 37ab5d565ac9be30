-- Lists of C calls, over the bytes that are lent: document 01, "A list of recoveries, runs and cuts, refused calls of any content among them, begins on an erased
-- chip with any state." What each call leaves is what its contract says (crate `pitskelo`).
-- Assumes nothing.
use Rattle.std.specs.Prelude.{ℕ, ◌+◌, ◌*◌, ◌≤◌, ◌<◌, ◌≡◌, Bool, true, false, cond, List, [], ◌++◌, ◌⊎◌, ℤ, length, get_or, take, drop}
use Rattle.journal.specs.Format.{owner_of_plan, chip_length}
use Rattle.run.specs.Run.{started}
use Rattle.step.specs.State.{env_of}
use Rattle.layout.specs.Numbers.{signed_of}
use Rattle.layout.specs.Layout.{state_size, machine_in}
use Rattle.pitskelo.specs.Calls.{AnalyseCall}
use Rattle.pitskelo.specs.Runs.{sets_in, RunLent, RunLeft, run_call_of, RecoverCall}
use Rattle.restart.specs.Reference.{Numbered, numbered_from, zeros, ref_at, emitted, taken}
use Rattle.restart.specs.History.{Tally, set_back, tallied_over, System}
use Rattle.restart.specs.Claim.{Plan, Claim, Erased, Equipped}

-- the host's state and chip; whether an accepted call left the state and no cut has spoiled it; the tally; the outputs so far, numbered; the steps since the last
-- accepted recovery
pub record Board : Type 0 where
  pub state : List ℕ
  pub chip : List ℕ
  pub good : Bool
  pub tally : Tally
  pub outputs : List Numbered
  pub steps : ℕ

-- the system that the bytes hold, the marks of its chip naming the owner
abbrev pub system_of : (page owner : ℕ) → Board → System
system_of page owner b = record { machine = machine_in page owner b.state b.chip; good = b.good; tally = b.tally; outputs = b.outputs; steps = b.steps }

-- before any call, at the tally t
abbrev pub fresh : (t : ℕ) (state chip : List ℕ) → Board
fresh t state chip =
    record {
      state = state;
      chip = chip;
      good = false;
      tally = record { retired = t; committed = t; highest = t };
      outputs = [];
      steps = 0;
    }

-- after an accepted recovery, and after a cut
abbrev pub restored : Board → List ℕ → Board
restored b state = record { state = state; chip = b.chip; good = true; tally = set_back b.tally; outputs = b.outputs; steps = 0 }

abbrev pub crashed : Board → List ℕ → Board
crashed b state = record { state = state; chip = b.chip; good = false; tally = b.tally; outputs = b.outputs; steps = b.steps }

-- with such a state and chip
abbrev pub holding : Board → (state chip : List ℕ) → Board
holding b state chip = record { state = state; chip = chip; good = b.good; tally = b.tally; outputs = b.outputs; steps = b.steps }

-- the numbered outputs that a run wrote: "An output's number is not among the outputs' bytes: the first output of a call has the number that the state held .. before the
-- call, and each next one more"
abbrev pub wrote : RunLent → RunLeft → List Numbered
wrote l o = numbered_from (machine_in l.page (owner_of_plan l.plan) l.state l.chip).regs.outputs (take (get_or o.numbers 3 0) (signed_of o.outputs))

-- after an accepted run that left o: its steps are the second of its numbers
abbrev pub ran : Board → RunLent → RunLeft → Board
ran b l o =
    record {
      state = o.state;
      chip = o.chip;
      good = b.good;
      tally =
          tallied_over (env_of l.plan (sets_in l.sets)) (signed_of l.readings) (get_or o.numbers 1 0) (started (machine_in l.page (owner_of_plan l.plan) l.state l.chip))
          b.tally;
      outputs = b.outputs ++ wrote l o;
      steps = b.steps + get_or o.numbers 1 0;
    }

-- page is how many bytes the chip stores as a unit ("the accepted calls of a list are all for one kind"), and `Sets` the bytes of DE and RO that accepted calls are lent
module _ (page : ℕ) (p : List ℕ) (ρ : List ℤ) (Sets : List ℕ → Type 0) where
  -- an accepted run is lent the plan, its sets, and the state and the chip as last left; its readings are a beginning of those from the next untaken one on
  pub record Lends (b : Board) (l : RunLent) : Type 0 where
    pub kind : l.page ≡ page
    pub plan : l.plan ≡ p
    pub sets : Sets l.sets
    pub chip : l.chip ≡ b.chip
    pub state : l.state ≡ b.state
    pub count : ℕ
    pub readings : signed_of l.readings ≡ take count (drop (machine_in page (owner_of_plan p) b.state b.chip).regs.readings ρ)

  -- a run of the list that is equipped for j of its steps (crate `restart`): of readings and places it is lent as many as their bytes hold
  abbrev pub Suffices : (k : ℕ) → Board → RunLent → (j : ℕ) → Type 0
  Suffices k b l j =
      Lends b l × Equipped p ρ zeros k (machine_in page (owner_of_plan p) b.state b.chip).regs l.budget (length (signed_of l.readings)) (length (signed_of l.outputs)) j

  -- such runs one after the other, with no recovery between, refused calls of any content among them; the steps that they are equipped for in all, and what the last run left
  pub data Chain (k : ℕ) (b : Board) : (steps : ℕ) → RunLeft → Board → Type 0 where
    one : (l : RunLent) (j : ℕ) → Suffices k b l j → Chain k b j (run_call_of l) (ran b l (run_call_of l))
    more : {i : ℕ} {o : RunLeft} {b' : Board} → Chain k b i o b' → (l : RunLent) (j : ℕ) → Suffices k b' l j
        → Chain k b (i + j) (run_call_of l) (ran b' l (run_call_of l))
    beside_recovery : {i : ℕ} {o : RunLeft} {b' : Board} → Chain k b i o b' → (kind : ℕ) (q vs chip state left : List ℕ) (result : ℕ)
        → RecoverCall kind q vs chip state left result → ¬ (result ≡ 0) → (own : Bool) → (own ≡ true → state ≡ b'.state)
        → Chain k b i o (holding b' (cond own left b'.state) b'.chip)
    beside_run : {i : ℕ} {o : RunLeft} {b' : Board} → Chain k b i o b' → (l : RunLent) → ¬ ((run_call_of l).result ≡ 0) → (own-state own-chip : Bool)
        → (own-state ≡ true → l.state ≡ b'.state) → (own-chip ≡ true → l.chip ≡ b'.chip)
        → Chain k b i o (holding b' (cond own-state (run_call_of l).state b'.state) (cond own-chip (run_call_of l).chip b'.chip))

  -- n is the chip's length, t₀ the tally at first, and `Begins` what the chip holds then
  module _ (n t₀ : ℕ) (Begins : List ℕ → Type 0) where
    pub data Calls : Board → Type 0 where
      -- "begins on an erased chip with any state"
      begins : (state chip : List ℕ) → length chip ≡ n → Begins chip → Calls (fresh t₀ state chip)
      -- a refused call of any content and of either kind, which is lent the list's state (own) or another one
      refused_recovery : {b : Board} → Calls b → (kind : ℕ) (q vs chip state left : List ℕ) (result : ℕ) → RecoverCall kind q vs chip state left result → ¬ (result ≡ 0)
          → (own : Bool) → (own ≡ true → state ≡ b.state)
          → Calls (holding b (cond own left b.state) b.chip)
      refused_run_of : {b : Board} → Calls b → (l : RunLent) → ¬ ((run_call_of l).result ≡ 0) → (own-state own-chip : Bool) → (own-state ≡ true → l.state ≡ b.state)
          → (own-chip ≡ true → l.chip ≡ b.chip)
          → Calls (holding b (cond own-state (run_call_of l).state b.state) (cond own-chip (run_call_of l).chip b.chip))
      -- an accepted recovery
      recovers : {b : Board} → Calls b → (ws : List ℕ) → Sets ws → (left : List ℕ) → RecoverCall page p ws b.chip b.state left 0 → Calls (restored b left)
      -- a cut, in a recovery call too: "the state may hold anything"
      crashes : {b : Board} → Calls b → (state : List ℕ) → Calls (crashed b state)
      -- an accepted run, and one that is cut: "It ends a run as a budget of the steps done would"
      runs : {b : Board} → Calls b → b.good ≡ true → (l : RunLent) → Lends b l → (run_call_of l).result ≡ 0 → Calls (ran b l (run_call_of l))
      crashed_run : {b : Board} → Calls b → b.good ≡ true → (l : RunLent) → Lends b l → (run_call_of l).result ≡ 0 → (state : List ℕ)
          → Calls (crashed (ran b l (run_call_of l)) state)

-- "the sets found for it": an accepted call of pitskelo_analyse left these bytes
pub record Found (p ws : List ℕ) : Type 0 where
  pub dead_lent : List ℕ
  pub lent : List ℕ
  pub dead : List ℕ
  pub call : AnalyseCall p dead_lent lent dead ws 0

-- what the entries answer, in their own numbers
pub record Answers (page : ℕ) (p : List ℕ) (ρ : List ℤ) (Sets : List ℕ → Type 0) (n : ℕ) (b : Board) : Type 0 where
  -- a good state has its length
  pub size : b.good ≡ true → length b.state ≡ state_size
  -- "a run never gives 10 on a state that an accepted call left and no cut has since spoiled": it is never refused
  pub runs : b.good ≡ true → (l : RunLent) → Lends page p ρ Sets b l → (run_call_of l).result ≡ 0
  -- "Each accepted run, cut or not, takes the readings and writes the outputs, numbers and order included, that the uncut run has between the tallies before and after
  -- it": taken and given are the third and the fourth of its numbers
  pub takes : b.good ≡ true → (l : RunLent) → Lends page p ρ Sets b l → let o = run_call_of l in let t = taken p ρ zeros b.tally.retired (ran b l o).tally.retired in
      (get_or o.numbers 2 0 ≡ length t)
      × (numbered_from (machine_in page (owner_of_plan p) b.state b.chip).regs.readings (take (get_or o.numbers 2 0) (signed_of l.readings)) ≡ t)
  pub writes : b.good ≡ true → (l : RunLent) → Lends page p ρ Sets b l → let o = run_call_of l in let t = emitted p ρ zeros b.tally.retired (ran b l o).tally.retired in
      (get_or o.numbers 3 0 ≡ length t) × (wrote l o ≡ t)
  -- steps, the second of its numbers, is at most the budget; "at most n plus twice the chip's length steps follow an accepted recovery before the next"
  pub steps : b.good ≡ true → (l : RunLent) → Lends page p ρ Sets b l → let o = run_call_of l in
      (get_or o.numbers 1 0 ≤ l.budget) × ((k : ℕ) → ¬ ((ref_at p ρ zeros k).stop ≡ 0) → b.steps + get_or o.numbers 1 0 ≤ k + 2 * n)
  -- "so accepted runs given budget, readings and room, with no recovery between, reach that stop": the first of the last run's numbers, ended, is its kind
  pub stops : b.good ≡ true → (k : ℕ) → ¬ ((ref_at p ρ zeros k).stop ≡ 0) → (j : ℕ) (o : RunLeft) (b' : Board) → Chain page p ρ Sets k b j o b' → k + 2 * n ≤ j
      → (o.result ≡ 0) × (get_or o.numbers 0 0 ≡ (ref_at p ρ zeros k).stop)
  -- on the way there a run that is equipped for its whole budget spends it: ended is 4, or that kind
  pub spends : b.good ≡ true → (k : ℕ) → ¬ ((ref_at p ρ zeros k).stop ≡ 0) → (l : RunLent) → Suffices page p ρ Sets k b l l.budget
      → let x = get_or (run_call_of l).numbers 0 0 in (x ≡ 4) ⊎ (x ≡ (ref_at p ρ zeros k).stop)
  -- "recovery never gives 12", and since Q-8 "never 15 or 16", whatever state it is lent; one of the right length is restored, unless no chip of the kind has that length
  pub not_damaged : (ws : List ℕ) → Sets ws → (state left : List ℕ) (result : ℕ) → RecoverCall page p ws b.chip state left result → result < 12
  pub restores : chip_length page n ≡ true → (ws : List ℕ) → Sets ws → (state left : List ℕ) (result : ℕ) → length state ≡ state_size → RecoverCall page p ws b.chip state left result → result ≡ 0

-- demand 3 of the C calls for chips with pages of so many bytes: for every list of calls, the claim of the system that the bytes hold, and what the entries answer. `Demand3 1`
-- is that of pitskelo_recover and pitskelo_run, and `Demand3 16` that of pitskelo_page_recover and pitskelo_page_run
abbrev pub Demand3 : (page : ℕ) → Type 0
Demand3 page =
    (p : List ℕ) → Plan p → (ws : List ℕ) → Found p ws → (ρ : List ℤ) (n : ℕ) (b : Board) → Calls page p ρ (λ v. v ≡ ws) n 0 (Erased n) b
    → Claim p ρ zeros n 0 (λ w. w ≡ sets_in ws) page (owner_of_plan p) (system_of page (owner_of_plan p) b) × Answers page p ρ (λ v. v ≡ ws) n b
