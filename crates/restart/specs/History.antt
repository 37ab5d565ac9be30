-- What a list of calls can reach: document 01, "Lists, cuts and the uncut run". A history is a list of recoveries, runs and crashes (01: cuts), refused calls among them.
-- Assumes nothing.
use Rattle.std.specs.Prelude.{ℕ, zero, suc, ◌+◌, ◌-◌, max, ◌≡◌, Bool, true, false, cond, ◌&&◌, not, List, [], ◌++◌, ℤ, length, take, drop, eqb, ltb}
use Rattle.instruction.specs.Bytes.{byte}
use Rattle.step.specs.State.{Env, env_of, Machine, machine_of, size_at, fits_at}
use Rattle.run.specs.Run.{Call, started, stepped, Outcome, call_of}
use Rattle.run.specs.Run.{Ended}
use Rattle.run.specs.Run as ended
use Rattle.recovery.specs.Recover as recovery
use Rattle.recovery.specs.Recover.{Recovers}
use Rattle.restart.specs.Reference.{Numbered, numbered_from}

-- ---- the tally

-- `retired` is 01's tally, `committed` its value just after the last final byte of a save, and `highest` the greatest so far
pub record Tally : Type 0 where
  pub retired : ℕ
  pub committed : ℕ
  pub highest : ℕ

-- the step that is due stores a save's final byte
abbrev pub commits : List ℕ → Machine → Bool
commits p m = cond (ltb 0 m.regs.erase) false (ltb 0 m.regs.saving && eqb (m.regs.saving - 1 + m.regs.page) (size_at p m))

-- it begins a save: "a CHECKPOINT whose save fits"
abbrev pub begins_save : List ℕ → Machine → Bool
begins_save p m = eqb (byte p m.regs.pc) 0x0E && fits_at p m

-- it adds 1: "each command executed, a stop too, adds 1; a CHECKPOINT whose save fits adds it only with the save's final byte"
unfoldable pub retires : List ℕ → Machine → Bool
retires p m = cond (ltb 0 m.regs.erase) false (cond (ltb 0 m.regs.saving) (commits p m) (not (begins_save p m)))

-- over the step that is due
unfoldable pub tallied : List ℕ → Machine → Tally → Tally
tallied p m t =
    let r = t.retired + cond (retires p m) 1 0 in
    record { retired = r; committed = cond (commits p m) r t.committed; highest = max t.highest r }

-- over k steps of a run
unfoldable pub tallied_over : Env → List ℤ → ℕ → Call → Tally → Tally
tallied_over e ρ zero c t = t
tallied_over e ρ (suc k) c t = tallied_over e ρ k (stepped e ρ c) (tallied e.program c.machine t)

-- "An accepted recovery sets it back to its value just after the last such byte, or to 0 if none was stored."
abbrev pub set_back : Tally → Tally
set_back t = record { retired = t.committed; committed = t.committed; highest = t.highest }

-- ---- systems

-- the state and the chip; whether the state is good: an accepted call left it and no cut has since spoiled it; the tally; the outputs so far; the steps
-- since the last accepted recovery
pub record System : Type 0 where
  pub machine : Machine
  pub good : Bool
  pub tally : Tally
  pub outputs : List Numbered
  pub steps : ℕ

-- before any call, at the tally t
abbrev pub unused : ℕ → Machine → System
unused t m =
    record {
      machine = m;
      good = false;
      tally = record { retired = t; committed = t; highest = t };
      outputs = [];
      steps = 0;
    }

-- after an accepted recovery
abbrev pub restored : System → recovery.Outcome → System
restored s r = record { machine = r.machine; good = true; tally = set_back s.tally; outputs = s.outputs; steps = 0 }

-- after a cut: "what was stored or erased stands", "the state may hold anything" (that of m)
abbrev pub crashed : System → Machine → System
crashed s m =
    record {
      machine = machine_of m.regs m.cells m.marks s.machine.journal;
      good = false;
      tally = s.tally;
      outputs = s.outputs;
      steps = s.steps;
    }

-- ---- refused calls

-- "refused calls of any content": a call is lent the list's own state or another one, its chip or another one
pub record Lent : Type 0 where
  pub state : Bool
  pub journal : Bool
  pub other : Machine

-- what it is lent, and what stands in the list's state and chip when the lent buffers have become those of m
abbrev pub given : Lent → Machine → Machine
given l m =
    machine_of (cond l.state m.regs l.other.regs) (cond l.state m.cells l.other.cells)
    (cond l.state m.marks l.other.marks) (cond l.journal m.journal l.other.journal)

abbrev pub back : Lent → Machine → Machine → Machine
back l m₀ m =
    machine_of (cond l.state m.regs m₀.regs) (cond l.state m.cells m₀.cells) (cond l.state m.marks m₀.marks)
    (cond l.journal m.journal m₀.journal)

-- after a refused recovery that left r
abbrev pub refused : System → Lent → recovery.Outcome → System
refused s l r =
    record {
      machine = back l s.machine r.machine;
      good = s.good;
      tally = s.tally;
      outputs = s.outputs;
      steps = s.steps;
    }

-- ---- runs

-- the numbers of a run: "Runs have any budget and output buffer, and any number of the readings from the next untaken one on"; and the words that it is lent
pub record Request : Type 0 where
  pub words : List ℕ
  pub readings : ℕ
  pub budget : ℕ
  pub places : List ℤ

-- it is answered, not refused
abbrev pub Accepted : Ended → Type 0
Accepted (ended.Refused n) = ⊥
Accepted (ended.Stopped k) = Unit
Accepted ended.Spent = Unit
Accepted ended.NoReading = Unit
Accepted ended.BufferFull = Unit

-- the outputs that a call wrote, numbered from the count at its beginning
abbrev pub wrote : Machine → Outcome → List Numbered
wrote m o = numbered_from m.regs.outputs (take o.written o.outputs)

-- after a refused run that left o
abbrev pub refused_run : System → Lent → Outcome → System
refused_run s l o =
    record {
      machine = back l s.machine o.machine;
      good = s.good;
      tally = s.tally;
      outputs = s.outputs ++ wrote s.machine o;
      steps = s.steps + o.steps;
    }

module _ (p : List ℕ) (ρ : List ℤ) where
  -- "The host lends the readings from the next untaken one on"
  abbrev pub lent : Machine → Request → List ℤ
  lent m r = take r.readings (drop m.regs.readings ρ)

  unfoldable pub outcome_of : Machine → Request → Outcome
  outcome_of m r = call_of (env_of p r.words) (lent m r) r.budget m r.places

  -- the tally after it: over the steps that it made
  unfoldable pub tally_after : System → Request → Tally
  tally_after s r =
      tallied_over (env_of p r.words) (lent s.machine r) (outcome_of s.machine r).steps (started s.machine) s.tally

  -- after an accepted run
  unfoldable pub ran : System → Request → System
  ran s r =
      let o = outcome_of s.machine r in
      record {
        machine = o.machine;
        good = s.good;
        tally = tally_after s r;
        outputs = s.outputs ++ wrote s.machine o;
        steps = s.steps + o.steps;
      }

  -- ---- histories

  -- page is how many bytes the chip stores as a unit ("the accepted calls of a list are all for one kind"), owner what its marks name, `unowned` for document 01's marks and
  -- `owner_of_plan p` for today's, n its length, t₀ the tally at first, `Begins` what the chip holds then, and `Words` the words of DE and RO that accepted calls are lent: "Its accepted
  -- calls all get one plan, the sets found for it, and that chip and state as last left; nobody else writes these."
  module _ (page owner n t₀ : ℕ) (Begins Words : List ℕ → Type 0) where
    pub data History : System → Type 0 where
      -- "begins on an erased chip with any state"
      begins : (m : Machine) → length m.journal ≡ n → Begins m.journal → History (unused t₀ m)
      -- a refused call: its arguments are any, of any kind of chip, and the definition refuses them. A run of another kind on the list's state is one that is lent a state with its
      -- numbers and another page or owner
      refused_recovery : {s : System} → History s → (e : Env) (other whose : ℕ) (l : Lent) (r : recovery.Outcome) → Recovers e other whose (given l s.machine) r
          → ¬ (r.answer ≡ recovery.Restored) → History (refused s l r)
      refused_run_of : {s : System} → History s → (e : Env) (l : Lent) (ρ' : List ℤ) (budget : ℕ) (outs : List ℤ)
          → ¬ Accepted (call_of e ρ' budget (given l s.machine) outs).ended
          → History (refused_run s l (call_of e ρ' budget (given l s.machine) outs))
      -- an accepted recovery, on any state
      recovers : {s : System} → History s → (words : List ℕ) → Words words → (r : recovery.Outcome) → Recovers (env_of p words) page owner s.machine r
          → r.answer ≡ recovery.Restored → History (restored s r)
      -- "A cut falls between two steps, in a recovery call too"
      crashes : {s : System} → History s → (m : Machine) → History (crashed s m)
      -- an accepted run: "The first of them, and the first after each cut, is a recovery", so the state is good
      runs : {s : System} → History s → s.good ≡ true → (r : Request) → Words r.words → Accepted (outcome_of s.machine r).ended → History (ran s r)
      -- a run that is cut: "It ends a run as a budget of the steps done would", which is r's
      crashed_run : {s : System} → History s → s.good ≡ true → (r : Request) → Words r.words → Accepted (outcome_of s.machine r).ended
          → (m : Machine) → History (crashed (ran s r) m)
