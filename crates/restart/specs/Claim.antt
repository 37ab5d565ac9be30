-- Demand 3 as one claim about histories: document 01, "Demand 3 is a single claim about the list, not one for each call." `Claim` holds of every history
-- (`claim` of proofs/Theorem.antt), and 01's own lists are an instance (`demand-3` there).
-- Assumes nothing.
use Rattle.std.specs.Prelude.{ℕ, ◌+◌, ◌*◌, ◌^◌, ◌≤◌, ◌<◌, ◌≡◌, Bool, true, cond, ◌&&◌, ◌||◌, List, [], ◌∷◌, ◌++◌, ◌⊎◌, ℤ, pos, negsuc, length, get_or, take, replicate, eqb}
use Rattle.instruction.specs.Bytes.{byte, cells_of, instruction_at_of}
use Rattle.instruction.specs.Table.{may_def_of}
use Rattle.program.specs.Places.{is_exclude, exclude_number}
use Rattle.cellset.specs.Bits.{member}
use Rattle.execution.specs.Effects.{count_full}
use Rattle.analysis.specs.Paths.{Live, Dead, Region}
use Rattle.analysis.specs.Analyse.{Analyses}
use Rattle.analysis.specs.Analyse.{Sets}
use Rattle.journal.specs.Format.{Checkpoint, unowned, owner_of_plan, format_for, chip_length}
use Rattle.journal.specs.Reading.{first, facts_of, last_of, own_all, saved_value}
use Rattle.journal.specs.Shape.{Shape}
use Rattle.step.specs.declared.Regs.{Regs}
use Rattle.step.specs.State.{Env, env_of, Machine}
use Rattle.run.specs.Run.{refusal_of, call_of}
use Rattle.step.specs.Ready.{Legal}
use Rattle.run.specs.Run.{Ended}
use Rattle.run.specs.Run.{Stopped, Spent}
use Rattle.recovery.specs.Recover as recovery
use Rattle.recovery.specs.Recover.{Recovers}
use Rattle.restart.specs.Reference.{Frame, zeros, frame_of, Numbered, numbered_from, ref_at, emitted, taken}
use Rattle.restart.specs.History.{System, Lent, given, refused, refused_run, Request, Accepted, wrote, lent, outcome_of, tally_after, ran, History}

-- ---- what a history rests on

-- a plan that check accepts, of bytes
pub record Plan (p : List ℕ) : Type 0 where
  pub legal : Legal p
  pub bytes : (k : ℕ) → get_or p k 0 < 256

-- words that a restart may rely on: a cell of DE is dead at each CHECKPOINT of the region, and no instruction of the region may write a cell of RO. Those that
-- analyse finds are so (`found-safe` of proofs/Sets.antt); larger or smaller sets may be too
pub record Safe (p words : List ℕ) : Type 0 where
  pub enough : 512 ≤ length words
  pub dead : (e c : ℕ) → is_exclude p e ≡ true → c < cells_of p → member words (8 * exclude_number p e) c ≡ 1 → (o : ℕ) → Region p e o → byte p o ≡ 0x0E → ¬ Live p c o
  pub kept : (e c : ℕ) → is_exclude p e ≡ true → c < cells_of p → member words (8 * exclude_number p e + 4) c ≡ 1 → (o : ℕ) → Region p e o
      → may_def_of (instruction_at_of p o) c ≡ 0

-- the checkpoints js take a run up where f stands: the last commit has its place and counts, the cells that are live there have their values, and the place lies
-- in the region of the last commit's EXCLUDE, if it has one
pub record Resumes (p : List ℕ) (js : List Checkpoint) (f : Frame) : Type 0 where
  pub place : (last_of first js).place ≡ f.pc
  pub readings : (last_of first js).readings ≡ f.readings
  pub outputs : (last_of first js).outputs ≡ f.outputs
  pub runs : f.stop ≡ 0
  pub size : length f.cells ≡ 256
  pub cells : (c : ℕ) → Live p c f.pc → saved_value c js 0 ≡ get_or f.cells c 0
  pub region : ¬ ((last_of first js).exclude ≡ 0) → Region p (last_of first js).exclude f.pc

-- every whole mark of the checkpoints js names the owner, which fits its field of a MARK
pub record Owned (owner : ℕ) (js : List Checkpoint) : Type 0 where
  pub all : own_all owner js ≡ true
  pub fits : owner < 2 ^ 32

-- a journal that can be taken up where f stands: whole sound checkpoints whose marks name the owner, then nothing or a part of one, then FF
pub record TakenUp (page owner : ℕ) (p : List ℕ) (f : Frame) (chip : List ℕ) : Type 0 where
  pub saves : List Checkpoint
  pub torn : List ℕ
  pub shape : Shape (facts_of (format_for page owner) p) chip saves torn
  pub owned : Owned owner saves
  pub resumes : Resumes p saves f

-- ---- the claim

-- "place, counts, kind of stop and every cell not dead before that place"
pub record Agrees (p : List ℕ) (f g : Frame) : Type 0 where
  pub pc : f.pc ≡ g.pc
  pub readings : f.readings ≡ g.readings
  pub outputs : f.outputs ≡ g.outputs
  pub stop : f.stop ≡ g.stop
  pub cells : (c : ℕ) → c < cells_of p → ¬ Dead p c f.pc → get_or f.cells c 0 ≡ get_or g.cells c 0

-- "Repetitions aside": without each output, number and value, that stands before it already
abbrev pub same_value : ℤ → ℤ → Bool
same_value (pos a) (pos b) = eqb a b
same_value (negsuc a) (negsuc b) = eqb a b
same_value (pos a) (negsuc b) = Bool.false
same_value (negsuc a) (pos b) = Bool.false

unfoldable pub stands : Numbered → List Numbered → Bool
stands o [] = Bool.false
stands o (x ∷ xs) = (eqb o.number x.number && same_value o.value x.value) || stands o xs

-- behind those of `seen`
unfoldable pub distinct : (seen : List Numbered) → List Numbered → List Numbered
distinct seen [] = seen
distinct seen (o ∷ os) = distinct (cond (stands o seen) seen (seen ++ o ∷ [])) os

-- a READ (7) or an EMIT (8) that stops since its count is full asks for a reading or a place first: one more, where the run stopped so at such a command
abbrev pub spare : List ℕ → (opcode : ℕ) → Frame → ℕ
spare p o f = cond (eqb f.stop count_full && eqb (byte p f.pc) o) 1 0

-- a run that starts at such counts is equipped for j of its steps on the way to where the uncut run is after k commands: its budget has them; it is lent the readings that
-- the uncut run takes until there, or all that remain, or one for each of the j steps; and places for the outputs that the uncut run gives until there, or one for each of the
-- j steps. Every run is equipped for 0 steps
pub record Equipped (p : List ℕ) (ρ : List ℤ) (f₀ : Frame) (k : ℕ) (at : Regs) (budget readings places j : ℕ) : Type 0 where
  pub steps : j ≤ budget
  pub reads : ((ref_at p ρ f₀ k).readings + spare p 0x07 (ref_at p ρ f₀ k) ≤ at.readings + readings) ⊎ ((length ρ ≤ at.readings + readings) ⊎ (j ≤ readings))
  pub gives : ((ref_at p ρ f₀ k).outputs + spare p 0x08 (ref_at p ρ f₀ k) ≤ at.outputs + places) ⊎ (j ≤ places)

module _ (p : List ℕ) (ρ : List ℤ) (f₀ : Frame) (n t₀ : ℕ) (Words : List ℕ → Type 0) where
  -- a run of the list that is equipped so
  abbrev pub Suffices : (k : ℕ) → System → Request → (j : ℕ) → Type 0
  Suffices k s r j =
      Words r.words × Equipped p ρ f₀ k s.machine.regs r.budget (length (lent p ρ s.machine r)) (length r.places) j

  -- such runs one after the other, with no recovery between, refused calls of any content among them; the steps that they are equipped for in all, and the last run's answer
  pub data Chain (k : ℕ) (s : System) : (steps : ℕ) → Ended → System → Type 0 where
    one : (r : Request) (j : ℕ) → Suffices k s r j → Chain k s j (outcome_of p ρ s.machine r).ended (ran p ρ s r)
    more : {i : ℕ} {x : Ended} {s' : System} → Chain k s i x s' → (r : Request) (j : ℕ) → Suffices k s' r j
        → Chain k s (i + j) (outcome_of p ρ s'.machine r).ended (ran p ρ s' r)
    beside_recovery : {i : ℕ} {x : Ended} {s' : System} → Chain k s i x s' → (e : Env) (other whose : ℕ) (l : Lent) (r : recovery.Outcome)
        → Recovers e other whose (given l s'.machine) r → ¬ (r.answer ≡ recovery.Restored) → Chain k s i x (refused s' l r)
    beside_run : {i : ℕ} {x : Ended} {s' : System} → Chain k s i x s' → (e : Env) (l : Lent) (ρ' : List ℤ) (budget : ℕ) (outs : List ℤ)
        → ¬ Accepted (call_of e ρ' budget (given l s'.machine) outs).ended
        → Chain k s i x (refused_run s' l (call_of e ρ' budget (given l s'.machine) outs))

  -- of a list for chips with pages of so many bytes, whose marks name the owner
  pub record Claim (page owner : ℕ) (s : System) : Type 0 where
    -- "After each accepted call that no cut ended, place, counts, kind of stop and every cell not dead before that place are the uncut run's after as many
    -- commands as the tally says."
    pub follows : s.good ≡ true → Agrees p (frame_of s.machine) (ref_at p ρ f₀ s.tally.retired)
    -- "Each accepted run, cut or not, takes the readings and writes the outputs, numbers and order included, that the uncut run has between the tallies before
    -- and after it."
    pub takes : s.good ≡ true → (r : Request) → Words r.words → let o = outcome_of p ρ s.machine r in
        numbered_from s.machine.regs.readings (take o.taken (lent p ρ s.machine r))
        ≡ taken p ρ f₀ s.tally.retired (tally_after p ρ s r).retired
    pub writes : s.good ≡ true → (r : Request) → Words r.words → let o = outcome_of p ρ s.machine r in
        wrote s.machine o ≡ emitted p ρ f₀ s.tally.retired (tally_after p ρ s r).retired
    -- as many as it answers
    pub counts : s.good ≡ true → (r : Request) → Words r.words → let o = outcome_of p ρ s.machine r in
        (o.taken ≡ length (taken p ρ f₀ s.tally.retired (tally_after p ρ s r).retired))
        × (o.written ≡ length (emitted p ρ f₀ s.tally.retired (tally_after p ρ s r).retired))
    -- "Repetitions aside, the outputs so far are the uncut run's up to the highest tally, after a stop all of them."
    pub outputs : distinct [] s.outputs ≡ emitted p ρ f₀ t₀ s.tally.highest
    pub all : ¬ ((ref_at p ρ f₀ s.tally.highest).stop ≡ 0) → (k : ℕ) → s.tally.highest ≤ k → distinct [] s.outputs ≡ emitted p ρ f₀ t₀ k
    pub stopped : s.good ≡ true → ¬ (s.machine.regs.stop ≡ 0) → ¬ ((ref_at p ρ f₀ s.tally.highest).stop ≡ 0)
    -- "With that plan, those sets and that chip, recovery never gives 12": with any state it has an outcome, and each is accepted, unless no chip of the kind has that length
    pub recoverable : chip_length page n ≡ true → (words : List ℕ) → Words words → (m : Machine) → m.journal ≡ s.machine.journal
        → (r : recovery.Outcome) × Recovers (env_of p words) page owner m r
    pub taken_up : chip_length page n ≡ true → (words : List ℕ) → Words words → (m : Machine) → m.journal ≡ s.machine.journal
        → (r : recovery.Outcome) → Recovers (env_of p words) page owner m r → r.answer ≡ recovery.Restored
    -- of what kind ever, it gives no number from 12 on: "A restart is promised, never 15 or 16, for a chip without `A2` marks and the very plan that wrote it"
    pub not_damaged : (words : List ℕ) → Words words → (m : Machine) → m.journal ≡ s.machine.journal
        → (r : recovery.Outcome) → Recovers (env_of p words) page owner m r → (k : ℕ) → 12 ≤ k → ¬ (r.answer ≡ recovery.Refused k)
    -- "and a run never gives 10 on a state that an accepted call left and no cut has since spoiled": it is never refused
    pub accepted : s.good ≡ true → (words : List ℕ) → Words words → refusal_of (env_of p words) s.machine ≡ 0
    -- "If the uncut run stops after n commands, at most n plus twice the chip's length steps follow an accepted recovery before the next"
    pub steps : (k : ℕ) → ¬ ((ref_at p ρ f₀ k).stop ≡ 0) → s.steps ≤ k + 2 * n
    -- "so accepted runs given budget, readings and room, with no recovery between, reach that stop."
    pub stops : s.good ≡ true → (k : ℕ) → ¬ ((ref_at p ρ f₀ k).stop ≡ 0) → (j : ℕ) (x : Ended) (s' : System) → Chain k s j x s' → k + 2 * n ≤ j
        → x ≡ Stopped (ref_at p ρ f₀ k).stop
    -- on the way there a run that is equipped for its whole budget spends it: it ends neither for want of a reading nor of a place
    pub spends : s.good ≡ true → (k : ℕ) → ¬ ((ref_at p ρ f₀ k).stop ≡ 0) → (r : Request) → Suffices k s r r.budget
        → let x = (outcome_of p ρ s.machine r).ended in (x ≡ Spent) ⊎ (x ≡ Stopped (ref_at p ρ f₀ k).stop)

-- ---- 01's own lists

-- "begins on an erased chip"
abbrev pub Erased : ℕ → List ℕ → Type 0
Erased n chip = chip ≡ replicate n 0xFF

-- "the sets found for it": an accepted call of analyse left these words, in a buffer whose later words are any
pub record Found (p words : List ℕ) : Type 0 where
  pub lent : List ℕ
  pub dead_lent : List ℕ
  pub dead : List ℕ
  pub cells : ℕ
  pub instructions : ℕ
  pub excludes : ℕ
  pub analyses : Analyses p dead_lent lent dead words (Sets cells instructions excludes)

-- the marks of a list's chip name its plan, as Q-8 has it, or no plan, as document 01 has it
abbrev pub Names : (p : List ℕ) → (owner : ℕ) → Type 0
Names p owner = (owner ≡ owner_of_plan p) ⊎ (owner ≡ unowned)

-- demand 3 for chips with pages of so many bytes: for every accepted plan, either kind of mark, all readings, every chip's length and every list. `Demand3 1` is the byte chip's,
-- with `unowned` as document 01 has it, and `Demand3 16` the page chip's: "The restart claim is wanted for this chip beside the byte chip"
abbrev pub Demand3 : (page : ℕ) → Type 0
Demand3 page =
    (p : List ℕ) → Plan p → (owner : ℕ) → Names p owner → (ρ : List ℤ) (n : ℕ) (words : List ℕ) → Found p words → (s : System)
    → History p ρ page owner n 0 (Erased n) (λ w. w ≡ words) s → Claim p ρ zeros n 0 (λ w. w ≡ words) page owner s
