-- What `analyse` answers, and what it leaves in the two lent buffers: document 01, "The sets".
-- Assumes nothing.
use Rattle.std.specs.Prelude.{ℕ, ◌+◌, ◌*◌, ◌≤◌, ◌<◌, ◌≡◌, List, [], ◌∷◌, Bool, true, cond, ◌||◌, ◌⊎◌, length, get_or, ltb, Result, Ok, Err}
use Rattle.cellset.specs.Bits.{member}
use Rattle.instruction.specs.Bytes.{cells_of}
use Rattle.instruction.specs.Table.{must_def_of}
use Rattle.instruction.specs.declared.Instruction.{Instruction}
use Rattle.program.specs.Starts.{starts, excludes}
use Rattle.program.specs.Check.{Answer, check_of}
use Rattle.program.specs.Grounds.{Allowed, Counts, CallGround}
use Rattle.program.specs.Places.{is_exclude, exclude_number}
use Rattle.program.specs.Check.{Checked}
use Rattle.program.specs.Check as checked
use Rattle.graph.specs.Tables.{count_of, start_of}
use Rattle.analysis.specs.Paths.{Live, Dead, DEBy, RO, LiveSaveBy, Written}
use Rattle.program.specs.Refusal.{refusal_number}
use Rattle.program.specs.declared.Sizes.{Sizes}
use Rattle.program.specs.declared.refusal.Refusal.{Refusal}

-- 9, "a word buffer too short": "of at least 2,048 and 512 words"
abbrev pub too_short : (dead sets : ℕ) → Bool
too_short dead sets = ltb dead 2048 || ltb sets 512

-- what analyse gives: the program's sizes, or the number of a refusal
pub data Analysed : Type 0 where
  Sets : (cells instructions excludes : ℕ) → Analysed
  Refused : ℕ → Analysed

abbrev pub analysed_of : Result Sizes Refusal → Analysed
analysed_of (Ok s) = Sets s.cells s.instructions s.excludes
analysed_of (Err r) = Refused (refusal_number r)

-- "Analyse checks too": the refusals 1 to 8 come before 9
abbrev pub analysed_from : Checked → Bool → Analysed
analysed_from (checked.Refused n) short = Refused n
analysed_from (checked.Program cells instructions excludes) short = cond short (Refused 9) (Sets cells instructions excludes)

-- the answer for a program and buffers of so many words
unfoldable pub analyse_of : List ℕ → (dead sets : ℕ) → Analysed
analyse_of p dead sets = analysed_from (check_of p) (too_short dead sets)

-- it in 01's terms; an accepted answer carries check's three numbers
abbrev pub answer_of : Analysed → Answer
answer_of (Sets cells instructions excludes) = record { number = 0; values = cells ∷ instructions ∷ excludes ∷ [] }
answer_of (Refused n) = record { number = n; values = [] }

-- "the dead set of each command in offset order, four words each"; "bits of cells that don't exist are 0"; "Later words remain".
-- A set bit is a dead cell, and a clear bit of a cell that exists has a path; d₀ is the buffer as it was lent
pub record DeadSets (p d₀ d : List ℕ) : Type 0 where
  pub size : length d ≡ length d₀
  pub dead : (i c : ℕ) → i < count_of p → c < 256 → member d (4 * i) c ≡ 1 → Dead p c (start_of p i)
  pub live : (i c : ℕ) → i < count_of p → c < cells_of p → member d (4 * i) c ≡ 0 → Live p c (start_of p i)
  pub rest : (k : ℕ) → 4 * count_of p ≤ k → get_or d k 0 ≡ get_or d₀ k 0

-- "and DE then RO for each EXCLUDE, eight words": that of the EXCLUDE at e, by its number in order. DE goes by what a command must write, RO does not
pub record ExcludeSetsBy (must : Instruction → ℕ → ℕ) (p s₀ s : List ℕ) : Type 0 where
  pub size : length s ≡ length s₀
  pub de : (e c : ℕ) → is_exclude p e ≡ true → c < 256 → member s (8 * exclude_number p e) c ≡ 1 → DEBy must p e c
  pub no_de : (e c : ℕ) → is_exclude p e ≡ true → c < cells_of p → member s (8 * exclude_number p e) c ≡ 0 → LiveSaveBy must p e c
  pub ro : (e c : ℕ) → is_exclude p e ≡ true → c < 256 → member s (8 * exclude_number p e + 4) c ≡ 1 → RO p e c
  pub no_ro : (e c : ℕ) → is_exclude p e ≡ true → c < cells_of p → member s (8 * exclude_number p e + 4) c ≡ 0 → Written p e c
  pub rest : (k : ℕ) → 8 * excludes p (starts p) ≤ k → get_or s k 0 ≡ get_or s₀ k 0

abbrev pub ExcludeSets : List ℕ → List ℕ → List ℕ → Type 0
ExcludeSets = ExcludeSetsBy must_def_of

-- the grounds of its refusals, from the rows of document 01's table: 1 to 8 check's, 9 "a word buffer too short"; it has no other
abbrev pub Ground : List ℕ → (dead sets : ℕ) → ℕ → Type 0
Ground p dead sets = CallGround p ((dead < 2048) ⊎ (sets < 512)) (λ n. ⊥)

-- what analyse promises of its answer and of the buffers, from d₀ and s₀ as they were lent: "a refusal alters nothing lent"
pub record Analyses (p d₀ s₀ d s : List ℕ) (r : Analysed) : Type 0 where
  pub answer : r ≡ analyse_of p (length d₀) (length s₀)
  -- in 01's terms the one that the grounds allow, with check's three numbers
  pub ruled : Allowed (Ground p (length d₀) (length s₀)) (Counts p) (answer_of r)
  pub refused : (n : ℕ) → r ≡ Refused n → (d ≡ d₀) × (s ≡ s₀)
  pub filled : (cells instructions excludes : ℕ) → r ≡ Sets cells instructions excludes → DeadSets p d₀ d × ExcludeSets p s₀ s
