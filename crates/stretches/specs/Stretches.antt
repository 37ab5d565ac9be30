-- What the functions that run stretch by stretch promise.
-- Assumes nothing.
use Rattle.std.specs.Prelude.{ℕ, ◌-◌, ◌*◌, ◌/◌, ◌≤◌, ◌<◌, ◌≡◌, Bool, false, List, ℤ, length, take, drop, ltb}
use Rattle.std.proofs.lemmas.List.Edits.{sets}
use Rattle.step.specs.State.{Env, Machine}
use Rattle.run.specs.Run.{Outcome, outcome, call_of}
use Rattle.run.specs.Run.{Ended}
use Rattle.run.specs.Run.{Refused, Stopped, Spent, NoReading, BufferFull}
use Rattle.layout.specs.Numbers.{signed_bytes}

-- n of the rest, and some where there are some and the budget is not spent
pub record Lends (rest budget n : ℕ) : Type 0 where
  pub within : n ≤ rest
  pub some : 0 < rest → 0 < budget → 0 < n

-- the run goes on where the machine wants a reading and one is left, or a place
abbrev pub goes_on_of : Ended → (readings taken places written : ℕ) → Bool
goes_on_of (Refused k) n t m w = false
goes_on_of (Stopped k) n t m w = false
goes_on_of Spent n t m w = false
goes_on_of NoReading n t m w = ltb t n
goes_on_of BufferFull n t m w = ltb w m

-- a run of m₀ over some of the readings behind the first t, with some of the places behind the first w; its outputs stand in the buffer from there on
pub record StretchIs (e : Env) (ρ : List ℤ) (budget t w : ℕ) (m₀ : Machine) (b₀ : List ℕ) (x : Ended) (m : Machine) (steps taken written : ℕ) (b : List ℕ) : Type 0 where
  pub count : ℕ
  pub lends : Lends (length ρ - t) budget count
  pub places : List ℤ
  pub room : Lends (length b₀ / 4 - w) budget (length places)
  pub outputs : List ℤ
  pub is : outcome x m steps taken written outputs ≡ call_of e (take count (drop t ρ)) budget m₀ places
  pub stored : b ≡ sets b₀ (4 * w) (signed_bytes (take written outputs))

-- the same of what a call leaves, with its outputs in the buffer
abbrev pub StretchOf : Env → (ρ : List ℤ) → (budget t w : ℕ) → Machine → (b₀ : List ℕ) → Outcome → (b : List ℕ) → Type 0
StretchOf e ρ budget t w m₀ b₀ o b = StretchIs e ρ budget t w m₀ b₀ o.ended o.machine o.steps o.taken o.written b

-- the run over all readings, with any places as many as the buffer has; its outputs stand in the buffer's front
pub record WholeIs (e : Env) (ρ : List ℤ) (budget : ℕ) (m₀ : Machine) (b₀ : List ℕ) (x : Ended) (m : Machine) (steps taken written : ℕ) (b : List ℕ) : Type 0 where
  pub given : List ℤ
  pub count : length given ≡ written
  pub fits : written ≤ length b₀ / 4
  pub is : (places : List ℤ) → length places ≡ length b₀ / 4 → outcome x m steps taken written (sets places 0 given) ≡ call_of e ρ budget m₀ places
  pub stored : b ≡ sets b₀ 0 (signed_bytes given)

-- the same of what a call leaves, with its outputs in the buffer
abbrev pub WholeOf : Env → (ρ : List ℤ) → (budget : ℕ) → Machine → (b₀ : List ℕ) → Outcome → (b : List ℕ) → Type 0
WholeOf e ρ budget m₀ b₀ o b = WholeIs e ρ budget m₀ b₀ o.ended o.machine o.steps o.taken o.written b
