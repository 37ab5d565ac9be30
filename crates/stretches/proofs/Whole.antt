-- The loop over stretches: what holds before each, that one which goes on made a step, and that one which does not ends the one run over all.
-- Assumes nothing.
use Prim.Native.Nat.{ℕ, ◌+◌, ◌-◌, ◌*◌, ◌/◌, ◌≤◌, ◌<◌}
use mathlib.Core.Path.{◌≡◌, refl, sym, ◌∙◌, ap, subst}
use mathlib.Core.Bool.{true, false}
use mathlib.Core.List.{List, [], ◌++◌}
use native.Mathlib.Omega.{arith}
use lib.IntN.{ℤ}
use lib.ListN.{length, take, length-append}
use lib.Seq.{sets, length-sets}
use Rattle.step.specs.State.{Env, Machine}
use Rattle.run.specs.Run.{Call, Finish, Outcome, outcome, outcome_of, refused_with, started, refusal_of, answer_of}
use Rattle.run.specs.Run.{Ended}
use Rattle.run.specs.Run.{Refused}
use Rattle.layout.specs.Numbers.{signed_of, signed_bytes}
use Rattle.layout.proofs.Laws.{stores-join, signed-bytes-append, signed-bytes-length}
use Rattle.stretches.specs.Stretches.{goes_on_of, StretchIs, WholeIs, WholeOf}
use Rattle.stretches.proofs.Running.{resumed, call-is, call-number, call-refused, finish_in, stretch-run, stretch-given, signed-of-length}
use Rattle.stretches.proofs.Stretches.{Standing, Joins, joins}

-- where a call stands, with the outputs given so far
abbrev stands_at : Machine → (steps taken : ℕ) → List ℤ → Call
stands_at m steps taken given = record { machine = m; steps = steps; taken = taken; given = given }

-- the one run over all, with the places of the buffer
abbrev whole_of : Env → List ℤ → (budget : ℕ) → Machine → List ℕ → Finish
whole_of e ρ budget m₀ b₀ = resumed e ρ (length b₀ / 4) (budget - 0) (started m₀)

-- the call stands where stretches of the one run left it, and its outputs are stored
pub record Stands (e : Env) (ρ : List ℤ) (budget : ℕ) (m₀ : Machine) (b₀ : List ℕ) (m : Machine) (steps taken written : ℕ) (b : List ℕ) : Type 0 where
  pub given : List ℤ
  pub count : length given ≡ written
  pub stored : b ≡ sets b₀ 0 (signed_bytes given)
  pub standing : Standing e ρ (length b₀ / 4) budget (whole_of e ρ budget m₀ b₀) (stands_at m steps taken given)

-- so it does before the first
pub stands-first : {e : Env} {ρ : List ℤ} {budget : ℕ} {m : Machine} {b : List ℕ} → length m.cells ≡ 256 → length m.marks ≡ 256
    → Stands e ρ budget m b m 0 0 0 b
unfolding signed_bytes
stands-first x y =
    record {
      given = [];
      count = refl;
      stored = refl;
      standing = record { steps = omega arith; taken = omega arith; given = omega arith; cells = x; marks = y; whole = refl };
    }

-- its numbers are within what is lent
pub stands-within : {e : Env} (r : List ℕ) {budget : ℕ} {m₀ : Machine} {b₀ : List ℕ} {m : Machine} {steps taken written : ℕ} {b : List ℕ}
    → Stands e (signed_of r) budget m₀ b₀ m steps taken written b → (steps ≤ budget) × (taken ≤ length r / 4) × (written ≤ length b₀ / 4)
stands-within r h = (h.standing.steps, omega (arith, h.standing.taken, signed-of-length r), omega (arith, h.standing.given, h.count))

module _ {e : Env} {ρ : List ℤ} {budget : ℕ} {m₀ : Machine} {b₀ : List ℕ} {m₁ : Machine} {s₁ t₁ w₁ : ℕ} {b₁ : List ℕ} {x : Ended} {m : Machine}
    {steps taken written : ℕ} {b : List ℕ} (h : Stands e ρ budget m₀ b₀ m₁ s₁ t₁ w₁ b₁) (s : StretchIs e ρ (budget - s₁) t₁ w₁ m₁ b₁ x m steps taken written b) where
  -- the buffer has its length
  size : length b₁ ≡ length b₀
  size = ap length h.stored ∙ length-sets b₀ 0 (signed_bytes h.given)

  -- the stretch's outputs are counted on
  counted : length (h.given ++ take written s.outputs) ≡ w₁ + written
  counted = omega (arith, length-append h.given (take written s.outputs), h.count, stretch-given s)

  -- and stored behind those before
  stored_on : b ≡ sets b₀ 0 (signed_bytes (h.given ++ take written s.outputs))
  stored_on =
      let z : 4 * w₁ ≡ 0 + length (signed_bytes h.given) = omega (arith, signed-bytes-length h.given, h.count) in
      let new = signed_bytes (take written s.outputs) in
      s.stored
      ∙ (λ i. sets (h.stored i) (z i) new)
      ∙ stores-join b₀ 0 (signed_bytes h.given) new
      ∙ ap (sets b₀ 0) (sym (signed-bytes-append h.given (take written s.outputs)))

  -- it is a stretch of the one run
  joined-on : Joins e ρ (length b₀ / 4) budget (whole_of e ρ budget m₀ b₀) (stands_at m₁ s₁ t₁ h.given) (finish_in (outcome x m steps taken written s.outputs))
  joined-on =
      subst (Joins e ρ (length b₀ / 4) budget (whole_of e ρ budget m₀ b₀) (stands_at m₁ s₁ t₁ h.given)) (sym (stretch-run s))
      (joins e ρ (length b₀ / 4) budget (whole_of e ρ budget m₀ b₀) (stands_at m₁ s₁ t₁ h.given) h.standing s.count (length s.places) s.lends
      (rw (h.count, ← size) s.room))

  -- so the call stands again
  pub stands-next : Stands e ρ budget m₀ b₀ m (s₁ + steps) (t₁ + taken) (w₁ + written) b
  stands-next = record { given = h.given ++ take written s.outputs; count = counted; stored = stored_on; standing = joined-on.standing }

  module _ {n : ℕ} (all : length ρ ≡ n) where
    -- where it goes on, it made a step
    pub stands-moves : goes_on_of x n (t₁ + taken) (length b₀ / 4) (w₁ + written) ≡ true → 0 < steps
    stands-moves g = joined-on.moves (rw (all, counted) g)

    -- where it does not, it is the one run
    pub stands-ends : goes_on_of x n (t₁ + taken) (length b₀ / 4) (w₁ + written) ≡ false → WholeIs e ρ budget m₀ b₀ x m (s₁ + steps) (t₁ + taken) (w₁ + written) b
    stands-ends g =
        let given = h.given ++ take written s.outputs in
        let z : budget - 0 ≡ budget = omega arith in
        record {
          given = given;
          count = counted;
          fits = omega (arith, joined-on.standing.given, counted);
          is =
              λ places k.
              ap (λ (n : ℕ). outcome x m (s₁ + steps) (t₁ + taken) n (sets places 0 given)) (sym counted)
              ∙ ap (λ (f : Finish). outcome_of f places) (sym (joined-on.ends (rw (all, counted) g)))
              ∙ (λ i. outcome_of (resumed e ρ (sym k i) (z i) (started m₀)) places)
              ∙ sym (call-is e ρ budget m₀ places);
          stored = stored_on;
        }

-- a refused stretch is the first, and leaves all as it was lent
module _ {e : Env} {ρ : List ℤ} {budget : ℕ} {m₀ : Machine} {b₀ : List ℕ} {m₁ : Machine} {s₁ t₁ w₁ : ℕ} {b₁ : List ℕ} {n : ℕ} {m : Machine} {b : List ℕ}
    (h : Stands e ρ budget m₀ b₀ m₁ s₁ t₁ w₁ b₁) (s : StretchIs e ρ (budget - s₁) t₁ w₁ m₁ b₁ (Refused n) m 0 0 0 b) (some : ¬ (n ≡ 0)) where
  ended_here : WholeIs e ρ budget m₀ b₀ (Refused n) m (s₁ + 0) (t₁ + 0) (w₁ + 0) b
  ended_here = stands-ends h s refl refl

  as_lent : outcome (Refused n) m (s₁ + 0) (t₁ + 0) (w₁ + 0) (sets (signed_of b₀) 0 ended_here.given) ≡ refused_with (refusal_of e m₀) m₀ (signed_of b₀)
  as_lent =
      let called = ended_here.is (signed_of b₀) (signed-of-length b₀) in
      called
      ∙ call-refused e ρ budget m₀ (signed_of b₀)
      (λ z. some (ap (λ (o : Outcome). (answer_of o.ended).number) called ∙ call-number e ρ budget m₀ (signed_of b₀) ∙ z))

  pub stands-refused : (m ≡ m₀) × WholeIs e ρ budget m₀ b₀ (Refused n) m 0 0 0 b
  stands-refused =
      let steps = ap (λ (o : Outcome). o.steps) as_lent in
      let taken = ap (λ (o : Outcome). o.taken) as_lent in
      let written = ap (λ (o : Outcome). o.written) as_lent in (
        ap (λ (o : Outcome). o.machine) as_lent,
        subst (λ (o : Outcome). WholeOf e ρ budget m₀ b₀ o b) (λ i. outcome (Refused n) m (steps i) (taken i) (written i) []) ended_here,
      )
