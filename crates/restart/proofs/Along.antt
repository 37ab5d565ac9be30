-- Along a run: the invariant holds at each step, and the readings taken and the outputs given since its beginning are the reference run's between the tallies.
-- Assumes nothing.
use Prim.Native.Nat.{ℕ, zero, suc, ◌+◌, ◌≤◌, ◌<◌, max}
use mathlib.Core.Path.{◌≡◌, refl, sym, ◌∙◌, ap, ap₂, subst}
use mathlib.Core.List.{List, [], ◌∷◌, ◌++◌, append-nil}
use mathlib.Core.Logic.{⊎_elim}
use native.Mathlib.Nat.{eq-zero-or-pos}
use native.Mathlib.Omega.{arith}
use lib.IntN.{ℤ, pos}
use lib.ListN.{length, get_or, take, drop, length-append, length-take, length-drop}
use lib.Seq.{get_or-take, get_or-drop, take-suc, length-take-le}
use lib.Dec.{eqb}
use borrow.Author.Tests.{eqb-true, eqb-false}
use Rattle.program.proofs.Tests.{bool_cases}
use Rattle.step.specs.State.{env_of, Machine}
use Rattle.step.specs.Step.{due_opcode_of, given_of, taken_of}
use Rattle.run.specs.Run.{Call, started, stepped}
use Rattle.run.proofs.Laws as laws
use Rattle.run.proofs.Laws.{Goes}
use Rattle.restart.specs.Reference.{Frame, Numbered, numbered_from, ref_at, emitted, taken}
use Rattle.restart.specs.History.{Tally, commits, tallied, tallied_over}
use Rattle.restart.specs.Claim.{Plan, Safe}
use Rattle.restart.proofs.Invariant.{Inv}
use Rattle.restart.proofs.Frames.{emitted-none, emitted-join, taken_none, taken-join}
use Rattle.restart.proofs.Steps.{Fed, inv-step}
use Rattle.restart.proofs.Giving.{Shows, shows}
use Rattle.restart.proofs.Stopping.{runs-before}
use Rattle.restart.proofs.Traces.{Trace, none, more}

-- ---- lists

numbered-append : (m : ℕ) (xs ys : List ℤ) → numbered_from m (xs ++ ys) ≡ numbered_from m xs ++ numbered_from (m + length xs) ys
unfolding numbered_from
numbered-append m [] ys = let e : m ≡ m + 0 = omega arith in ap (λ (k : ℕ). numbered_from k ys) e
numbered-append m (x ∷ xs) ys =
    let e : suc m + length xs ≡ m + suc (length xs) = omega arith in
    ap (λ (l : List Numbered). record { number = m; value = x } ∷ l)
    (numbered-append (suc m) xs ys ∙ ap (λ (k : ℕ). numbered_from (suc m) xs ++ numbered_from k ys) e)

-- one element more, or none
take_more : (l : List ℤ) (a b : ℕ) → b ≤ 1 → (0 < b → a < length l) → take (a + b) l ≡ take a l ++ take b (get_or l a (pos 0) ∷ [])
take_more l a zero h f = let e : a + 0 ≡ a = omega arith in rw e (sym (append-nil (take a l)))
take_more l a (suc zero) h f = let e : a + 1 ≡ suc a = omega arith in rw e (take-suc l a (pos 0) (f (omega arith)))
take_more l a (suc (suc b)) h f = absurd (omega arith)

-- a reading lent is one of the list's
lent_at : (ρ : List ℤ) (r a i : ℕ) → i < length (take a (drop r ρ)) → (r + i < length ρ) × (get_or (take a (drop r ρ)) i (pos 0) ≡ get_or ρ (r + i) (pos 0))
lent_at ρ r a i h =
    let t = length-take a (drop r ρ) in
    let d = length-drop r ρ in
    (omega arith, get_or-take a (drop r ρ) i (pos 0) (omega arith) ∙ get_or-drop r ρ i (pos 0))

-- what the highest tally is over a step
tallied-top : (p : List ℕ) (m : Machine) (t : Tally) → (tallied p m t).highest ≡ max t.highest (tallied p m t).retired
unfolding tallied
tallied-top p m t = refl

-- what was committed is not taken back
tallied-committed : (p : List ℕ) (m : Machine) (t : Tally) → t.committed ≤ t.retired → t.committed ≤ (tallied p m t).committed
unfolding tallied
tallied-committed p m t h = bool_cases (commits p m) (λ b. rw b (omega arith)) (λ b. rw b (omega arith))

-- ---- along the steps

-- the call c has come from m₀ and the tally t₀ to the tally t, k steps after the recovery
pub record Standing (p : List ℕ) (ρ : List ℤ) (f₀ : Frame) (n : ℕ) (m₀ : Machine) (t₀ : Tally) (a room : ℕ) (c : Call) (t : Tally) (k : ℕ) : Type 0 where
  pub inv : Inv p ρ f₀ n c.machine t k
  pub readings : c.machine.regs.readings ≡ m₀.regs.readings + c.taken
  pub outputs : c.machine.regs.outputs ≡ m₀.regs.outputs + length c.given
  pub took : numbered_from m₀.regs.readings (take c.taken (take a (drop m₀.regs.readings ρ))) ≡ taken p ρ f₀ t₀.retired t.retired
  pub gave : numbered_from m₀.regs.outputs c.given ≡ emitted p ρ f₀ t₀.retired t.retired
  pub taken_most : c.taken ≤ length (take a (drop m₀.regs.readings ρ))
  pub given_most : length c.given ≤ room
  pub rises : t₀.retired ≤ t.retired
  pub top : t.highest ≡ max t₀.highest t.retired
  pub since : t₀.committed ≤ t.committed
  pub within : (j : ℕ) → ¬ ((ref_at p ρ f₀ j).stop ≡ 0) → t.retired ≤ j

module _ (p : List ℕ) (ρ : List ℤ) (f₀ : Frame) (plan : Plan p) (words : List ℕ) (safe : Safe p words) (n : ℕ) (m₀ : Machine) (t₀ : Tally) (a room : ℕ) where
  abbrev lent : List ℤ
  lent = take a (drop m₀.regs.readings ρ)

  abbrev At : Call → Tally → ℕ → Type 0
  At = Standing p ρ f₀ n m₀ t₀ a room

  pub standing-first : (k : ℕ) → Inv p ρ f₀ n m₀ t₀ k → ((j : ℕ) → ¬ ((ref_at p ρ f₀ j).stop ≡ 0) → t₀.retired ≤ j) → At (started m₀) t₀ k
  unfolding numbered_from
  standing-first k i w = record {
    inv = i;
    readings = omega arith;
    outputs = omega arith;
    took = sym (taken_none p ρ f₀ t₀.retired);
    gave = sym (emitted-none p ρ f₀ t₀.retired);
    taken_most = omega arith;
    given_most = omega arith;
    rises = omega arith;
    top = omega (arith, i.high);
    since = omega arith;
    within = w;
  }

  module _ (c : Call) (t : Tally) (k : ℕ) (s : At c t k) {left : ℕ} (g : Goes p (suc left) (length lent) room c) where
    abbrev v : ℤ
    v = get_or lent c.taken (pos 0)

    -- where a READ is due a reading is left
    reading-left : due_opcode_of p c.machine ≡ 0x07 → c.taken < length lent
    reading-left d = let z : ¬ (c.taken ≡ length lent) = g.reading d in omega (arith, s.taken_most)

    fed : Fed p ρ v c.machine
    fed d =
        let l = lent_at ρ m₀.regs.readings a c.taken (reading-left d) in
        rw s.readings l

    shown : Shows p words ρ f₀ v c.machine t
    shown = shows p ρ f₀ plan words safe n v c.machine t k s.inv g.runs fed

    -- what it takes is left, and what it gives has a place
    takes-left : 0 < taken_of p v c.machine → c.taken < length lent
    takes-left h =
        bool_cases (eqb (due_opcode_of p c.machine) 0x07)
        (λ b. reading-left (eqb-true _ _ b))
        (λ b. absurd (omega (arith, laws.taken_none p c.machine v (eqb-false (due_opcode_of p c.machine) 0x07 b))))

    gives-place : length c.given + length (given_of p v c.machine) ≤ room
    gives-place =
        bool_cases (eqb (due_opcode_of p c.machine) 0x08)
        (λ b.
        let z : ¬ (length c.given ≡ room) = g.place (eqb-true _ _ b) in
        omega (arith, s.given_most, laws.given-one p c.machine v))
        (λ b. omega (arith, s.given_most, ap length (laws.given-none p c.machine v (eqb-false (due_opcode_of p c.machine) 0x08 b))))

    took-most : c.taken + taken_of p v c.machine ≤ length lent
    took-most =
        ⊎_elim
        (λ z. omega (arith, z, s.taken_most))
        (λ z. omega (arith, laws.taken-one p c.machine v, takes-left z))
        (eq-zero-or-pos (taken_of p v c.machine))

    took_more : numbered_from m₀.regs.readings (take (c.taken + taken_of p v c.machine) lent)
        ≡ taken p ρ f₀ t₀.retired (tallied p c.machine t).retired
    took_more =
        let x = taken_of p v c.machine in
        let e : m₀.regs.readings + length (take c.taken lent) ≡ c.machine.regs.readings =
        omega (arith, length-take-le c.taken lent s.taken_most, s.readings) in
        ap (numbered_from m₀.regs.readings) (take_more lent c.taken x (laws.taken-one p c.machine v) takes-left)
        ∙ numbered-append m₀.regs.readings (take c.taken lent) (take x (v ∷ []))
        ∙ ap₂ (λ (l r : List Numbered). l ++ r) s.took (ap (λ (i : ℕ). numbered_from i (take x (v ∷ []))) e ∙ shown.readings)
        ∙ sym (taken-join p ρ f₀ t₀.retired t.retired (tallied p c.machine t).retired s.rises shown.retired_after.0)

    gave-more : numbered_from m₀.regs.outputs (c.given ++ given_of p v c.machine)
        ≡ emitted p ρ f₀ t₀.retired (tallied p c.machine t).retired
    gave-more =
        numbered-append m₀.regs.outputs c.given (given_of p v c.machine)
        ∙ ap₂ (λ (l r : List Numbered). l ++ r) s.gave
        (ap (λ (i : ℕ). numbered_from i (given_of p v c.machine)) (sym s.outputs) ∙ shown.outputs)
        ∙ sym (emitted-join p ρ f₀ t₀.retired t.retired (tallied p c.machine t).retired s.rises shown.retired_after.0)

    pub standing-step : At (stepped (env_of p words) lent c) (tallied p c.machine t) (suc k)
    unfolding stepped
    standing-step =
        let one = laws.taken-one p c.machine v in
        let y = shown in
        let r = y.retired_after in
        record {
          inv = inv-step p ρ f₀ plan words safe n v c.machine t k s.inv g.runs fed;
          readings = omega (arith, y.readings_after_of, s.readings);
          outputs = omega (arith, y.outputs_after_of, s.outputs, length-append c.given (given_of p v c.machine));
          took = took_more;
          gave = gave-more;
          taken_most = took-most;
          given_most = omega (arith, gives-place, length-append c.given (given_of p v c.machine));
          rises = omega (arith, s.rises, r.0);
          top = omega (arith, tallied-top p c.machine t, s.top, r.0);
          since = omega (arith, s.since, tallied-committed p c.machine t s.inv.order);
          within = λ j z. omega (arith, r.1, runs-before p ρ f₀ t.retired j (sym s.inv.held.follows.stop ∙ g.runs) z);
        }

  -- ALONG EVERY RUN
  pub standing-over : {c d : Call} {j : ℕ} (t : Tally) (k : ℕ) → At c t k → Trace (env_of p words) lent room c j d
      → At d (tallied_over (env_of p words) lent j c t) (k + j)
  unfolding tallied_over
  standing-over {c} t k s none = let e : k ≡ k + 0 = omega arith in subst (At c t) e s
  standing-over {c} {d} t k s (more {k = j} g r) =
      let e : suc k + j ≡ k + suc j = omega arith in
      subst (At d (tallied_over (env_of p words) lent (suc j) c t)) e
      (standing-over (tallied p c.machine t) (suc k) (standing-step c t k s g) r)
