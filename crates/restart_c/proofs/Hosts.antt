-- The loop of examples/host.c: call after call while the budget is spent, each with a budget of j steps, the next j readings or those that remain, and j places (BUDGET is j
-- there). Where the uncut run stops, each call answers that the budget is spent, or that stop, and in so many calls it is the stop; so the loop ends, with the stop (`loop-ends`). A plan that
-- gives two outputs and ends, with one step and one place a call, is shown (`twice_ends`).
-- Assumes nothing.
use Prim.Native.Nat.{ℕ, zero, suc, ◌+◌, ◌*◌, ◌≤◌}
use mathlib.Core.Path.{◌≡◌, refl, sym, ap, subst}
use mathlib.Core.Bool.{true}
use mathlib.Core.List.{List, [], ◌∷◌}
use mathlib.Core.Logic.{◌⊎◌, inr, ⊎_elim}
use native.Mathlib.Nat.{add-zero, mul-le-mul_left}
use native.Mathlib.Omega.{arith}
use lib.IntN.{ℤ}
use lib.ListN.{length, get_or, take, drop, replicate, length-replicate}
use lib.Seq.{drop-nil}
use Rattle.layout.specs.Numbers.{signed_from, signed_of}
use Rattle.journal.specs.Format.{owner_of_plan}
use Rattle.layout.specs.Layout.{machine_in}
use Rattle.execution.specs.Effects.{ended}
use Rattle.pitskelo.specs.Runs.{RunLent, RunLeft, run_call_of, RecoverCall}
use Rattle.restart.specs.Reference.{zeros, ref_at}
use Rattle.restart.specs.Claim.{Plan, Erased}
use Rattle.restart.proofs.Hosts.{next-lent}
use Rattle.restart.proofs.Examples.{twice, twice-plan, twice-stop}
use Rattle.restart_c.specs.Calls.{Board, fresh, restored, ran, Lends, Calls, begins, recovers, runs, Suffices, Chain, one, more, Found}
use Rattle.restart_c.proofs.Theorem.{demand-3}

-- as many calls as steps are enough
most : (a j : ℕ) → 1 ≤ j → a ≤ (1 + a) * j
most a j l = let h : (1 + a) * 1 ≤ (1 + a) * j = mul-le-mul_left (1 + a) l in omega (arith, h)

module _ (page : ℕ) (p ws : List ℕ) (ρ : List ℤ) (n j : ℕ) where
  -- the sets' bytes that the host lends
  abbrev Own : List ℕ → Type 0
  Own v = v ≡ ws

  -- what the host lends for a call
  pub record HostCall (b : Board) (l : RunLent) : Type 0 where
    pub lends : Lends page p ρ Own b l
    pub budget : l.budget ≡ j
    pub readings : lends.count ≡ j
    pub places : length (signed_of l.outputs) ≡ j

  -- so many calls, each behind one whose ended is 4, what the last of them left, and the board behind it
  pub data Loop (b : Board) : (calls : ℕ) → RunLeft → Board → Type 0 where
    once : (l : RunLent) → HostCall b l → Loop b 1 (run_call_of l) (ran b l (run_call_of l))
    again : {i : ℕ} {o : RunLeft} {b' : Board} → Loop b i o b' → get_or o.numbers 0 0 ≡ 4 → (l : RunLent) → HostCall b' l
        → Loop b (suc i) (run_call_of l) (ran b' l (run_call_of l))

  -- a loop whose last call was accepted and has answered this stop
  pub record Ends (b : Board) (stop : ℕ) : Type 0 where
    pub calls : ℕ
    pub left : RunLeft
    pub board : Board
    pub loop : Loop b calls left board
    pub accepted : left.result ≡ 0
    pub stops : get_or left.numbers 0 0 ≡ stop

  -- each call is equipped for its steps
  equipped : (k : ℕ) {b : Board} {l : RunLent} → HostCall b l → Suffices page p ρ Own k b l j
  equipped k {b} {l} h =
      let at = (machine_in page (owner_of_plan p) b.state b.chip).regs.readings in
      let e : take j (drop at ρ) ≡ signed_of l.readings = subst (λ (i : ℕ). take i (drop at ρ) ≡ signed_of l.readings) h.readings (sym h.lends.readings) in (
        h.lends,
        record {
          steps = omega (arith, h.budget);
          reads = inr (rw e at (next-lent ρ at j));
          gives = inr (omega (arith, h.places));
        },
      )

  -- so the loop is a chain
  pub loop-chain : (k : ℕ) {b : Board} {i : ℕ} {o : RunLeft} {b' : Board} → Loop b i o b' → Chain page p ρ Own k b (i * j) o b'
  loop-chain k {b} (once l h) =
      let z : j ≡ 1 * j = omega arith in
      subst (λ (t : ℕ). Chain page p ρ Own k b t (run_call_of l) (ran b l (run_call_of l))) z (one l j (equipped k h))
  loop-chain k {b} (again {i} {b' = b'} c e l h) =
      let z : i * j + j ≡ suc i * j = omega arith in
      subst (λ (t : ℕ). Chain page p ρ Own k b t (run_call_of l) (ran b' l (run_call_of l))) z (more (loop-chain k c) l j (equipped k h))

  module _ (plan : Plan p) (found : Found p ws) where
    -- a call goes on a list
    goes_on : {b : Board} {l : RunLent} → Calls page p ρ Own n 0 (Erased n) b → b.good ≡ true → HostCall b l → Calls page p ρ Own n 0 (Erased n) (ran b l (run_call_of l))
    goes_on {b} {l} c g h = runs c g l h.lends ((demand-3 page p plan ws found ρ n b c).1.runs g l h.lends)

    module _ (k : ℕ) (end : ¬ ((ref_at p ρ zeros k).stop ≡ 0)) where
      -- it is accepted, and answers 4 or the stop
      call-answers : {b : Board} {l : RunLent} → Calls page p ρ Own n 0 (Erased n) b → b.good ≡ true → HostCall b l
          → let x = get_or (run_call_of l).numbers 0 0 in ((run_call_of l).result ≡ 0) × ((x ≡ 4) ⊎ (x ≡ (ref_at p ρ zeros k).stop))
      call-answers {b} {l} c g h =
          let a = (demand-3 page p plan ws found ρ n b c).1 in
          (a.runs g l h.lends, a.spends g k end l (subst (Suffices page p ρ Own k b l) (sym h.budget) (equipped k h)))

      module _ {b : Board} (c : Calls page p ρ Own n 0 (Erased n) b) (g : b.good ≡ true) where
        -- so is the last one of the loop
        loop-on : {i : ℕ} {o : RunLeft} {b' : Board} → Loop b i o b'
            → Calls page p ρ Own n 0 (Erased n) b' × (b'.good ≡ true) × (o.result ≡ 0) × ((get_or o.numbers 0 0 ≡ 4) ⊎ (get_or o.numbers 0 0 ≡ (ref_at p ρ zeros k).stop))
        loop-on (once l h) = let a = call-answers c g h in (goes_on c g h, g, a.0, a.1)
        loop-on (again d e l h) =
            let x = loop-on d in
            let a = call-answers x.0 x.1 h in
            (goes_on x.0 x.1 h, x.1, a.0, a.1)

        -- in so many calls it is the stop
        loop-stops : {i : ℕ} {o : RunLeft} {b' : Board} → Loop b i o b' → k + 2 * n ≤ i * j → get_or o.numbers 0 0 ≡ (ref_at p ρ zeros k).stop
        loop-stops {i} {o} {b'} loop l = ((demand-3 page p plan ws found ρ n b c).1.stops g k end (i * j) o b' (loop-chain k loop) l).1

        module _ (next : (b : Board) → (l : RunLent) × HostCall b l) where
          -- while it is spent, the next call
          loop-from : (left : ℕ) {i : ℕ} {o : RunLeft} {b' : Board} → Loop b i o b' → k + 2 * n ≤ (i + left) * j → Ends b (ref_at p ρ zeros k).stop
          loop-from zero {i} {o} {b'} loop l =
              let z : (i + 0) * j ≡ i * j = ap (λ (t : ℕ). t * j) (add-zero i) in
              record { calls = i; left = o; board = b'; loop = loop; accepted = (loop-on loop).2; stops = loop-stops loop (omega arith) }
          loop-from (suc left) {i} {o} {b'} loop l =
              let x = loop-on loop in
              let z : (suc i + left) * j ≡ (i + suc left) * j = let e : suc i + left ≡ i + suc left = omega arith in ap (λ (t : ℕ). t * j) e in
              ⊎_elim
              (λ e. loop-from left (again loop e (next b').0 (next b').1) (omega arith))
              (λ e. record { calls = i; left = o; board = b'; loop = loop; accepted = x.2; stops = e })
              x.3

          -- THE LOOP ENDS, WITH THE STOP
          pub loop-ends : 1 ≤ j → Ends b (ref_at p ρ zeros k).stop
          loop-ends some = loop-from (k + 2 * n) (once (next b).0 (next b).1) enough
            where
              enough : k + 2 * n ≤ (1 + (k + 2 * n)) * j
              enough = most (k + 2 * n) j some

-- ---- a plan that gives two outputs and ends

module _ (page : ℕ) (ws : List ℕ) (n : ℕ) where
  -- one step and one place, and no readings are there
  abbrev pub host_call : Board → RunLent
  host_call b =
      record {
        page = page;
        plan = twice;
        sets = ws;
        chip = b.chip;
        state = b.state;
        readings = [];
        outputs = 0 ∷ 0 ∷ 0 ∷ 0 ∷ [];
        budget = 1;
        numbers = 0 ∷ 0 ∷ 0 ∷ 0 ∷ [];
      }

  host-call : (b : Board) → HostCall page twice ws [] n 1 b (host_call b)
  unfolding signed_of signed_from
  host-call b =
      let none = sym (ap (take 1) (drop-nil (machine_in page (owner_of_plan twice) b.state b.chip).regs.readings)) in
      let lends : Lends page twice [] (λ v. v ≡ ws) b (host_call b) = record { kind = refl; plan = refl; sets = refl; chip = refl; state = refl; count = 1; readings = none } in
      record { lends = lends; budget = refl; readings = refl; places = refl }

  -- after a recovery on an erased chip the loop ends: stopped, ended
  pub twice_ends : Found twice ws → (state left : List ℕ) → RecoverCall page twice ws (replicate n 0xFF) state left 0 → Ends page twice ws [] n 1 (restored (fresh 0 state (replicate n 0xFF)) left) ended
  twice_ends found state left x =
      subst (Ends page twice ws [] n 1 (restored (fresh 0 state (replicate n 0xFF)) left)) twice-stop
      (loop-ends page twice ws [] n 1 twice-plan found 3 (λ e. omega (arith, twice-stop)) (recovers (begins state (replicate n 0xFF) (length-replicate {A = ℕ} n 0xFF) refl) ws refl left x) refl (λ b. (host_call b, host-call b)) (omega arith))
