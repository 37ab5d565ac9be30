-- A host that lends little: a budget of j steps a call, the next j readings or those that remain, and j places, as `examples/host.c` does. Its calls are a chain of j steps
-- each, so that as many as the claim asks for reach the uncut run's stop.
-- Assumes nothing.
use Prim.Native.Nat.{ℕ, zero, suc, ◌+◌, ◌*◌, ◌≤◌, ◌<◌}
use mathlib.Core.Path.{◌≡◌, refl, subst}
use mathlib.Core.Bool.{true}
use mathlib.Core.List.{List}
use mathlib.Core.Logic.{◌⊎◌, inl, inr, ⊎_elim}
use native.Mathlib.Omega.{arith}
use lib.IntN.{ℤ, pos}
use lib.ListN.{length, take, drop, replicate, length-take, length-drop, length-replicate}
use Rattle.cellset.proofs.Bits.{le-or-lt}
use Rattle.run.specs.Run.{Stopped}
use Rattle.restart.specs.Reference.{zeros, ref_at}
use Rattle.restart.specs.History.{System, Request, outcome_of, ran, History}
use Rattle.restart.specs.Claim.{Plan, Found, Suffices, Chain, one, more, Erased, Names}
use Rattle.restart.proofs.Theorem.{demand-3}

-- of the readings from the i-th on, j are lent, or all that remain
pub next-lent : (ρ : List ℤ) (i j : ℕ) → (length ρ ≤ i + length (take j (drop i ρ))) ⊎ (j ≤ length (take j (drop i ρ)))
next-lent ρ i j =
    ⊎_elim
    (λ (l : length ρ ≤ i + j). inl (omega (arith, length-take j (drop i ρ), length-drop i ρ)))
    (λ (l : i + j < length ρ). inr (omega (arith, length-take j (drop i ρ), length-drop i ρ)))
    (le-or-lt (length ρ) (i + j))

module _ (p : List ℕ) (ρ : List ℤ) (n : ℕ) (words : List ℕ) (j : ℕ) where
  -- its call
  abbrev pub host : Request
  host = record { words = words; readings = j; budget = j; places = replicate j (pos 0) }

  -- after so many calls
  unfoldable pub called : ℕ → System → System
  called zero s = s
  called (suc i) s = ran p ρ (called i s) host

  -- each is equipped for its steps
  equipped : (k : ℕ) (s : System) → Suffices p ρ zeros n 0 (λ w. w ≡ words) k s host j
  equipped k s = (
    refl,
    record {
      steps = omega arith;
      reads = inr (next-lent ρ s.machine.regs.readings j);
      gives = inr (omega (arith, length-replicate j (pos 0)));
    },
  )

  -- they are a chain
  pub host-chain : (k i : ℕ) (s : System)
      → Chain p ρ zeros n 0 (λ w. w ≡ words) k s (suc i * j) (outcome_of p ρ (called i s).machine host).ended (called (suc i) s)
  unfolding called
  host-chain k zero s =
      let z : j ≡ 1 * j = omega arith in
      subst (λ (t : ℕ). Chain p ρ zeros n 0 (λ w. w ≡ words) k s t (outcome_of p ρ s.machine host).ended (called 1 s)) z (one host j (equipped k s))
  host-chain k (suc i) s =
      let z : suc i * j + j ≡ suc (suc i) * j = omega arith in
      subst (λ (t : ℕ). Chain p ρ zeros n 0 (λ w. w ≡ words) k s t (outcome_of p ρ (called (suc i) s).machine host).ended (called (suc (suc i)) s)) z
      (more (host-chain k i s) host j (equipped k (called (suc i) s)))

  -- SO THEY REACH THE STOP
  pub host-stops : (page owner : ℕ) → Names p owner → Plan p → Found p words → (k i : ℕ) (s : System) → History p ρ page owner n 0 (Erased n) (λ w. w ≡ words) s → s.good ≡ true
      → ¬ ((ref_at p ρ zeros k).stop ≡ 0) → k + 2 * n ≤ suc i * j
      → (outcome_of p ρ (called i s).machine host).ended ≡ Stopped (ref_at p ρ zeros k).stop
  host-stops page owner names plan found k i s h g z l = (demand-3 page p plan owner names ρ n words found s h).stops g k z (suc i * j) _ _ (host-chain k i s) l
