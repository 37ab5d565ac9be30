-- Chains of calls, and what the entries answer, where the uncut run begins at a frame f₀ and not at zeros: `Suffices`, `Chain` and `Answers` of `Calls`, said of f₀.
-- Assumes nothing.
use Rattle.std.specs.Prelude.{ℕ, ◌+◌, ◌*◌, ◌≤◌, ◌<◌, ◌≡◌, Bool, true, cond, List, ◌⊎◌, ℤ, length, get_or, take}
use Rattle.journal.specs.Format.{owner_of_plan, chip_length}
use Rattle.layout.specs.Numbers.{signed_of}
use Rattle.layout.specs.Layout.{state_size, machine_in}
use Rattle.pitskelo.specs.Runs.{RunLent, RunLeft, run_call_of, RecoverCall}
use Rattle.restart.specs.Reference.{Frame, numbered_from, ref_at, emitted, taken}
use Rattle.restart.specs.Claim.{Equipped}
use Rattle.restart_c.specs.Calls.{Board, holding, wrote, ran, Lends}

-- page is how many bytes the chip stores as a unit ("the accepted calls of a list are all for one kind"), and `Sets` the bytes of DE and RO that accepted calls are lent
module _ (page : ℕ) (p : List ℕ) (ρ : List ℤ) (Sets : List ℕ → Type 0) where
  -- a run of the list that is equipped for j of its steps (crate `restart`): of readings and places it is lent as many as their bytes hold
  abbrev pub SufficesFrom : (f₀ : Frame) (k : ℕ) → Board → RunLent → (j : ℕ) → Type 0
  SufficesFrom f₀ k b l j =
      Lends page p ρ Sets b l × Equipped p ρ f₀ k (machine_in page (owner_of_plan p) b.state b.chip).regs l.budget (length (signed_of l.readings)) (length (signed_of l.outputs)) j

  -- such runs one after the other, with no recovery between, refused calls of any content among them; the steps that they are equipped for in all, and what the last run left
  pub data ChainFrom (f₀ : Frame) (k : ℕ) (b : Board) : (steps : ℕ) → RunLeft → Board → Type 0 where
    one : (l : RunLent) (j : ℕ) → SufficesFrom f₀ k b l j → ChainFrom f₀ k b j (run_call_of l) (ran b l (run_call_of l))
    more : {i : ℕ} {o : RunLeft} {b' : Board} → ChainFrom f₀ k b i o b' → (l : RunLent) (j : ℕ) → SufficesFrom f₀ k b' l j
        → ChainFrom f₀ k b (i + j) (run_call_of l) (ran b' l (run_call_of l))
    beside_recovery : {i : ℕ} {o : RunLeft} {b' : Board} → ChainFrom f₀ k b i o b' → (kind : ℕ) (q vs chip state left : List ℕ) (result : ℕ)
        → RecoverCall kind q vs chip state left result → ¬ (result ≡ 0) → (own : Bool) → (own ≡ true → state ≡ b'.state)
        → ChainFrom f₀ k b i o (holding b' (cond own left b'.state) b'.chip)
    beside_run : {i : ℕ} {o : RunLeft} {b' : Board} → ChainFrom f₀ k b i o b' → (l : RunLent) → ¬ ((run_call_of l).result ≡ 0) → (own-state own-chip : Bool)
        → (own-state ≡ true → l.state ≡ b'.state) → (own-chip ≡ true → l.chip ≡ b'.chip)
        → ChainFrom f₀ k b i o (holding b' (cond own-state (run_call_of l).state b'.state) (cond own-chip (run_call_of l).chip b'.chip))

-- what the entries answer, in their own numbers; each field is the one of `Answers` that has its name
pub record AnswersFrom (page : ℕ) (p : List ℕ) (ρ : List ℤ) (f₀ : Frame) (Sets : List ℕ → Type 0) (n : ℕ) (b : Board) : Type 0 where
  pub size : b.good ≡ true → length b.state ≡ state_size
  pub runs : b.good ≡ true → (l : RunLent) → Lends page p ρ Sets b l → (run_call_of l).result ≡ 0
  pub takes : b.good ≡ true → (l : RunLent) → Lends page p ρ Sets b l → let o = run_call_of l in let t = taken p ρ f₀ b.tally.retired (ran b l o).tally.retired in
      (get_or o.numbers 2 0 ≡ length t)
      × (numbered_from (machine_in page (owner_of_plan p) b.state b.chip).regs.readings (take (get_or o.numbers 2 0) (signed_of l.readings)) ≡ t)
  pub writes : b.good ≡ true → (l : RunLent) → Lends page p ρ Sets b l → let o = run_call_of l in let t = emitted p ρ f₀ b.tally.retired (ran b l o).tally.retired in
      (get_or o.numbers 3 0 ≡ length t) × (wrote l o ≡ t)
  pub steps : b.good ≡ true → (l : RunLent) → Lends page p ρ Sets b l → let o = run_call_of l in
      (get_or o.numbers 1 0 ≤ l.budget) × ((k : ℕ) → ¬ ((ref_at p ρ f₀ k).stop ≡ 0) → b.steps + get_or o.numbers 1 0 ≤ k + 2 * n)
  pub stops : b.good ≡ true → (k : ℕ) → ¬ ((ref_at p ρ f₀ k).stop ≡ 0) → (j : ℕ) (o : RunLeft) (b' : Board) → ChainFrom page p ρ Sets f₀ k b j o b' → k + 2 * n ≤ j
      → (o.result ≡ 0) × (get_or o.numbers 0 0 ≡ (ref_at p ρ f₀ k).stop)
  pub spends : b.good ≡ true → (k : ℕ) → ¬ ((ref_at p ρ f₀ k).stop ≡ 0) → (l : RunLent) → SufficesFrom page p ρ Sets f₀ k b l l.budget
      → let x = get_or (run_call_of l).numbers 0 0 in (x ≡ 4) ⊎ (x ≡ (ref_at p ρ f₀ k).stop)
  pub not_damaged : (ws : List ℕ) → Sets ws → (state left : List ℕ) (result : ℕ) → RecoverCall page p ws b.chip state left result → result < 12
  pub restores : chip_length page n ≡ true → (ws : List ℕ) → Sets ws → (state left : List ℕ) (result : ℕ) → length state ≡ state_size → RecoverCall page p ws b.chip state left result → result ≡ 0
