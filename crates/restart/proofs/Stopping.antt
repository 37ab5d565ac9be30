-- Where the reference run stops: nothing runs past it, and the steps since a recovery are bounded by it.
-- Assumes nothing.
use Prim.Native.Nat.{ℕ, ◌+◌, ◌*◌, ◌≤◌, ◌<◌}
use mathlib.Core.Path.{◌≡◌, sym, ◌∙◌, ap}
use mathlib.Core.Bool.{cond}
use mathlib.Core.List.{List}
use mathlib.Core.Logic.{⊎_elim}
use native.Mathlib.Nat.{eq-zero-or-pos}
use native.Mathlib.Omega.{arith}
use lib.IntN.{ℤ}
use lib.ListN.{length}
use lib.Dec.{ltb}
use borrow.Author.Tests.{lt-ltb}
use Rattle.cellset.proofs.Bits.{le-or-lt}
use Rattle.step.specs.State.{Machine}
use Rattle.step.specs.Ready.{Good}
use Rattle.step.proofs.Facts.{sound-facts}
use Rattle.restart.specs.Reference.{Frame, ref_at}
use Rattle.restart.specs.History.{Tally}
use Rattle.restart.proofs.Invariant.{Inv}
use Rattle.restart.proofs.Frames.{stopped-stays, ref-stays}

module _ (p : List ℕ) (ρ : List ℤ) (f₀ : Frame) where
  abbrev Stopped : ℕ → Type 0
  Stopped j = ¬ ((ref_at p ρ f₀ j).stop ≡ 0)

  -- once stopped, it stays where it is
  pub stopped-same : (j k : ℕ) → Stopped j → j ≤ k → ref_at p ρ f₀ k ≡ ref_at p ρ f₀ j
  stopped-same j k s l = ref-stays p ρ f₀ j k (stopped-stays p ρ (ref_at p ρ f₀ j) s) l

  -- it runs only before it stops
  pub runs-before : (t j : ℕ) → (ref_at p ρ f₀ t).stop ≡ 0 → Stopped j → t < j
  runs-before t j h s =
      ⊎_elim
      (λ (l : j ≤ t). absurd (s (ap (λ (f : Frame). f.stop) (sym (stopped-same j t s l)) ∙ h)))
      (λ (l : t < j). l)
      (le-or-lt j t)

-- the byte that is due fits behind the write position
write-fits : (p : List ℕ) (m : Machine) → Good p m → m.regs.write + cond (ltb 0 m.regs.saving) 1 0 ≤ length m.journal
write-fits p m g =
    let s = sound-facts g.sound in
    ⊎_elim
    (λ z. rw z (omega (arith, s.fits)))
    (λ z.
    let f = s.saves z in
    let one : ◌≡◌ {A = ℕ} (cond (ltb 0 m.regs.saving) 1 0) 1 = rw (lt-ltb 0 m.regs.saving z) in
    omega (arith, one, f.stored, f.room))
    (eq-zero-or-pos m.regs.saving)

-- each step since the recovery retired an instruction, erased a byte or stored one
pub steps-paid : {p : List ℕ} {ρ : List ℤ} {f₀ : Frame} {n : ℕ} {m : Machine} {t : Tally} {k : ℕ} → Inv p ρ f₀ n m t k → k ≤ t.retired + 2 * n
steps-paid {p} {m = m} i = omega (arith, i.paid, write-fits p m i.good, i.size)
