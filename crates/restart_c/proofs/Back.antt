-- A good system's state fits its bytes: they hold that state.
-- Assumes nothing.
use Prim.Native.Nat.{ℕ, ◌+◌, ◌≤◌, ◌<◌}
use mathlib.Core.Path.{◌≡◌, sym}
use mathlib.Core.Bool.{true}
use mathlib.Core.List.{List}
use mathlib.Core.Logic.{◌⊎◌, ⊎_elim}
use native.Mathlib.Omega.{arith}
use lib.IntN.{ℤ}
use lib.ListN.{length, get_or, get_or-eq_default}
use Rattle.cellset.proofs.Bits.{le-or-lt}
use Rattle.program.specs.Places.{is_exclude}
use Rattle.program.proofs.Accepted.{accepted}
use Rattle.journal.specs.Format.{Checkpoint}
use Rattle.step.specs.State.{Machine, machine_of}
use Rattle.step.specs.Ready.{Good}
use Rattle.step.proofs.Facts.{sound-facts, mark-at}
use Rattle.step.proofs.Fetching.{start-below, exclude-start}
use Rattle.layout.specs.Layout.{machine_in, bytes_of_state}
use Rattle.restart.specs.Reference.{Frame}
use Rattle.restart.specs.History.{Tally}
use Rattle.restart.specs.Claim.{Plan}
use Rattle.restart.proofs.Invariant.{Phase, idle, saving, Inv}
use Rattle.layout.proofs.Laws.{RegsFit, state-back}

-- while k bytes of a save are stored, they stand before the write position
saving-most : (p : List ℕ) (m : Machine) (js : List Checkpoint) → Phase p m js → m.regs.saving ≤ m.regs.write + 1
saving-most p m js h = elim h [ idle q a s w e ↦ omega arith | saving k a g s w e ↦ omega arith ]

-- an EXCLUDE, or 0, lies before the program's end
exclude-before-end : (p : List ℕ) (x : ℕ) → 0 < length p → (x ≡ 0) ⊎ (is_exclude p x ≡ true) → x < length p
exclude-before-end p x l h = ⊎_elim (λ z. omega arith) (λ t. start-below p x (exclude-start p x t).0) h

-- marks are bytes
marks-bytes : {p : List ℕ} {m : Machine} → Good p m → (c : ℕ) → get_or m.marks c 0 < 256
marks-bytes {m = m} g c =
    ⊎_elim
    (λ (l : 256 ≤ c). omega (arith, get_or-eq_default m.marks 0 {n = c} (omega (arith, g.marks))))
    (λ (l : c < 256). omega (arith, mark-at m.marks 0 256 (sound-facts g.sound).marks_small c (omega arith) (omega arith)))
    (le-or-lt 256 c)

module _ {p : List ℕ} (plan : Plan p) {ρ : List ℤ} {f₀ : Frame} {n : ℕ} {m : Machine} {t : Tally} {k : ℕ} (i : Inv p ρ f₀ n m t k) where
  -- each number fits
  regs-fit : RegsFit m.regs
  regs-fit =
      let f = sound-facts i.good.sound in
      let a = accepted p (sym plan.legal.accepted) in
      record {
        pc = omega (arith, start-below p m.regs.pc f.stands, a.most);
        exclude = omega (arith, exclude-before-end p m.regs.exclude a.some f.exclude_is, a.most);
        readings = i.small.readings;
        outputs = i.small.outputs;
        stop = omega (arith, f.stop_small);
        write = omega (arith, f.fits, i.good.most);
        erase = omega (arith, f.fits, i.good.most);
        saving = omega (arith, saving-most p m i.saves i.phase, f.fits, i.good.most);
      }

  -- THE BYTES HOLD THE STATE
  pub machine-back : machine_in m.regs.page m.regs.owner (bytes_of_state m) m.journal ≡ m
  machine-back =
      let b = state-back m.regs m.cells m.marks i.good.cells i.good.marks i.small.values (marks-bytes i.good) regs-fit in
      λ j. machine_of (b.0 j) (b.1 j) (b.2 j) m.journal
