-- Layer B, what stands on the journal: every step keeps `Phase`. No cell's meaning stands here.
-- Assumes nothing.
use Prim.Native.Nat.{ℕ, suc, ◌+◌, ◌-◌, ◌<◌}
use mathlib.Core.Path.{◌≡◌, refl, sym, ◌∙◌, ap, subst}
use mathlib.Core.List.{List, [], ◌∷◌, ◌++◌}
use native.Mathlib.Omega.{arith}
use lib.ListN.{length, take, drop, replicate, length-append, length-take}
use lib.Seq.{sets}
use borrow.Author.Tests.{eq-eqb, ne_eqb}
use Rattle.execution.specs.Effects.{Effect}
use Rattle.journal.specs.Format.{Checkpoint, image, padded, images}
use Rattle.journal.specs.Reading.{Facts, facts_of, first, last_of, Sound}
use Rattle.journal.specs.Shape.{Shape}
use Rattle.journal.proofs.Storing.{images-snoc, page_at, stored-page, completed-page, erased}
use Rattle.step.specs.State.{Env, Machine, format_at, checkpoint_at, image_at, size_at}
use Rattle.step.specs.Step.{erased_of, stored_of, begun, performed}
use Rattle.step.specs.Ready.{Good}
use Rattle.step.proofs.Facts.{sound-facts}
use Rattle.step.proofs.Stepping.{erasable, page-left}
use Rattle.restart.proofs.Invariant.{Phase, idle, saving}

-- a list of no length is empty
none-long : (q : List ℕ) → length q ≡ 0 → q ≡ []
none-long [] h = refl
none-long (x ∷ q) h = absurd (omega arith)

module _ (p : List ℕ) (m : Machine) (js : List Checkpoint) (h : Phase p m js) where
  abbrev F : Facts
  F = facts_of (format_at m.regs) p

  -- the journal has its shape
  pub phase-shape : (q : List ℕ) × Shape F m.journal js q
  phase-shape = elim h [ idle q a s w e ↦ (q, a) | saving k a g s w e ↦ (take k (image (format_at m.regs) (checkpoint_at p m)), a) ]

  -- the highest torn page is erased
  pub phase-erased : Good p m → 0 < m.regs.erase → Phase p (erased_of m) js
  unfolding erased_of
  phase-erased g l =
      let f = sound-facts g.sound in
      let n = erasable g l in
      elim h [
        | idle q a s w e ↦
            let k = m.regs.erase - m.regs.page in
            let i : length (images (format_at m.regs) js) + k ≡ m.regs.write + k = omega arith in
            let b = erased a k m.regs.page (omega (arith, n)) (omega (arith, f.fits, n, w)) in
            idle (take k q) (subst (λ (x : ℕ). Shape F (sets m.journal x (replicate m.regs.page 0xFF)) js (take k q)) i b) s w
            (omega (arith, length-take k q))
        | saving k a g s w e ↦ absurd (omega arith)
      ]

  -- where a page is stored
  page-at : (k : ℕ) → m.regs.write ≡ length (images (format_at m.regs) js) + k → m.regs.saving ≡ suc k
      → sets m.journal (length (images (format_at m.regs) js) + k) (page_at (format_at m.regs) (checkpoint_at p m) k)
      ≡ sets m.journal m.regs.write (take m.regs.page (drop (m.regs.saving - 1) (image_at p m)))
  unfolding image_at
  page-at k w n =
      let z : k ≡ m.regs.saving - 1 = omega arith in
      λ i. sets m.journal (sym w i) (take m.regs.page (drop (z i) (padded (format_at m.regs) (checkpoint_at p m))))

  -- a page of a save, not the last
  pub phase-stored : Good p m → 0 < m.regs.saving → ¬ (m.regs.saving - 1 + m.regs.page ≡ size_at p m) → Phase p (stored_of p m) js
  unfolding stored_of checkpoint_at size_at image_at
  phase-stored g s l =
      let o = sound-facts g.sound in
      let f = o.saves s in
      let left = page-left p m o s in
      rw (ne_eqb (m.regs.saving - 1 + m.regs.page) (size_at p m) l) (elim h [
        | idle q a n w e ↦ absurd (omega arith)
        | saving k a c n w e ↦
            let z : m.regs.saving - 1 ≡ k = omega arith in
            let b = stored-page (checkpoint_at p m) k o.paged.some (rw z at f.whole) a c (omega (arith, left)) (omega (arith, f.room, left)) in
            saving (k + m.regs.page) (subst (λ (x : List ℕ). Shape F x js (take (k + m.regs.page) (image (format_at m.regs) (checkpoint_at p m)))) (page-at k w n) b) c
            (omega arith) (omega arith) e
      ])

  -- the last: the save is whole
  pub phase-completed : Good p m → 0 < m.regs.saving → m.regs.saving - 1 + m.regs.page ≡ size_at p m
      → Phase p (stored_of p m) (js ++ (checkpoint_at p m ∷ []))
  unfolding stored_of size_at image_at
  phase-completed g s l =
      let G = format_at m.regs in
      let o = sound-facts g.sound in
      let f = o.saves s in
      let i = ap length (images-snoc G js (checkpoint_at p m)) ∙ length-append (images G js) (padded G (checkpoint_at p m)) in
      rw (eq-eqb (m.regs.saving - 1 + m.regs.page) (size_at p m) l) (elim h [
        | idle q a n w e ↦ absurd (omega arith)
        | saving k a c n w e ↦
            let b = completed-page (checkpoint_at p m) k o.paged.some a c (omega (arith, l)) (omega (arith, f.room, l)) in
            idle [] (subst (λ (x : List ℕ). Shape F x (js ++ (checkpoint_at p m ∷ [])) []) (page-at k w n) b) refl (omega (arith, i, l)) (omega arith)
      ])

  -- a save begins
  pub phase-begun : m.regs.erase ≡ 0 → m.regs.saving ≡ 0 → Sound F (last_of first js) (checkpoint_at p m) → Phase p (begun m) js
  unfolding begun checkpoint_at
  phase-begun e s g =
      elim h [
        | idle q a n w t ↦
            let none = none-long q (omega arith) in
            saving 0 (subst (λ (x : List ℕ). Shape F m.journal js x) none a) g refl (omega arith) e
        | saving k a c n w t ↦ absurd (omega arith)
      ]

  -- an instruction is executed
  pub phase-performed : (e : Env) (f : Effect) → m.regs.erase ≡ 0 → m.regs.saving ≡ 0 → Phase p (performed e f m) js
  unfolding performed
  phase-performed e f x s = elim h [ idle q a n w t ↦ idle q a n w t | saving k a c n w t ↦ absurd (omega arith) ]
