-- Recovery of two chips that read alike makes the same state, write position and bytes to erase aside (`same-state`).
-- Assumes nothing.
use Prim.Native.Nat.{ℕ}
use mathlib.Core.Path.{◌≡◌, refl, sym, ◌∙◌, ap}
use mathlib.Core.Bool.{true}
use mathlib.Core.List.{List}
use lib.ListN.{length}
use Rattle.journal.specs.declared.Commit.{Commit}
use Rattle.journal.specs.Scanned.{Found}
use Rattle.journal.specs.Format.{chip_length}
use Rattle.journal.specs.Answer.{Taken}
use Rattle.step.specs.State.{Env, Machine, machine_of}
use Rattle.recovery.specs.Recover.{refusal_of, regs_of, marks_by_of, Outcome, outcome, recover_of, Recovers, refuses, reads}
use Rattle.recovery.specs.Recover.{Restored}
use Rattle.recovery.proofs.Laws.{one-outcome, restored-apart, restored-size}
use Rattle.recovery.proofs.Recovering.{found-apart}
use Rattle.folding.specs.Fold.{byte_facts}
use Rattle.folding.specs.Lists.{SameState}
use Rattle.folding.proofs.Kept.{unnamed}

-- a state is restored where the tests refuse nothing
restored-accepted : {e : Env} {owner : ℕ} {m : Machine} {r : Outcome} → Recovers e 1 owner m r → r.answer ≡ Restored → refusal_of e ≡ 0
restored-accepted (refuses n h l k) z = absurd (restored-apart z (ap (λ (o : Outcome). o.answer) k))
restored-accepted (reads h a v s n o k) z = h

module _ (e : Env) where
  -- the state that a reading makes
  abbrev state_of : (end torn : ℕ) → Commit → (owner : ℕ) → (values chip : List ℕ) → Machine
  state_of end torn last owner values chip = machine_of (regs_of end torn last 1 owner) values (marks_by_of e last.exclude) chip

  -- is what recovery leaves
  read-state : (owner : ℕ) (m : Machine) {end torn : ℕ} {last : Commit} {values : List ℕ} → Taken (byte_facts owner e.program) m.journal end torn last true values
      → refusal_of e ≡ 0 → chip_length 1 (length m.journal) ≡ true → (r : Outcome) → Recovers e 1 owner m r
      → r ≡ outcome Restored (state_of end torn last owner values m.journal)
  unfolding recover_of
  read-state owner m {end} {torn} {last} {values} t z l r x =
      one-outcome e 1 owner m r _ x (reads z (Found end torn last true) values (l, t) 0 (found-apart refl) refl)

  -- of two chips, whichever plan their marks name
  pub same-state : (owner owner' : ℕ) (m m' : Machine) {end torn end' torn' : ℕ} {last last' : Commit} {values : List ℕ}
      → Taken (byte_facts owner e.program) m.journal end torn last true values → Taken (byte_facts owner' e.program) m'.journal end' torn' last' true values
      → unnamed last' ≡ unnamed last → chip_length 1 (length m'.journal) ≡ true
      → (a b : Outcome) → Recovers e 1 owner m a → Recovers e 1 owner' m' b → a.answer ≡ Restored → (b.answer ≡ Restored) × SameState a.machine b.machine
  same-state owner owner' m m' t t' c l a b x y r =
      let z = restored-accepted x r in
      let p = read-state owner m t z (restored-size e 1 owner m a x r) a x in
      let q = read-state owner' m' t' z l b y in (
        ap (λ (o : Outcome). o.answer) q,
        record {
          cells = ap (λ (o : Outcome). o.machine.cells) p ∙ sym (ap (λ (o : Outcome). o.machine.cells) q);
          marks = ap (λ (o : Outcome). o.machine.marks) p ∙ ap (λ (k : Commit). marks_by_of e k.exclude) (sym c) ∙ sym (ap (λ (o : Outcome). o.machine.marks) q);
          pc = ap (λ (o : Outcome). o.machine.regs.pc) p ∙ ap (λ (k : Commit). k.place) (sym c) ∙ sym (ap (λ (o : Outcome). o.machine.regs.pc) q);
          exclude = ap (λ (o : Outcome). o.machine.regs.exclude) p ∙ ap (λ (k : Commit). k.exclude) (sym c) ∙ sym (ap (λ (o : Outcome). o.machine.regs.exclude) q);
          readings = ap (λ (o : Outcome). o.machine.regs.readings) p ∙ ap (λ (k : Commit). k.readings) (sym c) ∙ sym (ap (λ (o : Outcome). o.machine.regs.readings) q);
          outputs = ap (λ (o : Outcome). o.machine.regs.outputs) p ∙ ap (λ (k : Commit). k.outputs) (sym c) ∙ sym (ap (λ (o : Outcome). o.machine.regs.outputs) q);
          stop = ap (λ (o : Outcome). o.machine.regs.stop) p ∙ sym (ap (λ (o : Outcome). o.machine.regs.stop) q);
          saving = ap (λ (o : Outcome). o.machine.regs.saving) p ∙ sym (ap (λ (o : Outcome). o.machine.regs.saving) q);
          page = ap (λ (o : Outcome). o.machine.regs.page) p ∙ sym (ap (λ (o : Outcome). o.machine.regs.page) q);
        },
      )
