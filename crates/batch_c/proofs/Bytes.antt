-- The bytes of two recovered states that are the same but for write position and bytes to erase (`same_bytes`).
-- Assumes nothing.
use Prim.Native.Nat.{ℕ}
use mathlib.Core.Path.{◌≡◌, sym, ◌∙◌, ap}
use mathlib.Core.Bool.{true, false}
use mathlib.Core.List.{List, [], ◌∷◌, ◌++◌, append_assoc}
use native.Mathlib.Omega.{arith}
use lib.ListN.{length, take, drop, length-append}
use lib.Seq.{take_at, drop_at}
use Rattle.journal.specs.Scanned.{BadLength, Damaged, Found}
use Rattle.step.specs.declared.Regs.{Regs}
use Rattle.step.specs.State.{env_of, Machine}
use Rattle.recovery.specs.Recover.{Outcome, recover_of, Recovers, refuses, reads}
use Rattle.recovery.specs.Recover.{Restored}
use Rattle.recovery.proofs.Laws.{restored-apart}
use Rattle.folding.specs.Lists.{SameState}
use Rattle.layout.specs.Numbers.{bytes_of_all}
use Rattle.layout.specs.Layout.{state_bytes, bytes_of_state}
use Rattle.layout.proofs.Numbering.{all-length, all_append}
use Rattle.layout.proofs.Laws.{marks-end}
use Rattle.restart.proofs.Restoring.{marks-length}
use Rattle.batch_c.specs.Fold.{SameBytes}

-- a restored state has 256 cells and marks
pub record Full (m : Machine) : Type 0 where
  pub cells : length m.cells ≡ 256
  pub marks : length m.marks ≡ 256

pub restored-full : (p words : List ℕ) (page owner : ℕ) {m : Machine} {r : Outcome} → Recovers (env_of p words) page owner m r → r.answer ≡ Restored → Full r.machine
unfolding recover_of
restored-full p words page owner (refuses n h l k) z = absurd (restored-apart z (ap (λ (o : Outcome). o.answer) k))
restored-full p words page owner (reads h BadLength v s n x k) z = absurd (restored-apart z (ap (λ (o : Outcome). o.answer) k))
restored-full p words page owner (reads h Damaged v s n x k) z = absurd (restored-apart z (ap (λ (o : Outcome). o.answer) k))
restored-full p words page owner (reads h (Found end torn last false) v s n x k) z = absurd (restored-apart z (ap (λ (o : Outcome). o.answer) k))
restored-full p words page owner (reads h (Found end torn last true) v s n x k) z =
    record {
      cells = ap (λ (o : Outcome). length o.machine.cells) k ∙ s.1.cells;
      marks = ap (λ (o : Outcome). length o.machine.marks) k ∙ marks-length p words last.exclude;
    }

-- the five numbers before the write position
abbrev five : Regs → List ℕ
five r = r.pc ∷ r.exclude ∷ r.readings ∷ r.outputs ∷ r.stop ∷ []

module _ (r : Regs) (cells marks : List ℕ) (n : length cells ≡ 256) (m : length marks ≡ 256) where
  abbrev front : List ℕ
  front = bytes_of_all 4 cells ++ bytes_of_all 1 marks ++ bytes_of_all 4 (five r)

  front_length : length front ≡ 1300
  front_length = omega (arith, length-append (bytes_of_all 4 cells ++ bytes_of_all 1 marks) (bytes_of_all 4 (five r)), marks-end cells marks n m, all-length 4 (five r))

  -- the bytes are those in front, eight, and four behind
  parts : state_bytes r cells marks ≡ front ++ bytes_of_all 4 (r.write ∷ r.erase ∷ []) ++ bytes_of_all 4 (r.saving ∷ [])
  unfolding state_bytes
  parts =
      let two = r.write ∷ r.erase ∷ [] in
      let one = r.saving ∷ [] in
      let start = bytes_of_all 4 cells ++ bytes_of_all 1 marks in
      ap (λ (l : List ℕ). start ++ l) (all_append 4 (five r ++ two) one ∙ ap (λ (l : List ℕ). l ++ bytes_of_all 4 one) (all_append 4 (five r) two))
      ∙ sym (append_assoc start (bytes_of_all 4 (five r) ++ bytes_of_all 4 two) (bytes_of_all 4 one))
      ∙ ap (λ (l : List ℕ). l ++ bytes_of_all 4 one) (sym (append_assoc start (bytes_of_all 4 (five r)) (bytes_of_all 4 two)))

  pub bytes-before : take 1300 (state_bytes r cells marks) ≡ front
  bytes-before =
      let two = bytes_of_all 4 (r.write ∷ r.erase ∷ []) in
      let one = bytes_of_all 4 (r.saving ∷ []) in
      ap (take 1300) (parts ∙ append_assoc front two one) ∙ take_at front (two ++ one) 1300 front_length

  pub bytes-behind : drop 1308 (state_bytes r cells marks) ≡ bytes_of_all 4 (r.saving ∷ [])
  bytes-behind =
      let two = bytes_of_all 4 (r.write ∷ r.erase ∷ []) in
      let one = bytes_of_all 4 (r.saving ∷ []) in
      let l : length (front ++ two) ≡ 1308 = omega (arith, length-append front two, front_length, all-length 4 (r.write ∷ r.erase ∷ [])) in
      ap (drop 1308) parts ∙ drop_at (front ++ two) one 1308 l

pub same_bytes : (a b : Machine) → Full a → Full b → SameState a b → SameBytes (bytes_of_state a) (bytes_of_state b)
same_bytes a b f g s = record {
  before =
      bytes-before a.regs a.cells a.marks f.cells f.marks
      ∙ (λ i.
      bytes_of_all 4 (s.cells i)
      ++ bytes_of_all 1 (s.marks i)
      ++ bytes_of_all 4 (s.pc i ∷ s.exclude i ∷ s.readings i ∷ s.outputs i ∷ s.stop i ∷ []))
      ∙ sym (bytes-before b.regs b.cells b.marks g.cells g.marks);
  behind =
      bytes-behind a.regs a.cells a.marks f.cells f.marks
      ∙ (λ i. bytes_of_all 4 (s.saving i ∷ []))
      ∙ sym (bytes-behind b.regs b.cells b.marks g.cells g.marks);
}
