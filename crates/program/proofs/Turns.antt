-- What the walk over the instructions keeps: the counts, the table filled up to the turn's offset, and the targets noted.
-- Assumes nothing.
use mathlib.Core.Path.{◌≡◌, sym, ◌∙◌}
use mathlib.Core.List.{List, [], ◌∷◌}
use mathlib.Core.Bool.{cond}
use Prim.Native.Nat.{ℕ, ◌+◌, ◌*◌, ◌≤◌, ◌<◌, min}
use native.Mathlib.Omega.{arith}
use lib.ListN.{length, set}
use lib.Dec.{eqb}
use borrow.Author.Tests.{ne_eqb}
use Rattle.instruction.specs.Bytes.{byte, length_of, instruction_at_of}
use Rattle.instruction.specs.Table.{row_of, targets}
use Rattle.instruction.specs.declared.Instruction.{Instruction}
use Rattle.instruction.specs.declared.Flow.{Flow}
use Rattle.program.specs.Starts.{starts_from, starts, refusal_at_of, excludes, jump_count, note_of}
use Rattle.program.specs.Places.{place_from_of, Blank}
use Rattle.program.specs.Check.{Walks}
use Rattle.program.specs.Check.{All, Bad}
use Rattle.program.proofs.Walks.{Walking, walking-first, walking-turn, walking-bad, walking-done}
use Rattle.program.proofs.Filling.{Filling, filling-first, filling-turn, filling-done}
use Rattle.program.proofs.Noting.{Noting, noting-first, noting-turn, noting-done, jump-length}

-- n instructions passed, e of them EXCLUDE, k the last one's opcode, j their targets; the table is right where its bytes hold the EXCLUDEs' numbers
pub record Turning (p table ts : List ℕ) (n e k j at : ℕ) (os : List ℕ) : Type 0 where
  pub counts : Walking p n e k j os
  pub fills : excludes p (starts p) ≤ 64 → Filling p table k e at os
  pub notes : Noting p ts j os

pub turning-first : (p : List ℕ) {table ts : List ℕ} → Blank table → length ts ≡ 683 → Turning p table ts 0 0 0 0 1 (starts p)
turning-first p b h = record { counts = walking-first p; fills = λ few. filling-first p b; notes = noting-first p h }

-- a jump has three bytes at least
pub turning-room : (p : List ℕ) (at j : ℕ) {y d : ℕ} {i : Instruction} {g : Flow} → 3 * j < at → d ≡ length_of (byte p at) → i ≡ instruction_at_of p at → g ≡ (row_of i).flow
    → y ≡ j + length (targets g) → 3 * y < at + d
turning-room p at j {y} room ed ei eg ey =
    let l = jump-length p at in
    let z : y ≡ j + length (targets (row_of (instruction_at_of p at)).flow) = rw (← ei, ← eg) ey in
    omega arith

-- a turn: v goes to the offset, x is 1 for an EXCLUDE, y counts the targets noted with those of the flow g
module _ (p table ts : List ℕ) {ts' : List ℕ} (at : ℕ) {n e k j v x y d : ℕ} {i : Instruction} {g : Flow} (low : at < 2048) (room : 3 * j < at)
    (none : refusal_at_of p at ≡ 0) (some : 0 < d)
    (ev : v ≡ place_from_of k (byte p at) (min e 64)) (ei : i ≡ instruction_at_of p at) (eg : g ≡ (row_of i).flow)
    (ey : y ≡ j + length (targets g)) (et : ts' ≡ note_of g j ts) (ex : x ≡ cond (eqb (byte p at) 0x0D) 1 0) where
  pub turning-turn : (f : ℕ) → Turning p table ts n e k j at (at ∷ starts_from f p (at + d))
      → Turning p (set table at v) ts' (n + 1) (e + x) (byte p at) y (at + d) (starts_from f p (at + d))
  unfolding excludes
  turning-turn f q =
      let os = starts_from f p (at + d) in
      let ey' : y ≡ j + length (targets (row_of (instruction_at_of p at)).flow) = rw (← ei, ← eg) ey in
      let et' : ts' ≡ note_of (row_of (instruction_at_of p at)).flow j ts = rw (← ei, ← eg) et in
      let m = q.counts.exclude_count in
      record {
        counts = walking-turn p at os none ex ey' q.counts;
        fills = λ few. filling-turn p table f low some (omega arith) ev ex (q.fills few);
        notes = noting-turn p ts at os (omega arith) et' ey' q.notes;
      }

-- the instruction at the turn's offset has a refusal
pub turning-bad : (p table ts : List ℕ) (at : ℕ) {n e k j no : ℕ} (os : List ℕ) → no ≡ refusal_at_of p at → (no ≡ 0 → ⊥) → Turning p table ts n e k j at (at ∷ os)
    → Walks p (Bad no) table ts
turning-bad p table ts at os er ne q =
    let b = walking-bad p at os er ne q.counts in
    record { is = rw (b, ne_eqb _ _ ne); noted = λ s. absurd (ne (sym b ∙ s)); places = λ d. absurd (ne (sym b ∙ d.sound)) }

-- the loop is left
pub turning-done : (p table ts : List ℕ) {n e k j at : ℕ} → length p ≤ 2048 → 3 * j < at → at ≤ 2048 → Turning p table ts n e k j at [] → Walks p (All n e k j) table ts
unfolding jump_count
turning-done p table ts {n} {e} {k} {j} most room low q =
    let z : jump_count p (starts p) ≡ j = omega (arith, q.counts.jumps) in
    record {
      is = walking-done p q.counts;
      noted = λ s. rw z (omega arith, noting-done p ts q.notes);
      places = λ d. filling-done p table most (q.fills d.few);
    }
