-- The targets of the jumps, noted one behind the other: the jumps go to starts where each target noted is a start. A jump has at least three bytes.
-- Assumes nothing.
use mathlib.Core.Path.{◌≡◌, refl, sym, ◌∙◌}
use mathlib.Core.List.{List, [], ◌∷◌}
use mathlib.Core.Bool.{Bool, true, false, cond, ◌&&◌, and-true, and-false, and_assoc}
use Prim.Native.Nat.{ℕ, zero, suc, zero-le, ◌+◌, ◌*◌, ◌≤◌, ◌<◌}
use native.Mathlib.Omega.{arith}
use lib.ListN.{length, get_or, set, length-set}
use lib.Seq.{get_or-set_same, get_or-set_other}
use lib.Dec.{eqb}
use borrow.Author.Tests.{eqb-true, eqb-false}
use Rattle.instruction.specs.Bytes.{byte, length_of, instruction_from, instruction_at_of}
use Rattle.instruction.specs.Table.{row_of, targets}
use Rattle.instruction.specs.declared.Instruction.{Instruction}
use Rattle.instruction.specs.declared.Flow.{Flow}
use Rattle.instruction.specs.declared.Flow.TheVariants.{Halt, Next, Goto, Branch}
use Rattle.program.specs.Starts.{starts, all_among_of, jumps_among, note_of, all_first_of}
use Rattle.program.specs.Places.{is_start}
use Rattle.program.proofs.Tests.{bool_cases}

-- ---- the first n of a list

-- tests that agree
pub first-same : (f g : ℕ → Bool) → ((t : ℕ) → f t ≡ g t) → (n : ℕ) (ts : List ℕ) → all_first_of f n ts ≡ all_first_of g n ts
unfolding all_first_of
first-same f g h zero ts = refl
first-same f g h (suc n) ts = rw (first-same f g h n ts, h (get_or ts n 0))

-- a later one changes nothing
first-set : (f : ℕ → Bool) (k n v : ℕ) (ts : List ℕ) → k ≤ n → all_first_of f k (set ts n v) ≡ all_first_of f k ts
unfolding all_first_of
first-set f zero n v ts h = refl
first-set f (suc k) n v ts h = rw (first-set f k n v ts (omega arith), get_or-set_other ts n k v 0 (λ (e : k ≡ n). omega arith))

-- one more
first_next : (f : ℕ → Bool) (n : ℕ) (ts : List ℕ) → all_first_of f (n + 1) ts ≡ (all_first_of f n ts && f (get_or ts n 0))
unfolding all_first_of
first_next f n ts = let z : n + 1 ≡ suc n = omega arith in rw z

-- none, one more that holds, and all of them
pub first-none : (f : ℕ → Bool) (ts : List ℕ) → all_first_of f 0 ts ≡ true
unfolding all_first_of
first-none f ts = refl

pub first_more : (f : ℕ → Bool) (k : ℕ) (ts : List ℕ) → all_first_of f k ts ≡ true → f (get_or ts k 0) ≡ true → all_first_of f (k + 1) ts ≡ true
first_more f k ts h e = rw (first_next f k ts, h, e)

pub first-all : (f : ℕ → Bool) (ts : List ℕ) {k n : ℕ} → all_first_of f k ts ≡ true → k ≡ n → true ≡ all_first_of f n ts
first-all f ts h e = rw (← e) (sym h)

-- one that fails
pub first-bad : (f : ℕ → Bool) (k n : ℕ) (ts : List ℕ) → k < n → f (get_or ts k 0) ≡ false → all_first_of f n ts ≡ false
unfolding all_first_of
first-bad f k zero ts l h = absurd (omega arith)
first-bad f k (suc n) ts l h =
    bool_cases (eqb k n)
    (λ b. let d : k ≡ n = eqb-true _ _ b in rw (← d, h, and-false (all_first_of f k ts)))
    (λ b. let ne : k ≡ n → ⊥ = eqb-false _ _ b in rw (first-bad f k n ts (omega arith) h))

put_first : (f : ℕ → Bool) (t n : ℕ) (ts : List ℕ) → n < length ts → all_first_of f (n + 1) (set ts n t) ≡ (all_first_of f n ts && f t)
put_first f t n ts l = rw (first_next f n (set ts n t), first-set f n n t ts (omega arith), get_or-set_same ts n t 0 l)

-- the targets of one more instruction
note-first : (p : List ℕ) (f : Flow) (n : ℕ) (ts : List ℕ) → n < length ts
    → all_first_of (is_start p) (n + length (targets f)) (note_of f n ts) ≡ (all_first_of (is_start p) n ts && all_among_of (targets f) (starts p))
note-first p Halt n ts l = let z : n + 0 ≡ n = omega arith in rw z (sym (and-true _))
note-first p Next n ts l = let z : n + 0 ≡ n = omega arith in rw z (sym (and-true _))
note-first p (Goto t) n ts l = rw (put_first (is_start p) t n ts l, and-true (is_start p t))
note-first p (Branch t) n ts l = rw (put_first (is_start p) t n ts l, and-true (is_start p t))

note-length : (f : Flow) (n : ℕ) (ts : List ℕ) → length (note_of f n ts) ≡ length ts
note-length Halt n ts = refl
note-length Next n ts = refl
note-length (Goto t) n ts = length-set ts n t
note-length (Branch t) n ts = length-set ts n t

-- ---- a jump's length

-- a choice between two instructions
pick : (P : Instruction → Type 0) (b : Bool) {x y : Instruction} → (b ≡ true → P x) → P y → P (cond b x y)
pick P true f q = f refl
pick P false f q = q

jump-from : (k x y z w u : ℕ) → 3 * length (targets (row_of (instruction_from k x y z w u)).flow) ≤ length_of k
unfolding length_of
jump-from k x y z w u =
    let P : Instruction → Type 0 = λ i. 3 * length (targets (row_of i).flow) ≤ length_of k in
    pick P (eqb k 0x02) (λ _. zero-le) (pick P (eqb k 0x03) (λ _. zero-le) (pick P (eqb k 0x04) (λ _. zero-le) (pick P (eqb k 0x05) (λ _. zero-le)
    (pick P (eqb k 0x06) (λ _. zero-le) (pick P (eqb k 0x07) (λ _. zero-le) (pick P (eqb k 0x08) (λ _. zero-le)
    (pick P (eqb k 0x09) (λ e. let d : k ≡ 0x09 = eqb-true _ _ e in rw d (omega arith))
    (pick P (eqb k 0x0A) (λ e. let d : k ≡ 0x0A = eqb-true _ _ e in rw d (omega arith))
    (pick P (eqb k 0x0B) (λ _. zero-le) (pick P (eqb k 0x0C) (λ _. zero-le) (pick P (eqb k 0x0D) (λ _. zero-le) (pick P (eqb k 0x0E) (λ _. zero-le)
    zero-le))))))))))))

pub jump-length : (p : List ℕ) (o : ℕ) → 3 * length (targets (row_of (instruction_at_of p o)).flow) ≤ length_of (byte p o)
unfolding instruction_at_of
jump-length p o = jump-from (byte p o) (byte p (o + 1)) (byte p (o + 2)) (byte p (o + 3)) (byte p (o + 4)) (byte p (o + 5))

-- ---- `walk`: the first j of ts are the targets of the instructions passed
pub record Noting (p ts : List ℕ) (j : ℕ) (os : List ℕ) : Type 0 where
  pub size : length ts ≡ 683
  pub same : jumps_among p (starts p) (starts p) ≡ (all_first_of (is_start p) j ts && jumps_among p (starts p) os)

pub noting-first : (p : List ℕ) {ts : List ℕ} → length ts ≡ 683 → Noting p ts 0 (starts p)
unfolding all_first_of
noting-first p h = record { size = h; same = refl }

pub noting-turn : (p ts : List ℕ) (at : ℕ) {j y : ℕ} {ts' : List ℕ} (os : List ℕ) → j < 683
    → ts' ≡ note_of (row_of (instruction_at_of p at)).flow j ts → y ≡ j + length (targets (row_of (instruction_at_of p at)).flow)
    → Noting p ts j (at ∷ os) → Noting p ts' y os
unfolding jumps_among
noting-turn p ts at {j} os l et ey q =
    let f = (row_of (instruction_at_of p at)).flow in
    rw (et, ey) (record {
      size = note-length f j ts ∙ q.size;
      same = q.same ∙ sym (rw (note-first p f j ts (omega (arith, q.size))) (and_assoc (all_first_of (is_start p) j ts) (all_among_of (targets f) (starts p)) (jumps_among p (starts p) os)));
    })

pub noting-done : (p ts : List ℕ) {j : ℕ} → Noting p ts j [] → jumps_among p (starts p) (starts p) ≡ all_first_of (is_start p) j ts
unfolding jumps_among
noting-done p ts q = q.same ∙ and-true _
