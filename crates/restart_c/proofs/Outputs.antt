-- The outputs that a run writes are signed numbers of 32 bits, and their bytes hold them.
-- Assumes nothing.
use Prim.Native.Nat.{ℕ, suc, ◌+◌, ◌-◌, ◌/◌, ◌^◌, ◌≤◌, ◌<◌}
use mathlib.Core.Path.{◌≡◌, refl, sym, ◌∙◌, ap, ap₂}
use mathlib.Core.List.{List, [], ◌∷◌, ◌++◌, append_assoc}
use native.Mathlib.Omega.{arith}
use lib.Dec.{eqb, ltb}
use lib.IntN.{ℤ, pos}
use lib.Signed.{mag}
use lib.ListN.{length, get_or, take, drop, length-append, length-drop}
use lib.Seq.{sets, length-sets, sets-eq, take_at, drop_at, drop-drop}
use Rattle.word.specs.Bytes.{bytes_of, load_of, number_of}
use Rattle.word.specs.Word.{val, bits_of, less_of}
use Rattle.word.proofs.Bytes.{length-bytes, number-bytes, load-number}
use Rattle.word.proofs.Laws.{val-ind}
use Rattle.word.proofs.Signed.{bits-lt, val-bits}
use Rattle.instruction.specs.Bytes.{instruction_at_of}
use Rattle.instruction.specs.declared.Instruction.{Instruction}
use Rattle.instruction.specs.declared.Instruction.TheVariants.{End, Set, Copy, Add, Sub, Div, Read, Emit, Jump, Less, Get, Put, Exclude, Checkpoint}
use Rattle.execution.specs.Effects.{is_full, effect_of, cells_in}
use Rattle.program.proofs.Tests.{bool_cases}
use Rattle.step.specs.State.{Env, Machine}
use Rattle.step.specs.Step.{effect_at, given_by, given_of}
use Rattle.run.specs.Run.{Call, Finish, Outcome, started, stepped, run_of, outcome_of, refusal_of, call_of}
use Rattle.run.proofs.Laws.{given-within}
use Rattle.layout.specs.Numbers.{signed_from, signed_of, signed_bytes}
use Rattle.restart.specs.History.{Accepted}
use Rattle.run.proofs.Accepting.{outputs-first}
use Rattle.restart.proofs.Traces.{Trace, none, more, traced}
use Rattle.restart.proofs.Refusing.{exit-accepted}
use Rattle.layout.proofs.Laws.{signed-bytes-length, signed-length}

-- ---- signed numbers of 32 bits

-- each is the value of its pattern
data Signed : List ℤ → Type 0 where
  nil : Signed []
  one : {v : ℤ} {vs : List ℤ} → val (bits_of v) ≡ v → Signed vs → Signed (v ∷ vs)

-- behind such come such
signed-append : {xs ys : List ℤ} → Signed xs → Signed ys → Signed (xs ++ ys)
signed-append nil t = t
signed-append (one h s) t = one h (signed-append s t)

-- a value is in range, whatever the number
val_back : (n : ℕ) → val (bits_of (val n)) ≡ val n
val_back n = val-bits (val n) (val-ind (λ z. mag z < 2 ^ 31) n (λ h. omega arith) (λ h. omega arith))

-- ---- their bytes

-- a number whose four bytes stand at an offset is loaded there
load-there : (b : List ℕ) (at x : ℕ) (rest : List ℕ) → x < 2 ^ 32 → drop at b ≡ bytes_of 4 x ++ rest → load_of 4 b at ≡ x
load-there b at x rest h e =
    load-number 4 b at (omega (arith, length-drop at b, ap length e, length-append (bytes_of 4 x) rest, length-bytes 4 x))
    ∙ ap (λ (l : List ℕ). number_of (take 4 l)) e
    ∙ ap number_of (take_at (bytes_of 4 x) rest 4 (length-bytes 4 x))
    ∙ number-bytes 4 x (omega arith)

-- numbers whose bytes stand at an offset are read there
read-there : {vs : List ℤ} → Signed vs → (n : ℕ) (b rest : List ℕ) (at : ℕ) → drop at b ≡ signed_bytes vs ++ rest
    → take (length vs) (signed_from (length vs + n) b at) ≡ vs
unfolding signed_from signed_bytes
read-there nil n b rest at e = refl
read-there (one {v} {vs} h s) n b rest at e =
    let x = bytes_of 4 (bits_of v) in
    let f : drop at b ≡ x ++ (signed_bytes vs ++ rest) = e ∙ append_assoc x (signed_bytes vs) rest in
    let g : drop (at + 4) b ≡ signed_bytes vs ++ rest =
    sym (drop-drop 4 at b) ∙ ap (drop 4) f ∙ drop_at x (signed_bytes vs ++ rest) 4 (length-bytes 4 (bits_of v)) in
    let z : suc (length vs) + n ≡ suc (length vs + n) = omega arith in
    rw z (ap₂ (λ (a : ℤ) (l : List ℤ). a ∷ l) (ap val (load-there b at (bits_of v) _ (bits-lt v) f) ∙ h) (read-there s n b rest (at + 4) g))

-- stored at the front of a buffer that has room, they are its first
stored_back : {vs : List ℤ} → Signed vs → (b : List ℕ) → length vs ≤ length b / 4 → take (length vs) (signed_of (sets b 0 (signed_bytes vs))) ≡ vs
unfolding signed_of
stored_back {vs} s b h =
    let x = sets b 0 (signed_bytes vs) in
    let n = length b / 4 - length vs in
    let z : length b / 4 ≡ length vs + n = omega arith in
    let l : length x / 4 ≡ length vs + n = ap (λ (k : ℕ). k / 4) (length-sets b 0 (signed_bytes vs)) ∙ z in
    ap (λ (k : ℕ). take (length vs) (signed_from k x 0)) l
    ∙ read-there s n x (drop (0 + length (signed_bytes vs)) b) 0 (sets-eq (signed_bytes vs) b 0 (omega (arith, signed-bytes-length vs)))

-- ---- a run gives such

-- an output is the value of a cell
effect-signed : (i : Instruction) (v : ℤ) (n m : ℕ) (x : ℕ → ℕ) → Signed (given_by (effect_of i v n m x))
unfolding effect_of
effect-signed End v n m x = nil
effect-signed (Set d w) v n m x = nil
effect-signed (Copy d a) v n m x = nil
effect-signed (Add d a b) v n m x = nil
effect-signed (Sub d a b) v n m x = nil
effect-signed (Div d a b) v n m x = bool_cases (eqb (x b) 0) (λ t. rw t nil) (λ t. rw t nil)
effect-signed (Read d) v n m x = bool_cases (is_full n) (λ t. rw t nil) (λ t. rw t nil)
effect-signed (Emit a) v n m x = bool_cases (is_full m) (λ t. rw t nil) (λ t. rw t (one (val_back (x a)) nil))
effect-signed (Jump t) v n m x = nil
effect-signed (Less a b t) v n m x = bool_cases (less_of (x a) (x b)) (λ t. rw t nil) (λ t. rw t nil)
effect-signed (Get d base len i) v n m x = nil
effect-signed (Put base len i a) v n m x = nil
effect-signed Exclude v n m x = nil
effect-signed Checkpoint v n m x = nil

-- of the step that is due
step-signed : (p : List ℕ) (v : ℤ) (m : Machine) → Signed (given_of p v m)
unfolding given_of effect_at
step-signed p v m =
    bool_cases (ltb 0 m.regs.erase)
    (λ a. rw a nil)
    (λ a. bool_cases (ltb 0 m.regs.saving)
    (λ b. rw (a, b) nil)
    (λ b. rw (a, b) (effect-signed (instruction_at_of p m.regs.pc) v m.regs.readings m.regs.outputs (cells_in m.cells))))

-- along the steps of a run
trace-signed : {e : Env} {ρ : List ℤ} {room k : ℕ} {c d : Call} → Trace e ρ room c k d → Signed c.given → Signed d.given
unfolding stepped
trace-signed none s = s
trace-signed {e} {ρ} (more {c} g t) s =
    trace-signed t (signed-append s (step-signed e.program (get_or ρ c.taken (pos 0)) c.machine))

-- ---- a call

-- the call is accepted, and the bytes of what it wrote, stored at the front of the buffer b, hold it
pub record Writes (o : Outcome) (b : List ℕ) : Type 0 where
  pub accepted : Accepted o.ended
  pub held : take o.written (signed_of (sets b 0 (signed_bytes (take o.written o.outputs)))) ≡ take o.written o.outputs

-- what a run leaves is so where its outputs are such and have their places
finish-writes : (r : Finish) (b : List ℕ) → Accepted r.ended → Signed r.call.given → length r.call.given ≤ length (signed_of b)
    → Writes (outcome_of r (signed_of b)) b
unfolding signed_of
finish-writes r b a s l =
    let first = outputs-first r.call.given (signed_of b) l in
    record { accepted = a; held = rw first (stored_back s b (omega (arith, l, signed-length (length b / 4) b 0))) }

-- so is what a call leaves that is not refused
pub call-writes : (e : Env) (ρ : List ℤ) (budget : ℕ) (m : Machine) (b : List ℕ) → refusal_of e m ≡ 0 → Writes (call_of e ρ budget m (signed_of b)) b
unfolding call_of
call-writes e ρ budget m b h =
    let room = length (signed_of b) in
    let t = traced e ρ room budget (started m) in
    rw h (finish-writes (run_of e ρ room budget (started m)) b (exit-accepted t.exit) (trace-signed t.trace nil)
    (given-within e ρ room budget (started m) (omega arith)))
