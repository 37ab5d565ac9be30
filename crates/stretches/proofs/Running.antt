-- What a call of the machine leaves, refused or accepted; and from such a call, on what was loaded from the buffers, to a stretch.
-- Assumes nothing.
use Prim.Native.Nat.{ℕ, ◌+◌, ◌-◌, ◌*◌, ◌/◌, ◌≤◌}
use mathlib.Core.Path.{◌≡◌, refl, sym, ◌∙◌, ap}
use mathlib.Core.Bool.{cond}
use mathlib.Core.List.{List, [], ◌∷◌, ◌++◌}
use native.Mathlib.Omega.{arith}
use borrow.Author.Tests.{ne_eqb, eqb-true, eqb-false}
use lib.Dec.{eqb}
use lib.IntN.{ℤ}
use lib.ListN.{length, get_or, take, drop, length-append}
use lib.Seq.{sets, take-append-le, length-take-le}
use Rattle.program.proofs.Tests.{bool_cases}
use Rattle.step.specs.State.{Env, Machine}
use Rattle.run.specs.Run.{Call, Finish, Outcome, outcome, outcome_of, refused_with, started, run_of, refusal_of, call_of, answer_of}
use Rattle.run.specs.Run.{Ended}
use Rattle.run.specs.Run.{Refused}
use Rattle.run.proofs.Laws.{Exits, stopped, spent, no_reading, buffer_full, run-exit, given-within}
use Rattle.run.proofs.Accepting.{outputs-first}
use Rattle.layout.specs.Numbers.{signed_from, signed_of, signed_bytes}
use Rattle.layout.proofs.Laws.{signed-length, signed-drop, signed-take}
use Rattle.stretches.specs.Stretches.{Lends, StretchIs}

-- so many of an array that has them
pub cut : {A : Type 0} (n size : ℕ) (l : List A) → n ≤ size → length l ≡ size → n ≡ length (take n l)
cut n size l h e = sym (length-take-le n l (omega arith))

-- an exit is no refusal, and its one value is its kind
exit-kind : {p : List ℕ} {left n room : ℕ} {c : Call} {x : Ended} → Exits p left n room c x
    → ((answer_of x).number ≡ 0) × ((answer_of x).values ≡ get_or (answer_of x).values 0 0 ∷ [])
exit-kind (stopped h) = (refl, refl)
exit-kind (spent h l) = (refl, refl)
exit-kind (no_reading h l d t) = (refl, refl)
exit-kind (buffer_full h l d t) = (refl, refl)

-- ---- a call

-- the run from c on with so much budget left; where the machine is refused, it alters nothing
unfoldable pub resumed : Env → List ℤ → (room left : ℕ) → Call → Finish
resumed e ρ room left c =
    let n = refusal_of e c.machine in
    cond (eqb n 0) (run_of e ρ room left c) (record { ended = Refused n; call = c })

module _ (e : Env) (ρ : List ℤ) (budget : ℕ) (m : Machine) (outs : List ℤ) where
  -- where it is not refused it is the run
  call-accepted : refusal_of e m ≡ 0 → call_of e ρ budget m outs ≡ outcome_of (run_of e ρ (length outs) budget (started m)) outs
  unfolding call_of
  call-accepted h = rw h

  -- else it alters nothing
  pub call-refused : ¬ (refusal_of e m ≡ 0) → call_of e ρ budget m outs ≡ refused_with (refusal_of e m) m outs
  unfolding call_of
  call-refused h = rw (ne_eqb (refusal_of e m) 0 h)

  -- its number is the refusal's, 0 where there is none
  pub call-number : (answer_of (call_of e ρ budget m outs).ended).number ≡ refusal_of e m
  call-number =
      bool_cases (eqb (refusal_of e m) 0)
      (λ b. let z = eqb-true _ _ b in rw (call-accepted z) ((exit-kind (run-exit e ρ (length outs) budget (started m))).0 ∙ sym z))
      (λ b. rw (call-refused (eqb-false _ _ b)) refl)

  -- where there is none it has one value, how the run ended
  pub call-values : refusal_of e m ≡ 0 → (answer_of (call_of e ρ budget m outs).ended).values ≡ get_or (answer_of (call_of e ρ budget m outs).ended).values 0 0 ∷ []
  call-values z = rw (call-accepted z) (exit-kind (run-exit e ρ (length outs) budget (started m))).1

  -- in both cases it is the run from the start on
  pub call-is : call_of e ρ budget m outs ≡ outcome_of (resumed e ρ (length outs) budget (started m)) outs
  unfolding call_of resumed
  call-is = bool_cases (eqb (refusal_of e m) 0) (λ b. rw b) (λ b. rw b)

  -- its outputs are within the places
  call-given : length (resumed e ρ (length outs) budget (started m)).call.given ≤ length outs
  unfolding resumed
  call-given =
      bool_cases (eqb (refusal_of e m) 0) (λ b. rw b (given-within e ρ (length outs) budget (started m) (omega arith))) (λ b. rw b (omega arith))

  -- so it writes no more than there are
  call-written : (call_of e ρ budget m outs).written ≤ length outs
  call-written = rw call-is call-given

-- ---- a stretch

-- the finish of a call whose outputs stand in front of a list
abbrev pub finish_in : Outcome → Finish
finish_in o =
    record { ended = o.ended; call = record { machine = o.machine; steps = o.steps; taken = o.taken; given = take o.written o.outputs } }

module _ {e : Env} {ρ : List ℤ} {budget t w : ℕ} {m₀ : Machine} {b₀ : List ℕ} {x : Ended} {m : Machine} {steps taken written : ℕ} {b : List ℕ}
    (s : StretchIs e ρ budget t w m₀ b₀ x m steps taken written b) where
  -- the stretch is a run from the start on
  pub stretch-run : finish_in (outcome x m steps taken written s.outputs) ≡ resumed e (take s.count (drop t ρ)) (length s.places) budget (started m₀)
  stretch-run =
      let r = take s.count (drop t ρ) in
      let f = resumed e r (length s.places) budget (started m₀) in
      ap finish_in (s.is ∙ call-is e r budget m₀ s.places)
      ∙ ap (λ (g : List ℤ). record { ended = f.ended; call = record { machine = f.call.machine; steps = f.call.steps; taken = f.call.taken; given = g } })
      (outputs-first f.call.given s.places (call-given e r budget m₀ s.places))

  -- its outputs are as many as it wrote
  pub stretch-given : length (take written s.outputs) ≡ written
  stretch-given =
      let r = take s.count (drop t ρ) in
      ap (λ (z : Finish). length z.call.given) stretch-run ∙ sym (ap (λ (o : Outcome). o.written) (s.is ∙ call-is e r budget m₀ s.places))

-- the readings loaded for a stretch are those behind the first t
loaded : (r : List ℕ) (t n : ℕ) → t ≤ length r / 4 → n ≤ length r / 4 - t → take n (drop t (signed_of r)) ≡ signed_from n r (4 * t)
unfolding signed_of
loaded r t n h k =
    let z : 0 + 4 * t ≡ 4 * t = omega arith in
    ap (take n) (signed-drop t (length r / 4) r 0 h) ∙ signed-take n (length r / 4 - t) r (0 + 4 * t) k ∙ ap (signed_from n r) z

-- of no output nothing is stored
pub none-stored : (b : List ℕ) (at : ℕ) → b ≡ sets b at (signed_bytes [])
unfolding signed_bytes
none-stored b at = refl

-- a buffer holds a number for four bytes
pub signed-of-length : (b : List ℕ) → length (signed_of b) ≡ length b / 4
unfolding signed_of
signed-of-length b = signed-length (length b / 4) b 0

module _ (b₀ : List ℕ) (w : ℕ) {budget k : ℕ} (room : Lends (length b₀ / 4 - w) budget k) (places : List ℤ) (fits : k ≤ length places) (e : Env) (ρ : List ℤ)
    (m₀ : Machine) {x : Ended} {m : Machine} {steps taken written : ℕ} {outs : List ℤ}
    (ran : outcome x m steps taken written outs ≡ call_of e ρ budget m₀ (take k places)) (kept : length outs ≡ length (take k places)) where
  -- so many places are lent
  lent : length (take k places) ≡ k
  lent = length-take-le k places fits

  -- what was written is within them
  few-written : written ≤ k
  few-written = omega (arith, ap (λ (o : Outcome). o.written) ran, call-written e ρ budget m₀ (take k places), lent)

  -- and fits the buffer
  pub store-fits : w ≤ length b₀ / 4 → (written ≤ length (outs ++ drop k places)) × (4 * w + 4 * written ≤ length b₀)
  store-fits h = (omega (arith, few-written, length-append outs (drop k places), kept, lent), omega (arith, few-written, room.within))

  -- so it is a stretch
  pub stretch-is : (r : List ℕ) (t : ℕ) {n : ℕ} → Lends (length r / 4 - t) budget n → t ≤ length r / 4 → ρ ≡ signed_from n r (4 * t) → {b : List ℕ}
      → b ≡ sets b₀ (4 * w) (signed_bytes (take written (outs ++ drop k places))) → StretchIs e (signed_of r) budget t w m₀ b₀ x m steps taken written b
  stretch-is r t {n} some h v q =
      record {
        count = n;
        lends = rw (signed-of-length r) some;
        places = take k places;
        room = rw lent room;
        outputs = outs;
        is = ran ∙ ap (λ (l : List ℤ). call_of e l budget m₀ (take k places)) (v ∙ sym (loaded r t n h some.within));
        stored =
            q ∙ ap (λ (l : List ℤ). sets b₀ (4 * w) (signed_bytes l))
            (take-append-le written outs (drop k places) (omega (arith, few-written, kept, lent)));
      }
