-- Stretches of a run, each begun on what the one before left, with some of the readings and of the places that remain, are the one run over all.
-- Assumes nothing.
use Prim.Native.Nat.{ℕ, ◌+◌, ◌-◌, ◌≤◌, ◌<◌}
use mathlib.Core.Path.{◌≡◌, refl, sym, ◌∙◌, ap, subst}
use mathlib.Core.Bool.{true, false}
use mathlib.Core.List.{List, ◌++◌}
use native.Mathlib.Omega.{arith}
use borrow.Author.Tests.{ltb-true, ltb-false, eqb-true, eqb-false}
use lib.Dec.{eqb}
use lib.IntN.{ℤ}
use lib.ListN.{length, take, drop, length-append, length-drop}
use lib.Seq.{length-take-le}
use Rattle.program.proofs.Tests.{bool_cases, clash}
use Rattle.step.specs.State.{Env, Machine}
use Rattle.run.specs.Run.{Call, Finish, started, stepped, run_of, refusal_of}
use Rattle.run.specs.Run.{Ended}
use Rattle.run.specs.Run.{Refused}
use Rattle.run.proofs.Laws.{Exits, stopped, spent, no_reading, buffer_full, exit-none, makes-step, run_ends, run-ind, steps-within}
use Rattle.run.proofs.Laws.{stretch-both, stretch-both-else, taken-within, given-within, onto, finish_onto, onto-started, run-onto, begun-afresh}
use Rattle.run.proofs.Accepting.{not-refused, accepts, accepts-run}
use Rattle.stretches.specs.Stretches.{Lends, goes_on_of}
use Rattle.stretches.proofs.Running.{resumed}

-- c is a call so far of the run F with the budget, over all readings and places
pub record Standing (e : Env) (ρ : List ℤ) (room budget : ℕ) (F : Finish) (c : Call) : Type 0 where
  pub steps : c.steps ≤ budget
  pub taken : c.taken ≤ length ρ
  pub given : length c.given ≤ room
  pub cells : length c.machine.cells ≡ 256
  pub marks : length c.machine.marks ≡ 256
  pub whole : resumed e ρ room (budget - c.steps) c ≡ F

-- c with the stretch f stands so again; where it does not go on it is F, where it does f made a step
pub record Joins (e : Env) (ρ : List ℤ) (room budget : ℕ) (F : Finish) (c : Call) (f : Finish) : Type 0 where
  pub standing : Standing e ρ room budget F (onto c f.call)
  pub ends : goes_on_of f.ended (length ρ) (c.taken + f.call.taken) room (length (c.given ++ f.call.given)) ≡ false → F ≡ finish_onto c f
  pub moves : goes_on_of f.ended (length ρ) (c.taken + f.call.taken) room (length (c.given ++ f.call.given)) ≡ true → 0 < f.call.steps

-- a run that made no step is at an exit where it began
at_once : (e : Env) (ρ : List ℤ) (room left : ℕ) (c : Call) → (run_of e ρ room left c).call.steps ≡ c.steps
    → Exits e.program left (length ρ) room c (run_of e ρ room left c).ended
unfolding stepped
at_once e ρ room =
    run-ind e ρ room (λ left c. (run_of e ρ room left c).call.steps ≡ c.steps → Exits e.program left (length ρ) room c (run_of e ρ room left c).ended)
    (λ left c x h s. rw (run_ends e ρ room left c h) h)
    (λ left c g h s. absurd (omega (arith, rw (makes-step e ρ room left c (exit-none g)) at s, (steps-within e ρ room left (stepped e ρ c)).0)))

-- and does not go on from there, where it had some of what was left
lacks-none : {p : List ℕ} {left n room : ℕ} {m : Machine} {x : Ended} → Exits p left n room (started m) x → (readings t places w : ℕ)
    → goes_on_of x readings t places w ≡ true → (t < readings → 0 < left → 0 < n) → (w < places → 0 < left → 0 < room) → ⊥
lacks-none (stopped h) readings t places w g r s = clash false g refl
lacks-none (spent h l) readings t places w g r s = clash false g refl
lacks-none (no_reading h l d z) readings t places w g r s = omega (arith, z, r (ltb-true t readings g) l)
lacks-none (buffer_full h l d z) readings t places w g r s = omega (arith, z, s (ltb-true w places g) l)

module _ (e : Env) (ρ : List ℤ) (room budget : ℕ) (F : Finish) (c : Call) (s : Standing e ρ room budget F c) (n places : ℕ)
    (some : Lends (length ρ - c.taken) (budget - c.steps) n) (lent : Lends (room - length c.given) (budget - c.steps) places) where
  -- the readings and the places that remain, and the stretch over some of them
  abbrev rest : List ℤ
  rest = drop c.taken ρ

  abbrev room' : ℕ
  room' = room - length c.given

  abbrev left : ℕ
  left = budget - c.steps

  abbrev part : Finish
  part = run_of e (take n rest) places left (started c.machine)

  -- so many remain
  few-rest : n ≤ length rest
  few-rest = rw (length-drop c.taken ρ) some.within

  -- its numbers are within what it is lent
  part-steps : part.call.steps ≤ left
  part-steps = omega (arith, (steps-within e (take n rest) places left (started c.machine)).1)

  part-taken : part.call.taken ≤ n
  part-taken = rw (length-take-le n rest few-rest) at (taken-within e (take n rest) places left (started c.machine) (omega arith))

  part-given : length part.call.given ≤ places
  part-given = given-within e (take n rest) places left (started c.machine) (omega arith)

  -- the outputs are counted on
  given-all : length (c.given ++ part.call.given) ≡ length c.given + length part.call.given
  given-all = length-append c.given part.call.given

  -- where it goes on, it made a step
  part-moves : goes_on_of part.ended (length ρ) (c.taken + part.call.taken) room (length (c.given ++ part.call.given)) ≡ true → 0 < part.call.steps
  part-moves g =
      bool_cases (eqb part.call.steps 0)
      (λ z.
      absurd (lacks-none (at_once e (take n rest) places left (started c.machine) (eqb-true _ _ z)) _ _ _ _ g
      (λ l b. omega (arith, some.some (omega arith) b, length-take-le n rest few-rest))
      (λ l b. omega (arith, lent.some (omega (arith, given-all)) b))))
      (λ z. omega (arith, eqb-false part.call.steps 0 z))

  -- the machine is accepted
  module _ (a : refusal_of e c.machine ≡ 0) where
    -- the whole is the run over all that remains, counted from where the call stands
    afresh : F ≡ finish_onto c (run_of e rest room' left (started c.machine))
    unfolding resumed
    afresh = sym (rw a at s.whole) ∙ begun-afresh e ρ room c s.taken s.given left

    -- and goes on from where the stretch left it
    part-whole : run_of e ρ room (budget - (c.steps + part.call.steps)) (onto c part.call) ≡ F
    part-whole =
        let z : budget - (c.steps + part.call.steps) ≡ left - (part.call.steps - 0) = omega arith in
        rw z
        (run-onto e ρ room c s.taken s.given (left - (part.call.steps - 0)) part.call
        ∙ sym (afresh ∙ ap (finish_onto c) (stretch-both e rest n places room' few-rest lent.within left (started c.machine) (omega arith) (omega arith))))

    -- so the call counted on stands as the first did
    part-standing : Standing e ρ room budget F (onto c part.call)
    unfolding resumed
    part-standing =
        let k = accepts-run e (take n rest) places left (started c.machine) (accepts e c.machine a s.cells s.marks) in
        record {
          steps = omega (arith, part-steps, s.steps);
          taken = omega (arith, part-taken, s.taken);
          given = omega (arith, given-all, part-given, s.given);
          cells = k.good.cells;
          marks = k.good.marks;
          whole = rw (not-refused k) part-whole;
        }

    -- where it lacks nothing that there is, it is the run over all that remains
    part-ends : goes_on_of part.ended (length ρ) (c.taken + part.call.taken) room (length (c.given ++ part.call.given)) ≡ false → F ≡ finish_onto c part
    part-ends g =
        afresh ∙ ap (finish_onto c)
        (stretch-both-else e rest n places room' few-rest lent.within left (started c.machine) (omega arith) (omega arith)
        (λ x. omega (arith, ltb-false (c.taken + part.call.taken) (length ρ) (rw x at g), part-taken, length-drop c.taken ρ))
        (λ x. omega (arith, ltb-false (length (c.given ++ part.call.given)) room (rw x at g), given-all, part-given)))

  -- a stretch over n of the readings that remain, with so many of the places
  pub joins : Joins e ρ room budget F c (resumed e (take n (drop c.taken ρ)) places (budget - c.steps) (started c.machine))
  unfolding resumed
  joins =
      bool_cases (eqb (refusal_of e c.machine) 0)
      (λ h. let a = eqb-true _ _ h in rw h (record { standing = part-standing a; ends = part-ends a; moves = part-moves }))
      (λ h. rw h (record {
        standing = subst (Standing e ρ room budget F) (onto-started c) s;
        ends = λ g. sym (rw h at s.whole) ∙ ap (λ (c : Call). record { ended = Refused (refusal_of e c.machine); call = c }) (onto-started c);
        moves = λ g. clash false g refl;
      }))
