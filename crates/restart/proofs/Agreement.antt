-- Noninterference: frames that agree on the cells that are live where they stand go on so, and give and take the same.
-- Assumes nothing.
use Prim.Native.Nat.{ℕ, ◌≤◌, ◌<◌}
use mathlib.Core.Path.{◌≡◌, refl, sym, ◌∙◌, ap, subst}
use mathlib.Core.Bool.{true, cond, not, ◌&&◌, ◌||◌}
use mathlib.Core.List.{List, [], ◌∷◌}
use mathlib.Core.Logic.{◌⊎◌, inl, inr}
use native.Mathlib.Omega.{arith}
use lib.IntN.{ℤ, pos}
use Rattle.step.proofs.Keeping.{cells-length}
use lib.ListN.{length, get_or, set, take, get_or-eq_default}
use lib.Seq.{set_out, get_or-set_same, get_or-set_other}
use lib.Dec.{eqb, ltb}
use borrow.Author.Tests.{ltb-true, ltb-false, eqb-true, eqb-false}
use Rattle.instruction.specs.Bytes.{byte, cells_of, instruction_at_of}
use Rattle.instruction.specs.Table.{may_def_of}
use Rattle.execution.specs.Effects.{Effect, effect_of, target, readings_after, outputs_after, cells_after, cells_in, next_of}
use Rattle.program.specs.Places.{is_start}
use Rattle.program.proofs.Tests.{bool_cases}
use Rattle.program.proofs.Accepted.{accepted, start-cells}
use Rattle.analysis.specs.Paths.{Follows, Live, reads, later}
use Rattle.step.specs.Step.{given_by, taken_by}
use Rattle.step.specs.Ready.{Legal}
use Rattle.restart.specs.Reference.{Frame, numbered_from, frame_after, reading_at, effect_in, stays, next_frame, output_at, taken_at}
use Rattle.restart.specs.Claim.{Agrees}
use Rattle.restart.proofs.Invariant.{Agree}
use Rattle.restart.proofs.Effects.{Possible, halts, passes, jumps, wrote, took, gave, marks, stores, effect-same, possible}

-- a cell that is not dead has one value
pub agree-undead : {p : List ℕ} {f g : Frame} → Agree p f g → Agrees p f g
agree-undead {p} {f} {g} a =
    record {
      pc = a.pc;
      readings = a.readings;
      outputs = a.outputs;
      stop = a.stop;
      cells = λ c h d.
          bool_cases (eqb (get_or f.cells c 0) (get_or g.cells c 0))
          (λ t. eqb-true _ _ t)
          (λ t. absurd (d (record { exists = h; unread = λ l. eqb-false _ _ t (a.cells c l) })));
    }

-- ---- cells after an effect

-- a cell that is written, in two lists that are equally long: past their end it is in neither
set_same : (xs ys : List ℕ) (d v : ℕ) → length xs ≡ length ys → get_or (set xs d v) d 0 ≡ get_or (set ys d v) d 0
set_same xs ys d v n =
    bool_cases (ltb d (length xs))
    (λ t.
    let l : d < length xs = ltb-true _ _ t in
    let k : d < length ys = omega arith in
    get_or-set_same xs d v 0 l ∙ sym (get_or-set_same ys d v 0 k))
    (λ t.
    let l : length xs ≤ d = ltb-false _ _ t in
    let k : length ys ≤ d = omega arith in
    rw (set_out xs d v l, set_out ys d v k) (get_or-eq_default xs 0 l ∙ sym (get_or-eq_default ys 0 k)))

-- two lists that are equally long and agree elsewhere, after a cell of both is written
set_agrees : (xs ys : List ℕ) (d v c : ℕ) → length xs ≡ length ys → (¬ (c ≡ d) → get_or xs c 0 ≡ get_or ys c 0) → get_or (set xs d v) c 0 ≡ get_or (set ys d v) c 0
set_agrees xs ys d v c n h =
    bool_cases (eqb c d)
    (λ t. let e : c ≡ d = eqb-true _ _ t in rw e (set_same xs ys d v n))
    (λ t. let e : ¬ (c ≡ d) = eqb-false _ _ t in get_or-set_other xs d c v 0 e ∙ h e ∙ sym (get_or-set_other ys d c v 0 e))

module _ (p : List ℕ) (o : ℕ) where
  -- a cell that is live where the effect goes has one value, if the cells that were live before it had
  cells_agree : (xs ys : List ℕ) → length xs ≡ length ys → ((c : ℕ) → Live p c o → get_or xs c 0 ≡ get_or ys c 0) → {e : Effect} → Possible p o e
      → (c : ℕ) → Live p c (target e o (next_of p o)) → get_or (cells_after e xs) c 0 ≡ get_or (cells_after e ys) c 0
  cells_agree xs ys n h halts c l = h c l
  cells_agree xs ys n h (passes g) c l = h c (later (g.must c) g.to l)
  cells_agree xs ys n h (jumps g) c l = h c (later (g.must c) g.to l)
  cells_agree xs ys n h (wrote {d} {v} g) c l = set_agrees xs ys d v c n (λ k. h c (later (g.must c k) g.to l))
  cells_agree xs ys n h (took {d} {v} g) c l = set_agrees xs ys d v c n (λ k. h c (later (g.must c k) g.to l))
  cells_agree xs ys n h (gave g) c l = h c (later (g.must c) g.to l)
  cells_agree xs ys n h (marks b g) c l = h c (later (g.must c) g.to l)
  cells_agree xs ys n h (stores b g) c l = h c (later (g.must c) g.to l)

  -- a cell that may be written is not one that may not
  unwritten : {d c : ℕ} → may_def_of (instruction_at_of p o) d ≡ 1 → may_def_of (instruction_at_of p o) c ≡ 0 → ¬ (c ≡ d)
  unwritten {d} {c} w h e =
      let k : may_def_of (instruction_at_of p o) d ≡ 0 = subst (λ z. may_def_of (instruction_at_of p o) z ≡ 0) e h in
      omega (arith, w, k)

  -- a cell that may not be written stays
  cell-kept : (xs : List ℕ) (c : ℕ) → may_def_of (instruction_at_of p o) c ≡ 0 → {e : Effect} → Possible p o e → get_or (cells_after e xs) c 0 ≡ get_or xs c 0
  cell-kept xs c h halts = refl
  cell-kept xs c h (passes g) = refl
  cell-kept xs c h (jumps g) = refl
  cell-kept xs c h (wrote {d} {v} g) = get_or-set_other xs d c v 0 (unwritten g.may h)
  cell-kept xs c h (took {d} {v} g) = get_or-set_other xs d c v 0 (unwritten g.may h)
  cell-kept xs c h (gave g) = refl
  cell-kept xs c h (marks b g) = refl
  cell-kept xs c h (stores b g) = refl

  -- an effect stops or goes to a successor
  target-follows : {e : Effect} → Possible p o e → (target e o (next_of p o) ≡ o) ⊎ Follows p o (target e o (next_of p o))
  target-follows halts = inl refl
  target-follows (passes g) = inr g.to
  target-follows (jumps g) = inr g.to
  target-follows (wrote g) = inr g.to
  target-follows (took g) = inr g.to
  target-follows (gave g) = inr g.to
  target-follows (marks b g) = inr g.to
  target-follows (stores b g) = inr g.to

-- frames that agree do so after an effect that both have
after-agree : {p : List ℕ} {f g : Frame} → Agree p f g → {e : Effect} → Possible p f.pc e → Agree p (frame_after p e f) (frame_after p e g)
unfolding frame_after
after-agree {p} {f} {g} a {e} h =
    record {
      size = cells-length e f.cells ∙ a.size ∙ sym (cells-length e g.cells);
      pc = ap (λ o. target e o (next_of p o)) a.pc;
      readings = ap (readings_after e) a.readings;
      outputs = ap (outputs_after e) a.outputs;
      stop = refl;
      cells = cells_agree p f.pc f.cells g.cells a.size a.cells h;
    }

-- ---- commands

module _ (p : List ℕ) (ρ : List ℤ) (l : Legal p) where
  -- the effect is one that the instruction may have
  possible-in : (f : Frame) → is_start p f.pc ≡ true → Possible p f.pc (effect_in p ρ f)
  unfolding effect_in
  possible-in f s = possible p f.pc l s (reading_at p ρ f) f.readings f.outputs (cells_in f.cells)

  module _ (f g : Frame) (start : is_start p f.pc ≡ true) (a : Agree p f g) where
    -- both stay, or both go on
    pub stays-agree : stays p ρ f ≡ stays p ρ g
    unfolding stays
    stays-agree = λ i. not (eqb (a.stop i) 0) || (eqb (byte p (a.pc i)) 0x07 && not (ltb (a.readings i) (length ρ)))

    -- by the same effect
    pub effects-agree : effect_in p ρ f ≡ effect_in p ρ g
    unfolding effect_in
    effects-agree =
        effect-same (cells_of p) (instruction_at_of p f.pc) (start-cells p (accepted p (sym l.accepted)) f.pc start).1
        (reading_at p ρ f) f.readings f.outputs (cells_in f.cells) (cells_in g.cells) (λ c r. a.cells c (reads r))
        ∙ (λ i. effect_of (instruction_at_of p (a.pc i)) (get_or ρ (a.readings i) (pos 0)) (a.readings i) (a.outputs i) (cells_in g.cells))

    -- and agree after it
    executed-agree : Agree p (frame_after p (effect_in p ρ f) f) (frame_after p (effect_in p ρ g) g)
    executed-agree = subst (λ e. Agree p (frame_after p (effect_in p ρ f) f) (frame_after p e g)) effects-agree (after-agree a (possible-in f start))

    -- NONINTERFERENCE: they agree after the next command
    pub steps-agree : Agree p (next_frame p ρ f) (next_frame p ρ g)
    unfolding next_frame
    steps-agree = rw (← stays-agree) (bool_cases (stays p ρ f) (λ t. rw t a) (λ t. rw t executed-agree))

    -- they give the same
    pub outputs-agree : output_at p ρ f ≡ output_at p ρ g
    unfolding output_at
    outputs-agree = λ i. cond (stays-agree i) [] (numbered_from (a.outputs i) (given_by (effects-agree i)))

    -- and take the same
    pub taken-agree : taken_at p ρ f ≡ taken_at p ρ g
    unfolding taken_at
    taken-agree = λ i. cond (stays-agree i) [] (numbered_from (a.readings i) (take (taken_by (effects-agree i)) (get_or ρ (a.readings i) (pos 0) ∷ [])))

  -- a cell that the instruction may not write stays
  pub cell_stays : (f : Frame) → is_start p f.pc ≡ true → (c : ℕ) → may_def_of (instruction_at_of p f.pc) c ≡ 0
      → get_or (frame_after p (effect_in p ρ f) f).cells c 0 ≡ get_or f.cells c 0
  unfolding frame_after
  cell_stays f s c h = cell-kept p f.pc f.cells c h (possible-in f s)

  -- the place stays or is a successor
  pub place-follows : (f : Frame) → is_start p f.pc ≡ true
      → ((frame_after p (effect_in p ρ f) f).pc ≡ f.pc) ⊎ Follows p f.pc (frame_after p (effect_in p ρ f) f).pc
  unfolding frame_after
  place-follows f s = target-follows p f.pc (possible-in f s)
