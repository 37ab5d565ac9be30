-- Layer A, why leaving cells out of a save is right: every command, every whole save and every recovery keep `Held`. No bytes stand here.
-- Assumes nothing.
use Prim.Native.Nat.{ℕ, suc, ◌+◌, ◌*◌, ◌≤◌, ◌<◌}
use mathlib.Core.Path.{◌≡◌, refl, sym, ◌∙◌, ap, subst}
use mathlib.Core.Bool.{Bool, true, false}
use mathlib.Core.List.{List, [], ◌∷◌, ◌++◌}
use mathlib.Core.Logic.{◌⊎◌, inr, ⊎_elim}
use native.Mathlib.Omega.{arith}
use lib.IntN.{ℤ}
use lib.ListN.{length, get_or}
use lib.Dec.{eqb}
use borrow.Author.Tests.{eqb-true, eqb-false, eq-eqb, ne_eqb}
use Rattle.instruction.specs.Bytes.{byte, cells_of}
use Rattle.program.specs.Places.{is_start, is_exclude, exclude_number}
use Rattle.program.proofs.Tests.{bool_cases, and_both}
use Rattle.program.proofs.Accepted.{accepted, start-within, start-next}
use Rattle.execution.specs.Effects.{Effect, sets, saves, next_of}
use Rattle.analysis.specs.Paths.{Follows, Live, later, Region}
use Rattle.analysis.proofs.Safety.{Inside}
use Rattle.marks.specs.Marks.{mark_of, excluded, saved, recovered, is_stored_of, in_set, excluded_marks, saved_marks, recovered_marks}
use Rattle.marks.specs.declared.Mark.{Mark}
use Rattle.marks.specs.declared.Mark.TheVariants.{Include, Pending, Kept, Dead}
use Rattle.marks.proofs.Laws.{excluded-in, saved-in, recovered-in}
use Rattle.journal.specs.declared.Commit.{Commit}
use Rattle.journal.specs.Format.{Checkpoint, Format}
use Rattle.journal.specs.Reading.{facts_of, first, last_of, saved_in, saved_value, Rising}
use Rattle.journal.proofs.Storing.{last_snoc, saved-snoc}
use Rattle.step.specs.State.{Env, env_of, Machine, machine_of, commit_at_of, checkpoint_at}
use Rattle.step.specs.Step.{exclude_after, marks_after, performed, on_journal}
use Rattle.step.specs.Ready.{Legal, Good}
use Rattle.step.proofs.Facts.{sound-facts}
use Rattle.recovery.specs.Recover.{regs_of, included, marks_by_of}
use Rattle.restart.specs.Reference.{Frame, frame_of, frame_after, effect_in, stays, next_frame, ref_at}
use Rattle.restart.specs.Claim.{Plan, Safe, Resumes}
use Rattle.restart.proofs.Lists.{included-zero, included-length}
use Rattle.restart.proofs.Invariant.{Agree, Spent, Fixed, Allows, mark_at, Held}
use Rattle.restart.proofs.Frames.{goes_on, next-on}
use Rattle.restart.proofs.Effects.{Goes, Possible, halts, passes, jumps, wrote, took, gave, marks, stores, possible, effect-exclude, effect-checkpoint, live-exists}
use Rattle.restart.proofs.Agreement.{steps-agree, cell_stays, place-follows}
use Rattle.restart.proofs.Checkpoints.{stored_here, stored-not}
use Rattle.restart.proofs.Commits.{last-exclude, last-start}

-- ---- the rules of marks

-- an EXCLUDE at e gives marks that it allows, if its sets do
excluded-allows : (p : List ℕ) (e c : ℕ) (m : Mark) (de ro : Bool) → (de ≡ true → Spent p e c) → (ro ≡ true → Fixed p e c) → Allows p e c (excluded m de ro)
excluded-allows p e c m true ro f g = f refl
excluded-allows p e c Include false true f g = g refl
excluded-allows p e c Pending false true f g = g refl
excluded-allows p e c Kept false true f g = g refl
excluded-allows p e c Dead false true f g = g refl
excluded-allows p e c m false false f g = tt

-- and what is Kept after it was Kept before
excluded-kept : (m : Mark) (de ro : Bool) → excluded m de ro ≡ Kept → m ≡ Kept
excluded-kept m true ro e = cc
excluded-kept Include false true e = cc
excluded-kept Pending false true e = cc
excluded-kept Kept false true e = refl
excluded-kept Dead false true e = cc
excluded-kept m false false e = cc

-- recovery gives marks that the last EXCLUDE allows
recovered-allows : (p : List ℕ) (e c : ℕ) (de ro : Bool) → (de ≡ true → Spent p e c) → (ro ≡ true → Fixed p e c) → Allows p e c (recovered de ro)
recovered-allows p e c true ro f g = f refl
recovered-allows p e c false true f g = g refl
recovered-allows p e c false false f g = tt

-- and so does a whole save
saved-allows : (p : List ℕ) (e c : ℕ) (m : Mark) → Allows p e c m → Allows p e c (saved m)
saved-allows p e c Include a = a
saved-allows p e c Pending a = a
saved-allows p e c Kept a = a
saved-allows p e c Dead a = a

-- what is Kept after it was not Dead
saved-undead : (m : Mark) → saved m ≡ Kept → ¬ (m ≡ Dead)
saved-undead m h e = let k = rw e at h in let z : ◌≡◌ {A = ℕ} 0 1 = cc in omega arith

-- ---- effects

-- an effect of no EXCLUDE leaves the last EXCLUDE and the marks
others-leave : {p : List ℕ} {o : ℕ} {f : Effect} → Possible p o f → ¬ (byte p o ≡ 0x0D) → (v : Env) (e : ℕ) (ms : List ℕ)
    → (exclude_after f o e ≡ e) × (marks_after v f o ms ≡ ms)
others-leave halts n v e ms = (refl, refl)
others-leave (passes g) n v e ms = (refl, refl)
others-leave (jumps g) n v e ms = (refl, refl)
others-leave (wrote g) n v e ms = (refl, refl)
others-leave (took g) n v e ms = (refl, refl)
others-leave (gave g) n v e ms = (refl, refl)
others-leave (marks b g) n v e ms = absurd (n b)
others-leave (stores b g) n v e ms = (refl, refl)

-- an EXCLUDE goes on to what stands behind it
sets-goes : {p : List ℕ} {o : ℕ} → Possible p o sets → Goes p o (next_of p o)
sets-goes (marks b g) = g

-- and so does a CHECKPOINT
saves-goes : {p : List ℕ} {o : ℕ} → Possible p o saves → Goes p o (next_of p o)
saves-goes (stores b g) = g

-- the frame of m at the place o, with the kind of stop k
abbrev frame_at : Machine → (o k : ℕ) → Frame
frame_at m o k = record { cells = m.cells; pc = o; readings = m.regs.readings; outputs = m.regs.outputs; stop = k }

-- where no EXCLUDE is executed, the run stays in the region
inside-other : (p : List ℕ) (e o q : ℕ) → ¬ (byte p o ≡ 0x0D) → Inside p e o → (q ≡ o) ⊎ Follows p o q → Inside p e q
inside-other p e o q n h w = ⊎_elim (λ (i : q ≡ o). subst (Inside p e) (sym i) h) (λ (f : Follows p o q) z. Region.onward (h z) n f) w

-- ---- a legal program

-- it has 256 cells at most
few-cells : {p : List ℕ} → Plan p → cells_of p ≤ 256
few-cells plan = omega (arith, plan.bytes 0)

-- no EXCLUDE stands at offset 0
exclude-some : {p : List ℕ} → Legal p → (e : ℕ) → is_exclude p e ≡ true → ¬ (e ≡ 0)
exclude-some {p} l e is z =
    omega (arith, (start-within p (accepted p (sym l.accepted)) e (and_both (is_start p e) (eqb (byte p e) 0x0D) is).0).0)

module _ {p words : List ℕ} (legal : Legal p) (safe : Safe p words) (e c : ℕ) (is : is_exclude p e ≡ true) (h : c < cells_of p) where
  -- a cell of DE may be left out
  in_de : in_set words (8 * exclude_number p e) c ≡ true → Spent p e c
  in_de t = record { some = exclude-some legal e is; dead = safe.dead e c is h (eqb-true _ _ t) }

  -- a cell of RO is not written
  in_ro : in_set words (8 * exclude_number p e + 4) c ≡ true → Fixed p e c
  in_ro t = record { some = exclude-some legal e is; unwritten = safe.kept e c is h (eqb-true _ _ t) }

-- ---- the marks that recovery gives

-- those without an EXCLUDE
marks-none : (e : Env) (x : ℕ) → x ≡ 0 → marks_by_of e x ≡ included
unfolding marks_by_of
marks-none e x z = rw (eq-eqb x 0 z)

-- and after one
marks-some : (e : Env) (x : ℕ) → ¬ (x ≡ 0) → marks_by_of e x ≡ recovered_marks e.sets (8 * exclude_number e.program x) (cells_of e.program) included
unfolding marks_by_of
marks-some e x n = rw (ne_eqb x 0 n)

-- the last EXCLUDE, if there is one, allows them
marks-allow : {p words : List ℕ} → Plan p → Safe p words → (x c : ℕ) → (x ≡ 0) ⊎ (is_exclude p x ≡ true) → c < cells_of p
    → Allows p x c (mark_at (marks_by_of (env_of p words) x) c)
marks-allow {p} {words} plan safe x c i h =
    let few : c < 256 = omega (arith, few-cells plan) in
    let at = 8 * exclude_number p x in
    ⊎_elim
    (λ (z : x ≡ 0).
    let e = ap (λ (ms : List ℕ). mark_at ms c) (marks-none (env_of p words) x z) ∙ ap mark_of (included-zero c) in
    subst (Allows p x c) (sym e) tt)
    (λ (is : is_exclude p x ≡ true).
    let e = ap (λ (ms : List ℕ). mark_at ms c) (marks-some (env_of p words) x (exclude-some plan.legal x is))
    ∙ recovered-in words at (cells_of p) included c h (rw included-length few) in
    subst (Allows p x c) (sym e)
    (recovered-allows p x c (in_set words at c) (in_set words (at + 4) c) (in_de plan.legal safe x c is h) (in_ro plan.legal safe x c is h)))
    i

module _ (p : List ℕ) (ρ : List ℤ) (f₀ : Frame) (plan : Plan p) where
  -- a step that executes nothing: only where the journal is written changes
  pub held_same : (m : Machine) (js : List Checkpoint) (t b : ℕ) → Held p ρ f₀ m js t b → (w x k : ℕ) (l : List ℕ)
      → Held p ρ f₀ (machine_of (on_journal m.regs m.regs.pc w x k) m.cells m.marks l) js t b
  held_same m js t b h w x k l = record {
    follows = h.follows;
    inside = h.inside;
    allows = h.allows;
    kept = h.kept;
    resumes = h.resumes;
  }

  module _ (m : Machine) (js : List Checkpoint) (t b : ℕ) (g : Good p m) (h : Held p ρ f₀ m js t b) where
    -- the machine stands at an instruction
    stands : is_start p m.regs.pc ≡ true
    stands = (sound-facts g.sound).stands

    -- whose effect is a possible one
    may : Possible p m.regs.pc (effect_in p ρ (frame_of m))
    unfolding effect_in
    may = possible p m.regs.pc plan.legal stands _ _ _ _

    -- that of an EXCLUDE
    sets-here : byte p m.regs.pc ≡ 0x0D → effect_in p ρ (frame_of m) ≡ sets
    unfolding effect_in
    sets-here k = effect-exclude p m.regs.pc k _ _ _ _

    -- and that of a CHECKPOINT
    saves-here : byte p m.regs.pc ≡ 0x0E → effect_in p ρ (frame_of m) ≡ saves
    unfolding effect_in
    saves-here k = effect-checkpoint p m.regs.pc k _ _ _ _

    -- each cell has a mark
    marked : (c : ℕ) → c < cells_of p → c < length m.marks
    marked c l = omega (arith, few-cells plan, g.marks)

    -- where it goes on, it follows the reference run
    follows_on : stays p ρ (frame_of m) ≡ false → Agree p (frame_after p (effect_in p ρ (frame_of m)) (frame_of m)) (ref_at p ρ f₀ (suc t))
    unfolding ref_at
    follows_on d =
        subst (λ (f : Frame). Agree p f (next_frame p ρ (ref_at p ρ f₀ t))) (next-on p ρ (frame_of m) d)
        (steps-agree p ρ plan.legal (frame_of m) (ref_at p ρ f₀ t) stands h.follows)

    -- nothing writes a Kept cell
    kept_on : (c : ℕ) → c < cells_of p → mark_at m.marks c ≡ Kept
        → saved_value c js 0 ≡ get_or (frame_after p (effect_in p ρ (frame_of m)) (frame_of m)).cells c 0
    kept_on c l k =
        let f = subst (Allows p m.regs.exclude c) k (h.allows c l) in
        h.kept c l k ∙ sym (cell_stays p ρ plan.legal (frame_of m) stands c (f.unwritten m.regs.pc (h.inside f.some)))

    -- an EXCLUDE is executed
    held-exclude : (words : List ℕ) → Safe p words → stays p ρ (frame_of m) ≡ false → byte p m.regs.pc ≡ 0x0D
        → Held p ρ f₀ (performed (env_of p words) sets m) js (suc t) b
    unfolding performed frame_after
    held-exclude words s d k =
        let o = m.regs.pc in
        let e = sets-here k in
        let is : is_exclude p o ≡ true = rw (stands, eq-eqb (byte p o) 0x0D k) in
        let at = 8 * exclude_number p o in
        let rule : (c : ℕ) → c < cells_of p → mark_at (excluded_marks words at (cells_of p) m.marks) c
        ≡ excluded (mark_at m.marks c) (in_set words at c) (in_set words (at + 4) c) =
        λ c l. excluded-in words at (cells_of p) m.marks c l (marked c l) in
        record {
          follows = rw e at (follows_on d);
          inside = λ _. Region.first (sets-goes (rw e at may)).to;
          allows = λ c l.
              subst (Allows p o c) (sym (rule c l))
              (excluded-allows p o c (mark_at m.marks c) (in_set words at c) (in_set words (at + 4) c)
              (in_de plan.legal s o c is l) (in_ro plan.legal s o c is l));
          kept = λ c l z. h.kept c l (excluded-kept (mark_at m.marks c) (in_set words at c) (in_set words (at + 4) c) (sym (rule c l) ∙ z));
          resumes = h.resumes;
        }

    -- another instruction is executed
    held-other : (words : List ℕ) → stays p ρ (frame_of m) ≡ false → ¬ (byte p m.regs.pc ≡ 0x0D)
        → Held p ρ f₀ (performed (env_of p words) (effect_in p ρ (frame_of m)) m) js (suc t) b
    unfolding performed frame_after
    held-other words d n =
        let q = others-leave may n (env_of p words) m.regs.exclude m.marks in
        record {
          follows = follows_on d;
          inside = rw q.0 (inside-other p m.regs.exclude m.regs.pc _ n h.inside (place-follows p ρ plan.legal (frame_of m) stands));
          allows = rw (q.0, q.1) h.allows;
          kept = λ c l z. kept_on c l (rw q.1 at z);
          resumes = h.resumes;
        }

    -- a save is whole at a CHECKPOINT
    module _ (s : m.regs.stop ≡ 0) (k : byte p m.regs.pc ≡ 0x0E) where
      -- which goes on to what stands behind it
      behind : Goes p m.regs.pc (next_of p m.regs.pc)
      behind = saves-goes (rw (saves-here k) at may)

      -- as the reference run does
      behind-follows : Agree p (frame_at m (next_of p m.regs.pc) m.regs.stop) (ref_at p ρ f₀ (suc t))
      unfolding frame_after
      behind-follows =
          subst (λ (n : ℕ). Agree p (frame_at m (next_of p m.regs.pc) n) (ref_at p ρ f₀ (suc t))) (sym s)
          (rw (saves-here k) at (follows_on (goes_on p ρ (frame_of m) s (λ r. absurd (omega arith)))))

      -- and stays in the region
      behind-inside : Inside p m.regs.exclude (next_of p m.regs.pc)
      behind-inside = inside-other p m.regs.exclude m.regs.pc (next_of p m.regs.pc) (λ z. omega arith) h.inside (inr behind.to)

      -- an instruction starts there
      behind-start : is_start p (next_of p m.regs.pc) ≡ true
      behind-start = start-next p (accepted p (sym plan.legal.accepted)) m.regs.pc stands (rw k)

      -- a cell that is live there is not Dead
      live-undead : (c : ℕ) → c < cells_of p → Live p c (next_of p m.regs.pc) → ¬ (mark_at m.marks c ≡ Dead)
      live-undead c l v z =
          let f = subst (Allows p m.regs.exclude c) z (h.allows c l) in
          f.dead m.regs.pc (h.inside f.some) k (later (behind.must c) behind.to v)

      -- each other cell has its value in this checkpoint or in those before
      saved-here : (c : ℕ) → c < cells_of p → (x : Mark) → mark_at m.marks c ≡ x → ¬ (x ≡ Dead)
          → saved_in c (checkpoint_at p m).records (saved_value c js 0) ≡ get_or m.cells c 0
      saved-here c l Include e z = stored_here p plan m c _ l (ap is_stored_of e)
      saved-here c l Pending e z = stored_here p plan m c _ l (ap is_stored_of e)
      saved-here c l Kept e z = stored-not p m c _ (ap is_stored_of e) ∙ h.kept c l e
      saved-here c l Dead e z = absurd (z refl)

      -- so it has it in all of them
      journal-here : (c : ℕ) → c < cells_of p → ¬ (mark_at m.marks c ≡ Dead) → saved_value c (js ++ (checkpoint_at p m ∷ [])) 0 ≡ get_or m.cells c 0
      journal-here c l z = saved-snoc c js (checkpoint_at p m) 0 ∙ saved-here c l (mark_at m.marks c) refl z

      -- they take the run up behind the CHECKPOINT
      saved-resumes : Resumes p (js ++ (checkpoint_at p m ∷ [])) (ref_at p ρ f₀ (suc t))
      unfolding checkpoint_at
      saved-resumes =
          let a = behind-follows in
          let e : last_of first (js ++ (checkpoint_at p m ∷ [])) ≡ commit_at_of p m = last_snoc first js (checkpoint_at p m) in
          let i = subst (Inside p m.regs.exclude) a.pc behind-inside in
          record {
            place = ap (λ (x : Commit). x.place) e ∙ a.pc;
            readings = ap (λ (x : Commit). x.readings) e ∙ a.readings;
            outputs = ap (λ (x : Commit). x.outputs) e ∙ a.outputs;
            runs = sym a.stop ∙ s;
            size = sym a.size ∙ g.cells;
            cells = λ c v.
                let w = subst (Live p c) (sym a.pc) v in
                let l = live-exists p plan.legal c (next_of p m.regs.pc) behind-start w in
                journal-here c l (live-undead c l w) ∙ a.cells c w;
            region = subst (λ (x : Commit). Inside p x.exclude (ref_at p ρ f₀ (suc t)).pc) (sym e) i;
          }

  -- an instruction is executed, an EXCLUDE or a passed-over CHECKPOINT among them
  pub held-executed : (words : List ℕ) → Safe p words → (m : Machine) (js : List Checkpoint) (t b : ℕ) → Good p m → Held p ρ f₀ m js t b
      → stays p ρ (frame_of m) ≡ false → Held p ρ f₀ (performed (env_of p words) (effect_in p ρ (frame_of m)) m) js (suc t) b
  held-executed words s m js t b g h d =
      bool_cases (eqb (byte p m.regs.pc) 0x0D)
      (λ k.
      let i = eqb-true _ _ k in
      subst (λ (f : Effect). Held p ρ f₀ (performed (env_of p words) f m) js (suc t) b) (sym (sets-here m js t b g h i))
      (held-exclude m js t b g h words s d i))
      (λ k. held-other m js t b g h words d (eqb-false _ _ k))

  -- a save is whole
  pub held-saved : (m : Machine) (js : List Checkpoint) (t b : ℕ) → Good p m → Held p ρ f₀ m js t b → m.regs.stop ≡ 0 → byte p m.regs.pc ≡ 0x0E
      → (w x k : ℕ) (l : List ℕ)
      → Held p ρ f₀ (machine_of (on_journal m.regs (next_of p m.regs.pc) w x k) m.cells (saved_marks (cells_of p) m.marks) l)
      (js ++ (checkpoint_at p m ∷ [])) (suc t) (suc t)
  held-saved m js t b g h s k₀ w x k l =
      let rule : (c : ℕ) → c < cells_of p → mark_at (saved_marks (cells_of p) m.marks) c ≡ saved (mark_at m.marks c) =
      λ c i. saved-in (cells_of p) m.marks c i (marked m js t b g h c i) in
      record {
        follows = behind-follows m js t b g h s k₀;
        inside = behind-inside m js t b g h s k₀;
        allows = λ c i. subst (Allows p m.regs.exclude c) (sym (rule c i)) (saved-allows p m.regs.exclude c (mark_at m.marks c) (h.allows c i));
        kept = λ c i z. journal-here m js t b g h s k₀ c i (saved-undead (mark_at m.marks c) (sym (rule c i) ∙ z));
        resumes = saved-resumes m js t b g h s k₀;
      }

  -- recovery takes the checkpoints up
  pub held-restored : {G : Format} (words : List ℕ) → Safe p words → (js : List Checkpoint) (b : ℕ) → Rising (facts_of G p) first js → Resumes p js (ref_at p ρ f₀ b)
      → (values : List ℕ) → length values ≡ 256 → ((c : ℕ) → c < 256 → get_or values c 0 ≡ saved_value c js 0) → (end torn page owner : ℕ) (l : List ℕ)
      → Held p ρ f₀ (machine_of (regs_of end torn (last_of first js) page owner) values (marks_by_of (env_of p words) (last_of first js).exclude) l) js b b
  held-restored words s js b r h values size e end torn page owner l =
      let x = (last_of first js).exclude in
      record {
        follows = record {
          pc = h.place;
          readings = h.readings;
          outputs = h.outputs;
          stop = sym h.runs;
          size = size ∙ sym h.size;
          cells = λ c v.
              let n = live-exists p plan.legal c (last_of first js).place (last-start p plan.legal r) v in
              e c (omega (arith, few-cells plan)) ∙ h.cells c (subst (Live p c) h.place v);
        };
        inside = λ n. subst (Region p x) (sym h.place) (h.region n);
        allows = λ c n. marks-allow plan s x c (last-exclude p r) n;
        kept = λ c n z. sym (e c (omega (arith, few-cells plan)));
        resumes = h;
      }
