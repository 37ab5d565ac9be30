-- A list can go on with the chip that another one left: the chip can be taken up at the tally of its last final byte (`left-taken`), and with the cells, place and counts that it reads
-- as (`read_taken`), which are those that recovery gives (`restored-read`). A list under some sets is one under more (`widens`).
-- Assumes nothing.
use Prim.Native.Nat.{ℕ}
use mathlib.Core.Path.{◌≡◌, refl, sym, ◌∙◌, ap, subst}
use mathlib.Core.Bool.{Bool, true, false}
use mathlib.Core.List.{List}
use native.Mathlib.Omega.{arith}
use lib.IntN.{ℤ}
use Rattle.program.specs.Places.{is_start}
use Rattle.analysis.specs.Paths.{Region}
use Rattle.journal.specs.declared.Commit.{Commit}
use Rattle.journal.specs.Scanned.{BadLength, Damaged, Found}
use Rattle.journal.specs.Format.{Checkpoint, format_for}
use Rattle.journal.specs.Reading.{facts_of, first, last_of, saved_value}
use Rattle.journal.specs.Answer.{Taken}
use Rattle.journal.proofs.Back.{read-shape}
use Rattle.step.specs.State.{env_of, Machine}
use Rattle.recovery.specs.Recover.{Outcome, recover_of, Recovers, refuses, reads}
use Rattle.recovery.specs.Recover.{Restored}
use Rattle.recovery.proofs.Laws.{restored-apart}
use Rattle.restart.specs.Reference.{Frame, frame_of, ref_at}
use Rattle.restart.specs.History.{System, History, begins, refused_recovery, refused_run_of, recovers, crashes, runs, crashed_run}
use Rattle.restart.specs.Claim.{Plan, TakenUp}
use Rattle.restart.proofs.Effects.{live-exists}
use Rattle.restart.proofs.Commits.{last-start}
use Rattle.restart.proofs.Upheld.{Lasting}
use Rattle.batch.specs.Noting.{frame_read}

module _ {p : List ℕ} {ρ : List ℤ} {f₀ : Frame} {page owner n t₀ : ℕ} {s : System} where
  -- the chip of any system that a list reaches
  pub left-taken : Lasting p ρ f₀ page owner n t₀ s → TakenUp page owner p (ref_at p ρ f₀ s.tally.committed) s.machine.journal
  left-taken l = record { saves = l.saves; torn = l.torn; shape = l.shape; owned = l.owned; resumes = l.resumes }

-- a list that begins with a chip that can be taken up takes it up
pub takes-up : (p : List ℕ) (ρ : List ℤ) (f₀ : Frame) (page owner t₀ : ℕ) (chip : List ℕ) → TakenUp page owner p (ref_at p ρ f₀ t₀) chip
    → (l : List ℕ) → l ≡ chip → TakenUp page owner p (ref_at p ρ f₀ t₀) l
takes-up p ρ f₀ page owner t₀ chip taken l e = subst (TakenUp page owner p (ref_at p ρ f₀ t₀)) (sym e) taken

-- a list from the frame itself is one at its tally 0
pub takes-from : (p : List ℕ) (ρ : List ℤ) (f : Frame) (page owner : ℕ) (chip : List ℕ) → TakenUp page owner p f chip
    → (l : List ℕ) → l ≡ chip → TakenUp page owner p (ref_at p ρ f 0) l
unfolding ref_at
takes-from p ρ f page owner chip taken = takes-up p ρ f page owner 0 chip taken

-- ---- with what the chip reads as

pub read_taken : {page owner end torn : ℕ} {last : Commit} {own : Bool} {p chip values : List ℕ} {f : Frame} → Plan p → TakenUp page owner p f chip
    → Taken (facts_of (format_for page owner) p) chip end torn last own values → TakenUp page owner p (frame_read last values) chip
read_taken {last = last} {p = p} plan u t =
    let g = read-shape u.shape t.reading in
    let e : last ≡ last_of first u.saves = t.last_is ∙ ap (last_of first) g.0 in
    let h = u.resumes in
    let start : is_start p last.place ≡ true = subst (λ (x : Commit). is_start p x.place ≡ true) (sym e) (last-start p plan.legal u.shape.rising) in
    record {
      saves = u.saves;
      torn = u.torn;
      shape = u.shape;
      owned = u.owned;
      resumes =
          record {
            place = ap (λ (x : Commit). x.place) (sym e);
            readings = ap (λ (x : Commit). x.readings) (sym e);
            outputs = ap (λ (x : Commit). x.outputs) (sym e);
            runs = refl;
            size = t.cells;
            cells = λ c v.
                let n = live-exists p plan.legal c last.place start v in
                sym (t.values_are c (omega (arith, n, plan.bytes 0)) ∙ ap (λ (js : List Checkpoint). saved_value c js 0) g.0);
            region = λ x. subst (Region p (last_of first u.saves).exclude) (sym h.place ∙ ap (λ (y : Commit). y.place) (sym e)) (h.region x);
          };
    }

-- the frame f is what the chip reads as
pub record Reads (page owner : ℕ) (p chip : List ℕ) (f : Frame) : Type 0 where
  pub end : ℕ
  pub torn : ℕ
  pub last : Commit
  pub values : List ℕ
  pub taken : Taken (facts_of (format_for page owner) p) chip end torn last true values
  pub frame_is : frame_read last values ≡ f

-- a state that recovery gives is
pub restored-read : (p words : List ℕ) (page owner : ℕ) (m : Machine) (r : Outcome) → Recovers (env_of p words) page owner m r → r.answer ≡ Restored
    → Reads page owner p m.journal (frame_of r.machine)
unfolding recover_of
restored-read p words page owner m r (refuses n h l k) z = absurd (restored-apart z (ap (λ (o : Outcome). o.answer) k))
restored-read p words page owner m r (reads h BadLength v s n x k) z = absurd (restored-apart z (ap (λ (o : Outcome). o.answer) k))
restored-read p words page owner m r (reads h Damaged v s n x k) z = absurd (restored-apart z (ap (λ (o : Outcome). o.answer) k))
restored-read p words page owner m r (reads h (Found end torn last false) v s n x k) z = absurd (restored-apart z (ap (λ (o : Outcome). o.answer) k))
restored-read p words page owner m r (reads h (Found end torn last true) v s n x k) z =
    record { end = end; torn = torn; last = last; values = v; taken = s.1; frame_is = ap (λ (o : Outcome). frame_of o.machine) (sym k) }

-- ---- under more sets

-- accepted calls that are lent such words are lent wider ones too
pub widens : {p : List ℕ} {ρ : List ℤ} {page owner n t₀ : ℕ} {Begins Words Wider : List ℕ → Type 0} {s : System} → ((w : List ℕ) → Words w → Wider w)
    → History p ρ page owner n t₀ Begins Words s → History p ρ page owner n t₀ Begins Wider s
widens f (begins m size b) = begins m size b
widens f (refused_recovery h e other whose l r x z) = refused_recovery (widens f h) e other whose l r x z
widens f (refused_run_of h e l readings budget outs z) = refused_run_of (widens f h) e l readings budget outs z
widens f (recovers h words w r x z) = recovers (widens f h) words (f words w) r x z
widens f (crashes h m) = crashes (widens f h) m
widens f (runs h good r w a) = runs (widens f h) good r (f r.words w) a
widens f (crashed_run h good r w a m) = crashed_run (widens f h) good r (f r.words w) a m
