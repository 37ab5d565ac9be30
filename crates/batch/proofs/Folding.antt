-- A list may go on with a folded chip: where the old one can be taken up, a finished new one can be too, its marks naming the plan, and holds the same (`folded-taken`), and so one
-- that was folded any number of times (`passed-taken`), with notes between too (`noted-passed-taken`). Where it can be taken up it can be folded (`taken-foldable`), and a finished
-- new one recovers to the state that the old one gives (`folded-recovers`). The old chip's marks may be `A2`, which name no plan.
-- Assumes nothing.
use Prim.Native.Nat.{ℕ, ◌≤◌, ◌<◌}
use mathlib.Core.Path.{◌≡◌, refl, sym, ◌∙◌, ap, subst}
use mathlib.Core.Bool.{Bool, true, ◌&&◌}
use mathlib.Core.List.{List, []}
use mathlib.Core.Logic.{◌⊎◌, inl, inr, ⊎_elim}
use native.Mathlib.Omega.{arith}
use lib.ListN.{length, get_or}
use lib.Dec.{ltb}
use Rattle.program.specs.Places.{is_start}
use Rattle.program.proofs.Accepted.{accepted}
use Rattle.program.proofs.Tests.{bool_cases}
use Rattle.analysis.specs.Paths.{Region}
use Rattle.journal.specs.declared.Commit.{Commit}
use Rattle.journal.specs.Format.{Checkpoint, unowned, owner_of_plan, kind_of, filled_of, chip_length, images}
use Rattle.journal.specs.Reading.{Facts, first, last_of, own_all, saved_value, Damaged}
use Rattle.journal.specs.Answer.{Taken}
use Rattle.journal.specs.Shape.{Shape}
use Rattle.journal.proofs.Naming.{kind-most, owner-kind, owner-small}
use Rattle.journal.proofs.Back.{shape-reads, read-shape, read_back, not_damaged}
use Rattle.journal.proofs.Apart.{no-marks, other-kind}
use Rattle.step.specs.State.{env_of, Machine}
use Rattle.step.specs.Ready.{Legal}
use Rattle.recovery.specs.Recover as recovery
use Rattle.recovery.specs.Recover.{Recovers}
use Rattle.recovery.specs.Recover.{Restored}
use Rattle.folding.specs.Fold.{Refused}
use Rattle.folding.specs.Fold.{byte_chip, byte_facts, Holds, refusal_of, Outcome, Folds}
use Rattle.folding.specs.Lists.{SameState, Finished}
use Rattle.folding.proofs.Calls.{number_is, puts-number}
use Rattle.folding.proofs.Contents.{holds-taken, holds-whole, holds-own}
use Rattle.folding.proofs.Kept.{unnamed, kept, folded-shape, folded_read}
use Rattle.folding.proofs.Same.{same-state}
use Rattle.folding.proofs.Theorem.{finished-copied}
use Rattle.restart.specs.Reference.{Frame}
use Rattle.restart.specs.Claim.{Plan, Resumes, TakenUp, Names}
use Rattle.restart.proofs.Effects.{live-exists}
use Rattle.restart.proofs.Commits.{last-start}
use Rattle.restart.proofs.Outcomes.{values_of, values-some}
use Rattle.batch.specs.Batch.{Passed, Foldable}
use Rattle.batch.specs.Noting.{NotedPassed}
use Rattle.batch.proofs.Noting.{noted-taken, passed-noted}

-- ---- the two kinds of mark

-- an accepted plan's marks are of another kind than those that name no plan
kinds-apart : {p : List ℕ} → Plan p → ¬ (kind_of unowned ≡ kind_of (owner_of_plan p))
unfolding kind_of
kinds-apart {p} plan e =
    let a = accepted p (sym plan.legal.accepted) in
    omega (arith, owner-kind p a.some (omega (arith, a.most)))

kind-few : (owner : ℕ) → kind_of owner < 2
kind-few owner = omega (arith, kind-most owner)

-- what a chip with the engine's shape holds is read off its own saves: a chip without marks reads with either kind
same-saves : {p : List ℕ} → Plan p → {owner named end torn end' torn' : ℕ} {last last' : Commit} {own : Bool} {values values' chip q : List ℕ} {js : List Checkpoint} → Names p owner
    → Shape (byte_facts owner p) chip js q → Holds p chip named end torn last values → (t : Taken (byte_facts named p) chip end' torn' last' own values') → t.saves ≡ js
same-saves {p} plan {chip = chip} {q = q} {js = js} (inl e) s (Holds.today _) t = (read-shape (subst (λ (o : ℕ). Shape (byte_facts o p) chip js q) e s) t.reading).0
same-saves {p} plan {chip = chip} {q = q} {js = js} (inr e) s (Holds.today _) t =
    let n = no-marks {F = byte_facts unowned p} {F' = byte_facts (owner_of_plan p) p} (kind-few unowned) (kind-few (owner_of_plan p)) (kinds-apart plan) js t.saves
    (subst (λ (o : ℕ). Shape (byte_facts o p) chip js q) e s) t.reading t.accepted in
    n.1 ∙ sym n.0
same-saves {p} plan {chip = chip} {q = q} {js = js} (inl e) s (Holds.older d _) t = absurd (not_damaged (subst (λ (o : ℕ). Shape (byte_facts o p) chip js q) e s) d)
same-saves {p} plan {chip = chip} {q = q} {js = js} (inr e) s (Holds.older d _) t = (read-shape (subst (λ (o : ℕ). Shape (byte_facts o p) chip js q) e s) t.reading).0

-- ---- what is taken up

module _ {p : List ℕ} (plan : Plan p) (f : Frame) where
  -- checkpoints with the same last mark, whoever it names, and the same values take a run up at the same place
  resumes-same : {js js' : List Checkpoint} → is_start p f.pc ≡ true → unnamed (last_of first js') ≡ unnamed (last_of first js)
      → ((c : ℕ) → c < 256 → saved_value c js' 0 ≡ saved_value c js 0) → Resumes p js f → Resumes p js' f
  resumes-same {js} {js'} start e v h = record {
    place = ap (λ (x : Commit). x.place) e ∙ h.place;
    readings = ap (λ (x : Commit). x.readings) e ∙ h.readings;
    outputs = ap (λ (x : Commit). x.outputs) e ∙ h.outputs;
    runs = h.runs;
    size = h.size;
    cells = λ k l.
        let n = live-exists p plan.legal k f.pc start l in
        v k (omega (arith, n, plan.bytes 0)) ∙ h.cells k l;
    region = subst (λ (x : Commit). ¬ (x.exclude ≡ 0) → Region p x.exclude f.pc) (sym e) h.region;
  }

  pub folded-taken : {owner : ℕ} {old new : List ℕ} → Names p owner → TakenUp 1 owner p f old → Finished p old new → TakenUp 1 (owner_of_plan p) p f new
  folded-taken names u d =
      let c = finished-copied d in
      let t = holds-taken c.holds in
      let i = kept p t in
      let g = same-saves plan names u.shape c.holds t in
      let start : is_start p f.pc ≡ true = subst (λ (o : ℕ). is_start p o ≡ true) u.resumes.place (last-start p plan.legal u.shape.rising) in
      record {
        saves = i.saves;
        torn = [];
        shape = folded-shape p t c.free c.bytes;
        owned = record { all = i.own; fits = owner-small p };
        resumes =
            resumes-same start (i.last_is ∙ ap unnamed (t.last_is ∙ ap (last_of first) g))
            (λ k l. sym (i.values_are k l) ∙ t.values_are k l ∙ ap (λ (js : List Checkpoint). saved_value k js 0) g) u.resumes;
      }

  -- the last chip's marks name the plan or none, as those of the first do
  pub noted-passed-names : {page owner : ℕ} {chip : List ℕ} {named : ℕ} {l : List ℕ} → Names p owner → NotedPassed page p owner chip named l → Names p named
  noted-passed-names names NotedPassed.as_left = names
  noted-passed-names names (NotedPassed.folded h e d) = inl refl
  noted-passed-names names (NotedPassed.noted h d) = noted-passed-names names h

  pub noted-passed-taken : {page owner : ℕ} {chip : List ℕ} {named : ℕ} {l : List ℕ} → Names p owner → TakenUp page owner p f chip → NotedPassed page p owner chip named l → TakenUp page named p f l
  noted-passed-taken names u NotedPassed.as_left = u
  noted-passed-taken names u (NotedPassed.folded {named} {l} {new} h e d) =
      subst (λ (k : ℕ). TakenUp k (owner_of_plan p) p f new) (sym e)
      (folded-taken (noted-passed-names names h) (subst (λ (k : ℕ). TakenUp k named p f l) e (noted-passed-taken names u h)) d)
  noted-passed-taken names u (NotedPassed.noted h d) = noted-taken plan f (noted-passed-taken names u h) d

  -- without notes
  pub passed-names : {page owner named : ℕ} {chip l : List ℕ} → Names p owner → Passed page p owner chip named l → Names p named
  passed-names names g = noted-passed-names names (passed-noted g)

  pub passed-taken : {page owner named : ℕ} {chip l : List ℕ} → Names p owner → TakenUp page owner p f chip → Passed page p owner chip named l → TakenUp page named p f l
  passed-taken names u g = noted-passed-taken names u (passed-noted g)

-- ---- what can be taken up can be folded

-- what a chip with the engine's shape reads as, with any list of its values
shape-taken : {F : Facts} {chip q : List ℕ} {js : List Checkpoint} (values : List ℕ) (s : Shape F chip js q) → length values ≡ 256
    → ((c : ℕ) → c < 256 → get_or values c 0 ≡ saved_value c js 0)
    → Taken F chip (length (images F.format js)) (filled_of F.format.page (length (shape-reads s).left)) (last_of first js) (own_all F.format.owner js) values
shape-taken {js = js} values s size v =
    let r = shape-reads s in
    record {
      saves = js;
      rest = r.left;
      reading = r.reading;
      accepted = (read_back s r.reading).1;
      end_is = refl;
      torn_is = refl;
      last_is = refl;
      own_is = refl;
      cells = size;
      values_are = v;
    }

-- of an accepted plan the tests give 9 or 11, or refuse nothing
test-number : {p : List ℕ} → Legal p → (words : List ℕ) (old new : ℕ) → refusal_of (env_of p words) old new ≤ 11
unfolding refusal_of
test-number {p} legal words old new =
    let a = legal.accepted in
    bool_cases (ltb (length words) 512)
    (λ b. rw (a, b) (omega arith))
    (λ b. bool_cases (chip_length 1 old && chip_length 1 new) (λ c. rw (a, b, c) (omega arith)) (λ c. rw (a, b, c) (omega arith)))

module _ {p : List ℕ} (plan : Plan p) {owner end torn : ℕ} {last : Commit} {values chip : List ℕ} (h : Holds p chip owner end torn last values) where
  never : (k : ℕ) → (k ≡ 12) ⊎ (15 ≤ k) → (words new : List ℕ) (stored budget : ℕ) (r : Outcome) → Folds (env_of p words) chip new stored budget r → ¬ (r.answer ≡ Refused k)
  never k z words new stored budget r (Folds.refuses n x l y) e =
      let m = test-number plan.legal words (length chip) (length new) in
      let i = number_is y e in
      ⊎_elim (λ a. omega arith) (λ a. omega arith) z
  never k z words new stored budget r (Folds.damaged x d d' y) e = holds-whole h d d'
  never k z words new stored budget r (Folds.another x t y) e = holds-own h t
  never k z words new stored budget r (Folds.reads x owner end torn last values h' q) e =
      ⊎_elim (λ a. ⊎_elim (λ b. omega arith) (λ b. omega arith) z) (λ a. ⊎_elim (λ b. omega arith) (λ b. omega arith) z) (puts-number q e)

  held-foldable : Foldable p chip
  held-foldable = record { owner = owner; end = end; torn = torn; last = last; values = values; holds = h; never = never }

-- a chip whose marks name the plan
today-foldable : {p : List ℕ} → Plan p → {chip q : List ℕ} {js : List Checkpoint} → Shape (byte_facts (owner_of_plan p) p) chip js q → own_all (owner_of_plan p) js ≡ true → Foldable p chip
today-foldable {p} plan {chip} {js = js} s own =
    let F = byte_facts (owner_of_plan p) p in
    let end = length (images F.format js) in
    let torn = filled_of 1 (length (shape-reads s).left) in
    let v = values-some js in
    held-foldable plan (Holds.today (subst (λ (b : Bool). Taken F chip end torn (last_of first js) b (values_of js)) own (shape-taken (values_of js) s v.size v.values_are)))

module _ {p : List ℕ} (plan : Plan p) {f : Frame} {owner : ℕ} {chip : List ℕ} (names : Names p owner) (u : TakenUp 1 owner p f chip) where
  pub taken-foldable : Foldable p chip
  unfolding own_all
  taken-foldable =
      ⊎_elim
      (λ (e : owner ≡ owner_of_plan p).
      today-foldable plan (subst (λ (o : ℕ). Shape (byte_facts o p) chip u.saves u.torn) e u.shape) (subst (λ (o : ℕ). own_all o u.saves ≡ true) e u.owned.all))
      (λ (e : owner ≡ unowned).
      let s = subst (λ (o : ℕ). Shape (byte_facts o p) chip u.saves u.torn) e u.shape in
      let v = values-some u.saves in
      ⊎_elim
      (λ (d : Damaged (byte_facts (owner_of_plan p) p) chip). held-foldable plan (Holds.older d (shape-taken (values_of u.saves) s v.size v.values_are)))
      (λ (k : ((u.saves ≡ []) × Shape (byte_facts (owner_of_plan p) p) chip [] u.torn)). today-foldable plan k.1 refl)
      (other-kind (byte_chip unowned) (byte_chip (owner_of_plan p)) p (kind-few unowned) (kinds-apart plan) s))
      names

  -- ---- and recovers to the same state

  pub folded-recovers : {new : List ℕ} → Finished p chip new → (words : List ℕ) (m m' : Machine) → m.journal ≡ chip → m'.journal ≡ new
      → (a b : recovery.Outcome) → Recovers (env_of p words) 1 owner m a → Recovers (env_of p words) 1 (owner_of_plan p) m' b → a.answer ≡ Restored
      → (b.answer ≡ Restored) × SameState a.machine b.machine
  folded-recovers d words m m' i j a b x y r =
      let c = finished-copied d in
      let t = holds-taken c.holds in
      let g = same-saves plan names u.shape c.holds t in
      let js = u.saves in
      let shape = subst (λ (l : List ℕ). Shape (byte_facts owner p) l js u.torn) (sym i) u.shape in
      let end = length (images (byte_chip owner) js) in
      let torn = filled_of 1 (length (shape-reads shape).left) in
      let old = subst (λ (z : Bool). Taken (byte_facts owner p) m.journal end torn (last_of first js) z c.values) u.owned.all
      (shape-taken c.values shape t.cells (λ k h. t.values_are k h ∙ ap (λ (l : List Checkpoint). saved_value k l 0) g)) in
      same-state (env_of p words) owner (owner_of_plan p) m m' old (folded_read p t c.free (j ∙ c.bytes)) ((kept p t).last_is ∙ ap unnamed (t.last_is ∙ ap (last_of first) g))
      (ap (λ (l : List ℕ). chip_length 1 (length l)) j ∙ c.fits) a b x y r
