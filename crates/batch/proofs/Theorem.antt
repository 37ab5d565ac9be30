-- THE CLAIMS OF LISTS THAT FOLLOW ONE ANOTHER: `q_3` of a list that goes on with an old chip under today's sets, `q-3-any-time` of one list with sets of either day, `batches` of any
-- number of lists with folding between them, `noted-batches` with notes too, `q-14` and `q-14-read` of a list that goes on with a note, begun with what the unchanged chip gives. These
-- for every page length; `always-foldable`, `noted-foldable` and `q-8` of byte chips.
-- Assumes nothing.
use Prim.Native.Nat.{ℕ, ◌≤◌, max}
use mathlib.Core.Path.{◌≡◌, refl, sym, ◌∙◌, subst}
use mathlib.Core.Bool.{Bool, true}
use mathlib.Core.List.{List, [], ◌++◌}
use mathlib.Core.Logic.{inr}
use native.Mathlib.Omega.{arith}
use lib.IntN.{ℤ}
use lib.ListN.{length}
use Rattle.journal.specs.declared.Commit.{Commit}
use Rattle.journal.specs.Format.{unowned, owner_of_plan, format_for}
use Rattle.journal.specs.Reading.{facts_of}
use Rattle.journal.specs.Answer.{Taken}
use Rattle.notes.specs.Notes.{Noted}
use Rattle.restart.specs.Reference.{Frame, Numbered, zeros, ref_at, gathered, emitted}
use Rattle.restart.specs.History.{System, History}
use Rattle.restart.specs.Claim.{Plan, Safe, TakenUp, Erased, distinct, Claim, Names}
use Rattle.restart.proofs.Frames.{stopped-stays, emitted-stays}
use Rattle.restart.proofs.Sets.{found-safe}
use Rattle.restart.proofs.Upheld.{Lasting}
use Rattle.restart.proofs.Theorem.{upheld, claim, names-fits, erased-taken}
use Rattle.batch.specs.Until.{EitherSets}
use Rattle.batch.specs.Batch.{BatchClaim, Q3, Q3AnyTime, Passed, Batch, Batches, AlwaysFoldable, Q8}
use Rattle.batch.specs.Noting.{NotedPassed, NotedBatch, begins, onward, NotedBatches, NotedFoldable, frame_read, Q14Read, Q14}
use Rattle.batch.proofs.Growing.{until-safe, either-safe}
use Rattle.batch.proofs.Taking.{left-taken, takes-up, takes-from, read_taken, restored-read}
use Rattle.batch.proofs.Folding.{noted-passed-names, noted-passed-taken, folded-taken, taken-foldable, folded-recovers}
use Rattle.batch.proofs.Noting.{noted-taken, passed-noted, batch-noted}
use Rattle.batch.proofs.Joining.{joined}

-- the lists before gave these outputs, up to the highest tally, and a list goes on at t with a chip that can be taken up there
module _ (p : List ℕ) (ρ : List ℤ) (plan : Plan p) (page owner n t : ℕ) (Begins : List ℕ → Type 0) (takes : (l : List ℕ) → Begins l → TakenUp page owner p (ref_at p ρ zeros t) l)
    (Words : List ℕ → Type 0) (safe : (w : List ℕ) → Words w → Safe p w) where
  pub lasts : {s : System} → History p ρ page owner n t Begins Words s → Lasting p ρ zeros page owner n t s
  lasts h = (upheld p ρ zeros plan page owner n t Begins Words takes safe h).lasting

  pub goes_on : (outs : List Numbered) (high : ℕ) → distinct [] outs ≡ emitted p ρ zeros 0 high → t ≤ high → {s : System} → History p ρ page owner n t Begins Words s
      → BatchClaim p ρ page owner n t Words outs high s
  goes_on outs high so_far l {s} h =
      let m = lasts h in
      let top = max high s.tally.highest in
      let both : distinct [] (outs ++ s.outputs) ≡ emitted p ρ zeros 0 top =
      joined p ρ zeros outs s.outputs 0 t high s.tally.highest so_far m.outputs (omega arith) l (omega (arith, m.since, m.high)) in
      record {
        claim = claim p ρ zeros plan page owner n t Begins Words takes safe h;
        outputs = both;
        all = λ z k g. both ∙ sym (emitted-stays p ρ zeros 0 top k (omega arith) g (stopped-stays p ρ (ref_at p ρ zeros top) z));
      }

-- ---- Q-3

pub q-3-any-time : (page : ℕ) → Q3AnyTime page
q-3-any-time page p plan owner names ρ n s h = claim p ρ zeros plan page owner n 0 (Erased n) (EitherSets p) (erased-taken p ρ page owner n (names-fits p owner names)) (either-safe plan) h

pub q_3 : (page : ℕ) → Q3 page
q_3 page p plan owner names ρ n old new until today s h s' h' =
    let so : (w : List ℕ) → w ≡ old → Safe p w = λ w e. subst (Safe p) (sym e) (until-safe plan until) in
    let sn : (w : List ℕ) → w ≡ new → Safe p w = λ w e. subst (Safe p) (sym e) (found-safe plan today) in
    let t = s.tally.committed in
    let l = lasts p ρ plan page owner n 0 (Erased n) (erased-taken p ρ page owner n (names-fits p owner names)) (λ w. w ≡ old) so h in
    let up = takes-up p ρ zeros page owner t s.machine.journal (left-taken l) in
    goes_on p ρ plan page owner n t (λ l. l ≡ s.machine.journal) up (λ w. w ≡ new) sn s.outputs s.tally.highest l.outputs l.high h'

-- ---- Q-6 and Q-14

-- before the first list there is no output
none_yet : (p : List ℕ) (ρ : List ℤ) → distinct [] [] ≡ emitted p ρ zeros 0 0
unfolding distinct emitted gathered
none_yet p ρ = refl

module _ (p : List ℕ) (ρ : List ℤ) (plan : Plan p) (page : ℕ) (Words : List ℕ → Type 0) (safe : (w : List ℕ) → Words w → Safe p w) where
  -- what the last list's marks name, what it keeps, and the claim of them all
  record Upheld (owner n t₀ : ℕ) (before : List Numbered) (high : ℕ) (s : System) : Type 0 where
    pub names : Names p owner
    pub lasting : Lasting p ρ zeros page owner n t₀ s
    pub claimed : BatchClaim p ρ page owner n t₀ Words before high s

  -- its chip, passed on, can be taken up
  pub noted-onward-takes : {owner named n t₀ : ℕ} {s : System} → Names p owner → Lasting p ρ zeros page owner n t₀ s → (chip : List ℕ) → NotedPassed page p owner s.machine.journal named chip
      → (l : List ℕ) → l ≡ chip → TakenUp page named p (ref_at p ρ zeros s.tally.committed) l
  noted-onward-takes {named = named} {s = s} names l chip g =
      takes-up p ρ zeros page named s.tally.committed chip (noted-passed-taken plan (ref_at p ρ zeros s.tally.committed) names (left-taken l) g)

  noted-batch-upheld : {owner n t₀ high : ℕ} {before : List Numbered} {s : System} → NotedBatch p ρ page Words owner n t₀ before high s → Upheld owner n t₀ before high s
  noted-batch-upheld (begins {owner} {n} {s} names h) =
      let takes = erased-taken p ρ page owner n (names-fits p owner names) in
      record {
        names = names;
        lasting = lasts p ρ plan page owner n 0 (Erased n) takes Words safe h;
        claimed = goes_on p ρ plan page owner n 0 (Erased n) takes Words safe [] 0 (none_yet p ρ) (omega arith) h;
      }
  noted-batch-upheld (onward {owner} {n} {t₀} {high} {before} {s} b named chip g {s'} h) =
      let u = noted-batch-upheld b in
      let t = s.tally.committed in
      let takes = noted-onward-takes u.names u.lasting chip g in
      record {
        names = noted-passed-names plan (ref_at p ρ zeros t) u.names g;
        lasting = lasts p ρ plan page named (length chip) t (λ l. l ≡ chip) takes Words safe h;
        claimed =
            goes_on p ρ plan page named (length chip) t (λ l. l ≡ chip) takes Words safe (before ++ s.outputs) (max high s.tally.highest) u.claimed.outputs
            (omega (arith, u.lasting.high)) h;
      }

  -- THE CLAIM HOLDS OF EVERY BATCH
  pub noted-batch-claim : {owner n t₀ high : ℕ} {before : List Numbered} {s : System} → NotedBatch p ρ page Words owner n t₀ before high s → BatchClaim p ρ page owner n t₀ Words before high s
  noted-batch-claim b = (noted-batch-upheld b).claimed

  -- and its chip lasts, with marks that name the plan or none
  pub noted-batch-lasts : {owner n t₀ high : ℕ} {before : List Numbered} {s : System} → NotedBatch p ρ page Words owner n t₀ before high s → Lasting p ρ zeros page owner n t₀ s
  noted-batch-lasts b = (noted-batch-upheld b).lasting

  pub noted-batch-names : {owner n t₀ high : ℕ} {before : List Numbered} {s : System} → NotedBatch p ρ page Words owner n t₀ before high s → Names p owner
  noted-batch-names b = (noted-batch-upheld b).names

pub noted-batches : (page : ℕ) → NotedBatches page
noted-batches page p plan ρ owner n t₀ high before s b = noted-batch-claim p ρ plan page (EitherSets p) (either-safe plan) b

pub noted-foldable : NotedFoldable
noted-foldable p plan ρ owner n t₀ high before s b named chip g =
    let l = noted-batch-lasts p ρ plan 1 (EitherSets p) (either-safe plan) b in
    let names = noted-batch-names p ρ plan 1 (EitherSets p) (either-safe plan) b in
    let f = ref_at p ρ zeros s.tally.committed in
    taken-foldable plan (noted-passed-names plan f names g) (noted-passed-taken plan f names (left-taken l) g)

-- ---- without notes

module _ (p : List ℕ) (ρ : List ℤ) (plan : Plan p) (page : ℕ) (Words : List ℕ → Type 0) (safe : (w : List ℕ) → Words w → Safe p w) where
  pub onward-takes : {owner named n t₀ : ℕ} {s : System} → Names p owner → Lasting p ρ zeros page owner n t₀ s → (chip : List ℕ) → Passed page p owner s.machine.journal named chip
      → (l : List ℕ) → l ≡ chip → TakenUp page named p (ref_at p ρ zeros s.tally.committed) l
  onward-takes names l chip g = noted-onward-takes p ρ plan page Words safe names l chip (passed-noted g)

  pub batch-claim : {owner n t₀ high : ℕ} {before : List Numbered} {s : System} → Batch p ρ page Words owner n t₀ before high s → BatchClaim p ρ page owner n t₀ Words before high s
  batch-claim b = noted-batch-claim p ρ plan page Words safe (batch-noted b)

  pub batch-lasts : {owner n t₀ high : ℕ} {before : List Numbered} {s : System} → Batch p ρ page Words owner n t₀ before high s → Lasting p ρ zeros page owner n t₀ s
  batch-lasts b = noted-batch-lasts p ρ plan page Words safe (batch-noted b)

  pub batch-names : {owner n t₀ high : ℕ} {before : List Numbered} {s : System} → Batch p ρ page Words owner n t₀ before high s → Names p owner
  batch-names b = noted-batch-names p ρ plan page Words safe (batch-noted b)

pub batches : (page : ℕ) → Batches page
batches page p plan ρ owner n t₀ high before s b = batch-claim p ρ plan page (EitherSets p) (either-safe plan) b

pub always-foldable : AlwaysFoldable
always-foldable p plan ρ owner n t₀ high before s b named chip g = noted-foldable p plan ρ owner n t₀ high before s (batch-noted b) named chip (passed-noted g)

-- ---- Q-8

pub q-8 : Q8
q-8 p plan ρ n s h =
    let safe = either-safe plan in
    let names : Names p unowned = inr refl in
    let l = lasts p ρ plan 1 unowned n 0 (Erased n) (erased-taken p ρ 1 unowned n (names-fits p unowned names)) (EitherSets p) safe h in
    let t = s.tally.committed in
    let u = left-taken l in
    record {
      foldable = taken-foldable plan names u;
      recovers = λ chip d words m m' i j a b x y r. folded-recovers plan names u d words m m' i j a b x y r;
      goes_on = λ chip d s' h'.
          goes_on p ρ plan 1 (owner_of_plan p) (length chip) t (λ k. k ≡ chip)
          (takes-up p ρ zeros 1 (owner_of_plan p) t chip (folded-taken plan (ref_at p ρ zeros t) names u d)) (EitherSets p) safe s.outputs s.tally.highest l.outputs l.high h';
    }

-- ---- Q-14, begun with what the unchanged chip gives

module _ (p : List ℕ) (ρ : List ℤ) (plan : Plan p) (page : ℕ) (Words : List ℕ → Type 0) (safe : (w : List ℕ) → Words w → Safe p w) {owner n t₀ high : ℕ} {before : List Numbered} {s : System}
    (b : NotedBatch p ρ page Words owner n t₀ before high s) {named : ℕ} {chip : List ℕ} (g : NotedPassed page p owner s.machine.journal named chip) where
  -- the chip with a note, passed on, can be taken up there
  pub noted-takes : {end torn after : ℕ} {last : Commit} {own : Bool} {values changed : List ℕ} → Taken (facts_of (format_for page named) p) chip end torn last own values
      → Noted page named p chip changed → (next : List ℕ) → NotedPassed page p named changed after next → (l : List ℕ) → l ≡ next
      → TakenUp page after p (ref_at p ρ (frame_read last values) 0) l
  noted-takes {after = after} {last = last} {values = values} t d next k =
      let f = ref_at p ρ zeros s.tally.committed in
      let at = frame_read last values in
      let names = noted-batch-names p ρ plan page Words safe b in
      let up = noted-passed-taken plan f names (left-taken (noted-batch-lasts p ρ plan page Words safe b)) g in
      takes-from p ρ at page after next (noted-passed-taken plan at (noted-passed-names plan f names g) (noted-taken plan at (read_taken plan up t) d) k)

pub q-14-read : (page : ℕ) → Q14Read page
q-14-read page p plan ρ owner n t₀ high before s b named chip g end torn last own values t changed d after next k s' h =
    claim p ρ (frame_read last values) plan page after (length next) 0 (λ l. l ≡ next) (EitherSets p)
    (noted-takes p ρ plan page (EitherSets p) (either-safe plan) b g t d next k) (either-safe plan) h

pub q-14 : (page : ℕ) → Q14 page
q-14 page p plan ρ owner n t₀ high before s b named chip g m j words a x r changed d after next k s' h =
    let i = restored-read p words page named m a x r in
    let t = subst (λ (l : List ℕ). Taken (facts_of (format_for page named) p) l i.end i.torn i.last true i.values) j i.taken in
    subst (λ (f : Frame). Claim p ρ f (length next) 0 (EitherSets p) page after s') i.frame_is
    (q-14-read page p plan ρ owner n t₀ high before s b named chip g i.end i.torn i.last true i.values t changed d after next k s' h)
