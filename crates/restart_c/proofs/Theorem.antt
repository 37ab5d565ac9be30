-- DEMAND 3 OF THE C CALLS: every list of calls is a history of crate `restart`, so that its claim holds (`demand-3`). `history-from`, `claims-from` and `answers-from` have it where the
-- uncut run begins at any frame; `history`, `claims` and `answers` are these at zeros.
-- Assumes nothing.
use Prim.Native.Nat.{ℕ, suc, ◌+◌, ◌*◌, ◌≤◌, ◌<◌}
use mathlib.Core.Path.{◌≡◌, refl, sym, ◌∙◌, ap, subst}
use mathlib.Core.Bool.{Bool, true, false, cond}
use mathlib.Core.List.{List, [], ◌∷◌, ◌++◌}
use mathlib.Core.Logic.{inl, inr, ⊎_elim}
use native.Mathlib.Omega.{arith}
use borrow.Author.Tests.{eqb-true, eq-eqb}
use lib.Dec.{eqb}
use lib.IntN.{ℤ}
use lib.ListN.{length, get_or, take}
use Rattle.cellset.proofs.Bits.{le-or-lt}
use Rattle.journal.specs.Format.{owner_of_plan}
use Rattle.journal.proofs.Naming.{owner-small}
use Rattle.step.specs.State.{env_of, Machine}
use Rattle.run.specs.Run.{Outcome, started, call_of, answer_of}
use Rattle.run.specs.Run.{Ended}
use Rattle.run.specs.Run.{Stopped, Spent}
use Rattle.recovery.proofs.Laws.{journal-stays}
use Rattle.layout.specs.Numbers.{signed_of}
use Rattle.layout.specs.Layout.{state_size, machine_in, bytes_of_state, regs_in}
use Rattle.layout.proofs.Laws.{state-length}
use Rattle.program.specs.Check.{number_of}
use Rattle.program.proofs.Tests.{bool_cases, clash}
use Rattle.recovery.specs.Recover as recovery
use Rattle.recovery.specs.Recover.{Recovered}
use Rattle.restart.proofs.Invariant.{Inv}
use Rattle.pitskelo.specs.Runs.{sets_in, RunLent, RunLeft, ran_on, run_done, run_call_of, RecoverCall}
use Rattle.restart.specs.Reference.{Frame, numbered_from, zeros, ref_at, emitted, taken}
use Rattle.restart.specs.History as list
use Rattle.restart.specs.History.{Tally, tallied_over, System, Request, outcome_of, tally_after, History}
use Rattle.restart.specs.Claim as restart
use Rattle.restart.specs.Claim.{Plan, Claim, Safe, TakenUp, Equipped, Chain, one, more, Erased}
use Rattle.run.proofs.Accepting.{not-refused}
use Rattle.restart.proofs.Upheld.{Upheld}
use Rattle.restart.proofs.Theorem.{upheld, claim, erased-taken}
use Rattle.restart_c.specs.Calls as calls
use Rattle.restart_c.specs.Calls.{Board, system_of, restored, holding, wrote, ran, Lends, Calls, Answers, Demand3}
use Rattle.restart_c.specs.Calls.{begins, refused_recovery, refused_run_of, recovers, crashes, runs, crashed_run}
use Rattle.restart_c.specs.From.{ChainFrom, AnswersFrom}
use Rattle.restart_c.proofs.FoundSets.{sets-safe}
use Rattle.restart_c.proofs.Outputs.{Writes, call-writes}
use Rattle.restart_c.proofs.Back.{machine-back}
use Rattle.restart_c.proofs.Calling.{recovery-kept, accepted-size, accepted-restored, refused-number, odd_number}
use Rattle.restart_c.proofs.Calling.{run-kept, run-done, accepted-number, accepted-result, call-steps, number_at, kind_at}

-- what was lent and is left as it was, and what was not lent, is as before
kept : {A : Type 0} (own : Bool) {x y z : A} → x ≡ y → (own ≡ true → y ≡ z) → cond own x z ≡ z
kept true e f = e ∙ f refl
kept false e f = refl

-- a plan, where the uncut run begins, the sets' bytes that accepted calls are lent, with the words that stand in them, and what a list begins with, as crate `restart` wants them
module _ (page : ℕ) (p : List ℕ) (plan : Plan p) (ρ : List ℤ) (f₀ : Frame) (Sets Words : List ℕ → Type 0) (words : (ws : List ℕ) → Sets ws → Words (sets_in ws))
    (safe : (w : List ℕ) → Words w → Safe p w) (n t₀ : ℕ) (Begins : List ℕ → Type 0) (takes-up : (l : List ℕ) → Begins l → TakenUp page (owner_of_plan p) p (ref_at p ρ f₀ t₀) l) where
  -- the histories and lists that begin so
  abbrev H : System → Type 0
  H = History p ρ page (owner_of_plan p) n t₀ Begins Words

  abbrev C : Board → Type 0
  C = Calls page p ρ Sets n t₀ Begins

  -- the invariant of histories
  held : {s : System} → H s → Upheld p ρ f₀ page (owner_of_plan p) n t₀ s
  held h = upheld p ρ f₀ plan page (owner_of_plan p) n t₀ Begins Words takes-up safe h

  -- a good machine's state has the length of a state
  bytes-size : {m : Machine} {t : Tally} {k : ℕ} → Inv p ρ f₀ n m t k → length (bytes_of_state m) ≡ state_size
  bytes-size {m} i = state-length m.regs m.cells m.marks i.good.cells i.good.marks

  -- ---- an accepted recovery

  -- it leaves the bytes of the state that is restored
  pub recovered-back : {b : Board} → H (system_of page (owner_of_plan p) b) → (ws : List ℕ) → Sets ws → (left : List ℕ) (x : RecoverCall page p ws b.chip b.state left 0)
      → machine_in page (owner_of_plan p) left b.chip ≡ x.outcome.machine
  recovered-back {b} h ws w left x =
      let r = x.outcome in
      let c = x.recovers (accepted-size x) in
      let g : H (list.restored (system_of page (owner_of_plan p) b) r) = list.recovers h (sets_in ws) (words ws w) r c (accepted-restored x) in
      (λ i. machine_in (sym ((held g).kind refl).0 i) (sym ((held g).kind refl).1 i) (x.left i) (sym (journal-stays _ _ _ _ r c) i)) ∙ machine-back plan ((held g).inv refl)

  -- and is one of a history
  recovered : {b : Board} → H (system_of page (owner_of_plan p) b) → (ws : List ℕ) → Sets ws → (left : List ℕ) → RecoverCall page p ws b.chip b.state left 0 → H (system_of page (owner_of_plan p) (restored b left))
  unfolding regs_in
  recovered {b} h ws w left x =
      let r = x.outcome in
      let c = x.recovers (accepted-size x) in
      let g : H (list.restored (system_of page (owner_of_plan p) b) r) = list.recovers h (sets_in ws) (words ws w) r c (accepted-restored x) in
      subst (λ (m : Machine). H (record { machine = m; good = true; tally = list.set_back b.tally; outputs = b.outputs; steps = 0 })) (sym (recovered-back h ws w left x)) g

  -- ---- an accepted run

  module _ {b : Board} (l : RunLent) (x : Lends page p ρ Sets b l) where
    -- the words that it is lent
    lent-words : Words (sets_in l.sets)
    lent-words = words l.sets x.sets

    -- what it asks for
    abbrev request : Request
    request = record { words = sets_in l.sets; readings = x.count; budget = l.budget; places = signed_of l.outputs }

    -- what the machine makes of it
    abbrev made : Outcome
    made = outcome_of p ρ (machine_in page (owner_of_plan p) b.state b.chip) request

    -- which is the outcome of the bytes
    same_outcome : ran_on l ≡ made
    unfolding ran_on outcome_of
    same_outcome = λ i.
        call_of (env_of (x.plan i) (sets_in l.sets)) (x.readings i) l.budget (machine_in (x.kind i) (owner_of_plan (x.plan i)) (x.state i) (x.chip i)) (signed_of l.outputs)

    -- what stands in the bytes and numbers that are left is the system after the run
    done-same : Writes made l.outputs → machine_in page (owner_of_plan p) (bytes_of_state made.machine) made.machine.journal ≡ made.machine
        → system_of page (owner_of_plan p) (ran b l (run_done l made)) ≡ list.ran p ρ (system_of page (owner_of_plan p) b) request
    unfolding list.ran tally_after
    done-same w e =
        let ns = made.steps ∷ made.taken ∷ made.written ∷ [] in
        let steps : get_or ((answer_of made.ended).values ++ ns) 1 0 ≡ made.steps = number_at made.ended w.accepted ns 0 in
        let written : get_or ((answer_of made.ended).values ++ ns) 3 0 ≡ made.written = number_at made.ended w.accepted ns 2 in
        let outs = ap (λ (k : ℕ). take k (signed_of (run_done l made).outputs)) written ∙ w.held in
        λ i. record {
          machine = e i;
          good = b.good;
          tally =
              tallied_over (env_of (x.plan i) (sets_in l.sets)) (x.readings i) (steps i) (started (machine_in (x.kind i) (owner_of_plan (x.plan i)) (x.state i) (x.chip i))) b.tally;
          outputs = b.outputs ++ numbered_from (machine_in (x.kind i) (owner_of_plan (x.plan i)) (x.state i) (x.chip i)).regs.outputs (outs i);
          steps = b.steps + steps i;
        }

    -- which is accepted
    writes : H (system_of page (owner_of_plan p) b) → b.good ≡ true → Writes made l.outputs
    unfolding outcome_of
    writes h g =
        call-writes _ _ _ _ l.outputs (not-refused (record { legal = plan.legal; words = (safe (sets_in l.sets) lent-words).enough; good = ((held h).inv g).good }))

    -- so the run is one of a history
    made-run : H (system_of page (owner_of_plan p) b) → b.good ≡ true → H (list.ran p ρ (system_of page (owner_of_plan p) b) request)
    made-run h g = list.runs h g request lent-words (writes h g).accepted

    made-inv : (h : H (system_of page (owner_of_plan p) b)) (g : b.good ≡ true)
        → Inv p ρ f₀ n made.machine (tally_after p ρ (system_of page (owner_of_plan p) b) request) (b.steps + made.steps)
    unfolding list.ran
    made-inv h g = (held (made-run h g)).inv g

    -- its bytes hold the machine
    made-back : (h : H (system_of page (owner_of_plan p) b)) (g : b.good ≡ true) → machine_in page (owner_of_plan p) (bytes_of_state made.machine) made.machine.journal ≡ made.machine
    unfolding list.ran
    made-back h g =
        let k = (held (made-run h g)).kind g in
        (λ i. machine_in (sym k.0 i) (sym k.1 i) (bytes_of_state made.machine) made.machine.journal) ∙ machine-back plan (made-inv h g)

    -- what it leaves
    left_is : (run_call_of l).result ≡ 0 → run_call_of l ≡ run_done l made
    left_is z = run-done l z ∙ ap (run_done l) same_outcome

    -- and the system that its bytes hold
    went-same : H (system_of page (owner_of_plan p) b) → b.good ≡ true → (run_call_of l).result ≡ 0 → system_of page (owner_of_plan p) (ran b l (run_call_of l)) ≡ list.ran p ρ (system_of page (owner_of_plan p) b) request
    went-same h g z = ap (λ (o : RunLeft). system_of page (owner_of_plan p) (ran b l o)) (left_is z) ∙ done-same (writes h g) (made-back h g)

    went : H (system_of page (owner_of_plan p) b) → b.good ≡ true → (run_call_of l).result ≡ 0 → H (system_of page (owner_of_plan p) (ran b l (run_call_of l)))
    went h g z = subst H (sym (went-same h g z)) (made-run h g)

    -- with the result 0
    result : H (system_of page (owner_of_plan p) b) → b.good ≡ true → length b.state ≡ state_size → (run_call_of l).result ≡ 0
    result h g size =
        accepted-result l (ap length x.state ∙ size)
        (ap (λ (o : Outcome). (answer_of o.ended).number) same_outcome ∙ accepted-number made.ended (writes h g).accepted)

    ran-size : H (system_of page (owner_of_plan p) b) → b.good ≡ true → (run_call_of l).result ≡ 0 → length (run_call_of l).state ≡ state_size
    ran-size h g z = ap (λ (o : RunLeft). length o.state) (left_is z) ∙ bytes-size (made-inv h g)

    -- its tally is the history's
    same-tally : H (system_of page (owner_of_plan p) b) → b.good ≡ true → (run_call_of l).result ≡ 0 → (ran b l (run_call_of l)).tally ≡ tally_after p ρ (system_of page (owner_of_plan p) b) request
    unfolding list.ran
    same-tally h g z = ap (λ (s : System). s.tally) (went-same h g z)

    -- its numbers behind the kind of ending, and the kind
    number_is : (h : H (system_of page (owner_of_plan p) b)) (g : b.good ≡ true) → (run_call_of l).result ≡ 0 → (i : ℕ)
        → get_or (run_call_of l).numbers (suc i) 0 ≡ get_or (made.steps ∷ made.taken ∷ made.written ∷ []) i 0
    number_is h g z i = ap (λ (o : RunLeft). get_or o.numbers (suc i) 0) (left_is z) ∙ number_at made.ended (writes h g).accepted _ i

    kind-is : (h : H (system_of page (owner_of_plan p) b)) (g : b.good ≡ true) → (run_call_of l).result ≡ 0 → get_or (run_call_of l).numbers 0 0 ≡ get_or (answer_of made.ended).values 0 0
    kind-is h g z = ap (λ (o : RunLeft). get_or o.numbers 0 0) (left_is z) ∙ kind_at made.ended (writes h g).accepted _

    -- what it takes and writes, by the claim of the system before it
    module _ (c : Claim p ρ f₀ n t₀ Words page (owner_of_plan p) (system_of page (owner_of_plan p) b)) (h : H (system_of page (owner_of_plan p) b)) (g : b.good ≡ true) (z : (run_call_of l).result ≡ 0) where
      takes-is : let o = run_call_of l in let t = taken p ρ f₀ b.tally.retired (ran b l o).tally.retired in
          (get_or o.numbers 2 0 ≡ length t)
          × (numbered_from (machine_in page (owner_of_plan p) b.state b.chip).regs.readings (take (get_or o.numbers 2 0) (signed_of l.readings)) ≡ t)
      takes-is =
          let k = number_is h g z 1 in
          let t = ap (λ (t : Tally). taken p ρ f₀ b.tally.retired t.retired) (sym (same-tally h g z)) in (
            k ∙ (c.counts g request lent-words).0 ∙ ap length t,
            (λ i. numbered_from (machine_in page (owner_of_plan p) b.state b.chip).regs.readings (take (k i) (x.readings i))) ∙ c.takes g request lent-words ∙ t,
          )

      writes-is : let o = run_call_of l in let t = emitted p ρ f₀ b.tally.retired (ran b l o).tally.retired in
          (get_or o.numbers 3 0 ≡ length t) × (wrote l o ≡ t)
      writes-is =
          let k = number_is h g z 2 in
          let t = ap (λ (t : Tally). emitted p ρ f₀ b.tally.retired t.retired) (sym (same-tally h g z)) in
          let outs = ap (λ (o : RunLeft). take (get_or o.numbers 3 0) (signed_of o.outputs)) (left_is z)
          ∙ ap (λ (j : ℕ). take j (signed_of (run_done l made).outputs)) (number_at made.ended (writes h g).accepted _ 2) ∙ (writes h g).held in (
            k ∙ (c.counts g request lent-words).1 ∙ ap length t,
            (λ i. numbered_from (machine_in (x.kind i) (owner_of_plan (x.plan i)) (x.state i) (x.chip i)).regs.outputs (outs i)) ∙ c.writes g request lent-words ∙ t,
          )

    -- its steps are within its budget
    steps-most : H (system_of page (owner_of_plan p) b) → b.good ≡ true → (run_call_of l).result ≡ 0 → get_or (run_call_of l).numbers 1 0 ≤ l.budget
    unfolding outcome_of
    steps-most h g z = omega (arith, number_is h g z 0, call-steps (env_of p (sets_in l.sets)) (list.lent p ρ (machine_in page (owner_of_plan p) b.state b.chip) request) l.budget (machine_in page (owner_of_plan p) b.state b.chip) (signed_of l.outputs))

    -- what it is equipped for
    suffices : {k j : ℕ} → Equipped p ρ f₀ k (machine_in page (owner_of_plan p) b.state b.chip).regs l.budget (length (signed_of l.readings)) (length (signed_of l.outputs)) j
        → restart.Suffices p ρ f₀ n t₀ Words k (system_of page (owner_of_plan p) b) request j
    suffices e = (lent-words, record { steps = e.steps; reads = rw x.readings at e.reads; gives = e.gives })

  -- ---- EVERY LIST IS A HISTORY
  pub history-from : {b : Board} → C b → H (system_of page (owner_of_plan p) b)
  unfolding regs_in
  history-from (begins state chip l b) = list.begins (machine_in page (owner_of_plan p) state chip) l b
  history-from (refused_recovery {b} c kind q vs chip state left result x z own same) =
      subst (λ (st : List ℕ). H (system_of page (owner_of_plan p) (holding b st b.chip))) (sym (kept own (recovery-kept x z) same)) (history-from c)
  history-from (refused_run_of {b} c l z own-state own-chip same-state same-chip) =
      let k = run-kept l z in
      let st = kept own-state (ap (λ (o : RunLeft). o.state) k) same-state in
      let ch = kept own-chip (ap (λ (o : RunLeft). o.chip) k) same-chip in
      subst H (λ i. system_of page (owner_of_plan p) (holding b (sym st i) (sym ch i))) (history-from c)
  history-from (recovers c ws w left x) = recovered (history-from c) ws w left x
  history-from (crashes c state) = list.crashes (history-from c) (machine_in page (owner_of_plan p) state [])
  history-from (runs c g l x z) = went l x (history-from c) g z
  history-from (crashed_run c g l x z state) = list.crashes (went l x (history-from c) g z) (machine_in page (owner_of_plan p) state [])

  -- ---- and a good state has its length

  restored-size : {b : Board} → H (system_of page (owner_of_plan p) b) → (ws : List ℕ) → Sets ws → (left : List ℕ) → RecoverCall page p ws b.chip b.state left 0 → length left ≡ state_size
  restored-size {b} h ws w left x =
      let r = x.outcome in
      let g : H (list.restored (system_of page (owner_of_plan p) b) r) = list.recovers h (sets_in ws) (words ws w) r (x.recovers (accepted-size x)) (accepted-restored x) in
      ap length x.left ∙ bytes-size ((held g).inv refl)

  sized : {b : Board} → C b → b.good ≡ true → length b.state ≡ state_size
  sized (begins state chip l b) g = clash false g refl
  sized (refused_recovery {b} c kind q vs chip state left result x z own same) g = ap length (kept own (recovery-kept x z) same) ∙ sized c g
  sized (refused_run_of {b} c l z own-state own-chip same-state same-chip) g =
      ap length (kept own-state (ap (λ (o : RunLeft). o.state) (run-kept l z)) same-state) ∙ sized c g
  sized (recovers c ws w left x) g = restored-size (history-from c) ws w left x
  sized (crashes c state) g = clash false g refl
  sized (runs c g l x z) _ = ran-size l x (history-from c) g z
  sized (crashed_run c g l x z state) e = clash false e refl

  -- ---- what the entries answer

  -- the claim of the system that the bytes hold
  pub claims-from : {b : Board} → C b → Claim p ρ f₀ n t₀ Words page (owner_of_plan p) (system_of page (owner_of_plan p) b)
  claims-from c = claim p ρ f₀ plan page (owner_of_plan p) n t₀ Begins Words takes-up safe (history-from c)

  -- ---- a chain of calls

  -- where it leads: to a good board on the list, by a chain of the systems, whose last answer stands in what the last run left
  record Led (k : ℕ) (b : Board) (j : ℕ) (o : RunLeft) (b' : Board) : Type 0 where
    pub calls : C b'
    pub good : b'.good ≡ true
    pub answer : Ended
    pub chain : Chain p ρ f₀ n t₀ Words k (system_of page (owner_of_plan p) b) j answer (system_of page (owner_of_plan p) b')
    pub result : o.result ≡ 0
    pub kind : get_or o.numbers 0 0 ≡ get_or (answer_of answer).values 0 0

  led-run : (k : ℕ) (b b' : Board) (j : ℕ) → C b' → b'.good ≡ true → (l : RunLent) (x : Lends page p ρ Sets b' l)
      → Chain p ρ f₀ n t₀ Words k (system_of page (owner_of_plan p) b) j (made l x).ended (list.ran p ρ (system_of page (owner_of_plan p) b') (request l x))
      → Led k b j (run_call_of l) (ran b' l (run_call_of l))
  led-run k b b' j c g l x h =
      let z = result l x (history-from c) g (sized c g) in
      record {
        calls = runs c g l x z;
        good = g;
        answer = (made l x).ended;
        chain = subst (Chain p ρ f₀ n t₀ Words k (system_of page (owner_of_plan p) b) j (made l x).ended) (sym (went-same l x (history-from c) g z)) h;
        result = z;
        kind = kind-is l x (history-from c) g z;
      }

  led : {k : ℕ} {b : Board} {j : ℕ} {o : RunLeft} {b' : Board} → C b → b.good ≡ true → ChainFrom page p ρ Sets f₀ k b j o b' → Led k b j o b'
  led {k} {b} c g (ChainFrom.one l j e) =
      led-run k b b j c g l e.0 (one (request l e.0) j (suffices l e.0 e.1))
  led {k} {b} c g (ChainFrom.more {i} {o} {b'} h l j e) =
      let d = led c g h in
      led-run k b b' (i + j) d.calls d.good l e.0 (more d.chain (request l e.0) j (suffices l e.0 e.1))
  led {k} {b} {j} {o} c g (ChainFrom.beside_recovery {b' = b'} h kind q vs chip state left result x z own same) =
      let st = kept own (recovery-kept x z) same in
      subst (Led k b j o) (λ i. holding b' (sym st i) b'.chip) (led c g h)
  led {k} {b} {j} {o} c g (ChainFrom.beside_run {b' = b'} h l z own-state own-chip same-state same-chip) =
      let w = run-kept l z in
      let st = kept own-state (ap (λ (o : RunLeft). o.state) w) same-state in
      let ch = kept own-chip (ap (λ (o : RunLeft). o.chip) w) same-chip in
      subst (Led k b j o) (λ i. holding b' (sym st i) (sym ch i)) (led c g h)

  -- its last run answers the stop
  reaches : {b : Board} → C b → b.good ≡ true → (k : ℕ) → ¬ ((ref_at p ρ f₀ k).stop ≡ 0) → (j : ℕ) (o : RunLeft) (b' : Board)
      → ChainFrom page p ρ Sets f₀ k b j o b' → k + 2 * n ≤ j → (o.result ≡ 0) × (get_or o.numbers 0 0 ≡ (ref_at p ρ f₀ k).stop)
  reaches c g k z j o b' h m =
      let d = led c g h in
      (d.result, d.kind ∙ ap (λ (x : Ended). get_or (answer_of x).values 0 0) ((claims-from c).stops g k z j d.answer (system_of page (owner_of_plan p) b') d.chain m))

  pub answers-from : {b : Board} → C b → AnswersFrom page p ρ f₀ Sets n b
  answers-from {b} c =
      record {
        size = sized c;
        runs = λ g l x. result l x (history-from c) g (sized c g);
        takes = λ g l x. takes-is l x (claims-from c) (history-from c) g (result l x (history-from c) g (sized c g));
        writes = λ g l x. writes-is l x (claims-from c) (history-from c) g (result l x (history-from c) g (sized c g));
        steps =
            λ g l x.
            let z = result l x (history-from c) g (sized c g) in
            (steps-most l x (history-from c) g z, (claims-from (runs c g l x z)).steps);
        stops = reaches c;
        spends =
            λ g k z l e.
            let kind = kind-is l e.0 (history-from c) g (result l e.0 (history-from c) g (sized c g)) in
            let by : (x : Ended) → (made l e.0).ended ≡ x → get_or (run_call_of l).numbers 0 0 ≡ get_or (answer_of x).values 0 0 =
            λ x h. kind ∙ ap (λ (x : Ended). get_or (answer_of x).values 0 0) h in
            ⊎_elim (λ h. inl (by Spent h)) (λ h. inr (by (Stopped _) h)) ((claims-from c).spends g k z (request l e.0) (suffices l e.0 e.1));
        not_damaged =
            λ ws w state left result x.
            bool_cases (eqb (length state) state_size)
            (λ s. ⊎_elim
            (λ (h : 12 ≤ result).
            absurd ((claims-from c).not_damaged (sets_in ws) (words ws w) (machine_in page (owner_of_plan p) state b.chip) refl x.outcome (x.recovers (eqb-true _ _ s)) result h
            (refused-number x.outcome.answer result (λ z. omega arith) (sym (rw s at x.number)))))
            (λ (h : result < 12). h)
            (le-or-lt 12 result))
            (λ s. let z = rw s at x.number in omega (arith, odd_number p ws (ap number_of plan.legal.accepted)));
        restores =
            λ most ws w state left result size x.
            rw (eq-eqb (length state) state_size size) at x.number
            ∙ ap (λ (a : Recovered). (recovery.answer_of a).number)
            ((claims-from c).taken_up most (sets_in ws) (words ws w) (machine_in page (owner_of_plan p) state b.chip) refl x.outcome (x.recovers size));
      }

-- ---- where the uncut run begins at zeros

module _ {page : ℕ} {p : List ℕ} {ρ : List ℤ} {Sets : List ℕ → Type 0} where
  -- a chain is one from zeros
  chain-from : {k : ℕ} {b : Board} {j : ℕ} {o : RunLeft} {b' : Board} → calls.Chain page p ρ Sets k b j o b' → ChainFrom page p ρ Sets zeros k b j o b'
  chain-from (calls.one l j e) = ChainFrom.one l j e
  chain-from (calls.more h l j e) = ChainFrom.more (chain-from h) l j e
  chain-from (calls.beside_recovery h kind q vs chip state left result x z own same) = ChainFrom.beside_recovery (chain-from h) kind q vs chip state left result x z own same
  chain-from (calls.beside_run h l z own-state own-chip same-state same-chip) = ChainFrom.beside_run (chain-from h) l z own-state own-chip same-state same-chip

  -- what is answered from zeros is
  answers-zeros : {n : ℕ} {b : Board} → AnswersFrom page p ρ zeros Sets n b → Answers page p ρ Sets n b
  answers-zeros a =
      record {
        size = a.size;
        runs = a.runs;
        takes = a.takes;
        writes = a.writes;
        steps = a.steps;
        stops = λ g k z j o b' h m. a.stops g k z j o b' (chain-from h) m;
        spends = a.spends;
        not_damaged = a.not_damaged;
        restores = a.restores;
      }

-- a plan, the sets' bytes that accepted calls are lent, with the words that stand in them, and what a list begins with, as crate `restart` wants them
module _ (page : ℕ) (p : List ℕ) (plan : Plan p) (ρ : List ℤ) (Sets Words : List ℕ → Type 0) (words : (ws : List ℕ) → Sets ws → Words (sets_in ws))
    (safe : (w : List ℕ) → Words w → Safe p w) (n t₀ : ℕ) (Begins : List ℕ → Type 0) (takes-up : (l : List ℕ) → Begins l → TakenUp page (owner_of_plan p) p (ref_at p ρ zeros t₀) l) where
  pub history : {b : Board} → Calls page p ρ Sets n t₀ Begins b → History p ρ page (owner_of_plan p) n t₀ Begins Words (system_of page (owner_of_plan p) b)
  history c = history-from page p plan ρ zeros Sets Words words safe n t₀ Begins takes-up c

  pub claims : {b : Board} → Calls page p ρ Sets n t₀ Begins b → Claim p ρ zeros n t₀ Words page (owner_of_plan p) (system_of page (owner_of_plan p) b)
  claims c = claims-from page p plan ρ zeros Sets Words words safe n t₀ Begins takes-up c

  pub answers : {b : Board} → Calls page p ρ Sets n t₀ Begins b → Answers page p ρ Sets n b
  answers c = answers-zeros (answers-from page p plan ρ zeros Sets Words words safe n t₀ Begins takes-up c)

-- DEMAND 3, for every page length
pub demand-3 : (page : ℕ) → Demand3 page
demand-3 page p plan ws found ρ n b c =
    let words : (v : List ℕ) → v ≡ ws → sets_in v ≡ sets_in ws = λ v e. ap sets_in e in
    let safe : (w : List ℕ) → w ≡ sets_in ws → Safe p w = λ w e. subst (Safe p) (sym e) (sets-safe plan found) in (
      claims page p plan ρ (λ v. v ≡ ws) (λ w. w ≡ sets_in ws) words safe n 0 (Erased n) (erased-taken p ρ page (owner_of_plan p) n (owner-small p)) c,
      answers page p plan ρ (λ v. v ≡ ws) (λ w. w ≡ sets_in ws) words safe n 0 (Erased n) (erased-taken p ρ page (owner_of_plan p) n (owner-small p)) c,
    )
