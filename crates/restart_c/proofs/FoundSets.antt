-- The words that an accepted call of pitskelo_analyse left are safe, and so are the first 512 of them, those that a call of the C interface uses.
-- Assumes nothing.
use Prim.Native.Nat.{ℕ, ◌+◌, ◌-◌, ◌*◌, ◌/◌, ◌≤◌, ◌<◌, min}
use mathlib.Core.Path.{◌≡◌, sym, ◌∙◌, ap, subst}
use mathlib.Core.Bool.{Bool, true, false, cond}
use mathlib.Core.List.{List}
use native.Mathlib.Omega.{arith}
use lib.ListN.{length, take}
use lib.Seq.{get_or-take, length-take-le, take_at}
use Rattle.cellset.specs.Bits.{member}
use Rattle.instruction.specs.Bytes.{cells_of}
use Rattle.program.specs.Places.{is_exclude, exclude_number}
use Rattle.program.proofs.Accepted.{accepted}
use Rattle.program.proofs.AfterLaws.{exclude-below}
use Rattle.analysis.specs.Analyse.{too_short, analyse_of, answer_of, Analyses}
use Rattle.analysis.specs.Analyse.{Analysed}
use Rattle.analysis.specs.Analyse.{Sets, Refused}
use Rattle.layout.specs.Numbers.{numbers_from}
use Rattle.layout.proofs.Numbering.{numbers-length, numbers-split}
use Rattle.pitskelo.specs.Calls.{words_of}
use Rattle.pitskelo.specs.Runs.{sets_in}
use Rattle.pitskelo.proofs.Buffers.{length-words}
use Rattle.restart.specs.Claim as claim
use Rattle.restart.specs.Claim.{Plan, Safe}
use Rattle.restart.proofs.Sets.{found-safe}
use Rattle.restart_c.specs.Calls.{Found}

-- ---- the words that are used

-- the first n of more words
first-words : (n k : ℕ) (b : List ℕ) (at : ℕ) → numbers_from 8 n b at ≡ take n (numbers_from 8 (n + k) b at)
first-words n k b at = sym (ap (take n) (numbers-split 8 n k b at) ∙ take_at (numbers_from 8 n b at) _ n (numbers-length 8 n b at))

-- where there are 512 words, the first 512 are used
sets_first : (b : List ℕ) → 512 ≤ length b / 8 → sets_in b ≡ take 512 (words_of b)
unfolding sets_in words_of
sets_first b h =
    let m : min (length b / 8) 512 ≡ 512 = omega arith in
    let k : 512 + (length b / 8 - 512) ≡ length b / 8 = omega arith in
    ap (λ (n : ℕ). numbers_from 8 n b 0) m ∙ first-words 512 (length b / 8 - 512) b 0 ∙ ap (λ (n : ℕ). take 512 (numbers_from 8 n b 0)) k

module _ {p : List ℕ} (plan : Plan p) where
  -- ---- the words that were found

  -- the answer with the number 0 is the sets
  sets-answer : (a : Analysed) (short : Bool) {c i m : ℕ} → a ≡ cond short (Refused 9) (Sets c i m) → (answer_of a).number ≡ 0 → a ≡ Sets c i m
  sets-answer a true e z = let y : ◌≡◌ {A = ℕ} 9 0 = sym (ap (λ (x : Analysed). (answer_of x).number) e) ∙ z in absurd (omega arith)
  sets-answer a false e z = e

  -- so the accepted call is one that found sets
  found : {ws : List ℕ} → Found p ws → claim.Found p (words_of ws)
  unfolding analyse_of
  found f =
      let x = f.call in
      let l = plan.legal in
      let short = too_short (length (words_of f.dead_lent)) (length (words_of f.lent)) in
      let e : x.answer ≡ cond short (Refused 9) (Sets l.cells l.instructions l.excludes) = rw l.accepted at x.analyses.answer in
      record {
        lent = words_of f.lent;
        dead_lent = words_of f.dead_lent;
        dead = words_of f.dead;
        cells = l.cells;
        instructions = l.instructions;
        excludes = l.excludes;
        analyses = subst (Analyses p _ _ _ _) (sets-answer x.answer short e (sym x.number)) x.analyses;
      }

  -- ---- the first of them

  -- no set reaches past them
  same-member : (words : List ℕ) (at e c : ℕ) → at ≤ 8 * exclude_number p e + 4 → is_exclude p e ≡ true → c < cells_of p
      → member (take 512 words) at c ≡ member words at c
  same-member words at e c h is l =
      let few = (accepted p (sym plan.legal.accepted)).few_excludes in
      rw (get_or-take 512 words (at + c / 64) 0 (omega (arith, h, exclude-below p e is, few, plan.bytes 0)))

  -- so they are safe too
  first-safe : (words : List ℕ) → Safe p words → Safe p (take 512 words)
  first-safe words s = record {
    enough = omega (arith, length-take-le 512 words s.enough);
    dead = λ e c is l b. s.dead e c is l (sym (same-member words (8 * exclude_number p e) e c (omega arith) is l) ∙ b);
    kept = λ e c is l b. s.kept e c is l (sym (same-member words (8 * exclude_number p e + 4) e c (omega arith) is l) ∙ b);
  }

  -- THE WORDS USED ARE SAFE where those that stand in the bytes are
  pub used-safe : (ws : List ℕ) → Safe p (words_of ws) → Safe p (sets_in ws)
  used-safe ws s = subst (Safe p) (sym (sets_first ws (omega (arith, s.enough, length-words ws)))) (first-safe (words_of ws) s)

  -- as those that were found are
  pub sets-safe : {ws : List ℕ} → Found p ws → Safe p (sets_in ws)
  sets-safe {ws} f = used-safe ws (found-safe plan (found f))
