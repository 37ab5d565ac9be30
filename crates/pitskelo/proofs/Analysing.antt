-- From the answer of `analyse`, with buffers of the engine's own that are long enough, to what the C entry gives back.
-- Assumes nothing.
use mathlib.Core.Path.{◌≡◌, refl, ◌∙◌, ap}
use mathlib.Core.Logic.{inl, inr}
use mathlib.Core.List.{List}
use mathlib.Core.Bool.{false}
use Prim.Native.Nat.{ℕ, ◌*◌, ◌/◌, ◌≤◌}
use native.Mathlib.Omega.{arith}
use lib.ListN.{length}
use borrow.Author.Tests.{le-ltb}
use Rattle.instruction.specs.Bytes.{cells_of}
use Rattle.program.specs.Check.{check_of}
use Rattle.program.specs.Check.{Checked}
use Rattle.program.specs.Check as checked
use Rattle.analysis.specs.Analyse.{analysed_from, analyse_of, Analyses}
use Rattle.analysis.specs.Analyse.{Analysed}
use Rattle.analysis.specs.Analyse.{Sets, Refused}
use Rattle.analysis.proofs.Answering.{refused-by-check, short-dead, short-sets, answered}
use Rattle.analysis.proofs.Fixed.{analysed-accepted}
use Rattle.pitskelo.specs.Calls.{words_of, AnalyseCall}
use Rattle.pitskelo.specs.Storing.{Stored, BothStored, short, long}
use Rattle.pitskelo.proofs.Buffers.{length-words, stored_moved}
use Rattle.pitskelo.proofs.Carrying.{dead-moved, sets-moved}

-- where no buffer is too short the answer is check's
abbrev checked_of : Analysed → Checked
checked_of (Sets cells instructions excludes) = checked.Program cells instructions excludes
checked_of (Refused n) = checked.Refused n

checked-again : (k : Checked) → checked_of (analysed_from k false) ≡ k
checked-again (checked.Program cells instructions excludes) = refl
checked-again (checked.Refused n) = refl

by-check : {p d₀ s₀ d s : List ℕ} {a : Analysed} → 2048 ≤ length d₀ → 512 ≤ length s₀ → Analyses p d₀ s₀ d s a → checked_of a ≡ check_of p
unfolding analyse_of
by-check {p} {d₀} {s₀} l k x =
    ap checked_of x.answer ∙ rw (le-ltb (length d₀) 2048 l, le-ltb (length s₀) 512 k) (checked-again (check_of p))

-- the words fit both buffers that `analyse` has filled
pub few_words : {p d₀ s₀ d s : List ℕ} {c i m : ℕ} → Analyses p d₀ s₀ d s (Sets c i m) → (4 * i ≤ 2048) × (8 * m ≤ 512)
few_words x =
    let a = analysed-accepted x in
    (omega (arith, a.few, a.instructions_are), omega (arith, a.few_excludes, a.excludes_are))

-- a refusal leaves both buffers
left : {p d s : List ℕ} {n : ℕ} → Analyses p (words_of d) (words_of s) (words_of d) (words_of s) (Refused n) → AnalyseCall p d s d s n
left {n} x = record {
  answer = Refused n;
  analyses = x;
  number = refl;
  refused = λ h. (refl, refl);
  size_dead = refl;
  size_sets = refl;
  unused_dead = λ k h. refl;
  unused_sets = λ k h. refl;
}

module _ {p z z' xs ys : List ℕ} (room : 2048 ≤ length z) (room' : 512 ≤ length z') where
  pub refused-analysis : (d s : List ℕ) {n result : ℕ} → Analyses p z z' xs ys (Refused n) → result ≡ n → AnalyseCall p d s d s result
  refused-analysis d s x e = rw e (left (refused-by-check p (words_of d) (words_of s) (by-check room room' x)))

  module _ (d₀ s₀ d s : List ℕ) {c i m : ℕ} (most : cells_of p ≤ 256) (x : Analyses p z z' xs ys (Sets c i m)) where
    filled : 2048 ≤ length d₀ / 8 → 512 ≤ length s₀ / 8 → Stored d₀ xs (4 * i) d → Stored s₀ ys (8 * m) s
        → Analyses p (words_of d₀) (words_of s₀) (words_of d) (words_of s) (Sets c i m)
    filled l l' q q' =
        let a = analysed-accepted x in
        let few = few_words x in
        let f = x.filled c i m refl in
        answered p (words_of d₀) (words_of s₀) (words_of d) (words_of s) (by-check room room' x) (omega (arith, length-words d₀)) (omega (arith, length-words s₀)) (
          dead-moved f.0 most (rw a.instructions_are at (stored_moved q (omega arith))),
          sets-moved f.1 most (rw a.excludes_are at (stored_moved q' (omega arith))),
        )

    both-call : {result : ℕ} → BothStored d₀ s₀ xs (4 * i) ys (8 * m) d s result → AnalyseCall p d₀ s₀ d s result
    both-call (short (inl h) e f g) =
        rw (e, f, g) (left (short-dead p (words_of d₀) (words_of s₀) (by-check room room' x) (omega (arith, length-words d₀))))
    both-call (short (inr h) e f g) =
        rw (e, f, g) (left (short-sets p (words_of d₀) (words_of s₀) (by-check room room' x) (omega (arith, length-words s₀))))
    both-call (long l l' e q q') =
        let few = few_words x in
        record {
          answer = Sets c i m;
          analyses = filled l l' q q';
          number = e;
          refused = λ h. absurd (h e);
          size_dead = q.size;
          size_sets = q'.size;
          unused_dead = λ k h. q.rest k (omega arith);
          unused_sets = λ k h. q'.rest k (omega arith);
        }

    pub stored-analysis : {n n' result : ℕ} → BothStored d₀ s₀ xs n ys n' d s result → n ≡ 4 * i → n' ≡ 8 * m → AnalyseCall p d₀ s₀ d s result
    stored-analysis b e f = both-call (rw (e, f) at b)
