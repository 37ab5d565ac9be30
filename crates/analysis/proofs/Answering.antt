-- From check's answer and the filled buffers to what `analyse` promises.
-- Assumes nothing.
use mathlib.Core.Path.{◌≡◌, refl, sym}
use mathlib.Core.List.{List}
use mathlib.Core.Bool.{true, or-true}
use Prim.Native.Nat.{ℕ, ◌≤◌, ◌<◌}
use native.Mathlib.Omega.{arith}
use lib.ListN.{length}
use borrow.Author.Tests.{lt-ltb, le-ltb}
use Rattle.program.specs.Check.{check_of}
use Rattle.program.specs.Check as checked
use Rattle.graph.specs.Tables.{Passed}
use Rattle.analysis.specs.Analyse.{too_short, analyse_of, DeadSets, ExcludeSets, Analyses}
use Rattle.analysis.specs.Analyse.{Sets, Refused}
use Rattle.analysis.proofs.Ruling.{answer-ruled}

-- a refusal is no answer with sets
apart : {C : Type 0} {n c i m : ℕ} → Refused n ≡ Sets c i m → C
apart h = absurd (let z : ◌≡◌ {A = ℕ} 0 1 = cc in omega arith)

refusal : (p d s : List ℕ) {n : ℕ} → Refused n ≡ analyse_of p (length d) (length s) → Analyses p d s d s (Refused n)
refusal p d s h = record { answer = h; ruled = answer-ruled p (length d) (length s) _ h; refused = λ m e. (refl, refl); filled = λ c i m e. apart e }

pub refused-by-check : (p d s : List ℕ) {n : ℕ} → checked.Refused n ≡ check_of p → Analyses p d s d s (Refused n)
unfolding analyse_of
refused-by-check p d s h = refusal p d s (rw (← h))

refused-short : (p d s : List ℕ) {c i m : ℕ} → checked.Program c i m ≡ check_of p → too_short (length d) (length s) ≡ true → Analyses p d s d s (Refused 9)
unfolding analyse_of
refused-short p d s h short = refusal p d s (rw (← h, short))

pub short-dead : (p d s : List ℕ) {c i m : ℕ} → checked.Program c i m ≡ check_of p → length d < 2048 → Analyses p d s d s (Refused 9)
short-dead p d s h l = refused-short p d s h (rw (lt-ltb (length d) 2048 l))

pub short-sets : (p d s : List ℕ) {c i m : ℕ} → checked.Program c i m ≡ check_of p → length s < 512 → Analyses p d s d s (Refused 9)
short-sets p d s h l = refused-short p d s h (rw (lt-ltb (length s) 512 l, or-true))

-- what `fill` asks
pub passes : (p : List ℕ) {c i m : ℕ} → checked.Program c i m ≡ check_of p → Passed p
passes p {c} {i} {m} h = record { cells = c; instructions = i; excludes = m; is = h }

pub answered : (p d₀ s₀ d s : List ℕ) {c i m : ℕ} → checked.Program c i m ≡ check_of p → 2048 ≤ length d₀ → 512 ≤ length s₀
    → DeadSets p d₀ d × ExcludeSets p s₀ s → Analyses p d₀ s₀ d s (Sets c i m)
unfolding analyse_of
answered p d₀ s₀ d s {c} {i} {m} h long-d long-s both =
    let a : Sets c i m ≡ analyse_of p (length d₀) (length s₀) = rw (← h, le-ltb (length d₀) 2048 long-d, le-ltb (length s₀) 512 long-s) in record {
      answer = a;
      ruled = answer-ruled p (length d₀) (length s₀) _ a;
      refused = λ n e. apart (sym e);
      filled = λ c i m e. both;
    }
