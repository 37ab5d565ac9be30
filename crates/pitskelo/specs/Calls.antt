-- What a call of the C interface gives back, from an answer in document 01's terms: "A refusal is the number alone", and "a refusal alters nothing lent".
-- Assumes nothing.
use Rattle.std.specs.Prelude.{ℕ, ◌*◌, ◌/◌, ◌≤◌, ◌≡◌, List, cond, length, get_or, eqb}
use Rattle.program.specs.Check.{Answer, answer_of, check_of}
use Rattle.layout.specs.Numbers.{numbers_from}
use Rattle.analysis.specs.Analyse as analysis
use Rattle.analysis.specs.Analyse.{Analysed}

-- the number parameters after a call: the answer's values where it is accepted, else as they were
abbrev pub leaves : Answer → List ℕ → List ℕ
leaves a before = cond (eqb a.number 0) a.values before

-- pitskelo_check: the result, and the three numbers after the call from those before it
pub record CheckCall (p : List ℕ) (before after : List ℕ) (result : ℕ) : Type 0 where
  pub number : result ≡ (answer_of (check_of p)).number
  pub values : after ≡ leaves (answer_of (check_of p)) before

-- the words in a buffer of bytes: "The C side lends all of this as little-endian bytes; a rest too short for one number is left unused"
unfoldable pub words_of : List ℕ → List ℕ
words_of b = numbers_from 8 (length b / 8) b 0

-- pitskelo_analyse: the result, and the two buffers d and s after the call from d₀ and s₀ before it. "Analyse checks too, then fills two lent buffers of
-- 64-bit words"; a refused call leaves every byte, any call the bytes behind the last whole word
pub record AnalyseCall (p d₀ s₀ d s : List ℕ) (result : ℕ) : Type 0 where
  pub answer : Analysed
  pub analyses : analysis.Analyses p (words_of d₀) (words_of s₀) (words_of d) (words_of s) answer
  pub number : result ≡ (analysis.answer_of answer).number
  pub refused : ¬ (result ≡ 0) → (d ≡ d₀) × (s ≡ s₀)
  pub size_dead : length d ≡ length d₀
  pub size_sets : length s ≡ length s₀
  pub unused_dead : (k : ℕ) → 8 * (length d₀ / 8) ≤ k → get_or d k 0 ≡ get_or d₀ k 0
  pub unused_sets : (k : ℕ) → 8 * (length s₀ / 8) ≤ k → get_or s k 0 ≡ get_or s₀ k 0
