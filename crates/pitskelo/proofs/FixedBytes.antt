-- What the contract of `pitskelo_analyse` decides: the result and every byte of both buffers, and both are filled where the result is 0.
-- Assumes nothing.
use mathlib.Core.Path.{◌≡◌, refl, sym, ◌∙◌, ap}
use mathlib.Core.Logic.{⊎_elim}
use mathlib.Core.List.{List}
use mathlib.Core.Bool.{Bool, true, false}
use Prim.Native.Nat.{ℕ, zero, suc, ◌+◌, ◌*◌, ◌/◌, ◌%◌, ◌≤◌, ◌<◌}
use native.Mathlib.Omega.{arith}
use lib.ListN.{length, get_or}
use lib.Seq.{ext_get_or}
use Rattle.word.specs.Bytes.{load_of}
use Rattle.word.proofs.Bytes.{load_lt}
use Rattle.cellset.proofs.Bits.{le-or-lt}
use Rattle.program.specs.Check as program
use Rattle.program.specs.Grounds.{Ruled}
use Rattle.program.specs.Check.{Checked}
use Rattle.program.proofs.Grounds.{ruled, accepted-values}
use Rattle.analysis.specs.Analyse.{too_short, analysed_from, analyse_of, answer_of, DeadSets, ExcludeSets, Analyses}
use Rattle.analysis.specs.Analyse.{Analysed}
use Rattle.analysis.specs.Analyse.{Sets, Refused}
use Rattle.analysis.proofs.Fixed.{Words, analyse-fixed}
use Rattle.pitskelo.specs.Calls.{words_of, AnalyseCall}
use Rattle.pitskelo.proofs.Buffers.{word_at, word-past}

-- ---- the bytes of equal words

-- a list of bytes
abbrev pub Bytes : List ℕ → Type 0
Bytes b = (k : ℕ) → get_or b k 0 < 256

-- loads that are equal are of equal bytes
same_bytes : (n : ℕ) (b c : List ℕ) (at : ℕ) → Bytes b → Bytes c → load_of n b at ≡ load_of n c at → (j : ℕ) → j < n → get_or b (at + j) 0 ≡ get_or c (at + j) 0
unfolding load_of
same_bytes zero b c at f g e j l = absurd (omega arith)
same_bytes (suc n) b c at f g e zero l = let z : at + 0 ≡ at = omega arith in rw z (omega (arith, f at, g at))
same_bytes (suc n) b c at f g e (suc j) l =
    let z : at + suc j ≡ at + 1 + j = omega arith in
    rw z (same_bytes n b c (at + 1) f g (omega (arith, f at, g at)) j (omega arith))

module _ (b c : List ℕ) (f : Bytes b) (g : Bytes c) (long : length b ≡ length c) where
  -- bytes of the same words are the same
  in_words : words_of b ≡ words_of c → (k : ℕ) → k < 8 * (length b / 8) → get_or b k 0 ≡ get_or c k 0
  in_words e k l =
      let z : 8 * (k / 8) + k % 8 ≡ k = omega arith in
      let same = sym (word_at b (k / 8) (omega arith)) ∙ ap (λ (ws : List ℕ). get_or ws (k / 8) 0) e ∙ word_at c (k / 8) (omega arith) in
      rw z at (same_bytes 8 b c (8 * (k / 8)) f g same (k % 8) (omega arith))

  all-bytes : words_of b ≡ words_of c → ((k : ℕ) → 8 * (length b / 8) ≤ k → get_or b k 0 ≡ get_or c k 0) → b ≡ c
  all-bytes e rest = ext_get_or 0 b c long λ k _. ⊎_elim (rest k) (in_words e k) (le-or-lt (8 * (length b / 8)) k)

-- ---- the whole call

-- words of bytes have 64 bits
word_lt : (b : List ℕ) → Bytes b → Words (words_of b)
word_lt b f k =
    ⊎_elim
    (λ (l : length b / 8 ≤ k). omega (arith, word-past b k l))
    (λ (l : k < length b / 8). omega (arith, word_at b k l, load_lt 8 b (8 * k) f))
    (le-or-lt (length b / 8) k)

module _ {p d₀ s₀ d s d' s' : List ℕ} (f-d : Bytes d) (f-s : Bytes s) (f-d' : Bytes d') (f-s' : Bytes s') where
  pub call-fixed : {r r' : ℕ} → AnalyseCall p d₀ s₀ d s r → AnalyseCall p d₀ s₀ d' s' r' → (r ≡ r') × (d ≡ d') × (s ≡ s')
  call-fixed x y =
      let e = analyse-fixed (word_lt d f-d) (word_lt s f-s) (word_lt d' f-d') (word_lt s' f-s') x.analyses y.analyses in (
        x.number ∙ ap (λ (a : Analysed). (answer_of a).number) e.0 ∙ sym y.number,
        all-bytes d d' f-d f-d' (x.size_dead ∙ sym y.size_dead) e.1
            (λ k h. x.unused_dead k (omega (arith, x.size_dead)) ∙ sym (y.unused_dead k (omega (arith, x.size_dead)))),
        all-bytes s s' f-s f-s' (x.size_sets ∙ sym y.size_sets) e.2
            (λ k h. x.unused_sets k (omega (arith, x.size_sets)) ∙ sym (y.unused_sets k (omega (arith, x.size_sets)))),
      )

-- ---- the result 0

-- no refusal has it
not-0 : {p : List ℕ} (k : Checked) (short : Bool) {n : ℕ} → Ruled p (program.answer_of k) → Refused n ≡ analysed_from k short → n ≡ 0 → ⊥
not-0 (program.Refused m) short r h z = let e : m ≡ 0 = cc in omega (arith, accepted-values r e)
not-0 (program.Program cells instructions excludes) true {n} r h z = let e : n ≡ 9 = cc in omega arith
not-0 (program.Program cells instructions excludes) false r h z = let e : ◌≡◌ {A = ℕ} 0 1 = cc in omega arith

answer-filled : {p d₀ s₀ d s : List ℕ} (a : Analysed) → Analyses p d₀ s₀ d s a → (answer_of a).number ≡ 0 → DeadSets p d₀ d × ExcludeSets p s₀ s
unfolding analyse_of
answer-filled (Sets cells instructions excludes) x e = x.filled cells instructions excludes refl
answer-filled {p} {d₀} {s₀} (Refused n) x e = absurd (not-0 (program.check_of p) (too_short (length d₀) (length s₀)) (ruled p) x.answer e)

pub call-filled : {p d₀ s₀ d s : List ℕ} → AnalyseCall p d₀ s₀ d s 0 → DeadSets p (words_of d₀) (words_of d) × ExcludeSets p (words_of s₀) (words_of s)
call-filled x = answer-filled x.answer x.analyses (sym x.number)
