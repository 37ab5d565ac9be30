-- The offsets that a commit may name: whether there is one among low, low + step and so on, and whether the bytes at hand begin one.
-- Assumes nothing.
use Rattle.std.proofs.Common.{◌≡◌, ℕ, ◌+◌, ◌*◌, ◌/◌, ◌%◌, ◌<◌, ◌≤◌, Bool, true, false, List, length, get_or, drop, sym, ap, ◌∙◌, ⊎_elim, mod-eq_of_lt, mul-le-mul_left, mul-suc, arith, le-ltb, ne_eqb}
use native.Mathlib.Nat.{mod-one, mod-add-div, add-mul-mod_self_left}
use Rattle.word.specs.Bytes.{bytes_of, load_of}
use Rattle.cellset.proofs.Bits.{le-or-lt}
use Rattle.program.specs.Places.{entry_at, read_place}
use Rattle.program.proofs.Tests.{clash}
use Rattle.journal.specs.Reading.{Facts}
use Rattle.journal.specs.Format.{Format, format_of}
use Rattle.journal.specs.Answer.{facts_in}
use Rattle.journal.specs.Parts.{Decides, offset_in, Some, Number}
use Rattle.journal.proofs.Meeting.{decides, decides-same, below_next, past-meets, first-meets, meets-first}
use Rattle.journal.proofs.Numbers.{Small, number-loaded, loaded-number}

-- ---- one offset

-- past the table there is none
offset-past : (G : Format) (n : ℕ) (table : List ℕ) (ex : Bool) (t : ℕ) → 2048 ≤ t → offset_in (facts_in G n table) ex t ≡ false
unfolding entry_at read_place
offset-past G n table true t h = rw (le-ltb t 2048 h, ne_eqb t 0 (λ e. omega arith))
offset-past G n table false t h = rw (le-ltb t 2048 h)

-- ---- offset after offset

-- of low, low + step and so on none below t is one
pub record Searched (is : ℕ → Bool) (low step t : ℕ) : Type 0 where
  pub turns : ℕ
  pub at : t ≡ low + step * turns
  pub none : (k : ℕ) → k < turns → is (low + step * k) ≡ false

pub searched-first : (is : ℕ → Bool) (low step : ℕ) → Searched is low step low
searched-first is low step = record { turns = 0; at = omega arith; none = λ k h. absurd (omega arith) }

pub searched-turn : (is : ℕ → Bool) (low step t : ℕ) → Searched is low step t → is t ≡ false → Searched is low step (t + step)
searched-turn is low step t s e = record {
  turns = s.turns + 1;
  at = omega (arith, s.at, mul-suc step s.turns);
  none = below_next {P = λ k. is (low + step * k) ≡ false} s.turns s.none (rw (← s.at) e);
}

module _ (G : Format) (n : ℕ) (table : List ℕ) (ex : Bool) (low step t : ℕ) (s : Searched (offset_in (facts_in (format_of 1 0 0) 0 table) ex) low step t) where
  pub searched-found : low < step → t < 2048 → offset_in (facts_in (format_of 1 0 0) 0 table) ex t ≡ true → Some (facts_in G n table) ex low step
  searched-found l h e = record {
    offset = t;
    is = e;
    fits = omega arith;
    low_is = ap (λ (x : ℕ). x % step) s.at ∙ add-mul-mod_self_left low step s.turns ∙ mod-eq_of_lt l;
  }

  pub searched-done : 2048 ≤ t → ¬ Some (facts_in G n table) ex low step
  searched-done h o =
      let q = o.offset / step in
      let e : low + step * q ≡ o.offset = ap (λ (x : ℕ). x + step * q) (sym o.low_is) ∙ mod-add-div o.offset step in
      clash (offset_in (facts_in (format_of 1 0 0) 0 table) ex o.offset) o.is
      (⊎_elim
      (λ (l : s.turns ≤ q). offset-past (format_of 1 0 0) 0 table ex o.offset (omega (arith, s.at, mul-le-mul_left step l)))
      (λ (l : q < s.turns). rw e at (s.none q l))
      (le-or-lt s.turns q))

-- ---- the bytes of one

module _ (F : Facts) (ex : Bool) (l : List ℕ) (i : ℕ) (r : Bool) where
  -- no byte is there
  pub offset-nothing : length l ≤ i → Decides (Some F ex 0 1) r → Decides (Number (λ t. offset_in F ex t ≡ true) 2 (drop i l)) r
  offset-nothing h d =
      decides-same r
      (λ s. record { number = s.offset; holds = s.is; fits = s.fits; meets = past-meets (bytes_of 2 s.offset) l i h })
      (λ n. record { offset = n.number; is = n.holds; fits = n.fits; low_is = mod-one n.number })
      d

  -- the low byte is there
  pub offset-low : i < length l → length l < i + 2 → Decides (Some F ex (get_or l i 0) 256) r → Decides (Number (λ t. offset_in F ex t ≡ true) 2 (drop i l)) r
  unfolding bytes_of
  offset-low h k d =
      decides-same r
      (λ s.
      let m = meets-first l i (s.offset % 256) h (sym s.low_is) (past-meets (bytes_of 1 (s.offset / 256)) l (i + 1) (omega arith)) in
      record { number = s.offset; holds = s.is; fits = s.fits; meets = m })
      (λ n. record { offset = n.number; is = n.holds; fits = n.fits; low_is = sym (first-meets l i h n.meets).0 })
      d

  -- both are
  pub offset-whole : {x : ℕ} → Small l → i + 2 ≤ length l → x ≡ load_of 2 l i → r ≡ offset_in F ex x
      → Decides (Number (λ t. offset_in F ex t ≡ true) 2 (drop i l)) r
  offset-whole small h e d =
      let g : r ≡ offset_in F ex (load_of 2 l i) = rw e at d in
      decides r (λ t. loaded-number 2 l i h small (sym g ∙ t)) (λ n. g ∙ number-loaded 2 l i h n)
