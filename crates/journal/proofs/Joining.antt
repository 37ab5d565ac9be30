-- What is found in a journal without its trailing FF bytes is found in the journal, whose length is whole pages: `walk` over what `content` keeps has the
-- answer of `scan` (`joined`).
-- Assumes nothing.
use Rattle.std.proofs.Common.{◌≡◌, ℕ, ◌+◌, ◌-◌, ◌<◌, ◌≤◌, true, List, [], ◌∷◌, ◌++◌, length, take, replicate, sym, ap, ◌∙◌, ⊎_elim, append_assoc, append-nil, arith, length-append, drop_of_length-le, length-take-le}
use lib.ListN.{length-replicate}
use Rattle.cellset.proofs.Bits.{le-or-lt}
use Rattle.journal.specs.Scanned.{Scanned}
use Rattle.journal.specs.Scanned as scanned
use Rattle.journal.specs.Format.{Checkpoint, chip_length, images}
use Rattle.journal.specs.Reading.{Facts, Reading}
use Rattle.journal.specs.Answer.{Scans}
use Rattle.journal.specs.Parts.{Content, Stops, WalkIs}
use Rattle.journal.proofs.Paging.{whole-next, chip-length}
use Rattle.journal.proofs.Decoding.{images-whole}
use Rattle.journal.proofs.Torn.{Trimmed, trimmed-nil, ff-join}

module _ {F : Facts} {chip : List ℕ} (size : chip_length F.format.page (length chip) ≡ true) {t at : ℕ} {js : List Checkpoint} {q : List ℕ}
    (c : Content chip t) (s : Stops F (take t chip) at js q) where
  -- the whole checkpoints end within the chip
  ends-within : at ≤ length chip
  ends-within =
      let L = F.format.page in
      let h = chip-length L (length chip) size in
      let n = length-take-le t chip c.most in
      ⊎_elim
      (λ (l : at ≤ length chip). l)
      (λ (l : length chip < at).
      absurd (omega (
        arith,
        whole-next L (length chip) at h.whole (rw s.at_is (images-whole F.format h.some js)) l,
        s.most,
        n,
        c.most,
      )))
      (le-or-lt at (length chip))

  -- the checkpoints and the remainder are the journal's reading: no whole checkpoint reaches into the FF bytes, and the remainder ends in no FF
  reading-of : Reading F chip js q
  reading-of =
      let l = take t chip in
      let i = images F.format js in
      let m = c.erased in
      let k = at - length l in
      let n : length l ≡ t = length-take-le t chip c.most in
      let z : length (replicate {A = ℕ} m 0xFF) ≡ m = length-replicate m 0xFF in
      let g : m ≡ k + (m - k) = omega (arith, ends-within, ap length c.bytes, length-append l (replicate m 0xFF)) in
      record {
        erased = m - k;
        sound = s.rising;
        bytes =
            c.bytes
            ∙ ap (λ (x : ℕ). l ++ replicate x 0xFF) g
            ∙ sym (ff-join l k (m - k))
            ∙ ap (λ (x : List ℕ). x ++ replicate (m - k) 0xFF) s.bytes;
        no_more = s.no_more (m - k);
        trimmed = trimmed-rest;
      }
    where
      trimmed-rest : Trimmed q
      trimmed-rest =
          ⊎_elim
          (λ (h : length (take t chip) ≤ at).
          rw (s.rest_is, drop_of_length-le (take t chip) h) trimmed-nil)
          (λ (h : at < length (take t chip)). λ r e.
          let z : at - length (take t chip) ≡ 0 = omega arith in
          let i = images F.format js in
          let b = sym (append-nil (take t chip)) ∙ ap (λ (x : ℕ). take t chip ++ replicate x 0xFF) (sym z) ∙ s.bytes in
          c.trimmed (i ++ r) (b ∙ ap (λ (x : List ℕ). i ++ x) e ∙ sym (append_assoc i r (0xFF ∷ []))))
          (le-or-lt (length (take t chip)) at)

-- so the answer is the journal's
pub joined : (F : Facts) (a : Scanned) (values : List ℕ) {chip : List ℕ} {t : ℕ} → chip_length F.format.page (length chip) ≡ true → Content chip t
    → WalkIs F (take t chip) a values → Scans F chip a values
joined F scanned.BadLength values m c w = absurd w
joined F scanned.Damaged values m c w = (
  m,
  record { saves = w.0.saves; rest = w.0.rest; reading = reading-of m c w.0.stops; refused = w.0.refused },
  w.1,
)
joined F (scanned.Found end torn last own) values m c w = (
  m,
  record {
    saves = w.saves;
    rest = w.rest;
    reading = reading-of m c w.stops;
    accepted = w.accepted;
    end_is = w.stops.at_is;
    torn_is = w.torn_is;
    last_is = w.last_is;
    own_is = w.own_is;
    cells = w.cells;
    values_are = w.values_are;
  },
)
