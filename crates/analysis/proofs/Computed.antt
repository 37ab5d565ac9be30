-- The words that analyse leaves for a given program, computed: one test of the words, bit by bit, shows that its contract holds of them (`analyses-by`).
-- Assumes nothing.
use mathlib.Core.Path.{◌≡◌, refl}
use mathlib.Core.List.{List}
use mathlib.Core.Bool.{Bool, true, cond, not, ◌&&◌, ◌||◌}
use Prim.Native.Nat.{ℕ, ◌+◌, ◌*◌, ◌<◌}
use native.Mathlib.Omega.{arith}
use lib.ListN.{length}
use lib.Dec.{ltb, eqb}
use borrow.Author.Tests.{ltb-true, lt-ltb, eq-eqb}
use Rattle.cellset.specs.Bits.{member}
use Rattle.instruction.specs.Bytes.{byte, cells_of}
use Rattle.program.specs.Starts.{starts}
use Rattle.program.specs.Places.{is_exclude, exclude_number}
use Rattle.program.proofs.Tests.{and_both}
use Rattle.program.proofs.Accepted.{Accepted}
use Rattle.graph.specs.Tables.{count_of, start_of}
use Rattle.analysis.specs.Analyse.{analyse_of, Analyses}
use Rattle.analysis.specs.Analyse.{Sets}
use Rattle.analysis.specs.Rows.{Question, dead_before, de_of_set, ro_of_set, In}
use Rattle.analysis.proofs.Certificates.{all_of, all-at}
use Rattle.analysis.proofs.Fixed.{sets-accepted}
use Rattle.analysis.proofs.Ruling.{answer-ruled}
use Rattle.analysis.proofs.Table.{shown_in, shown-in, Out, shown_out, shown-out, each_below, below_at}

-- ---- a set

-- the bit of a cell that is shown to be in the set is 1, and that of one that is kept out or does not exist is 0
abbrev bit_right : List ℕ → Question → List ℕ → ℕ → ℕ → Bool
bit_right p q ws at c = cond (eqb (member ws at c) 1) (ltb c (cells_of p) && shown_in p q c) (not (ltb c (cells_of p)) || shown_out p q c)

-- so it is with each bit of the four words from index `at` on
abbrev set_right : List ℕ → Question → List ℕ → ℕ → Bool
set_right p q ws at = each_below (bit_right p q ws at) 256

module _ (p : List ℕ) {m n k : ℕ} (a : Accepted p m n k) (q : Question) (ws : List ℕ) (at : ℕ) (right : set_right p q ws at ≡ true) where
  -- then a set bit is a cell of the set
  set-in : (c : ℕ) → c < 256 → member ws at c ≡ 1 → In p q c
  set-in c l b =
      let h : (ltb c (cells_of p) && shown_in p q c) ≡ true = rw (eq-eqb _ _ b) at (below_at (bit_right p q ws at) 256 c right l) in
      let x = and_both (ltb c (cells_of p)) (shown_in p q c) h in
      shown-in p a q c (ltb-true _ _ x.0) x.1

  -- and a clear bit of a cell that exists has what keeps it out
  set_out : cells_of p < 257 → (c : ℕ) → c < cells_of p → member ws at c ≡ 0 → Out p q c
  set_out few c l b =
      let h : (not (ltb c (cells_of p)) || shown_out p q c) ≡ true = rw b at (below_at (bit_right p q ws at) 256 c right (omega arith)) in
      shown-out p q c (rw (lt-ltb c (cells_of p) l) at h)

-- ---- both buffers

-- the dead set of instruction i is right
abbrev dead_right : List ℕ → List ℕ → ℕ → Bool
dead_right p d i = set_right p (dead_before (start_of p i)) d (4 * i)

-- both sets of an EXCLUDE are
abbrev exclude_right : List ℕ → List ℕ → ℕ → Bool
exclude_right p s e =
    not (eqb (byte p e) 0x0D) || (set_right p (de_of_set e) s (8 * exclude_number p e) && set_right p (ro_of_set e) s (8 * exclude_number p e + 4))

-- all of them are, and a set has a bit for each cell
abbrev pub words_right : (p dead sets : List ℕ) → Bool
words_right p d s = ltb (cells_of p) 257 && (each_below (dead_right p d) (count_of p) && all_of (exclude_right p s) (starts p))

-- so both are of each EXCLUDE of the program
exclude-right : (p s : List ℕ) → all_of (exclude_right p s) (starts p) ≡ true → (e : ℕ) → is_exclude p e ≡ true
    → (set_right p (de_of_set e) s (8 * exclude_number p e) ≡ true) × (set_right p (ro_of_set e) s (8 * exclude_number p e + 4) ≡ true)
exclude-right p s h e is =
    let x = and_both _ _ is in
    and_both _ _ (rw x.1 at (all-at (exclude_right p s) (starts p) e h x.0))

-- then analyse can leave these words in buffers that held them before
pub analyses-by : (p d s : List ℕ) {cells instructions excludes : ℕ} → Sets cells instructions excludes ≡ analyse_of p (length d) (length s)
    → words_right p d s ≡ true → Analyses p d s d s (Sets cells instructions excludes)
analyses-by p d s answer h =
    let a = sets-accepted p (length d) (length s) answer in
    let x = and_both (ltb (cells_of p) 257) _ h in
    let y = and_both (each_below (dead_right p d) (count_of p)) (all_of (exclude_right p s) (starts p)) x.1 in
    let few = ltb-true _ _ x.0 in
    let node : (i : ℕ) → i < count_of p → dead_right p d i ≡ true = λ i. below_at (dead_right p d) (count_of p) i y.0 in
    let mark = exclude-right p s y.1 in
    record {
      answer = answer;
      ruled = answer-ruled p (length d) (length s) _ answer;
      refused = λ n r. absurd (let z : ◌≡◌ {A = ℕ} 0 1 = cc in omega arith);
      filled = λ c n e r. (
        record {
          size = refl;
          dead = λ i c l. set-in p a (dead_before (start_of p i)) d (4 * i) (node i l) c;
          live = λ i c l. set_out p a (dead_before (start_of p i)) d (4 * i) (node i l) few c;
          rest = λ k l. refl;
        },
        record {
          size = refl;
          de = λ e c is. set-in p a (de_of_set e) s (8 * exclude_number p e) (mark e is).0 c;
          no_de = λ e c is. set_out p a (de_of_set e) s (8 * exclude_number p e) (mark e is).0 few c;
          ro = λ e c is. set-in p a (ro_of_set e) s (8 * exclude_number p e + 4) (mark e is).1 c;
          no_ro = λ e c is. set_out p a (ro_of_set e) s (8 * exclude_number p e + 4) (mark e is).1 few c;
          rest = λ k l. refl;
        },
      );
    }
