-- The inner loop's turns: what it has done so far (`QuietIs`), at its beginning and after an instruction; and what its READ and EMIT leave.
-- Assumes nothing.
use mathlib.Core.Path.{◌≡◌, refl, sym, ◌∙◌, ap, subst}
use mathlib.Core.Bool.{true}
use mathlib.Core.List.{List}
use mathlib.Core.Logic.{◌≢◌}
use Prim.Native.Nat.{ℕ, ◌+◌, ◌-◌, ◌≤◌, ◌<◌}
use native.Mathlib.Omega.{arith}
use lib.IntN.{ℤ, pos}
use lib.ListN.{length, get_or, set, drop, length-set}
use lib.Seq.{drop-drop, drop-set-lt}
use mir.Syntax.{w32}
use mir.Val.{to_z, of_z, SFits}
use mir.Facts.{to_z-of_z}
use Rattle.word.specs.Word.{val, bits_of}
use Rattle.instruction.specs.Bytes.{byte, length_of}
use Rattle.program.specs.Places.{is_start}
use Rattle.execution.specs.Effects.{cells_in}
use Rattle.execution.specs.Plain.{Moved, moved, plain_of}
use Rattle.execution.proofs.Laws.{plain-none}
use Rattle.run.specs.declared.quiet.Flow.{Flow}
use Rattle.step.specs.Ready.{Legal}
use Rattle.run.specs.Quiet.{flowed, flow_at, QuietIs}
use Rattle.run.proofs.Starting.{legal-next, legal-after}
use Rattle.run.proofs.Along.{along-refl, along-trans, plain_along, take-along, give-along}

-- ---- one instruction; a signed local v is read back as `to_z w32 (of_z w32 v)`, which is v since v fits

-- READ: the numbers, and the cell d
pub took : (f : Flow) (xs : List ℕ) (d : ℕ) {t n x : ℕ} {ys : List ℕ} {v : ℤ} → t ≡ n → ys ≡ set xs d x → x ≡ bits_of (to_z w32 (of_z w32 v)) → SFits w32 v
    → (◌≡◌ {A = Flow} (record { pc = t; steps = f.steps + 1; taken = f.taken + 1; written = f.written }) (flowed f n 1 0)) × (ys ≡ set xs d (bits_of v))
took f xs d e g h s = (let z : f.written + 0 ≡ f.written = omega arith in rw (e, z), g ∙ ap (set xs d) (h ∙ ap bits_of (to_z-of_z s)))

-- EMIT: the numbers, and the output at a place
pub gave : (f : Flow) (outs : List ℤ) (to : ℕ) {t n x y : ℕ} {v : ℤ} → t ≡ n → SFits w32 v → v ≡ val x → x ≡ y
    → (◌≡◌ {A = Flow} (record { pc = t; steps = f.steps + 1; taken = f.taken; written = f.written + 1 }) (flowed f n 0 1))
    × (set outs to (to_z w32 (of_z w32 v)) ≡ set outs to (val y))
gave f outs to e s g h = (let z : f.taken + 0 ≡ f.taken = omega arith in rw (e, z), ap (set outs to) (to_z-of_z s ∙ g ∙ ap val h))

-- what lists share from a place on they share from the next place on
drop_more : (xs ys : List ℤ) (a n : ℕ) → drop (a + n) xs ≡ drop (a + n) ys → drop (a + (n + 1)) xs ≡ drop (a + (n + 1)) ys
drop_more xs ys a n h =
    let k : a + n + 1 ≡ a + (n + 1) = omega arith in
    rw (← k) (sym (drop-drop 1 (a + n) xs) ∙ ap (drop 1) h ∙ drop-drop 1 (a + n) ys)

-- ---- the loop
pub quiet-first : {p : List ℕ} {readings : List ℤ} {first pc left takes gives : ℕ} {xs : List ℕ} {outs : List ℤ} → is_start p pc ≡ true
    → QuietIs p readings first pc left takes gives xs outs (flow_at pc) xs outs
quiet-first s =
    record {
      stands = s;
      steps = omega arith;
      taken = omega arith;
      written = omega arith;
      size = refl;
      later = refl;
      along = λ b e i. along-refl;
    }

-- each turn takes a step of the budget
pub steps-less : (f : Flow) (n m : ℕ) {f' : Flow} {t left : ℕ} → f.steps < left → f' ≡ flowed f t n m → left - f'.steps < left - f.steps
steps-less f n m l e = rw e (omega arith)

module _ {p : List ℕ} {readings : List ℤ} {first pc left takes gives : ℕ} {xs₀ : List ℕ} {outs₀ : List ℤ} {f : Flow} {xs : List ℕ} {outs : List ℤ}
    (q : QuietIs p readings first pc left takes gives xs₀ outs₀ f xs outs) where
  -- an instruction that was left alone changes nothing
  pub quiet-stays : {t : ℕ} {ys : List ℕ} → moved t ys ≡ plain_of p f.pc xs → t ≡ 0 → QuietIs p readings first pc left takes gives xs₀ outs₀ f ys outs
  quiet-stays {ys = ys} e z =
      let k : ys ≡ xs = ap (λ (w : Moved). w.cells) e ∙ plain-none p f.pc xs (sym (ap (λ (w : Moved). w.place) e) ∙ z) in
      rw k q

  module _ (legal : Legal p) (l : f.steps < left) where
    -- an instruction that touches the cells and the place alone
    pub quiet-moved : (t : ℕ) (ys : List ℕ) → moved t ys ≡ plain_of p f.pc xs → t ≢ 0 → byte p f.pc ≢ 7 → byte p f.pc ≢ 8
        → QuietIs p readings first pc left takes gives xs₀ outs₀ (record { pc = t; steps = f.steps + 1; taken = f.taken; written = f.written }) ys outs
    quiet-moved t ys e n n7 n8 =
        let h : t ≡ (plain_of p f.pc xs).place = ap (λ (w : Moved). w.place) e in
        let k : 0 < (plain_of p f.pc xs).place = omega arith in
        subst (λ (w : Moved). QuietIs p readings first pc left takes gives xs₀ outs₀
        (record { pc = w.place; steps = f.steps + 1; taken = f.taken; written = f.written }) w.cells outs) (sym e)
        (record {
          stands = legal-next legal f.pc q.stands xs k;
          steps = omega arith;
          taken = q.taken;
          written = q.written;
          size = q.size;
          later = q.later;
          along = λ b o i. along-trans (q.along b o i) (plain_along i left f xs outs l n7 n8 k);
        })

    pub quiet-took : {f' : Flow} {ys : List ℕ} → byte p f.pc ≡ 7 → f.taken ≢ takes → f' ≡ flowed f (f.pc + length_of 7) 1 0
        → ys ≡ set xs (byte p (f.pc + 1)) (bits_of (to_z w32 (of_z w32 (get_or readings f.taken (pos 0))))) → SFits w32 (get_or readings f.taken (pos 0))
        → QuietIs p readings first pc left takes gives xs₀ outs₀ f' ys outs
    quiet-took h n d e r =
        let t : f.taken < takes = omega (arith, q.taken) in
        let w : f.written + 0 ≡ f.written = omega arith in
        rw (d, e, to_z-of_z r) (record {
          stands = legal-after legal f.pc q.stands 7 h refl;
          steps = omega arith;
          taken = omega arith;
          written = omega (arith, q.written);
          size = q.size;
          later = rw w q.later;
          along = λ b o i. along-trans (q.along b o i) (take-along i left f xs outs l h t);
        })

    pub quiet-gave : {f' : Flow} {outs' : List ℤ} → byte p f.pc ≡ 8 → f.written ≢ gives → first + gives ≤ length outs₀
        → f' ≡ flowed f (f.pc + length_of 8) 0 1 → outs' ≡ set outs (first + f.written) (val (cells_in xs (byte p (f.pc + 1))))
        → QuietIs p readings first pc left takes gives xs₀ outs₀ f' xs outs'
    quiet-gave h n r d e =
        let t : f.written < gives = omega (arith, q.written) in
        let z = val (cells_in xs (byte p (f.pc + 1))) in
        rw (d, e) (record {
          stands = legal-after legal f.pc q.stands 8 h refl;
          steps = omega arith;
          taken = omega (arith, q.taken);
          written = omega arith;
          size = length-set outs (first + f.written) z ∙ q.size;
          later = drop-set-lt (first + (f.written + 1)) outs (first + f.written) z (omega arith) ∙ drop_more outs outs₀ first f.written q.later;
          along = λ b o i. along-trans (q.along b o i) (give-along i left f xs outs l h t (omega (arith, q.size)));
        })
