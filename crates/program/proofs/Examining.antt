-- From the check's answer to what examine and check promise.
-- Assumes nothing.
use mathlib.Core.Path.{◌≡◌, refl, sym, subst, ◌∙◌}
use mathlib.Core.List.{List}
use Prim.Native.Nat.{ℕ}
use native.Mathlib.Omega.{arith}
use lib.Seq.{ext_get_or}
use Rattle.std.proofs.Common.{Result, Ok, Err, is_err, true, false}
use Rattle.program.specs.declared.Sizes.{Sizes}
use Rattle.program.specs.declared.refusal.Refusal.{Refusal}
use Rattle.program.specs.Check.{checked_of, check_of, Walks, Fills}
use Rattle.program.specs.Grounds.{Checks, Examines}
use Rattle.program.specs.Places.{Blank}
use Rattle.program.specs.Check.{Checked}
use Rattle.program.specs.Check.{Program, Refused}
use Rattle.program.specs.Check.{Walked}
use Rattle.program.proofs.Grounds.{ruled}
use Rattle.program.proofs.Accepted.{accepted, decodes-accepted}

-- the walk's answer under another name
pub walks-as : {p table ts : List ℕ} {v w : Walked} → Walks p v table ts → v ≡ w → Walks p w table ts
walks-as {p} {table} {ts} h e = subst (λ w. Walks p w table ts) e h

-- after the walk, the table of an accepted program is right
pub filled : (p table ts : List ℕ) {w : Walked} {r : Checked} → Walks p w table ts → r ≡ check_of p → Fills p r table
filled p table ts w h = record { is = h; places = λ c n e d. w.places (decodes-accepted p (accepted p (sym d ∙ h))) }

-- no answer is both accepted and refused
apart : {r : Checked} {c n e k : ℕ} → r ≡ Program c n e → ¬ (r ≡ Refused k)
apart d h = let z : ◌≡◌ {A = ℕ} 0 1 = cc in omega arith

-- before it, the program is refused
pub filled-size : (p table : List ℕ) → Refused 1 ≡ check_of p → Fills p (Refused 1) table
filled-size p table h = record { is = h; places = λ c n e d. absurd (apart d refl) }

-- the computed answer is the one that the grounds allow
pub checked : (p : List ℕ) {r : Checked} → r ≡ check_of p → Checks p r
checked p h = record { is = h; ruled = rw h (ruled p) }

-- tables with no place in them are the same
blank-same : {before after : List ℕ} → Blank before → Blank after → after ≡ before
blank-same {before} {after} b a = ext_get_or 0 after before (a.size ∙ sym b.size) (λ t _. a.clear t ∙ sym (b.clear t))

-- an accepted program's table stays as it was filled
pub examined : {p before after : List ℕ} {r : Checked} {c n e : ℕ} → Fills p r after → r ≡ Program c n e → Examines p r before after
examined {p} f h = record { checks = checked p f.is; places = f.places; kept = λ k d. absurd (apart h d) }

-- a refused one's is cleared
pub examined-refused : {p before table after : List ℕ} {r : Checked} {n : ℕ} → Fills p r table → r ≡ Refused n → Blank before → Blank after
    → Examines p (Refused n) before after
examined-refused {p} f h b a = record {
  checks = checked p (sym h ∙ f.is);
  places = λ c n e d. absurd (apart d refl);
  kept = λ k d. blank-same b a;
}

-- the two by the code's answer
pub examined-by : {p before after : List ℕ} (r : Result Sizes Refusal) → is_err r ≡ false → Fills p (checked_of r) after → Examines p (checked_of r) before after
examined-by (Ok s) e f = examined f refl
examined-by (Err x) e f = let z : ◌≡◌ {A = ℕ} 0 1 = cc in absurd (omega arith)

pub refused-by : {p before table after : List ℕ} (r : Result Sizes Refusal) → is_err r ≡ true → Fills p (checked_of r) table → Blank before → Blank after
    → Examines p (checked_of r) before after
refused-by (Ok s) e f b a = let z : ◌≡◌ {A = ℕ} 0 1 = cc in absurd (omega arith)
refused-by (Err x) e f b a = examined-refused f refl b a
