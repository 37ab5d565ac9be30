-- What an old chip holds is one thing (`holds-fixed`), read by the marks that it has (`holds-taken`): it is not damaged read both ways (`holds-whole`), nor another plan's
-- (`holds-own`).
-- Assumes nothing.
use Prim.Native.Nat.{ℕ}
use mathlib.Core.Path.{◌≡◌, refl, ◌∙◌, subst}
use mathlib.Core.Bool.{Bool, true, false}
use mathlib.Core.List.{List}
use Rattle.program.proofs.Tests.{clash}
use Rattle.journal.specs.declared.Commit.{Commit}
use Rattle.journal.specs.Format.{unowned, owner_of_plan, kind_of}
use Rattle.journal.specs.Reading.{Damaged}
use Rattle.journal.specs.Answer.{Taken}
use Rattle.journal.proofs.Fixed.{apart, taken-fixed}
use Rattle.recovery.proofs.Laws.{own-none}
use Rattle.folding.specs.Fold.{byte_facts, Holds}

pub holds-fixed : {p old : List ℕ} {owner end torn owner' end' torn' : ℕ} {last last' : Commit} {values values' : List ℕ} → Holds p old owner end torn last values
    → Holds p old owner' end' torn' last' values' → (owner ≡ owner') × (end ≡ end') × (torn ≡ torn') × (last ≡ last') × (values ≡ values')
holds-fixed (Holds.today t) (Holds.today t') = let f = taken-fixed t t' in (refl, f.0, f.1, f.2, f.4)
holds-fixed (Holds.today t) (Holds.older d t') = absurd (apart d t)
holds-fixed (Holds.older d t) (Holds.today t') = absurd (apart d t')
holds-fixed (Holds.older d t) (Holds.older d' t') = let f = taken-fixed t t' in (refl, f.0, f.1, f.2, f.4)

-- all its marks are the owner's: those that name no plan are so too
pub holds-taken : {p old : List ℕ} {owner end torn : ℕ} {last : Commit} {values : List ℕ} → Holds p old owner end torn last values
    → Taken (byte_facts owner p) old end torn last true values
unfolding kind_of
holds-taken (Holds.today t) = t
holds-taken {p} {old} {owner} {end} {torn} {last} {values} (Holds.older d t) =
    subst (λ (own : Bool). Taken (byte_facts unowned p) old end torn last own values) (t.own_is ∙ own-none refl t.reading.sound) t

pub holds-whole : {p old : List ℕ} {owner end torn : ℕ} {last : Commit} {values : List ℕ} → Holds p old owner end torn last values → Damaged (byte_facts (owner_of_plan p) p) old
    → ¬ Damaged (byte_facts unowned p) old
holds-whole (Holds.today t) d d' = apart d t
holds-whole (Holds.older _ t) d d' = apart d' t

pub holds-own : {p old : List ℕ} {owner end torn end' torn' : ℕ} {last last' : Commit} {values values' : List ℕ} → Holds p old owner end torn last values
    → ¬ Taken (byte_facts (owner_of_plan p) p) old end' torn' last' false values'
holds-own (Holds.today t) t' = clash true refl (taken-fixed t t').3
holds-own (Holds.older d t) t' = apart d t'
