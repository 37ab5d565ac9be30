-- The cells whose value is not 0, as a set: what the loop over them keeps (`held_below`), and that the bytes made of it are those of the folded save (`save-some`).
-- Assumes nothing.
use Prim.Native.Nat.{ℕ, zero, suc, ◌+◌, ◌≤◌}
use mathlib.Core.Path.{◌≡◌, refl, sym, ◌∙◌, ap, subst}
use mathlib.Core.Bool.{cond}
use mathlib.Core.List.{List, ◌++◌}
use native.Mathlib.Omega.{arith}
use lib.ListN.{length, get_or, take, drop}
use lib.Seq.{sets, sets-eq, length-sets, take_at}
use lib.Dec.{eqb, ltb}
use borrow.Author.Tests.{eq-eqb, ne_eqb}
use Rattle.cellset.specs.Bits.{has}
use Rattle.cellset.specs.Sets.{SetIs}
use Rattle.cellset.specs.Members.{members_from, members}
use Rattle.program.proofs.Tests.{bool_cases}
use Rattle.journal.specs.declared.Commit.{Commit}
use Rattle.journal.specs.Format.{format_of, kind_of, Checkpoint, image, padded}
use Rattle.journal.specs.Writing.{records_of, checkpoint_of}
use Rattle.journal.proofs.Paging.{fill_one}
use Rattle.journal.proofs.Naming.{kind-most}
use Rattle.journal.proofs.Written.{image-length, padded-length}
use Rattle.folding.specs.Fold.{byte_chip, held_from, named_for, folded_save, folded_bytes, held_bit}

-- ---- the cells below c

abbrev pub held_below : List ℕ → (c x : ℕ) → ℕ
held_below xs c x = cond (ltb x c) (held_bit xs x) 0

-- ---- its members

held_same : (xs : List ℕ) {s : List ℕ} → SetIs s (held_bit xs) → (c k : ℕ) → c + k ≤ 256 → members_from s c k ≡ held_from xs c k
unfolding members_from held_from
held_same xs h c zero l = refl
held_same xs h c (suc k) l =
    let r = held_same xs h (suc c) k (omega arith) in
    rw (h.members c (omega arith), r) (bool_cases (eqb (get_or xs c 0) 0) (λ t. rw t refl) (λ t. rw t refl))

-- its checkpoint is the folded save
held-save : (owner : ℕ) (xs : List ℕ) (last : Commit) {s : List ℕ} → SetIs s (held_bit xs) → checkpoint_of s xs (named_for owner last) ≡ folded_save owner xs last
unfolding checkpoint_of members
held-save owner xs last h = ap (λ (cs : List ℕ). record { records = records_of cs xs; commit = named_for owner last }) (held_same xs h 0 256 (omega arith))

members-most : (s : List ℕ) (c k : ℕ) → length (members_from s c k) ≤ k
unfolding members_from
members-most s c zero = omega arith
members-most s c (suc k) =
    let ih = members-most s (suc c) k in
    bool_cases (eqb (has s c) 1) (λ t. rw t (omega arith)) (λ t. rw t (omega arith))

-- 256 records and a MARK
size-most : (owner : ℕ) (s xs : List ℕ) (last : Commit) → length (padded (byte_chip owner) (checkpoint_of s xs last)) ≤ 1554
unfolding members
size-most owner s xs last =
    let G = byte_chip owner in
    let c = checkpoint_of s xs last in
    omega (arith, padded-length G c, fill_one (length (image G c)), image-length G s xs last, members-most s 0 256, kind-most owner)

-- ---- the save in a buffer

-- what the buffer and the number of its bytes have to be
abbrev pub SaveIn : (owner end : ℕ) (xs : List ℕ) → Commit → (size : ℕ) (bytes : List ℕ) → Type 0
SaveIn owner end xs last size bytes = (take size bytes ≡ folded_bytes owner end xs last) × (size ≤ length bytes)

pub save-none : (owner end : ℕ) (xs bytes : List ℕ) (last : Commit) → end ≡ 0 → SaveIn owner end xs last 0 bytes
unfolding folded_bytes
save-none owner end xs bytes last e = (rw (eq-eqb end 0 e) refl, omega arith)

-- what the buffer and the number are where the kind of MARK is k
abbrev Stored : (k owner : ℕ) → Checkpoint → (bytes after : List ℕ) → (size : ℕ) → Type 0
Stored k owner c bytes after size = (size ≡ length (padded (format_of 1 k owner) c)) × (after ≡ sets bytes 0 (padded (format_of 1 k owner) c))

pub save-some : (owner end : ℕ) (xs bytes after : List ℕ) (last : Commit) {s : List ℕ} {k size : ℕ} {c : Commit} → ¬ (end ≡ 0) → length bytes ≡ 1584 → SetIs s (held_bit xs)
    → k ≡ kind_of owner → c ≡ named_for owner last → Stored k owner (checkpoint_of s xs c) bytes after size → SaveIn owner end xs last size after
unfolding folded_bytes
save-some owner end xs bytes after last {s} {k} {size} {c} n l h kind commit stored =
    let q : Stored (kind_of owner) owner (folded_save owner xs last) bytes after size =
    subst (λ (j : Checkpoint). Stored (kind_of owner) owner j bytes after size) (ap (checkpoint_of s xs) commit ∙ held-save owner xs last h)
    (subst (λ (j : ℕ). Stored j owner (checkpoint_of s xs c) bytes after size) kind stored) in
    let i = padded (byte_chip owner) (folded_save owner xs last) in
    let m : length i ≤ 1554 = subst (λ (j : Checkpoint). length (padded (byte_chip owner) j) ≤ 1554) (held-save owner xs last h) (size-most owner s xs (named_for owner last)) in
    let k : length after ≡ 1584 = ap length q.1 ∙ length-sets bytes 0 i ∙ l in
    let w : after ≡ i ++ drop (0 + length i) bytes = q.1 ∙ sets-eq i bytes 0 (omega arith) in
    (rw (ne_eqb end 0 n) (ap (take size) w ∙ take_at i (drop (0 + length i) bytes) size (sym q.0)), omega (arith, q.0))
