-- Dropping the FF bytes at the end of a list: what `content` keeps is the list without them (`content-none`, `content-some`).
-- Assumes nothing.
use Rattle.std.proofs.Common.{◌≡◌, ℕ, ◌+◌, ◌-◌, ◌<◌, ◌≤◌, List, [], ◌∷◌, ◌++◌, length, get_or, take, drop, replicate, sym, ap, ◌∙◌, subst, append-nil, add-one, arith, take-suc, drop_of_length-le}
use Rattle.std.proofs.lemmas.List.{take-append-drop}
use Rattle.journal.specs.Parts.{Content, Erased}
use Rattle.journal.proofs.Numbers.{byte-here}
use Rattle.journal.proofs.Padding.{erased-bytes}
use Rattle.journal.proofs.Torn.{Trimmed, trimmed-nil, trimmed-snoc}

-- the bytes from r on are FF, and the one before is not
content-of : (l : List ℕ) (r : ℕ) → r ≤ length l → ((k : ℕ) → r ≤ k → k < length l → get_or l k 0 ≡ 0xFF) → Trimmed (take r l) → Content l r
content-of l r m h t =
    let n = length l - r in
    let z : length l - length l ≡ 0 = omega arith in
    let f : Erased l r (length l) = record { are = λ k a b. sym (byte-here l k b) ∙ h k a b } in
    let e = erased-bytes n {l = l} {from = r} {to = length l} f (omega (arith, m)) m in
    let d : drop r l ≡ replicate n 0xFF =
    sym (append-nil (drop r l))
    ∙ ap (λ (k : ℕ). drop r l ++ replicate k 0xFF) (sym z)
    ∙ e
    ∙ ap (λ (x : List ℕ). replicate n 0xFF ++ x) (drop_of_length-le l (omega arith))
    ∙ append-nil (replicate n 0xFF) in
    record { most = m; erased = n; bytes = sym (take-append-drop r l) ∙ ap (λ (x : List ℕ). take r l ++ x) d; trimmed = t }

-- all bytes are
pub content-none : {l : List ℕ} → ((k : ℕ) → k < length l → get_or l k 0 ≡ 0xFF) → Content l 0
content-none {l} h = content-of l 0 (omega arith) (λ k a. h k) trimmed-nil

-- the byte at i is not, and those behind it are
pub content-some : {l : List ℕ} (i : ℕ) → i < length l → ¬ (get_or l i 0 ≡ 0xFF) → ((k : ℕ) → i < k → k < length l → get_or l k 0 ≡ 0xFF) → Content l (i + 1)
content-some {l} i m d h =
    let t : take (i + 1) l ≡ take i l ++ (get_or l i 0 ∷ []) = ap (λ (k : ℕ). take k l) (add-one i) ∙ take-suc l i 0 m in
    content-of l (i + 1) (omega (arith, m)) (λ k a b. h k (omega (arith, a)) b) (subst Trimmed (sym t) (trimmed-snoc (take i l) (get_or l i 0) d))
