-- What `settle` hands on: arrays with nothing in them, the chains through the links of the nodes alone, and full sets that were drained.
-- Assumes nothing.
use mathlib.Core.Path.{◌≡◌, refl, sym, subst, ◌∙◌}
use mathlib.Core.Logic.{⊎_elim}
use mathlib.Core.List.{List}
use mathlib.Core.Bool.{Bool, true, false}
use Prim.Native.Nat.{ℕ, zero, suc, ◌≤◌, ◌<◌}
use native.Mathlib.Omega.{arith}
use lib.ListN.{length, get_or, take, replicate, length-replicate}
use lib.Seq.{get_or-take, length-take-le}
use Rattle.cellset.proofs.Bits.{le-or-lt}
use Rattle.liveness.specs.Queue.{flag, Queue, On, here, there, Chains}
use Rattle.liveness.specs.Graph.{Wired, Rooms, Ready, Full, Drained, Settled}
use Rattle.liveness.proofs.Waiting.{queue-none}

-- each place of an array of one value has it, and so has what is read past the end
pub uniform : {A : Type 0} (m k : ℕ) (a : A) → get_or (replicate m a) k a ≡ a
uniform zero k a = refl
uniform (suc m) zero a = refl
uniform (suc m) (suc k) a = uniform m k a

-- none waits in a fresh list
pub queue-fresh : (n m : ℕ) → n ≤ m → Queue n (replicate m 0) (replicate m false) 0
queue-fresh n m l = queue-none (length-replicate m 0 ∙ sym (length-replicate m false)) (rw (length-replicate m false) l) (λ k. uniform m k false)

-- what `thread` asks
pub threads : {left right : List ℕ} (m : ℕ) → Wired left right → length left ≤ m
    → (length right ≤ m) × (length right ≤ length (replicate {A = ℕ} m 0)) × (length right ≤ length (replicate {A = ℕ} m 0))
    × ((k : ℕ) → k < length right → get_or right k 0 < length right) × ((t : ℕ) → get_or (replicate {A = ℕ} m 0) t 0 ≡ 0)
threads {right = right} m w l =
    let e = w.both in
    let long : length right ≤ length (replicate {A = ℕ} m 0) = rw (length-replicate {A = ℕ} m 0) (omega arith) in
    (omega arith, long, long, (λ k h. omega (arith, w.right_node k (omega arith))), (λ t. uniform m t 0))

-- a chain runs through the first n links, if it begins below n and falls
on-take : {links : List ℕ} {k e : ℕ} (n : ℕ) → ((j : ℕ) → j < n → get_or links j 0 ≤ j) → On links k e → e ≤ n → On (take n links) k e
on-take n falls here l = here
on-take {links} {k} n falls (there {j = j} o) l =
    there (subst (On (take n links) k) (sym (get_or-take n links j 0 l)) (on-take n falls o (omega (arith, falls j l))))

chains-take : {targets heads links : List ℕ} → Chains targets heads links → Chains targets heads (take (length targets) links)
chains-take {targets} {heads} {links} s = record {
  bounds = s.bounds;
  falls = λ k l. rw (get_or-take (length targets) links k 0 l) (s.falls k l);
  complete = λ k l. on-take (length targets) s.falls (s.complete k l) (s.bounds (get_or targets k 0));
}

-- what `drain` asks of the list
pub begun : {left right heads links list : List ℕ} {flags : List Bool} {top : ℕ} → Wired left right → length heads ≡ 512 → length links ≡ 512 → Chains right heads links
    → Queue (length left) list flags top → ((k : ℕ) → k < length left → flag flags k ≡ true) → Ready left right heads (take (length left) links) list flags top
begun {left} {right} {heads} {links} w h e s q all = record {
  wired = w;
  size = length-take-le (length left) links (omega (arith, w.few));
  size_heads = omega (arith, w.few);
  chains = subst (λ (n : ℕ). Chains right heads (take n links)) w.both (chains-take s);
  queue = q;
  all = all;
}

-- and of the sets
pub rooms-full : {n cells : ℕ} {reads writes d₀ d : List ℕ} → Rooms n reads writes d₀ → Full n cells d₀ d → Rooms n reads writes d
rooms-full r f = record { for_reads = r.for_reads; for_writes = r.for_writes; for_dead = omega (arith, r.for_dead, f.size) }

-- full sets that were drained
pub settled : {left right reads writes d₀ d₁ d : List ℕ} {cells : ℕ} → Full (length left) cells d₀ d₁ → Drained left right reads writes d₁ d
    → Settled left right reads writes cells d₀ d
settled {cells = cells} f s = record {
  clear = λ i c l h p e. s.clear c h (λ j q. (f.bits j c q h).0 p) i l e;
  kept = λ i c l h e. (
    ⊎_elim (λ (p : cells ≤ c). absurd (omega (arith, (f.bits i c l h).1 p, s.falls i c l h e))) (λ (p : c < cells). p) (le-or-lt cells c),
    s.kept i c l h e,
  );
  rest = λ k h. s.rest k h ∙ f.rest k h;
}
