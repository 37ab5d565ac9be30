-- Paths through the tables are paths through the program, so the dead sets that the worklist leaves are those of the program.
-- Assumes nothing.
use mathlib.Core.Path.{◌≡◌, refl, sym, ◌∙◌, subst}
use mathlib.Core.Logic.{inl, inr, ⊎_elim}
use mathlib.Core.List.{List}
use Prim.Native.Nat.{ℕ, ◌*◌, ◌≤◌, ◌<◌}
use native.Mathlib.Omega.{arith}
use lib.ListN.{length, get_or, take, length-take}
use lib.Seq.{get_or-take}
use Rattle.cellset.specs.Bits.{member}
use Rattle.instruction.specs.Bytes.{cells_of}
use Rattle.liveness.specs.Graph as graph
use Rattle.graph.specs.Tables.{count_of, start_of, Passed, Goes, Ways, Tables}
use Rattle.analysis.specs.Paths.{Live, reads, later}
use Rattle.analysis.specs.Analyse.{DeadSets}
use Rattle.analysis.specs.Search.{Mapped, Known}

module _ (p at left right : List ℕ) (ways : Ways p at left right) {n : ℕ} (en : n ≡ count_of p)
    (long_left : count_of p ≤ length left) (long_right : count_of p ≤ length right) where
  -- the part of a table that has the ways of the program's instructions
  abbrev part : List ℕ → List ℕ
  part xs = take n xs

  size : (xs : List ℕ) → count_of p ≤ length xs → length (part xs) ≡ count_of p
  size xs h = simp length-take (omega arith)

  at_part : (xs : List ℕ) (i : ℕ) → i < count_of p → get_or (part xs) i 0 ≡ get_or xs i 0
  at_part xs i l = get_or-take n xs i 0 (omega arith)

  wired : count_of p ≤ 512 → graph.Wired (part left) (part right)
  wired few = record {
    few = omega (arith, size left long_left);
    both = size right long_right ∙ sym (size left long_left);
    left_node = λ i l. let h : i < count_of p = rw (size left long_left) at l in rw (size left long_left, at_part left i h) (ways.led i h).left_node;
    right_node = λ i l. let h : i < count_of p = rw (size left long_left) at l in rw (size left long_left, at_part right i h) (ways.led i h).right_node;
    beside = λ i l. let h : i < count_of p = rw (size left long_left) at l in rw (at_part left i h, at_part right i h) (ways.led i h).beside;
  }

  module _ (rs ws : List ℕ) (tables : Tables p at left right rs ws) (c : ℕ) (small : c < 256) where
    abbrev Through : ℕ → Type 0
    Through i = graph.Live (part left) (part right) rs ws c i

    -- what is live at the end of a way is live before the instruction, which does not write it
    back : (i x : ℕ) → i < count_of p → Goes p i x → member ws (4 * i) c ≡ 0 → Live p c (start_of p x) → Live p c (start_of p i)
    back i x l (inl stays) w live = subst (λ y. Live p c (start_of p y)) stays live
    back i x l (inr follows) w live = later (sym (tables.writes_are i c l small) ∙ w) follows live

    to-path : {i : ℕ} → i < count_of p → Through i → Live p c (start_of p i)
    to-path {i} l (graph.read r) = reads (sym (tables.reads_are i c l small) ∙ r)
    to-path {i} l (graph.to_left w t) =
        let e = at_part left i l in
        back i (get_or left i 0) l (ways.led i l).left_goes w (subst (λ y. Live p c (start_of p y)) e (to-path (rw e (ways.led i l).left_node) t))
    to-path {i} l (graph.to_right w t) =
        let e = at_part right i l in
        back i (get_or right i 0) l (ways.led i l).right_goes w (subst (λ y. Live p c (start_of p y)) e (to-path (rw e (ways.led i l).right_node) t))

    from-path : {o : ℕ} → Live p c o → (i : ℕ) → i < count_of p → start_of p i ≡ o → Through i
    from-path (reads r) i l e = graph.read (tables.reads_are i c l small ∙ rw e r)
    from-path (later {q = q} w f t) i l e =
        let w' : member ws (4 * i) c ≡ 0 = tables.writes_are i c l small ∙ rw e w in
        ⊎_elim
        (λ (h : q ≡ start_of p (get_or left i 0)).
        graph.to_left w' (subst Through (sym (at_part left i l)) (from-path t (get_or left i 0) (ways.led i l).left_node (sym h))))
        (λ (h : q ≡ start_of p (get_or right i 0)).
        graph.to_right w' (subst Through (sym (at_part right i l)) (from-path t (get_or right i 0) (ways.led i l).right_node (sym h))))
        ((ways.led i l).all q (rw e f))

  -- what `settle` asks
  pub settle-ready : (rs ws d : List ℕ) → count_of p ≤ 512 → 2048 ≤ length rs → 2048 ≤ length ws → 2048 ≤ length d
      → graph.Wired (part left) (part right) × graph.Rooms (length (part left)) rs ws d
  settle-ready rs ws d few r w l =
      let e = size left long_left in
      (wired few, record { for_reads = omega arith; for_writes = omega arith; for_dead = omega arith })

  -- the settled sets are the program's dead sets
  pub dead-sets : (rs ws : List ℕ) → Tables p at left right rs ws → cells_of p ≤ 256 → {cells : ℕ} → cells ≡ cells_of p → {d₀ d : List ℕ} → length d ≡ length d₀
      → graph.Settled (part left) (part right) rs ws cells d₀ d → DeadSets p d₀ d
  dead-sets rs ws tables most {cells} ce {d₀} {d} long s = record {
    size = long;
    dead = λ i c l small h.
        let k = s.kept i c (rw (size left long_left) l) small h in
        record { exists = omega (arith, k.0); unread = λ live. k.1 (from-path rs ws tables c small live i l refl) };
    live = λ i c l e h.
        let small : c < 256 = omega arith in
        to-path rs ws tables c small l (s.clear i c (rw (size left long_left) l) small (omega arith) h);
    rest = λ k l. s.rest k (rw (size left long_left) l);
  }

-- what `exclude_sets` asks
pub sets-ready : (p at left right rs ws d₀ d : List ℕ) → Passed p → Tables p at left right rs ws → DeadSets p d₀ d
    → 512 ≤ length at → 512 ≤ length left → 512 ≤ length right → 2048 ≤ length ws → 2048 ≤ length d₀ → Mapped p at left right × Known p ws d
sets-ready p at left right rs ws d₀ d passed tables deads a l r w h = (
  record { passed = passed; ways = tables.ways; long_at = a; long_left = l; long_right = r },
  record { writes_are = tables.writes_are; dead_is = deads.dead; live_is = deads.live; long_writes = w; long_dead = omega (arith, deads.size) },
)
