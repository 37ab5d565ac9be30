-- Liveness over a graph that stands in tables: node i goes on to left i or right i, reads the cells of set i of `reads` and surely writes those of set i of `writes`.
-- A node that goes nowhere stands as one that goes to itself: this adds no path to a reading node.
-- Assumes nothing.
use Rattle.std.specs.Prelude.{ℕ, ◌+◌, ◌-◌, ◌*◌, ◌≤◌, ◌<◌, min, max, ◌≡◌, ◌⊎◌, List, [], ◌∷◌, Bool, true, length, get_or}
use Rattle.cellset.specs.Bits.{member}
use Rattle.liveness.specs.Queue.{flag, Queue, Chains}

-- the nodes are the places of `left`; each goes on to nodes, and to the left where that differs from the right only to the next
pub record Wired (left right : List ℕ) : Type 0 where
  pub few : length left ≤ 512
  pub both : length right ≡ length left
  pub left_node : (i : ℕ) → i < length left → get_or left i 0 < length left
  pub right_node : (i : ℕ) → i < length left → get_or right i 0 < length left
  pub beside : (i : ℕ) → i < length left → (get_or left i 0 ≡ get_or right i 0) ⊎ (get_or left i 0 ≡ i + 1)

-- each table of sets has one for each of n nodes
pub record Rooms (n : ℕ) (reads writes dead : List ℕ) : Type 0 where
  pub for_reads : 4 * n ≤ length reads
  pub for_writes : 4 * n ≤ length writes
  pub for_dead : 4 * n ≤ length dead

-- the sum of the words
abbrev pub total : List ℕ → ℕ
total [] = 0
total (x ∷ xs) = x + total xs

-- the set of node i, which goes on to l and r, met with its equation: a bit of what stood there, less what the equation does not allow. Dead before a
-- node is what is dead after both ways on or surely written, and not read
abbrev pub meet_bit : (reads writes : List ℕ) (i l r : ℕ) (d : List ℕ) → ℕ → ℕ
meet_bit reads writes i l r d c =
    min (member d (4 * i) c) (min (max (min (member d (4 * l) c) (member d (4 * r) c)) (member writes (4 * i) c)) (1 - member reads (4 * i) c))

-- a turn at node i, which goes on to l and r: its set is met with its equation, and the other words remain
pub record Turned (reads writes : List ℕ) (i l r : ℕ) (d d' : List ℕ) : Type 0 where
  pub size : length d' ≡ length d
  pub others : (k : ℕ) → (k < 4 * i) ⊎ (4 * i + 4 ≤ k) → get_or d' k 0 ≡ get_or d k 0
  pub bits : (c : ℕ) → c < 256 → member d' (4 * i) c ≡ meet_bit reads writes i l r d c

-- what the worklist begins with: the chains by the right ways on, and every node waiting
pub record Ready (left right heads links list : List ℕ) (flags : List Bool) (top : ℕ) : Type 0 where
  pub wired : Wired left right
  pub size : length links ≡ length left
  pub size_heads : length left ≤ length heads
  pub chains : Chains right heads links
  pub queue : Queue (length left) list flags top
  pub all : (i : ℕ) → i < length left → flag flags i ≡ true

module _ (left right reads writes : List ℕ) where
  -- cell c is live before node i: some path from i reaches a node that reads c, and no earlier node on it surely writes c
  pub data Live (c : ℕ) : ℕ → Type 0 where
    read : {i : ℕ} → member reads (4 * i) c ≡ 1 → Live c i
    to_left : {i : ℕ} → member writes (4 * i) c ≡ 0 → Live c (get_or left i 0) → Live c i
    to_right : {i : ℕ} → member writes (4 * i) c ≡ 0 → Live c (get_or right i 0) → Live c i

  -- what the worklist makes of d: bits are only cleared; of a cell that every set had, a bit is clear only where the cell is live; and no bit of a
  -- live cell is left
  pub record Drained (d d' : List ℕ) : Type 0 where
    pub size : length d' ≡ length d
    pub falls : (i c : ℕ) → i < length left → c < 256 → member d' (4 * i) c ≡ 1 → member d (4 * i) c ≡ 1
    pub clear : (c : ℕ) → c < 256 → ((i : ℕ) → i < length left → member d (4 * i) c ≡ 1) → (i : ℕ) → i < length left → member d' (4 * i) c ≡ 0 → Live c i
    pub kept : (i c : ℕ) → i < length left → c < 256 → member d' (4 * i) c ≡ 1 → ¬ Live c i
    pub rest : (k : ℕ) → 4 * length left ≤ k → get_or d' k 0 ≡ get_or d k 0

  -- d has for each node the cells below `cells` that are not live before it; the words behind are those of d₀
  pub record Settled (cells : ℕ) (d₀ d : List ℕ) : Type 0 where
    pub clear : (i c : ℕ) → i < length left → c < 256 → c < cells → member d (4 * i) c ≡ 0 → Live c i
    pub kept : (i c : ℕ) → i < length left → c < 256 → member d (4 * i) c ≡ 1 → (c < cells) × ¬ Live c i
    pub rest : (k : ℕ) → 4 * length left ≤ k → get_or d k 0 ≡ get_or d₀ k 0

-- every one of n sets is the cells below `cells`
pub record Full (n cells : ℕ) (d₀ d : List ℕ) : Type 0 where
  pub size : length d ≡ length d₀
  pub bits : (i c : ℕ) → i < n → c < 256 → (c < cells → member d (4 * i) c ≡ 1) × (cells ≤ c → member d (4 * i) c ≡ 0)
  pub rest : (k : ℕ) → 4 * n ≤ k → get_or d k 0 ≡ get_or d₀ k 0
