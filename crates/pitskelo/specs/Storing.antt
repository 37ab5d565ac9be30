-- What the functions that store words into buffers of bytes promise.
-- Assumes nothing.
use Rattle.std.specs.Prelude.{ℕ, ◌*◌, ◌/◌, ◌≤◌, ◌<◌, ◌≡◌, ◌⊎◌, List, length, get_or}
use Rattle.word.specs.Bytes.{load_of}

-- the first n words stand in b, which was b₀ before, and the bytes behind them are as before
pub record Stored (b₀ words : List ℕ) (n : ℕ) (b : List ℕ) : Type 0 where
  pub size : length b ≡ length b₀
  pub there : (k : ℕ) → k < n → load_of 8 b (8 * k) ≡ get_or words k 0
  pub rest : (j : ℕ) → 8 * n ≤ j → get_or b j 0 ≡ get_or b₀ j 0

-- both buffers are long enough and have the words, or they are as before and the result is 9
pub data BothStored (d₀ s₀ words : List ℕ) (m : ℕ) (words' : List ℕ) (n : ℕ) (d s : List ℕ) (result : ℕ) : Type 0 where
  short : (length d₀ / 8 < 2048) ⊎ (length s₀ / 8 < 512) → result ≡ 9 → d ≡ d₀ → s ≡ s₀ → BothStored d₀ s₀ words m words' n d s result
  long : 2048 ≤ length d₀ / 8 → 512 ≤ length s₀ / 8 → result ≡ 0 → Stored d₀ words m d → Stored s₀ words' n s
      → BothStored d₀ s₀ words m words' n d s result
