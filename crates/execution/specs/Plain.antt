-- The instructions that touch the cells and the place alone: what `plain` answers. No instruction starts at offset 0, which stands for any other.
-- Assumes nothing.
use Rattle.std.specs.Prelude.{ℕ, ◌+◌, ◌<◌, ◌≤◌, ◌≡◌, true, List, pos, length, set}
use Rattle.instruction.specs.Bytes.{byte, length_of, instruction_at_of}
use Rattle.instruction.specs.Table.{table_fits_of}
use Rattle.execution.specs.Effects.{Effect, stops, on, goes, writes, takes, gives, sets, saves, effect_of, cells_in, next_of}

-- the next place and the cells
pub record Moved : Type 0 where
  pub place : ℕ
  pub cells : List ℕ

abbrev pub moved : ℕ → List ℕ → Moved
moved t xs = record { place = t; cells = xs }

abbrev pub plain_by : Effect → ℕ → List ℕ → Moved
plain_by (stops k) n xs = moved 0 xs
plain_by on n xs = moved n xs
plain_by (goes t) n xs = moved t xs
plain_by (writes d v) n xs = moved n (set xs d v)
plain_by (takes d v) n xs = moved 0 xs
plain_by (gives v) n xs = moved 0 xs
plain_by sets n xs = moved 0 xs
plain_by saves n xs = moved 0 xs

-- the instruction at offset o; such an instruction asks for no reading and no count
unfoldable pub plain_of : List ℕ → ℕ → List ℕ → Moved
plain_of p o xs = plain_by (effect_of (instruction_at_of p o) (pos 0) 0 0 (cells_in xs)) (next_of p o) xs

-- what `plain` needs of the program: the instruction at offset o is whole, and its table, if it has one, lies within the 256 cells
pub record Fetches (p : List ℕ) (o : ℕ) : Type 0 where
  pub most : length p ≤ 2048
  pub known : 0 < length_of (byte p o)
  pub whole : o + length_of (byte p o) ≤ length p
  pub table : table_fits_of 256 (instruction_at_of p o) ≡ true
