-- Lists of zeros by their entries.
-- Assumes nothing.
use Prim.Native.Nat.{ℕ, zero, suc}
use mathlib.Core.Path.{◌≡◌, refl}
use lib.ListN.{length, get_or, replicate, length-replicate}
use Rattle.recovery.specs.Recover.{included}

-- zeros are 0 everywhere
pub zeros-at : (n c : ℕ) → get_or {A = ℕ} (replicate n 0) c 0 ≡ 0
zeros-at zero c = refl
zeros-at (suc n) zero = refl
zeros-at (suc n) (suc c) = zeros-at n c

-- all marks are Include before the sets are read
pub included-zero : (c : ℕ) → get_or included c 0 ≡ 0
unfolding included
included-zero c = zeros-at 256 c

-- and there are 256
pub included-length : length included ≡ 256
unfolding included
included-length = length-replicate {A = ℕ} 256 0
