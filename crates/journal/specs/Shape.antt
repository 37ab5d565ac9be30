-- What the engine leaves on a journal: whole checkpoints, then nothing or a part of one, then FF. Such bytes read back as exactly those checkpoints
-- (`shape-found` of proofs/Fixed.antt).
-- Assumes nothing.
use Rattle.std.specs.Prelude.{◌≡◌, ℕ, ◌<◌, ◌⊎◌, List, [], ◌++◌, length, replicate}
use Rattle.journal.specs.declared.Commit.{Commit}
use Rattle.journal.specs.Format.{Checkpoint, image, images}
use Rattle.journal.specs.Reading.{Facts, first, Sound, Rising, last_of}

-- q is cut short of the image of a checkpoint that is sound after b
pub record Part (F : Facts) (b : Commit) (q : List ℕ) : Type 0 where
  pub save : Checkpoint
  pub sound : Sound F b save
  pub more : List ℕ
  pub bytes : image F.format save ≡ q ++ more
  pub short : 0 < length more

-- what a stopped engine leaves behind the whole checkpoints: nothing, or a part of one
abbrev pub Cut : Facts → Commit → List ℕ → Type 0
Cut F b q = (q ≡ []) ⊎ Part F b q

-- whole checkpoints, nothing or a part of one, and FF bytes
pub record Shape (F : Facts) (chip : List ℕ) (js : List Checkpoint) (q : List ℕ) : Type 0 where
  pub free : ℕ
  pub rising : Rising F first js
  pub cut : Cut F (last_of first js) q
  pub bytes : chip ≡ images F.format js ++ q ++ replicate free 0xFF
