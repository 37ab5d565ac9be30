-- The bytes of `to_le_bytes`, copied onto the part that begins there, are a store.
use Rattle.std.proofs.Common.{◌∙◌, arith}
use Rattle.word.proofs.Bytes.{store_mid, le-bytes}
use Rattle.word.proofs.store32.Goals as goal

pub returns : goal.returns
returns c = store_mid 4 _ _ _ _ _ (omega arith) (c.copy_from_slice.ensures.after ∙ c.to_le_bytes.ensures ∙ le-bytes 4 _) c.requires
