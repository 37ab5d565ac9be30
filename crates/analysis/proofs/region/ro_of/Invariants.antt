-- The cells that no instruction passed may write.
use Rattle.cellset.specs.Sets.{SetIs}
use Rattle.analysis.specs.Search.{kept_all}
use Rattle.analysis.proofs.region.ro_of.Given as goal

abbrev pub invariant-loop-k : goal.invariant-loop-k
invariant-loop-k l = SetIs l.ro.words (kept_all l.p l.at l.list l.k-index)
