-- the set of the cells below the loop's place
use Rattle.cellset.specs.Sets.{SetIs}
use Rattle.folding.proofs.Holding.{held_below}
use Rattle.folding.proofs.held.Given as goal

abbrev pub invariant-loop-c : goal.invariant-loop-c
invariant-loop-c l = SetIs l.s.words (held_below l.values l.c)
