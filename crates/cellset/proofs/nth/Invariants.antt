-- The cell sought is the one with `left` cells below it among those of the words from this one on.
use Rattle.cellset.proofs.Ranks.{Wanted}
use Rattle.cellset.proofs.nth.Given as goal

abbrev pub invariant-loop-i : goal.invariant-loop-i
invariant-loop-i l = Wanted l.fn.a.words l.fn.k l.i l.left
