-- The eights of bits from `eight` on are made.
use Rattle.marks.specs.Marks.{to_store}
use Rattle.marks.proofs.Making.{Filled}
use Rattle.marks.proofs.stored_word.Given as goal

abbrev pub invariant-loop-eight : goal.invariant-loop-eight
invariant-loop-eight l = Filled (to_store 256 l.marks) l.first l.w l.eight
