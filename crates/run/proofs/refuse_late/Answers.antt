-- `run::refuse_late`: each refusal in its order.
-- Assumes nothing.
use Rattle.std.proofs.Common.{ap, not, sym, ◌∙◌}
use Rattle.run.proofs.Calls.{size, late-words, late-state, late-chip, late-none}
use Rattle.run.proofs.refuse_late.Goals as goal

pub returns-then-words-lt512 : goal.returns-then-words-lt512
returns-then-words-lt512 c = λ l h. late-words _ _ _ c.if-words-lt512.true

pub sound-requires : goal.sound-requires
sound-requires c = let h = c.requires in (h.1, (size h.0).0, (size h.0).1)

pub returns-then-not-sound : goal.returns-then-not-sound
returns-then-not-sound c = λ l h. late-state _ _ _ c.if-words-lt512.false _ (c.sound.ensures l h) (ap not c.if-not-sound.true)

pub returns-then-not-is_length : goal.returns-then-not-is_length
returns-then-not-is_length c = λ l h.
    late-chip _ _ _ c.if-words-lt512.false _ (c.sound.ensures l h) (ap not c.if-not-sound.false) (rw h (sym c.is_length.ensures ∙ c.if-not-is_length.true))

pub returns : goal.returns
returns c = λ l h.
    late-none _ _ _ c.if-words-lt512.false _ (c.sound.ensures l h) (ap not c.if-not-sound.false) (rw h (sym c.is_length.ensures ∙ c.if-not-is_length.false))
