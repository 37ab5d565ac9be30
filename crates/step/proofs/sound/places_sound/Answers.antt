-- `step::sound::places_sound`: the table says of both places what the program does.
-- Assumes nothing.
use Rattle.std.proofs.Common.{eq-eqb, ◌∙◌}
use borrow.Author.Tests.{ne_eqb}
use Rattle.program.proofs.PlaceLaws.{some-more}
use Rattle.step.proofs.Soundness.{start-read, exclude-read}
use Rattle.step.proofs.sound.places_sound.Goals as goal

pub returns-then-r-eq0 : goal.returns-then-r-eq0
returns-then-r-eq0 c p h = rw (← start-read p _ h _ c.place_at.ensures, c.if-place_at.true, eq-eqb _ _ c.if-r-eq0.true)

pub returns-else-r-eq0 : goal.returns-else-r-eq0
returns-else-r-eq0 c p h =
    rw (← start-read p _ h _ c.place_at.ensures, c.if-place_at.true, ne_eqb _ _ c.if-r-eq0.false) (c.is_some.ensures ∙ some-more _ ∙ exclude-read p _ h _ c.place_at-else-r-eq0.ensures)

pub returns-else-place_at : goal.returns-else-place_at
returns-else-place_at c p h = rw (← start-read p _ h _ c.place_at.ensures, c.if-place_at.false)
