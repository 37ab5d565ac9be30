-- The line of an EXCLUDE is written where it stands.
-- Assumes nothing.
use Rattle.std.proofs.Common.{arith, refl, ◌∙◌}
use Rattle.program.proofs.Left.{left-first, left_here, left-turn, left-done}
use Rattle.listing.proofs.Going.{whole_here, going-first, going_on, going-line, going-room, going-few, going_done}
use Rattle.listing.proofs.put_lines.Goals as goal

pub loop-here-init : goal.loop-here-init
loop-here-init c = (left-first _ (going-first _ _ c.requires.0.sound), refl)

pub put_exclude-requires : goal.put_exclude-requires
put_exclude-requires c =
    left_here _ c.loop-here.invariant.0 c.loop-here-test.true
    (λ f q. (
      c.requires.3,
      omega (arith, c.requires.1, going-few q c.if-opcode-eq-EXCLUDE.true c.requires.2 c.requires.0.few),
      going-room q c.if-opcode-eq-EXCLUDE.true c.requires.2 c.requires.4,
    ))

pub loop-here-smaller-then-opcode-eq-EXCLUDE : goal.loop-here-smaller-then-opcode-eq-EXCLUDE
loop-here-smaller-then-opcode-eq-EXCLUDE c =
    let whole = whole_here c.loop-here.invariant.0 c.loop-here-test.true c.length_in-here.ensures in
    omega (arith, whole)

pub loop-here-smaller : goal.loop-here-smaller
loop-here-smaller c =
    let whole = whole_here c.loop-here.invariant.0 c.loop-here-test.true c.length_in-here.ensures in
    omega (arith, whole)

pub loop-here-preserved-then-opcode-eq-EXCLUDE : goal.loop-here-preserved-then-opcode-eq-EXCLUDE
loop-here-preserved-then-opcode-eq-EXCLUDE c =
    let whole = whole_here c.loop-here.invariant.0 c.loop-here-test.true c.length_in-here.ensures in (
      left-turn _ c.loop-here.invariant.0 c.loop-here-test.true c.length_in-here.ensures whole.0
          (λ f q. going-line q c.if-opcode-eq-EXCLUDE.true c.requires.2 whole.0 c.put_exclude.ensures.wrote),
      c.put_exclude.ensures.same_buffer ∙ c.loop-here.invariant.1,
    )

pub loop-here-preserved : goal.loop-here-preserved
loop-here-preserved c =
    let whole = whole_here c.loop-here.invariant.0 c.loop-here-test.true c.length_in-here.ensures in (
      left-turn _ c.loop-here.invariant.0 c.loop-here-test.true c.length_in-here.ensures whole.0
          (λ f q. going_on q whole.0 c.if-opcode-eq-EXCLUDE.false),
      c.loop-here.invariant.1,
    )

pub returns-clause-wrote : goal.returns-clause-wrote
returns-clause-wrote c = going_done (left-done _ c.loop-here.invariant.0 c.loop-here-test.false)
