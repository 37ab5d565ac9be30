-- The turns of the walk: an offset before o lies in the program, and the instruction there is whole.
use Rattle.std.proofs.Common.{◌<◌, arith, length, sym}
use Rattle.program.proofs.Accepted.{accepted, start-within}
use Rattle.program.proofs.Left.{left-first, left_here, left-turn}
use Rattle.program.proofs.Walks.{whole_by, sound-next}
use Rattle.notes.proofs.Numbering.{numbering-first, numbering-turn, numbering-done}
use Rattle.notes.proofs.number_of.Goals as goal

pub loop-here-init : goal.loop-here-init
loop-here-init c = left-first _ (numbering-first _ _ (accepted _ (sym c.requires.0.accepted)).sound c.requires.1)

pub bounds-program-here : goal.bounds-program-here
bounds-program-here c = omega (arith, start-within _ (accepted _ (sym c.requires.0.accepted)) _ c.requires.1)

pub overflow_add-here : goal.overflow_add-here
overflow_add-here c =
    let within : c.loop-here.here < length c.args.program.now = omega (arith, start-within _ (accepted _ (sym c.requires.0.accepted)) _ c.requires.1) in
    omega (arith, left_here _ c.loop-here.invariant within (λ f q. whole_by _ _ c.length_in-here.ensures (sound-next _ _ _ q.sound).0))

pub overflow_add-number : goal.overflow_add-number
overflow_add-number c =
    let legal = accepted _ (sym c.requires.0.accepted) in
    let within : c.loop-here.here < length c.args.program.now = omega (arith, start-within _ legal _ c.requires.1) in
    left_here _ c.loop-here.invariant within (λ f q. omega (arith, q.count, legal.few))

pub loop-here-smaller : goal.loop-here-smaller
loop-here-smaller c =
    let within : c.loop-here.here < length c.args.program.now = omega (arith, start-within _ (accepted _ (sym c.requires.0.accepted)) _ c.requires.1) in
    omega (arith, left_here _ c.loop-here.invariant within (λ f q. whole_by _ _ c.length_in-here.ensures (sound-next _ _ _ q.sound).0))

pub loop-here-preserved : goal.loop-here-preserved
loop-here-preserved c =
    let within : c.loop-here.here < length c.args.program.now = omega (arith, start-within _ (accepted _ (sym c.requires.0.accepted)) _ c.requires.1) in
    let whole = left_here _ c.loop-here.invariant within (λ f q. whole_by _ _ c.length_in-here.ensures (sound-next _ _ _ q.sound).0) in
    left-turn _ c.loop-here.invariant within c.length_in-here.ensures whole.0 (λ f q. numbering-turn q c.loop-here-test.true)

pub returns : goal.returns
returns c = numbering-done _ _ c.loop-here.invariant.holds c.loop-here-test.false
