-- The chain's result is the least byte, and FF.
use Rattle.std.proofs.Common.{rules, arith, ◌≡◌, ℕ, ◌<◌, min, fold, get_or}
use Rattle.folding.proofs.Storing.{least-blank}
use Rattle.folding.proofs.is_blank.Goals as goal

pub returns : goal.returns
returns c =
    let least : c.fold.result ≡ fold min 0xFF c.args.l.now = search rules in
    let bytes : (j : ℕ) → get_or c.args.l.now j 0 < 256 = λ j. omega (arith, c.type_inv.l j) in
    least-blank c.args.l.now c.fold.result bytes least
