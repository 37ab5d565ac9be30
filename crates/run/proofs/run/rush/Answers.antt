-- `run::run::rush`: the inner loop leaves the same run, from further on.
-- Assumes nothing.
use Rattle.std.proofs.Common.{arith, length}
use Rattle.run.proofs.Running.{Lends, rest_is, rest-length, rush-is}
use Rattle.run.proofs.run.rush.Goals as goal

pub returns : goal.returns
returns c =
    let a = c.args in
    let ρ = a.readings.now in
    let lends : Lends a.b (length ρ) (length a.outputs.now) c.most-takes.result c.most-gives.result =
    record {
      stop = c.if-r-ne0.false;
      erase = c.if-r-ne0-2.false;
      saving = c.if-r-ne0-3.false;
      takes_lent = omega (arith, c.most-takes.ensures.0, rest-length a.b.taken ρ);
      takes_fit = c.most-takes.ensures.1;
      gives_lent = c.most-gives.ensures.0;
      gives_fit = c.most-gives.ensures.1;
    } in
    rw c.moved.ensures (rush-is _ ρ _ _ _ _ c.requires.2 _ _ lends _ (rest_is _ ρ) _ _ _ c.quiet-f.ensures)
