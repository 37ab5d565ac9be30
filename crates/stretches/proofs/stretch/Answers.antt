-- What is loaded are the readings behind those taken, and what is stored are the outputs that the call wrote.
-- Assumes nothing.
use Rattle.std.proofs.lemmas.Result.{err_from_is_err_and}
use Rattle.stretches.proofs.Running.{store-fits, stretch-is, none-stored}
use Rattle.stretches.proofs.stretch.Goals as goal

pub store_signed-requires : goal.store_signed-requires
store_signed-requires c =
    store-fits c.args.outputs.now c.args.b.written c.at_most-m.ensures.0 _ c.at_most-m.ensures.1 _ _ _ c.in_ok-ran.ensures.is
    c.run_in_place.auto.outputs c.requires.6.written

pub returns : goal.returns
returns c =
    stretch-is c.args.outputs.now c.args.b.written c.at_most-m.ensures.0 _ c.at_most-m.ensures.1 _ _ _ c.in_ok-ran.ensures.is
    c.run_in_place.auto.outputs _ c.args.b.taken c.at_most-n.ensures.0 c.requires.6.taken c.load_signed.ensures c.store_signed.ensures

pub returns-in_err-ran : goal.returns-in_err-ran
returns-in_err-ran c =
    let p = err_from_is_err_and c.from_residual.result c.from_residual.ensures.1 in
    rw (p.1, p.2)
    (stretch-is c.args.outputs.now c.args.b.written c.at_most-m.ensures.0 _ c.at_most-m.ensures.1 _ _ _ c.in_err-ran.ensures.is
    c.run_in_place.auto.outputs _ c.args.b.taken c.at_most-n.ensures.0 c.requires.6.taken c.load_signed.ensures (none-stored _ _))
