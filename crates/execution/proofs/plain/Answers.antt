-- Each arm leaves what its row of the command table says.
use Rattle.std.proofs.Common.{◌∙◌, arith}
use Rattle.execution.proofs.Arms.{room, get-table, put-table, set-arm, copy-arm, add-arm, sub-arm, div-arm, jump-arm, less-arm, get-arm, put-arm}
use Rattle.execution.proofs.Arms.{other_arm}
use Rattle.execution.proofs.plain.Goals as goal

pub set_cell-requires : goal.set_cell-requires
set_cell-requires c = room 2 c.requires c.in-2.is

pub copy-requires : goal.copy-requires
copy-requires c = room 3 c.requires c.in-3.is

pub add-requires : goal.add-requires
add-requires c = room 4 c.requires c.in-4.is

pub sub-requires : goal.sub-requires
sub-requires c = room 5 c.requires c.in-5.is

pub div-requires : goal.div-requires
div-requires c = room 6 c.requires c.in-6.is

pub load16-requires : goal.load16-requires
load16-requires c = let r = room 9 c.requires c.in-9.is in omega arith

pub less-requires : goal.less-requires
less-requires c = room 10 c.requires c.in-10.is

pub get-requires : goal.get-requires
get-requires c = let r = room 11 c.requires c.in-11.is in (r.0, r.1, get-table c.requires c.in-11.is)

pub put-requires : goal.put-requires
put-requires c = let r = room 12 c.requires c.in-12.is in (r.0, r.1, put-table c.requires c.in-12.is)

pub returns-in-2 : goal.returns-in-2
returns-in-2 c = c.set_cell.ensures ∙ set-arm _ _ _ c.in-2.is

pub returns-in-3 : goal.returns-in-3
returns-in-3 c = c.copy.ensures ∙ copy-arm _ _ _ c.in-3.is

pub returns-in-4 : goal.returns-in-4
returns-in-4 c = c.add.ensures ∙ add-arm _ _ _ c.in-4.is

pub returns-in-5 : goal.returns-in-5
returns-in-5 c = c.sub.ensures ∙ sub-arm _ _ _ c.in-5.is

pub returns-in-6 : goal.returns-in-6
returns-in-6 c = c.div.ensures ∙ div-arm _ _ _ c.in-6.is

pub returns-in-9 : goal.returns-in-9
returns-in-9 c = jump-arm _ _ _ c.in-9.is c.load16.ensures

pub returns-in-10 : goal.returns-in-10
returns-in-10 c = less-arm _ _ _ c.in-10.is c.less.ensures

pub returns-in-11 : goal.returns-in-11
returns-in-11 c = c.get.ensures ∙ get-arm _ _ _ c.in-11.is

pub returns-in-12 : goal.returns-in-12
returns-in-12 c = c.put.ensures ∙ put-arm _ _ _ c.in-12.is

pub returns-in_default : goal.returns-in_default
returns-in_default c =
    other_arm _ _ _ (λ e. omega arith) (λ e. omega arith) (λ e. omega arith) (λ e. omega arith) (λ e. omega arith) (λ e. omega arith)
    (λ e. omega arith) (λ e. omega arith) (λ e. omega arith)
