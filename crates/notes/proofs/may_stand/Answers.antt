-- The record whose value stands at the place, and whether its cell is dead.
use Rattle.std.proofs.Common.{None, Some}
use Rattle.journal.proofs.Paging.{chip-length}
use Rattle.notes.proofs.Telling.{bytes_of, cell-found, none_told, cell-exists, checkpoint-starts, place-told}
use Rattle.notes.proofs.may_stand.Goals as goal

pub record_at-requires : goal.record_at-requires
record_at-requires c = let l = chip-length _ _ c.requires.1.size in ((bytes_of c.requires.1).2, l.most, l.some, l.few)

pub overflow_sub-place : goal.overflow_sub-place
overflow_sub-place c =
    let found = cell-found c.requires.1 c.args.at (Some c.in-Some.cell) c.kind_of.ensures c.in-Some.ensures in
    (checkpoint-starts c.requires.1 found c.requires.0).0

pub is_dead-requires : goal.is_dead-requires
is_dead-requires c =
    let found = cell-found c.requires.1 c.args.at (Some c.in-Some.cell) c.kind_of.ensures c.in-Some.ensures in
    (c.requires.0, (checkpoint-starts c.requires.1 found c.requires.0).1, cell-exists c.requires.1 found)

pub returns-in-Some : goal.returns-in-Some
returns-in-Some c =
    let found = cell-found c.requires.1 c.args.at (Some c.in-Some.cell) c.kind_of.ensures c.in-Some.ensures in
    place-told c.requires.1 found c.is_dead.result c.is_dead.ensures

pub returns-in-None : goal.returns-in-None
returns-in-None c = none_told c.requires.1 (cell-found c.requires.1 c.args.at None c.kind_of.ensures c.in-None.ensures)
