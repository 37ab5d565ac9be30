-- Refusal 9, or what is made of scan's answer.
use Rattle.std.proofs.Common.{Err, ap, refl}
use Rattle.program.proofs.Tests.{not-true, not-false}
use Rattle.journal.specs.Scanned.{scanned_of}
use Rattle.journal.specs.declared.Unreadable.{Unreadable}
use Rattle.recovery.proofs.Recovering.{answered, older-read, refused-words, refused-length, refused-damaged, refused-owner, restored, found_within, found-exclude}
use Rattle.recovery.proofs.recover_legal.Goals as goal

pub returns-then-sets-lt512 : goal.returns-then-sets-lt512
returns-then-sets-lt512 c = refused-words _ _ _ _ _ c.requires.0 c.if-sets-lt512.true

pub returns-in-Err-BadLength : goal.returns-in-Err-BadLength
returns-in-Err-BadLength c =
    let s = c.args in
    let read = answered s.page s.owner s.table.now s.journal.now _ _ c.requires.0 c.requires.1 c.if-sets-lt512.false c.byte_at-highest.ensures c.in-Err-BadLength.ensures.scans in
    refused-length read _ _ _ (ap (λ (e : Unreadable). scanned_of (Err e)) c.in-Err-BadLength.field-0-is) refl

pub returns-in-Err-Damaged : goal.returns-in-Err-Damaged
returns-in-Err-Damaged c =
    let s = c.args in
    let read = answered s.page s.owner s.table.now s.journal.now _ _ c.requires.0 c.requires.1 c.if-sets-lt512.false c.byte_at-highest.ensures c.in-Err-Damaged.ensures.scans in
    refused-damaged read _ _ _ (ap (λ (e : Unreadable). scanned_of (Err e)) c.in-Err-Damaged.field-0-is) (older-read _ _ _ _ read.places c.byte_at-highest.ensures c.damaged_as.ensures)

pub returns-then-not-found : goal.returns-then-not-found
returns-then-not-found c =
    let s = c.args in
    let read = answered s.page s.owner s.table.now s.journal.now _ _ c.requires.0 c.requires.1 c.if-sets-lt512.false c.byte_at-highest.ensures c.in-Ok.ensures.scans in
    refused-owner read _ _ _ refl (not-true _ c.if-not-found.true) refl

pub marks_by-marks-requires : goal.marks_by-marks-requires
marks_by-marks-requires c =
    let s = c.args in
    let read = answered s.page s.owner s.table.now s.journal.now _ _ c.requires.0 c.requires.1 c.if-sets-lt512.false c.byte_at-highest.ensures c.in-Ok.ensures.scans in
    found-exclude read refl

pub regs_of-state-requires : goal.regs_of-state-requires
regs_of-state-requires c =
    let s = c.args in
    let read = answered s.page s.owner s.table.now s.journal.now _ _ c.requires.0 c.requires.1 c.if-sets-lt512.false c.byte_at-highest.ensures c.in-Ok.ensures.scans in
    found_within read refl

pub returns : goal.returns
returns c =
    let s = c.args in
    let read = answered s.page s.owner s.table.now s.journal.now _ _ c.requires.0 c.requires.1 c.if-sets-lt512.false c.byte_at-highest.ensures c.in-Ok.ensures.scans in
    restored read _ _ _ refl (not-false _ c.if-not-found.false) c.regs_of-state.ensures c.marks_by-marks.ensures
