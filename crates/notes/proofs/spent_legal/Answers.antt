-- Recovery's refusal of the chip, or whether a note may stand at the place.
use Rattle.std.proofs.Common.{Err, ap, refl}
use Rattle.program.proofs.Tests.{not-true, not-false}
use Rattle.journal.specs.Scanned.{scanned_of}
use Rattle.journal.specs.declared.Unreadable.{Unreadable}
use Rattle.notes.proofs.Asking.{answers, by_length, by-damage, by-owner, read-to, by-reading}
use Rattle.notes.proofs.spent_legal.Goals as goal

pub returns-in-Err-BadLength : goal.returns-in-Err-BadLength
returns-in-Err-BadLength c = by_length _ (answers _ _ _ _ _ _ c.requires.0 c.requires.1 c.byte_at-highest.ensures c.in-Err-BadLength.ensures.scans) (ap (λ (e : Unreadable). scanned_of (Err e)) c.in-Err-BadLength.field-0-is) refl

pub returns-in-Err-Damaged : goal.returns-in-Err-Damaged
returns-in-Err-Damaged c = by-damage _ (answers _ _ _ _ _ _ c.requires.0 c.requires.1 c.byte_at-highest.ensures c.in-Err-Damaged.ensures.scans) (ap (λ (e : Unreadable). scanned_of (Err e)) c.in-Err-Damaged.field-0-is) c.byte_at-highest.ensures c.damaged_as.ensures

pub returns-then-not-found : goal.returns-then-not-found
returns-then-not-found c = by-owner _ (answers _ _ _ _ _ _ c.requires.0 c.requires.1 c.byte_at-highest.ensures c.in-Ok.ensures.scans) refl (not-true _ c.if-not-found.true) refl

pub may_stand-requires : goal.may_stand-requires
may_stand-requires c = (c.requires.0, read-to 0 (answers _ _ _ _ _ _ c.requires.0 c.requires.1 c.byte_at-highest.ensures c.in-Ok.ensures.scans) refl)

pub returns : goal.returns
returns c = by-reading _ (answers _ _ _ _ _ _ c.requires.0 c.requires.1 c.byte_at-highest.ensures c.in-Ok.ensures.scans) refl (not-false _ c.if-not-found.false) c.may_stand.result c.may_stand.ensures
