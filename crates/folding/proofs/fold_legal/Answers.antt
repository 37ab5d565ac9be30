-- 9, 11, 16, or what is put on the new chip.
use Rattle.std.proofs.Common.{Err, ◌≡◌, ◌≤◌, arith, ap, refl, length, not, true}
use Rattle.journal.specs.Scanned.{scanned_of}
use Rattle.journal.specs.declared.Unreadable.{Unreadable}
use Rattle.journal.specs.Format.{chip_length}
use Rattle.recovery.proofs.Recovering.{answered}
use Rattle.folding.proofs.Putting.{refused-words, refused-new, new-fits, refused-old, damaged-length, folded-older, refused-owner, folded}
use Rattle.folding.proofs.fold_legal.Goals as goal

pub returns-then-sets-lt512 : goal.returns-then-sets-lt512
returns-then-sets-lt512 c =
    let s = c.args in refused-words s.program.now s.sets.now s.old.now s.new.now s.stored s.budget c.requires.0 c.if-sets-lt512.true

pub returns-then-not-is_length : goal.returns-then-not-is_length
returns-then-not-is_length c =
    let s = c.args in
    refused-new s.program.now s.sets.now s.old.now s.new.now s.stored s.budget c.requires.0 c.if-sets-lt512.false c.is_length.result c.is_length.ensures (ap not c.if-not-is_length.true)

pub fold_older-requires : goal.fold_older-requires
fold_older-requires c =
    let s = c.args in
    let words : 512 ≤ length s.sets.now = omega (arith, c.if-sets-lt512.false) in
    let fits : chip_length 1 (length s.new.now) ≡ true = new-fits _ c.is_length.result c.is_length.ensures (ap not c.if-not-is_length.false) in
    let read = answered 1 c.owner_of-owner.result s.table.now s.old.now _ _ c.requires.0 c.requires.1 words c.byte_at-highest.ensures c.in-Err-Damaged.ensures.scans in
    damaged-length read c.owner_of-owner.ensures s.new.now s.stored s.budget fits (ap (λ (e : Unreadable). scanned_of (Err e)) c.in-Err-Damaged.field-0-is)

pub returns-in-Err-BadLength : goal.returns-in-Err-BadLength
returns-in-Err-BadLength c =
    let s = c.args in
    let words : 512 ≤ length s.sets.now = omega (arith, c.if-sets-lt512.false) in
    let fits : chip_length 1 (length s.new.now) ≡ true = new-fits _ c.is_length.result c.is_length.ensures (ap not c.if-not-is_length.false) in
    let read = answered 1 c.owner_of-owner.result s.table.now s.old.now _ _ c.requires.0 c.requires.1 words c.byte_at-highest.ensures c.in-Err-BadLength.ensures.scans in
    refused-old read c.owner_of-owner.ensures s.new.now s.stored s.budget fits (ap (λ (e : Unreadable). scanned_of (Err e)) c.in-Err-BadLength.field-0-is) refl

pub returns-in-Err-Damaged : goal.returns-in-Err-Damaged
returns-in-Err-Damaged c =
    let s = c.args in
    let words : 512 ≤ length s.sets.now = omega (arith, c.if-sets-lt512.false) in
    let fits : chip_length 1 (length s.new.now) ≡ true = new-fits _ c.is_length.result c.is_length.ensures (ap not c.if-not-is_length.false) in
    let read = answered 1 c.owner_of-owner.result s.table.now s.old.now _ _ c.requires.0 c.requires.1 words c.byte_at-highest.ensures c.in-Err-Damaged.ensures.scans in
    folded-older read c.owner_of-owner.ensures s.new.now s.stored s.budget fits (ap (λ (e : Unreadable). scanned_of (Err e)) c.in-Err-Damaged.field-0-is) c.byte_at-highest.ensures c.fold_older.ensures

pub returns-then-not-found : goal.returns-then-not-found
returns-then-not-found c =
    let s = c.args in
    let words : 512 ≤ length s.sets.now = omega (arith, c.if-sets-lt512.false) in
    let fits : chip_length 1 (length s.new.now) ≡ true = new-fits _ c.is_length.result c.is_length.ensures (ap not c.if-not-is_length.false) in
    let read = answered 1 c.owner_of-owner.result s.table.now s.old.now _ _ c.requires.0 c.requires.1 words c.byte_at-highest.ensures c.in-Ok.ensures.scans in
    refused-owner read c.owner_of-owner.ensures s.new.now s.stored s.budget fits refl c.if-not-found.true refl

pub returns : goal.returns
returns c =
    let s = c.args in
    let words : 512 ≤ length s.sets.now = omega (arith, c.if-sets-lt512.false) in
    let fits : chip_length 1 (length s.new.now) ≡ true = new-fits _ c.is_length.result c.is_length.ensures (ap not c.if-not-is_length.false) in
    let read = answered 1 c.owner_of-owner.result s.table.now s.old.now _ _ c.requires.0 c.requires.1 words c.byte_at-highest.ensures c.in-Ok.ensures.scans in
    folded read c.owner_of-owner.ensures s.new.now s.stored s.budget fits refl c.if-not-found.false c.fold_found.ensures
