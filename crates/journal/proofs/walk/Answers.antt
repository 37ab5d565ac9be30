-- `journal::walk`: what stands at `at` takes the loop a checkpoint further, or ends it with an answer (`Walking`).
-- Assumes nothing.
use Rattle.std.proofs.Common.{ℕ, ◌+◌, ◌-◌, ◌*◌, Bool, ◌&&◌, length, nat_eq, sym, refl, ap, subst, ◌∙◌, arith}
use Rattle.journal.specs.Format.{kind_number}
use Rattle.journal.specs.Parts.{Erased}
use Rattle.journal.proofs.Meeting.{decides-yes, decides-no}
use Rattle.journal.proofs.Walking.{blank, walking-first, walking-most, walking-turn, walking-cut, walking-bad, walking-fill, walking-filling, walking-done}
use Rattle.journal.proofs.walk.Goals as goal

pub loop-at-init : goal.loop-at-init
loop-at-init c = walking-first c.requires.2 (blank 256 refl) (blank 256 refl)

-- where a whole checkpoint was told, its end is within the chip
pub commit_at-last-requires : goal.commit_at-last-requires
commit_at-last-requires c =
    let m = walking-most c.loop-at.invariant c.records_end-i.ensures (c.tail_at.ensures _ _) c.in-Whole.is in
    (omega (arith, m), c.requires.0)

pub returns-then-not-is_erased : goal.returns-then-not-is_erased
returns-then-not-is_erased c =
    let w = c.loop-at.invariant in
    let p = c.records_end-i in (
      walking-filling w p.ensures (c.tail_at.ensures _ _) c.in-Whole.is c.loop-at-test.true
          (rw c.mark_size.ensures (ap (λ (k : ℕ). p.result + (14 + 4 * kind_number c.args.kind) + k) ((rw c.mark_size.ensures at c.fill.ensures.0) ∙ walking-fill w p.ensures c.requires.2)))
          (subst (λ (e : ℕ). ¬ Erased c.args.l.now (p.result + e) (p.result + c.mark_size.result + c.fill.result)) c.mark_size.ensures
          (decides-no c.is_erased.result c.if-not-is_erased.true c.is_erased.ensures)),
      blank 256 refl,
    )

pub loop-at-preserved-then-own : goal.loop-at-preserved-then-own
loop-at-preserved-then-own c =
    let w = c.loop-at.invariant in
    let p = c.records_end-i in
    walking-turn w p.ensures (c.tail_at.ensures _ _) c.in-Whole.is c.requires.1 c.loop-at-test.true c.requires.2
    (rw c.mark_size.ensures (ap (λ (k : ℕ). p.result + (14 + 4 * kind_number c.args.kind) + k) ((rw c.mark_size.ensures at c.fill.ensures.0) ∙ walking-fill w p.ensures c.requires.2)))
    (subst (λ (e : ℕ). Erased c.args.l.now (p.result + e) (p.result + c.mark_size.result + c.fill.result)) c.mark_size.ensures
    (decides-yes c.is_erased.result c.if-not-is_erased.false c.is_erased.ensures)) c.restore.ensures c.commit_at-last.ensures
    (sym (ap (λ (b : Bool). b && nat_eq c.commit_at-last.result.owner c.args.owner) c.if-own.true))

pub loop-at-preserved : goal.loop-at-preserved
loop-at-preserved c =
    let w = c.loop-at.invariant in
    let p = c.records_end-i in
    walking-turn w p.ensures (c.tail_at.ensures _ _) c.in-Whole.is c.requires.1 c.loop-at-test.true c.requires.2
    (rw c.mark_size.ensures (ap (λ (k : ℕ). p.result + (14 + 4 * kind_number c.args.kind) + k) ((rw c.mark_size.ensures at c.fill.ensures.0) ∙ walking-fill w p.ensures c.requires.2)))
    (subst (λ (e : ℕ). Erased c.args.l.now (p.result + e) (p.result + c.mark_size.result + c.fill.result)) c.mark_size.ensures
    (decides-yes c.is_erased.result c.if-not-is_erased.false c.is_erased.ensures)) c.restore.ensures c.commit_at-last.ensures
    (c.if-own.false ∙ sym (ap (λ (b : Bool). b && nat_eq c.commit_at-last.result.owner c.args.owner) c.if-own.false))

pub returns-in-Cut : goal.returns-in-Cut
returns-in-Cut c =
    walking-cut c.loop-at.invariant c.records_end-i.ensures (c.tail_at.ensures c.args.page c.args.owner) c.in-Cut.is
    (ap (λ (k : ℕ). length c.args.l.now - c.loop-at.at + k) c.fill-in-Cut.ensures.0)

pub returns-in-Bad : goal.returns-in-Bad
returns-in-Bad c =
    (walking-bad c.loop-at.invariant c.records_end-i.ensures (c.tail_at.ensures _ _) c.in-Bad.is c.loop-at-test.true, blank 256 refl)

pub returns : goal.returns
returns c = walking-done c.loop-at.invariant c.loop-at-test.false
