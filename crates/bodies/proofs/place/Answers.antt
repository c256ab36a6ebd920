-- `bodies::place` meets its contract: of an accepted sheet and one of its entries the body's offset and size, else an
-- empty part. Assumes nothing.
use mathlib.Core.Path.{sym}
use Rattle.entries.proofs.Chosen.{never_accepted}
use Rattle.sheet.proofs.Verdicts.{accepted_number, refused_number}
use Rattle.bodies.proofs.Bodies.{none_of_refused, none_past, body_under, none_placed, body_placed}
use Rattle.bodies.proofs.place.Goals as goal

pub returns-in_default : goal.returns-in_default
returns-in_default c =
    let number = refused_number c.check.ensures c.in_default.is in
    sym (none_placed _ _ (none_of_refused _ _ (rw number (never_accepted c.in_default.field-0.why))))

pub returns-then-i-count : goal.returns-then-i-count
returns-then-i-count c =
    sym (none_placed _ _ (none_past _ _ (accepted_number c.check.ensures c.in-Ok.is)
    (rw c.count.ensures at c.if-i-count.true)))

pub returns : goal.returns
returns c =
    rw (c.body_size.ensures, c.kind.ensures, c.offset.ensures)
    (sym (body_placed _ _
    (body_under _ _ (accepted_number c.check.ensures c.in-Ok.is) (rw c.count.ensures at c.if-i-count.false))))
