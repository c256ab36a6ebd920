-- `sheet::check_entry` meets its contract: an entry that is refused by its kind or its rotor byte stays so, and of a
-- command the offset decides. Assumes nothing.
use mathlib.Core.Path.{◌∙◌, sym}
use Rattle.sheet.proofs.Entry.{refused_before, offset_refused, in_place}
use Rattle.sheet.proofs.check_entry.Goals as goal

pub returns-in-Err : goal.returns-in-Err
returns-in-Err c = sym (refused_before _ _ _ (rw (c.kind.ensures, c.rotor.ensures) at c.in-Err.ensures))

pub returns-in-Ok : goal.returns-in-Ok
returns-in-Ok c =
    sym (offset_refused _ _ _ (rw (c.kind.ensures, c.rotor.ensures) at c.in-Ok.ensures)
    (λ e. c.if-offset-end.true (c.offset.ensures ∙ e)))

pub returns-in-Ok-2 : goal.returns-in-Ok-2
returns-in-Ok-2 c =
    sym (in_place _ _ _ (rw (c.kind.ensures, c.rotor.ensures) at c.in-Ok.ensures)
    (sym c.offset.ensures ∙ c.if-offset-end.false))
