-- `report::text_of` meets its contract: the lines of the answers, or the line of the refusal. Assumes nothing.
use mathlib.Core.Path.{refl}
use Rattle.report.proofs.Printed.{refused_printed, accepted_printed}
use Rattle.report.proofs.text_of.Goals as goal

pub returns-in-Ok : goal.returns-in-Ok
returns-in-Ok c =
    let ran = rw c.new.ensures at c.in-Ok.ensures in
    rw (accepted_printed ran refl refl) c.entry_lines.ensures

pub returns-in-Err : goal.returns-in-Err
returns-in-Err c =
    let ran = rw c.new.ensures at c.in-Err.ensures in
    rw (refused_printed ran refl refl, ← c.into.ensures) c.refused_line.ensures
