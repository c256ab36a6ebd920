-- `sheet_run::judge` meets its contract: a refused sheet stays refused, and of an accepted one the output's length
-- decides. Assumes nothing.
use mathlib.Core.Path.{sym}
use Rattle.std.proofs.lemmas.Result.{err_from_is_err_and}
use Rattle.sheet.proofs.Verdicts.{accepted_number}
use Rattle.sheet_run.proofs.Judged.{refused_before, output_short, output_fits}
use Rattle.sheet_run.proofs.judge.Goals as goal

pub returns-in_err-check : goal.returns-in_err-check
returns-in_err-check c =
    let p = err_from_is_err_and c.from_residual.result c.from_residual.ensures.1 in
    rw (p.1, p.2) (refused_before _ _ _ _ c.in_err-check.ensures)

pub returns-then-room-count : goal.returns-then-room-count
returns-then-room-count c =
    rw c.into.ensures (sym (output_short _ _ (accepted_number c.check.ensures c.in_ok-check.was)
    (rw c.count.ensures at c.if-room-count.true)))

pub returns : goal.returns
returns c =
    sym (output_fits _ _ (accepted_number c.check.ensures c.in_ok-check.was)
    (rw c.count.ensures at c.if-room-count.false))
