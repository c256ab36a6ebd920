-- `sheet_run::run` meets its contract: refused, nothing is touched; accepted, its commands are run. Assumes nothing.
use mathlib.Core.Path.{refl}
use Rattle.std.proofs.lemmas.Result.{err_from_is_err_and}
use Rattle.sheet.proofs.Verdicts.{accepted_number}
use Rattle.sheet_run.proofs.Judged.{accepted_for}
use Rattle.sheet_run.proofs.ByVerdict.{run_refused}
use Rattle.sheet_run.proofs.run.Goals as goal

pub returns-in_err-judge : goal.returns-in_err-judge
returns-in_err-judge c =
    let p = err_from_is_err_and c.from_residual.result c.from_residual.ensures.1 in
    rw (p.1, p.2) (run_refused c.in_err-judge.ensures refl)

pub run_entries-requires : goal.run_entries-requires
run_entries-requires c = accepted_for _ _ (accepted_number c.judge.ensures c.in_ok-judge.was)
