-- `rotors::rows::row_at` meets its contract: within the run's rows the four numbers that stand there, and past them a
-- row of +0. Assumes nothing.
use mathlib.Core.Path.{sym}
use native.Mathlib.Omega.{arith}
use Rattle.rules.proofs.Runs.{row_at_lem, row_past}
use Rattle.rotors.proofs.rows.row_at.Goals as goal

pub returns-then-i-run : goal.returns-then-i-run
returns-then-i-run c =
    let args = c.args in
    sym (row_at_lem args.run.now args.i (omega arith))

pub returns : goal.returns
returns c = sym (row_past c.args.run.now c.args.i (omega arith))
