-- `multi_thrust_floor::mix` meets its contract: refused, the outputs are as they were; else they are the motors of the
-- run's rows, at their scale. Assumes nothing.
use mathlib.Core.Path.{sym}
use native.Mathlib.Omega.{arith}
use lib.ListN.{length}
use Rattle.rules.proofs.Rows.{four_each, within_most}
use Rattle.rules.proofs.Runs.{rows_count}
use Rattle.multi_thrust_floor.proofs.Answers.{floored_by_steps, answer_mixed}
use Rattle.multi_thrust_floor.proofs.mix.Goals as goal

pub ask-requires : goal.ask-requires
ask-requires c =
    let run = c.args.rows.now in
    rw c.in_ok-rows_for.ensures.rows
    (rows_count (length c.args.out.now) run (four_each (length run) _ (sym c.in_ok-rows_for.ensures.refused)))

pub grant-requires : goal.grant-requires
grant-requires c =
    omega (arith, within_most (length c.args.rows.now) (length c.args.out.now) (sym c.in_ok-rows_for.ensures.refused))

pub returns : goal.returns
returns c =
    let good = c.well_formed in
    answer_mixed (sym c.in_ok-rows_for.ensures.refused)
    (floored_by_steps good.1.0.1.1.0.1 good.1.1.0.1 (rw c.in_ok-rows_for.ensures.rows at c.ask.ensures)
    c.grant.ensures)
