-- `multi::mix` meets its contract: refused, the outputs are as they were; else they are the motors of the run's rows,
-- which lie in 0..1. Assumes nothing.
use mathlib.Core.Path.{◌∙◌, sym, ap}
use lib.ListN.{length}
use Rattle.rules.proofs.Rows.{four_each}
use Rattle.rules.proofs.Runs.{rows_count}
use Rattle.multi.specs.Wrench.{motors_of}
use Rattle.multi.proofs.Answers.{answer_mixed}
use Rattle.multi.proofs.mix.Goals as goal

pub allocate-requires : goal.allocate-requires
allocate-requires c =
    let run = c.args.rows.now in
    rw c.in_ok-rows_for.ensures.rows
    (rows_count (length c.args.out.now) run (four_each (length run) _ (sym c.in_ok-rows_for.ensures.refused)))

pub returns : goal.returns
returns c =
    answer_mixed (sym c.in_ok-rows_for.ensures.refused)
    (c.allocate.ensures ∙ ap (motors_of c.args.w) c.in_ok-rows_for.ensures.rows)
