-- `extremes::least` meets its contract: the run of `reduce` goes over the numbers of the slice, and what it gives is
-- the best of these. Assumes nothing.
use mathlib.Core.Path.{◌∙◌}
use Rattle.std.proofs.Common.{rules}
use Rattle.rules.specs.Extremes.{smaller}
use Rattle.extremes.proofs.Walk.{reduced_is_best}
use Rattle.extremes.proofs.least.Goals as goal

pub returns : goal.returns
returns c =
    let run = c.reduce.ensures.runs in
    let copied = c.copied.ensures.runs run.0 run.0.seen run.1 in
    let read = c.iter.ensures.runs copied.0 copied.0.seen in
    c.unwrap_or.ensures
    ∙ reduced_is_best smaller _ _ (λ x y r q k. search rules) run.0 c.args.m.now
    (copied.2.2 ∙ read.4 (copied.2.0 ∙ run.2) ∙ rw (copied.1, c.iter.ensures.rest)) _ run.3
