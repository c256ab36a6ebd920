-- `extremes::smaller` meets its contract: the choice is that of `smaller`. Assumes nothing.
use Rattle.rules.specs.Extremes.{smaller}
use Rattle.extremes.proofs.smaller.Goals as goal

pub returns : goal.returns
unfolding smaller
returns c = simp c.pick.ensures
