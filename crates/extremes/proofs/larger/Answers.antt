-- `extremes::larger` meets its contract: the choice is that of `larger`. Assumes nothing.
use Rattle.rules.specs.Extremes.{larger}
use Rattle.extremes.proofs.larger.Goals as goal

pub returns : goal.returns
unfolding larger
returns c = simp c.pick.ensures
