-- `airmode::spread` meets its contract: the difference is that of `spread`, treated. Assumes nothing.
use Rattle.rules.specs.Airmode.{spread}
use Rattle.airmode.proofs.spread.Goals as goal

pub returns : goal.returns
unfolding spread
returns c = simp (c.sanitise.ensures, c.least.ensures, c.largest.ensures)
