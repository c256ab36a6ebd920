-- `airmode::shift` meets its contract: the choices are those of `shift`, the inner one made first. Assumes nothing.
use Rattle.rules.specs.Airmode.{shift}
use Rattle.airmode.proofs.shift.Goals as goal

pub returns : goal.returns
unfolding shift
returns c = simp (c.pick-2.ensures, c.pick.ensures)
