-- `plain::motors` meets its contract: the raw sums, lowered and limited. Assumes nothing.
use Rattle.rules.specs.Plain.{plain_motors}
use Rattle.plain.proofs.motors.Goals as goal

pub returns : goal.returns
unfolding plain_motors
returns c = simp (c.lower_and_limit.ensures, c.raw_sums-m.ensures)
