-- `multi::mixed` meets its contract: the motors of the rows, which lie in 0..1. Assumes nothing.
use Rattle.multi.proofs.Answers.{allocated}
use Rattle.multi.proofs.mixed.Goals as goal

pub returns : goal.returns
returns g c = allocated c.allocate.ensures
