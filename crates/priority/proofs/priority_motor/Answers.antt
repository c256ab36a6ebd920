-- `priority::priority_motor` meets its contract: the floor clamp is that of `priority_motor`. Assumes nothing.
use Rattle.rules.specs.Priority.{priority_motor}
use Rattle.priority.proofs.priority_motor.Goals as goal

pub returns : goal.returns
unfolding priority_motor
returns c = simp c.clamp_floor.ensures
