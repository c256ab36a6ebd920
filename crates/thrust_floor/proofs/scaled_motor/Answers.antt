-- `thrust_floor::scaled_motor` meets its contract: the floor clamp is that of `scaled_motor`. Assumes nothing.
use Rattle.rules.specs.ThrustFloor.{scaled_motor}
use Rattle.thrust_floor.proofs.scaled_motor.Goals as goal

pub returns : goal.returns
unfolding scaled_motor
returns c = simp c.clamp_floor.ensures
