-- `rotor_out::tilt_motor` meets its contract: the floor clamp is that of `tilt_motor`. Assumes nothing.
use Rattle.rules.specs.RotorOut.{tilt_motor}
use Rattle.rotor_out.proofs.tilt_motor.Goals as goal

pub returns : goal.returns
unfolding tilt_motor
returns c = simp (c.clamp_floor.ensures, c.sanitise.ensures)
