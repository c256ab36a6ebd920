-- `sheet_run::call` meets its contract: each arm is the call of its mix, whose contract says the same. Assumes nothing.
use Rattle.sheet_run.specs.Run.{Gives}
use Rattle.sheet_run.proofs.call.Goals as goal

pub returns-in-Plain : goal.returns-in-Plain
unfolding Gives
returns-in-Plain c = rw c.in-Plain.is c.mix.ensures

pub returns-in-ThrustFloor : goal.returns-in-ThrustFloor
unfolding Gives
returns-in-ThrustFloor c = rw c.in-ThrustFloor.is c.mix_thrust_floor.ensures

pub returns-in-Priority : goal.returns-in-Priority
unfolding Gives
returns-in-Priority c = rw c.in-Priority.is c.mix_priority.ensures

pub returns-in-Airmode : goal.returns-in-Airmode
unfolding Gives
returns-in-Airmode c = rw c.in-Airmode.is c.mix_airmode.ensures

pub returns-in-RotorOut : goal.returns-in-RotorOut
unfolding Gives
returns-in-RotorOut c = rw c.in-RotorOut.is c.mix_rotor_out.ensures
