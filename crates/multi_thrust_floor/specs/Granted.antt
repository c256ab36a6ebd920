-- What a step of the code gives, from deltas to motors. A private function cites this; the public contracts, in
-- `Floored`, do not. Definitions only.
use Rattle.std.specs.Prelude.{◌≡◌, List, Float}
use Rattle.number.specs.Treat.{limited}
use Rattle.rules.specs.Command.{collective}
use Rattle.rules.specs.ThrustFloor.{one_scale, scaled_motors}

-- the scale and the motors of these deltas
pub record Granted (thrust floor : Float) (ds motors : List Float) (scale : Float) : Type 0 where
  pub scale_is : scale ≡ one_scale (limited floor) (collective thrust floor) ds
  pub is : motors ≡ scaled_motors (limited floor) (collective thrust floor) ds
