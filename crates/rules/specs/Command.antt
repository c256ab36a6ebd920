-- What the mixes make of a command before any of them fits it to the motors: the treated torques, the collective, and
-- what a torque asks of each rotor (document 01, 'The five quad mixes'). A torque is the list of roll, pitch and yaw.
-- Definitions only; the quotations are document 01's.
use Rattle.std.specs.Prelude.{cond, List, map, get_or, Float}
use Rattle.std.specs.Float.{nan}
use Rattle.std.specs.Float.Ieee.{lt}
use Rattle.binary32.specs.Arithmetic.{◌+f◌, ◌*f◌}
use Rattle.number.specs.Treat.{treated, limited}
use Rattle.rules.specs.Rows.{Row, roll_of, pitch_of, yaw_of}

-- the three torques, treated
abbrev pub roll : List Float → Float
roll torque = treated (get_or torque 0 nan)

abbrev pub pitch : List Float → Float
pitch torque = treated (get_or torque 1 nan)

abbrev pub yaw : List Float → Float
yaw torque = treated (get_or torque 2 nan)

-- "limited t and floor; base, the collective here and in 3, is floor where t < floor, else t"
unfoldable pub lifted : Float → Float → Float
lifted t floor = cond (lt t floor) floor t

abbrev pub collective : Float → Float → Float
collective thrust floor = lifted (limited thrust) (limited floor)

-- "Delta: roll, pitch, yaw products summed, treated": what the torques r, p and y ask of the rotor of one row, and of
-- each
unfoldable pub delta : Float → Float → Float → Row → Float
delta r p y row = treated (roll_of row *f r +f pitch_of row *f p +f yaw_of row *f y)

unfoldable pub deltas : List Row → List Float → List Float
deltas rows torque = map (delta (roll torque) (pitch torque) (yaw torque)) rows
