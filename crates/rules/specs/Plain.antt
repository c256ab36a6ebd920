-- The plain mix (document 01, 'The five quad mixes', 1), over any frame. Definitions only; the quotations are document
-- 01's.
use Rattle.std.specs.Prelude.{cond, List, map, Float}
use Rattle.std.specs.Float.Ieee.{lt}
use Rattle.binary32.specs.Arithmetic.{◌+f◌, ◌-f◌, ◌*f◌, 0f, 1f}
use Rattle.number.specs.Treat.{treated, floor_clamp}
use Rattle.rules.specs.Rows.{Row, thrust_of, roll_of, pitch_of, yaw_of}
use Rattle.rules.specs.Command.{roll, pitch, yaw}
use Rattle.rules.specs.Extremes.{largest}

-- "raw sum of four products in row order"
unfoldable pub raw_sum : Float → Float → Float → Float → Row → Float
raw_sum t r p y row = thrust_of row *f t +f roll_of row *f r +f pitch_of row *f p +f yaw_of row *f y

-- of treated thrust and torque ('Treating the numbers'; 000, 139-142)
unfoldable pub raw_sums : List Row → List Float → Float → List Float
raw_sums rows torque thrust = map (raw_sum (treated thrust) (roll torque) (pitch torque) (yaw torque)) rows

-- "If the largest is over 1, largest - 1 is taken from all": one number, given the largest. It is what 'Any airframe'
-- calls "the plain shift".
unfoldable pub lowered_by : Float → Float → Float
lowered_by most x = cond (lt 1f most) (x -f (most -f 1f)) x

unfoldable pub lowered : List Float → List Float
lowered xs = map (lowered_by (largest xs)) xs

-- "Then negative or non-finite gives 0, over 1 gives 1": a floor clamp at +0
unfoldable pub lower_limited : List Float → List Float
lower_limited xs = map (λ x. floor_clamp x 0f) (lowered xs)

unfoldable pub plain_motors : List Row → List Float → Float → List Float
plain_motors rows torque thrust = lower_limited (raw_sums rows torque thrust)
