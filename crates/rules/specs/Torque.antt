-- What motors give by the rows: their torque (document 01, 'Any airframe': `motors_to_torque_signs`, "which returns
-- sums and not signs"), and their thrust and torque (`achieved_wrench`). Definitions only.
use Rattle.std.specs.Prelude.{List, [], ◌∷◌, map, Float}
use Rattle.binary32.specs.Arithmetic.{◌+f◌, ◌*f◌, 0f}
use Rattle.number.specs.Treat.{treated}
use Rattle.rules.specs.Rows.{Row, thrust_of, roll_of, pitch_of, yaw_of}

-- one column's products with the motors, added to s in order
unfoldable pub summed : (Row → Float) → Float → List Row → List Float → Float
summed column s [] ms = s
summed column s (row ∷ rows) [] = s
summed column s (row ∷ rows) (m ∷ ms) = summed column (s +f column row *f m) rows ms

-- roll, pitch and yaw, each sum from +0 on, as the Rust begins it (000, 606-614, 753 on), which settles the sign of a
-- zero
unfoldable pub torque_of : List Row → List Float → List Float
torque_of rows motors = summed roll_of 0f rows motors ∷ summed pitch_of 0f rows motors ∷ summed yaw_of 0f rows motors
    ∷ []

-- thrust, roll, pitch and yaw of treated motors: "`achieved_wrench` treats motors but not the matrix, so it can yield
-- NaN"
unfoldable pub achieved : List Row → List Float → List Float
achieved rows motors = summed thrust_of 0f rows (map treated motors) ∷ torque_of rows (map treated motors)
