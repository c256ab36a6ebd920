-- The starred bench figures hold, by computing, for every yaw of figure 11. Assumes nothing.
use mathlib.Core.Path.{refl}
use lib.Ieee.{Float, add, sub, mul, div, neg, lt, le, eq, of_bits}
use Rattle.binary32.specs.Arithmetic.{absolute}
use Rattle.number.specs.Treat.{treated, clamped, limited, floor_clamp}
use Rattle.fit.specs.Fit.{limits, motor_limit, tightened, walk, settled, fit_scale}
use Rattle.solve.specs.Solve.{singular, cramer, solution}
use Rattle.rules.specs.Rows.{quad_rows, quad_x_rows}
use Rattle.rules.specs.Command.{lifted, delta, deltas}
use Rattle.rules.specs.Extremes.{larger, smaller, walked, best}
use Rattle.rules.specs.Plain.{raw_sum, raw_sums, lowered_by, lowered, lower_limited, plain_motors}
use Rattle.rules.specs.Frame.{frame_motors}
use Rattle.rules.specs.ThrustFloor.{one_scale, scaled_motor, scaled_motors, thrust_floor_scale, thrust_floor_motors}
use Rattle.rules.specs.Priority.{yaw_group, roll_pitch_group, yaw_scale}
use Rattle.rules.specs.Priority.{roll_pitch_scale, priority_motor, priority_motors}
use Rattle.rules.specs.Airmode.{spread, spread_scale, unshifted, shift, shifted, airmode_motors}
use Rattle.rules.specs.RotorOut.{tilt, tilt_motor, equations, placed, base_without, delta_without}
use Rattle.rules.specs.RotorOut.{motor_without, motors_without, rotor_out_motors}
use Rattle.rules.specs.Figures.{starred, AllHold}

pub starred_hold : (y : Float) → AllHold (starred y)
unfolding add sub mul div neg lt le eq of_bits absolute treated clamped limited floor_clamp limits motor_limit
    tightened walk settled fit_scale singular cramer solution quad_rows quad_x_rows lifted delta deltas larger smaller
    walked best raw_sum raw_sums lowered_by lowered lower_limited plain_motors one_scale scaled_motor scaled_motors
    thrust_floor_scale thrust_floor_motors yaw_group roll_pitch_group yaw_scale roll_pitch_scale priority_motor
    priority_motors spread spread_scale unshifted shift shifted airmode_motors tilt tilt_motor equations placed
    base_without delta_without motor_without motors_without rotor_out_motors frame_motors
starred_hold y = refl
