-- A hard roll on `hex_x`, by computing: thrust 0.75, roll 0.5, floor 0.125. Rotor 2 has room for half of what it is
-- asked, so all six are given half. (Scaled by its own limit, each of rotors 3 to 6 would be given all.) Assumes
-- nothing.
use mathlib.Core.Path.{◌≡◌, refl}
use mathlib.Core.List.{[], ◌∷◌}
use lib.Ieee.{Float, binary32, add, sub, mul, div, neg, lt, of_bits}
use Rattle.binary32.specs.Arithmetic.{0f, 1f}
use Rattle.number.specs.Treat.{treated, clamped, limited, floor_clamp}
use Rattle.fit.specs.Fit.{limits, motor_limit, tightened, walk, settled, fit_scale}
use Rattle.rules.specs.Rows.{1/2, hex_rows}
use Rattle.rules.specs.Command.{lifted, delta, deltas}
use Rattle.rules.specs.ThrustFloor.{one_scale, scaled_motor, scaled_motors, thrust_floor_scale, thrust_floor_motors}
use Rattle.multi.specs.declared.Wrench.{Wrench}
use Rattle.multi_thrust_floor.specs.Floored.{floored_motors, floored_scale}

abbrev 1/8 : Float
1/8 = of_bits binary32 0x3e00_0000

abbrev 5/8 : Float
5/8 = of_bits binary32 0x3f20_0000

abbrev 3/4 : Float
3/4 = of_bits binary32 0x3f40_0000

abbrev 7/8 : Float
7/8 = of_bits binary32 0x3f60_0000

abbrev hard : Wrench
hard = record { thrust = 3/4; roll = 1/2; pitch = 0f; yaw = 0f }

pub hard_roll : (floored_motors hex_rows hard 1/8 ≡ 1/2 ∷ 1f ∷ 7/8 ∷ 5/8 ∷ 5/8 ∷ 7/8 ∷ [])
    × (floored_scale hex_rows hard 1/8 ≡ 1/2)
unfolding add sub mul div neg lt of_bits treated clamped limited floor_clamp limits motor_limit tightened walk settled
    fit_scale hex_rows lifted delta deltas one_scale scaled_motor scaled_motors thrust_floor_scale thrust_floor_motors
hard_roll = (refl, refl)
