-- "Zero rotors give scale 1" (document 02, K6): no rows and no outputs are accepted, and nothing is written. Assumes
-- nothing.
use mathlib.Core.Path.{◌≡◌}
use mathlib.Core.List.{List, [], ◌∷◌}
use lib.Ieee.{Float, lt, of_bits}
use Rattle.binary32.specs.Arithmetic.{1f}
use Rattle.fit.specs.Fit.{walk, settled, fit_scale}
use Rattle.rules.specs.Rows.{rows_of}
use Rattle.rules.specs.Multi.{rows_refused}
use Rattle.rules.specs.Command.{deltas}
use Rattle.rules.specs.ThrustFloor.{one_scale, scaled_motors, thrust_floor_motors, thrust_floor_scale}
use Rattle.multi.specs.declared.Wrench.{Wrench}
use Rattle.multi_thrust_floor.specs.Floored.{FloorAnswer, scale_answered, RowsFloored}

pub no_rotors : (w : Wrench) (floor : Float) (answer : FloorAnswer) (after : List Float)
    → RowsFloored [] w floor [] answer after
    → (scale_answered answer ≡ 1f ∷ []) × (after ≡ [])
unfolding rows_of rows_refused deltas walk settled fit_scale one_scale scaled_motors thrust_floor_motors
    thrust_floor_scale lt of_bits
no_rotors w floor answer after h = (h.scale, h.output)
