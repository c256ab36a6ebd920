-- How many motors a mix answers: one for each row, and plain and rotor-out on the quad four. Assumes nothing.
use mathlib.Core.Path.{◌≡◌, refl, ◌∙◌}
use mathlib.Core.Bool.{Bool, true, false, cond}
use mathlib.Core.List.{List}
use Prim.Native.Nat.{ℕ}
use lib.Dec.{ltb}
use lib.ListN.{length, length-map}
use lib.Ieee.{Float}
use Rattle.rules.specs.Rows.{Row, quad_rows}
use Rattle.rules.specs.Command.{deltas}
use Rattle.rules.specs.Plain.{raw_sums, lowered, lower_limited, plain_motors}
use Rattle.rules.specs.ThrustFloor.{scaled_motors, thrust_floor_motors}
use Rattle.rules.specs.Frame.{frame_motors}
use Rattle.rules.specs.Priority.{priority_motors}
use Rattle.rules.specs.Airmode.{unshifted, shifted, airmode_motors}
use Rattle.rules.specs.RotorOut.{motors_without, rotor_out_motors}

-- plain and the mix of a frame end alike
ending_count : (xs : List Float) → length (lower_limited xs) ≡ length xs
unfolding lower_limited lowered
ending_count xs = simp length-map

pub plain_count : (rows : List Row) (torque : List Float) (thrust : Float)
    → length (plain_motors rows torque thrust) ≡ length rows
unfolding plain_motors raw_sums
plain_count rows torque thrust = ending_count _ ∙ simp length-map

pub frame_count : (rows : List Row) (torque : List Float) (thrust : Float)
    → length (frame_motors rows torque thrust) ≡ length rows
unfolding frame_motors raw_sums
frame_count rows torque thrust = ending_count _ ∙ simp length-map

module _ (rows : List Row) (torque : List Float) (thrust floor : Float) where
  pub thrust_floor_count : length (thrust_floor_motors rows torque thrust floor) ≡ length rows
  unfolding thrust_floor_motors scaled_motors deltas
  thrust_floor_count = simp length-map

  pub priority_count : length (priority_motors rows torque thrust floor) ≡ length rows
  unfolding priority_motors
  priority_count = simp length-map

  pub airmode_count : length (airmode_motors rows torque thrust floor) ≡ length rows
  unfolding airmode_motors shifted unshifted deltas
  airmode_count = simp length-map

pub rotor_out_count : (failed : ℕ) (torque : List Float) (thrust floor : Float)
    → length (rotor_out_motors failed torque thrust floor) ≡ 4
unfolding rotor_out_motors motors_without quad_rows
rotor_out_count failed torque thrust floor = go (ltb failed 4) _ _ refl refl
  where
    go : (t : Bool) (a b : List Float) → length a ≡ 4 → length b ≡ 4 → length (cond t a b) ≡ 4
    go true a b p q = p
    go false a b p q = q
