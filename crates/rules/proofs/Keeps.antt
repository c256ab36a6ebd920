-- What each mix keeps, whole: the records of `specs/Promises.antt`, one law a mix. Assumes nothing.
use Prim.Native.Nat.{ℕ}
use mathlib.Core.List.{List}
use borrow.Author.Tests.{ltb-false}
use lib.Dec.{T, ltb}
use lib.ListN.{get_or}
use lib.Ieee.{Float, nan, binary32, fits}
use Rattle.number.proofs.Choice.{by_test}
use Rattle.rules.specs.Rows.{Row, quad_rows}
use Rattle.rules.specs.Plain.{plain_motors}
use Rattle.rules.specs.ThrustFloor.{thrust_floor_scale, thrust_floor_motors}
use Rattle.rules.specs.Priority.{priority_motors}
use Rattle.rules.specs.Airmode.{airmode_motors}
use Rattle.rules.specs.RotorOut.{rotor_out_motors}
use Rattle.rules.specs.Frame.{frame_motors}
use Rattle.rules.specs.Promises.{PlainKeeps, ThrustFloorKeeps, PriorityKeeps}
use Rattle.rules.specs.Promises.{AirmodeKeeps, RotorOutKeeps, FrameKeeps}
use Rattle.rules.proofs.Count.{plain_count, frame_count, thrust_floor_count, priority_count, airmode_count}
use Rattle.rules.proofs.Bounded.{thrust_floor_clamped, thrust_floor_scaled, priority_clamped}
use Rattle.rules.proofs.Bounded.{airmode_clamped, without_keeps, tilt_keeps}
use Rattle.rules.proofs.Ordered.{thrust_floor_ordered}
use Rattle.rules.proofs.ThrustFloorFitting.{thrust_floor_fitting}
use Rattle.rules.proofs.PriorityFitting.{priority_fitting, priority_nearest}
use Rattle.rules.proofs.AirmodeFitting.{airmode_fitting}
use Rattle.rules.proofs.Plain.{plain_no_nan, plain_overflowed, plain_attained}
use Rattle.rules.proofs.Plain.{plain_to_one, plain_unit, frame_unit}
use Rattle.rules.proofs.QuadX.{quad_x_agrees}

-- the plain mix, of the quad; the torque's numbers are f32s, and so is the thrust
pub plain_keeps : (torque : List Float) (thrust : Float) → ((k : ℕ) → T (fits binary32 (get_or torque k nan)))
    → T (fits binary32 thrust)
    → PlainKeeps torque thrust (plain_motors quad_rows torque thrust)
plain_keeps torque thrust fs ft = record {
  count = plain_count quad_rows torque thrust;
  unit = plain_unit quad_rows torque thrust;
  no_nan = plain_no_nan torque thrust fs ft;
  overflowed = plain_overflowed torque thrust fs ft;
  attained = plain_attained torque thrust;
  to_one = plain_to_one torque thrust;
}

-- the rotor-out mix, of the quad, whether the number is that of a rotor or not; the floor is an f32
pub rotor_out_keeps : (failed : ℕ) (torque : List Float) (thrust floor : Float) → T (fits binary32 floor)
    → RotorOutKeeps failed floor (rotor_out_motors failed torque thrust floor)
unfolding rotor_out_motors
rotor_out_keeps failed torque thrust floor ff =
    by_test (RotorOutKeeps failed floor) (ltb failed 4) (λ e. without_keeps failed floor _ _ ff)
    (λ e. tilt_keeps failed floor _ _ _ ff (ltb-false failed 4 e))

-- the mix of any frame, `MixerN`'s; the torque's numbers are f32s, and so is the thrust
pub frame_keeps : (rows : List Row) (torque : List Float) (thrust : Float)
    → ((k : ℕ) → T (fits binary32 (get_or torque k nan))) → T (fits binary32 thrust)
    → FrameKeeps rows torque thrust (frame_motors rows torque thrust)
frame_keeps rows torque thrust fs ft = record {
  count = frame_count rows torque thrust;
  unit = frame_unit rows torque thrust;
  quad_x = λ e h. rw e (quad_x_agrees torque thrust fs ft h);
}

-- the mixes of any frame; the thrust and the floor are f32s
module _ (rows : List Row) (torque : List Float) (thrust floor : Float) (ft : T (fits binary32 thrust))
    (ff : T (fits binary32 floor)) where
  pub thrust_floor_keeps : ThrustFloorKeeps rows torque thrust floor (thrust_floor_motors rows torque thrust floor)
      (thrust_floor_scale rows torque thrust floor)
  thrust_floor_keeps =
      let clamped = thrust_floor_clamped rows torque thrust floor ff in
      record {
        count = thrust_floor_count rows torque thrust floor;
        bounded = clamped.bounded;
        unit = clamped.unit;
        scaled = thrust_floor_scaled rows torque thrust floor;
        fitting = thrust_floor_fitting rows torque thrust floor ft ff;
        ordered = thrust_floor_ordered rows torque thrust floor ft ff;
      }

  pub priority_keeps : PriorityKeeps rows torque thrust floor (priority_motors rows torque thrust floor)
  priority_keeps =
      let clamped = priority_clamped rows torque thrust floor ff in
      record {
        count = priority_count rows torque thrust floor;
        bounded = clamped.bounded;
        unit = clamped.unit;
        fitting = priority_fitting rows torque thrust floor ff;
        nearest = priority_nearest rows torque thrust floor ff;
      }

  pub airmode_keeps : AirmodeKeeps rows torque thrust floor (airmode_motors rows torque thrust floor)
  airmode_keeps =
      let clamped = airmode_clamped rows torque thrust floor ff in
      record {
        count = airmode_count rows torque thrust floor;
        bounded = clamped.bounded;
        unit = clamped.unit;
        fitting = airmode_fitting rows torque thrust floor ft ff;
      }
