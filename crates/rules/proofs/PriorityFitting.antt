-- The priority mix's `fitting`: where each rotor's two groups fit in both orders, both scales are exactly 1, the yaw's
-- and then the roll/pitch's, so that each motor is the collective plus roll/pitch plus yaw, rounded at each sum.
-- Assumes nothing.
use mathlib.Core.Path.{◌≡◌}
use mathlib.Core.List.{List, map, map-map}
use Prim.Native.Nat.{ℕ, ◌<◌}
use lib.Dec.{T}
use lib.ListN.{length, get_or}
use lib.Ieee.{Float, nan, binary32, fits}
use lib.Ieee.Fits.{add-fits, mul-fits}
use Rattle.binary32.specs.Arithmetic.{◌+f◌, ◌*f◌, 1f}
use Rattle.number.specs.Treat.{limited}
use Rattle.rules.specs.Rows.{Row, no_row}
use Rattle.rules.specs.Command.{roll, pitch, yaw, collective}
use Rattle.rules.specs.Priority.{yaw_group, roll_pitch_group, yaw_scale}
use Rattle.rules.specs.Priority.{roll_pitch_scale, priority_motor, priority_motors}
use Rattle.general.specs.Each.{Each}
use Rattle.rules.specs.Promises.{SumRounded, FitsBothOrders, roll_pitch_sum, priority_sum, AllFitBothOrders}
use Rattle.general.proofs.Lists.{each_same, each_at, map_at}
use Rattle.rules.proofs.Clamp.{Floor, limited_floor, treated_finite}
use Rattle.rules.proofs.FittingSum.{Fitted, scale_one_first, fitting_sum, fitting_scale}

-- ---- the two scales, and one motor

module _ (torque : List Float) (thrust floor : Float) (hf : T (fits binary32 floor)) where
  abbrev lo : Float
  lo = limited floor

  abbrev base : Float
  base = collective thrust floor

  abbrev rp : Row → Float
  rp = roll_pitch_group (roll torque) (pitch torque)

  abbrev y : Row → Float
  y = yaw_group (yaw torque)

  abbrev Fitting : Row → Type 0
  Fitting row = FitsBothOrders floor base (rp row) (y row)

  roll_pitch_fits : (row : Row) → T (fits binary32 (rp row))
  unfolding roll_pitch_group
  roll_pitch_fits row = (treated_finite _ (add-fits binary32 _ _)).fits

  yaw_fits : (row : Row) → T (fits binary32 (y row))
  unfolding yaw_group
  yaw_fits row = (treated_finite _ (mul-fits binary32 _ _)).fits

  lo_floor : Floor lo
  lo_floor = limited_floor floor hf

  yaw_scale_lem : (rows : List Row) → Each Fitting rows → yaw_scale lo base (map rp rows) (map y rows) ≡ 1f
  unfolding yaw_scale
  yaw_scale_lem rows w =
      rw map-map (fitting_scale lo_floor Fitting (λ row. base +f rp row) y
      (λ row. add-fits binary32 base (rp row)) yaw_fits (λ row v. v.yaw_last) rows w)

  roll_pitch_scale_lem : (rows : List Row) → Each Fitting rows
      → roll_pitch_scale lo base 1f (map rp rows) (map y rows) ≡ 1f
  unfolding roll_pitch_scale
  roll_pitch_scale_lem rows w =
      rw map-map
      (fitting_scale lo_floor Fitting (λ row. base +f 1f *f y row) rp
      (λ row. add-fits binary32 base (1f *f y row)) roll_pitch_fits
      (λ row v. rw (scale_one_first (y row) (yaw_fits row)) v.roll_pitch_last) rows w)

  yaw_last_lem : (row : Row) → Fitting row → Fitted lo (base +f rp row) (y row) (base +f rp row +f y row)
  yaw_last_lem row v = fitting_sum lo_floor (add-fits binary32 base (rp row)) (yaw_fits row) v.yaw_last

  fitting_motor : (row : Row) → Fitting row → priority_motor lo base 1f 1f (rp row) (y row) ≡ base +f rp row +f y row
  unfolding priority_motor
  fitting_motor row v =
      rw (scale_one_first (rp row) (roll_pitch_fits row), scale_one_first (y row) (yaw_fits row))
      (yaw_last_lem row v).kept

-- ---- the mix; nothing is asked of the thrust

pub priority_fitting : (rows : List Row) (torque : List Float) (thrust floor : Float) → T (fits binary32 floor)
    → AllFitBothOrders rows torque thrust floor
    → priority_motors rows torque thrust floor ≡ map (priority_sum torque thrust floor) rows
unfolding priority_motors
priority_fitting rows torque thrust floor hf w =
    rw (yaw_scale_lem torque thrust floor hf rows w, roll_pitch_scale_lem torque thrust floor hf rows w)
    (each_same _ _ _ (fitting_motor torque thrust floor hf) rows w)

pub priority_nearest : (rows : List Row) (torque : List Float) (thrust floor : Float) → T (fits binary32 floor)
    → AllFitBothOrders rows torque thrust floor
    → (i : ℕ) → i < length rows
    → SumRounded (roll_pitch_sum torque thrust floor (get_or rows i no_row))
    (yaw_group (yaw torque) (get_or rows i no_row))
    (get_or (priority_motors rows torque thrust floor) i nan)
priority_nearest rows torque thrust floor hf w i s =
    rw (priority_fitting rows torque thrust floor hf w, map_at (priority_sum torque thrust floor) no_row nan rows i s)
    (yaw_last_lem torque thrust floor hf (get_or rows i no_row) (each_at _ no_row rows w i s)).rounded
