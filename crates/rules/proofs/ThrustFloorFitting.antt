-- The thrust-floor mix's `fitting`: where the collective plus each delta, taken exactly, lies in the range, the scale
-- is exactly 1, so that each motor is that sum, rounded once. Assumes nothing.
use mathlib.Core.Path.{◌≡◌}
use mathlib.Core.List.{List, map, map-map}
use lib.Dec.{T}
use lib.Ieee.{Float, binary32, fits}
use Rattle.binary32.specs.Arithmetic.{1f}
use Rattle.binary32.specs.Range.{SumWithin}
use Rattle.binary32.proofs.Magnitude.{Finite}
use Rattle.number.specs.Treat.{limited}
use Rattle.fit.specs.Fit.{EachMotor}
use Rattle.rules.specs.Rows.{Row}
use Rattle.rules.specs.Command.{roll, pitch, yaw, collective, delta, deltas}
use Rattle.rules.specs.ThrustFloor.{one_scale, scaled_motor, scaled_motors, thrust_floor_scale, thrust_floor_motors}
use Rattle.general.specs.Each.{Each}
use Rattle.rules.specs.Promises.{Fits, SumRounded}
use Rattle.general.proofs.Lists.{each_of_map}
use Rattle.rules.proofs.EachMotor.{each_motor}
use Rattle.rules.proofs.Clamp.{Floor, limited_floor, delta_finite, collective_floor}
use Rattle.rules.proofs.FittingSum.{scale_one_first, fitting_sum, fitting_scale}

-- ---- one base, and d is what is asked of a rotor

module _ {lo base : Float} (l : Floor lo) (b : Finite binary32 base) (d : Row → Float)
    (hd : (row : Row) → Finite binary32 (d row)) where
  abbrev Fitting : Row → Type 0
  Fitting row = SumWithin lo 1f base (d row)

  one_scale_lem : (rows : List Row) → Each Fitting rows → one_scale lo base (map d rows) ≡ 1f
  unfolding one_scale
  one_scale_lem rows w =
      rw map-map (fitting_scale l Fitting (λ row. base) d (λ row. b.fits) (λ row. (hd row).fits) (λ row v. v) rows w)

  fitting_motor : (row : Row) → Fitting row → SumRounded base (d row) (scaled_motor lo base 1f (d row))
  unfolding scaled_motor
  fitting_motor row v =
      let s = fitting_sum l b.fits (hd row).fits v in
      rw (scale_one_first (d row) (hd row).fits, s.kept) s.rounded

  fitting_motors : (rows : List Row) → Each Fitting rows
      → EachMotor (SumRounded base) (map d rows) (scaled_motors lo base (map d rows))
  unfolding scaled_motors
  fitting_motors rows w =
      rw (one_scale_lem rows w, map-map)
      (each_motor Fitting (SumRounded base) d (λ row. scaled_motor lo base 1f (d row)) fitting_motor rows w)

-- ---- the mix

pub thrust_floor_fitting : (rows : List Row) (torque : List Float) (thrust floor : Float) → T (fits binary32 thrust)
    → T (fits binary32 floor)
    → Fits floor (collective thrust floor) (deltas rows torque)
    → EachMotor (SumRounded (collective thrust floor)) (deltas rows torque)
    (thrust_floor_motors rows torque thrust floor)
    × (thrust_floor_scale rows torque thrust floor ≡ 1f)
unfolding deltas thrust_floor_scale thrust_floor_motors
thrust_floor_fitting rows torque thrust floor ht hf w =
    let d = delta (roll torque) (pitch torque) (yaw torque) in
    let hd = delta_finite (roll torque) (pitch torque) (yaw torque) in
    let l = limited_floor floor hf in
    let b = (collective_floor thrust floor ht hf).finite in
    let each = each_of_map (SumWithin (limited floor) 1f (collective thrust floor)) d rows w in
    (fitting_motors l b d hd rows each, one_scale_lem l b d hd rows each)
