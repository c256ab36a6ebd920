-- Of two rotors the one with the larger delta never gets the smaller motor, in the thrust-floor mix: its scale lies in
-- 0..1, and so does its base, so that no sum overflows; rounding keeps the order of the products and of the sums, and
-- the floor clamp that of finite numbers. Assumes nothing.
use mathlib.Core.Path.{◌≡◌}
use mathlib.Core.Bool.{true}
use mathlib.Core.List.{List, map}
use native.Mathlib.Omega.{arith}
use lib.Dec.{T}
use lib.Pow.{pow_pos}
use lib.ListN.{get_or}
use lib.Ieee.{Float, nan, binary32, fits, le}
use Rattle.binary32.proofs.Magnitude.{Finite, finite_number}
use Rattle.binary32.proofs.Comparison.{le_number, number_le, le_units, units_le}
use Rattle.binary32.proofs.Rounded.{rounded_order}
use Rattle.binary32.proofs.Operations.{add_rounded}
use Rattle.binary32.proofs.Products.{Factor, factor_order}
use Rattle.binary32.proofs.Range.{factor}
use Rattle.binary32.proofs.Overflow.{product_finite, sum_finite}
use Rattle.fit.proofs.Bounded.{scale_between, scale_fits}
use Rattle.rules.specs.Rows.{Row}
use Rattle.rules.specs.Command.{deltas}
use Rattle.rules.specs.ThrustFloor.{one_scale, scaled_motor, scaled_motors, thrust_floor_motors}
use Rattle.general.specs.Each.{Each}
use Rattle.rules.specs.Promises.{Ordered}
use Rattle.general.proofs.Lists.{each_mapped, each_at, map_at, number_place}
use Rattle.rules.proofs.Clamp.{Floor, limited_floor, clamp_order, delta_finite, collective_floor}

-- ---- a map that keeps the order of numbers keeps that of a list's, place by place

pub mapped_ordered : (P : Float → Type 0) (g : Float → Float)
    → ((x y : Float) → P x → P y → le x y ≡ true → le (g x) (g y) ≡ true)
    → (xs : List Float) → Each P xs → Ordered xs (map g xs)
mapped_ordered P g keeps xs each i j o =
    let x = get_or xs i nan in
    let y = get_or xs j nan in
    let first = number_place xs i (le_number x y o) in
    let second = number_place xs j (number_le x y o) in
    rw (map_at g nan nan xs i first, map_at g nan nan xs j second)
    (keeps x y (each_at P nan xs each i first) (each_at P nan xs each j second) o)

-- ---- one motor

motor_order : {floor b s x y : Float} → Floor floor → Factor binary32 b → Factor binary32 s → Finite binary32 x
    → Finite binary32 y → le x y ≡ true
    → le (scaled_motor floor b s x) (scaled_motor floor b s y) ≡ true
unfolding scaled_motor
motor_order hf kb k hx hy h =
    let u = product_finite k hx in
    let v = product_finite k hy in
    let scaled = factor_order k hx hy (le_units (finite_number hx) (finite_number hy) h) in
    let p = add_rounded kb.number u in
    let q = add_rounded kb.number v in
    clamp_order hf (sum_finite kb u) (sum_finite kb v)
    (units_le p.number q.number (rounded_order p q (pow_pos 0) (pow_pos 0) (omega arith)))

-- ---- all motors

-- whatever the deltas are, so long as they are finite
pub scaled_ordered : {floor base : Float} → Floor floor → Floor base → (ds : List Float) → Each (Finite binary32) ds
    → Ordered ds (scaled_motors floor base ds)
unfolding scaled_motors one_scale
scaled_ordered {floor} {base} hf hb ds e =
    let bs = map (λ d. base) ds in
    let kb = factor hb.finite.fits hb.between in
    let k = factor (scale_fits floor bs ds) (scale_between floor bs ds) in
    mapped_ordered (Finite binary32) (scaled_motor floor base (one_scale floor base ds))
    (λ x y hx hy h. motor_order hf kb k hx hy h) ds e

-- and the deltas of the mixes are, being treated
deltas_finite : (rows : List Row) (torque : List Float) → Each (Finite binary32) (deltas rows torque)
unfolding deltas
deltas_finite rows torque = each_mapped (Finite binary32) _ (delta_finite _ _ _) rows

pub thrust_floor_ordered : (rows : List Row) (torque : List Float) (thrust floor : Float) → T (fits binary32 thrust)
    → T (fits binary32 floor)
    → Ordered (deltas rows torque) (thrust_floor_motors rows torque thrust floor)
unfolding thrust_floor_motors
thrust_floor_ordered rows torque thrust floor ft ff =
    scaled_ordered (limited_floor floor ff) (collective_floor thrust floor ft ff) (deltas rows torque)
    (deltas_finite rows torque)
