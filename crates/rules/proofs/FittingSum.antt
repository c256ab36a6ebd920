-- Where the exact sum of two numbers lies in lo..1, a number that is this sum rounded once lies there too: rounding
-- keeps the order, and the two ends are their own roundings. So it is finite, and the floor clamp leaves it as it is;
-- and the fit scale of rotors that all have such sums is 1. Assumes nothing.
use mathlib.Core.Path.{◌≡◌, ap, ◌∙◌}
use mathlib.Core.List.{List, map}
use Prim.Native.Nat.{◌+◌, ◌≤◌}
use native.Mathlib.Omega.{arith}
use lib.Dec.{T}
use lib.Pow.{pow_pos}
use lib.Ieee.{Float, binary32, fits}
use Rattle.binary32.specs.Arithmetic.{◌+f◌, ◌*f◌, 1f}
use Rattle.binary32.specs.Whole.{over, under}
use Rattle.binary32.specs.Range.{exact_sum, SumWithin}
use Rattle.binary32.proofs.Magnitude.{Finite}
use Rattle.binary32.proofs.Comparison.{units_le}
use Rattle.binary32.proofs.Rounded.{Rounded, rounded_order, own_rounding}
use Rattle.binary32.proofs.Integers.{whole_difference, sum_of, is_rounding}
use Rattle.binary32.proofs.Operations.{add_rounded}
use Rattle.binary32.proofs.Delivered.{rounds_to, delivered_nearest}
use Rattle.binary32.proofs.Products.{one_is_unit, one_times, times_one}
use Rattle.binary32.proofs.Range.{one_finite, one_number, sum_at_least, sum_at_most}
use Rattle.number.specs.Treat.{floor_clamp}
use Rattle.fit.specs.Fit.{fit_scale}
use Rattle.fit.proofs.Fitting.{scale_fitting}
use Rattle.rules.specs.Rows.{Row}
use Rattle.general.specs.Each.{Each}
use Rattle.rules.specs.Promises.{SumRounded}
use Rattle.general.proofs.Lists.{map_fits}
use Rattle.rules.proofs.EachMotor.{each_motor}
use Rattle.rules.proofs.Clamp.{Floor, Inside, inside_number, inside, clamp_stays}

-- ---- a scale of 1 leaves a number as it is, by bits

pub scale_one_first : (x : Float) → T (fits binary32 x) → 1f *f x ≡ x
scale_one_first x h = ap (λ (one : Float). one *f x) one_is_unit ∙ one_times binary32 x h

pub scale_one_second : (x : Float) → T (fits binary32 x) → x *f 1f ≡ x
scale_one_second x h = ap (λ (one : Float). x *f one) one_is_unit ∙ times_one binary32 x h

-- ---- the sum

-- z is the exact sum of x and y, rounded once, a zero's sign aside
abbrev SumOf : Float → Float → Float → Type 0
SumOf x y z = Rounded binary32 z (over binary32 x + over binary32 y) (under binary32 x + under binary32 y) 1

-- what is said of such a z
pub record Fitted (lo x y z : Float) : Type 0 where
  pub inside : Inside lo z
  pub rounded : SumRounded x y z
  pub kept : floor_clamp z lo ≡ z

pub fitted : {lo x y z : Float} → Floor lo → SumWithin lo 1f x y → SumOf x y z → Fitted lo x y z
unfolding exact_sum
fitted {lo} {x} {y} {z} l w r =
    let n = r.number in
    let above : over binary32 lo + under binary32 z ≤ over binary32 z + under binary32 lo =
    rounded_order (own_rounding l.finite) r (pow_pos 0) (pow_pos 0) (omega (arith, sum_at_least w)) in
    let below : over binary32 z + under binary32 1f ≤ over binary32 1f + under binary32 z =
    rounded_order r (own_rounding one_finite) (pow_pos 0) (pow_pos 0) (omega (arith, sum_at_most w)) in
    let within =
    inside l.finite n.fits
    (record { from = units_le (inside_number l) n above; to = units_le n one_number below }) in
    let exact = sum_of (whole_difference binary32 x) (whole_difference binary32 y) in
    let standard = delivered_nearest within.finite.finite (rounds_to r exact (pow_pos 0)) in
    record {
      inside = within;
      rounded = record { once = is_rounding r exact (pow_pos 0); nearest = standard.0; even = standard.1 };
      kept = clamp_stays l within;
    }

-- the sum that the operation gives is one
pub fitting_sum : {lo x y : Float} → Floor lo → T (fits binary32 x) → T (fits binary32 y) → SumWithin lo 1f x y
    → Fitted lo x y (x +f y)
fitting_sum {x} {y} l fx fy w =
    let hx : Finite binary32 x = record { fits = fx; finite = w.first } in
    let hy : Finite binary32 y = record { fits = fy; finite = w.second } in
    fitted l w (add_rounded hx hy)

-- ---- the fit scale of rows whose sums fit is 1: b is what a rotor has already, d what is asked of it

pub fitting_scale : {lo : Float} → Floor lo → (P : Row → Type 0) (b d : Row → Float)
    → ((row : Row) → T (fits binary32 (b row))) → ((row : Row) → T (fits binary32 (d row)))
    → ((row : Row) → P row → SumWithin lo 1f (b row) (d row)) → (rows : List Row) → Each P rows
    → fit_scale lo (map b rows) (map d rows) ≡ 1f
fitting_scale {lo} l P b d fb fd k rows w =
    scale_fitting lo (map b rows) (map d rows) l.finite (map_fits b fb rows) (map_fits d fd rows)
    (each_motor P (SumWithin lo 1f) b d k rows w)
