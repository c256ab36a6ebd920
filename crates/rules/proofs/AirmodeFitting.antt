-- The airmode mix's `fitting`: where the limited thrust plus each delta, taken exactly, lies in the range, the largest
-- minus the least delta is no more than the range is wide, so that the deltas are not scaled; each sum then lies in the
-- range, so that the shift is +0 and the clamp changes nothing. Each motor is the sum, rounded once: adding +0 changes
-- a zero's sign at most. Assumes nothing.
use mathlib.Core.Path.{◌≡◌, refl, sym, ap, ◌∙◌}
use mathlib.Core.Bool.{Bool, true, false, ◌&&◌, cond}
use mathlib.Core.List.{List, [], ◌∷◌, map, map-map}
use Prim.Native.Nat.{ℕ, ◌+◌, ◌≤◌}
use native.Mathlib.Omega.{arith}
use lib.Dec.{T}
use lib.Pow.{pow_pos}
use lib.Ieee.{Float, binary32, fits, lt}
use lib.Ieee.Scale.{finite}
use Rattle.binary32.specs.Arithmetic.{◌+f◌, ◌-f◌, ◌*f◌, ◌/f◌, 0f, 1f, small}
use Rattle.binary32.specs.Whole.{over, under}
use Rattle.binary32.specs.Range.{SumWithin}
use Rattle.binary32.proofs.Magnitude.{Finite}
use Rattle.binary32.proofs.Comparison.{le_units, units_le, not_over}
use Rattle.binary32.proofs.Rounded.{Rounded, by_difference, rounded_order, own_rounding}
use Rattle.binary32.proofs.Operations.{add_rounded, sub_rounded}
use Rattle.binary32.proofs.Range.{zero_finite, zero_over, zero_under, one_finite, one_number, sum_at_least, sum_at_most}
use Rattle.number.specs.Treat.{treated, limited, floor_clamp}
use Rattle.number.proofs.Choice.{by_test}
use Rattle.fit.specs.Fit.{EachMotor}
use Rattle.rules.specs.Rows.{Row}
use Rattle.rules.specs.Command.{roll, pitch, yaw, delta, deltas}
use Rattle.rules.specs.Airmode.{spread, spread_scale, unshifted, shift, shifted, airmode_motors}
use Rattle.general.specs.Each.{Each}
use Rattle.rules.specs.Promises.{Fits, SumRounded}
use Rattle.general.proofs.Lists.{each_of_map, each_map, each_same}
use Rattle.rules.proofs.EachMotor.{each_motor}
use Rattle.rules.proofs.Clamp.{Floor, Inside, inside_number, limited_floor, delta_finite}
use Rattle.rules.proofs.Extremes.{largest_is, least_is}
use Rattle.rules.proofs.FittingSum.{scale_one_second, fitted, fitting_sum}

-- ---- a number plus +0 is the number, a zero's sign aside

plus_zero : {z : Float} {p n c : ℕ} → Finite binary32 z → Rounded binary32 z p n c → Rounded binary32 (z +f 0f) p n c
plus_zero {z} h r =
    let same =
    by_difference (add_rounded h zero_finite) (over binary32 z) (under binary32 z)
    (omega (arith, zero_over, zero_under)) in
    let own = own_rounding h in
    record {
      number = same.number;
      above = same.above ∙ sym own.above ∙ r.above;
      below = same.below ∙ sym own.below ∙ r.below;
    }

-- ---- the spread is no more than the range is wide, so that the scale is 1

-- a delta is finite, and fits
record Fitting (lo t d : Float) : Type 0 where
  finite : Finite binary32 d
  within : SumWithin lo 1f t d

-- what is, exactly, no more than 1 - lo is not over it once both are rounded
not_over_room : {lo x : Float} {p n : ℕ} → Floor lo → Rounded binary32 x p n 1
    → p + over binary32 lo + under binary32 1f ≤ over binary32 1f + under binary32 lo + n
    → lt (1f -f lo) x ≡ false
not_over_room l r h =
    let room = sub_rounded one_finite l.finite in
    not_over r.number room.number
    (units_le r.number room.number (rounded_order r room (pow_pos 0) (pow_pos 0) (omega arith)))

-- two deltas that fit are no further apart; a difference that overflowed has become +0
not_over_spread : {lo t a b : Float} → Floor lo → Fitting lo t a → Fitting lo t b
    → lt (1f -f lo) (treated (a -f b)) ≡ false
unfolding treated
not_over_spread {lo} {a} {b} l ha hb =
    by_test (λ x. lt (1f -f lo) x ≡ false) (finite (a -f b))
    (λ e. not_over_room l (sub_rounded ha.finite hb.finite)
    (omega (arith, sum_at_most ha.within, sum_at_least hb.within)))
    (λ e. not_over_room l (own_rounding zero_finite)
    (omega (arith, zero_over, zero_under, le_units (inside_number l) one_number l.between.to)))

no_scale : (lo wide : Float) → lt (1f -f lo) wide ≡ false → spread_scale lo wide ≡ 1f
unfolding spread_scale
no_scale lo wide e = go (lt small wide) (lt (1f -f lo) wide) e
  where
    go : (p q : Bool) → q ≡ false → cond (p && q) ((1f -f lo) /f wide) 1f ≡ 1f
    go false q e = refl
    go true q e = rw e

-- ---- the shift is +0

no_shift : {lo a b : Float} → Floor lo → Inside lo a → Inside lo b → shift lo a b ≡ 0f
unfolding shift
no_shift l ha hb =
    rw (
      not_over (inside_number l) (inside_number ha) ha.between.from,
      not_over (inside_number hb) one_number hb.between.to,
    )

-- ---- the motors; d is what is asked of a rotor

module _ {lo t : Float} (l : Floor lo) (ht : Finite binary32 t) (d : Row → Float)
    (hd : (row : Row) → Finite binary32 (d row)) where
  abbrev Within : Row → Type 0
  Within row = SumWithin lo 1f t (d row)

  abbrev sum : Row → Float
  sum row = t +f d row

  fitting_unshifted : (rows : List Row) → Each Within rows → unshifted lo t (map d rows) ≡ map sum rows
  unfolding spread unshifted
  fitting_unshifted [] w = refl
  fitting_unshifted (row ∷ rows) w =
      let fit = each_map Within (Fitting lo t) d (λ r v. record { finite = hd r; within = v }) (row ∷ rows) w in
      let one =
      no_scale lo _ (not_over_spread l (largest_is (Fitting lo t) (d row) (map d rows) fit)
      (least_is (Fitting lo t) (d row) (map d rows) fit)) in
      ap (λ (s : Float). map (λ e. t +f e *f s) (map d (row ∷ rows))) one
      ∙ map-map (λ e. t +f e *f 1f) d (row ∷ rows)
      ∙ each_same Within (λ r. t +f d r *f 1f) sum
      (λ r v. ap (λ (x : Float). t +f x) (scale_one_second (d r) (hd r).fits)) (row ∷ rows) w

  fitting_shifted : (rows : List Row) → Each Within rows
      → shifted lo (map sum rows) ≡ map (λ r. floor_clamp (sum r +f 0f) lo) rows
  unfolding shifted
  fitting_shifted [] w = refl
  fitting_shifted (row ∷ rows) w =
      let in_range =
      each_map Within (Inside lo) sum (λ r v. (fitting_sum l ht.fits (hd r).fits v).inside) (row ∷ rows) w in
      let none =
      no_shift l (least_is (Inside lo) (sum row) (map sum rows) in_range)
      (largest_is (Inside lo) (sum row) (map sum rows) in_range) in
      ap (λ (s : Float). map (λ x. floor_clamp (x +f s) lo) (map sum (row ∷ rows))) none
      ∙ map-map (λ x. floor_clamp (x +f 0f) lo) sum (row ∷ rows)

  fitting_motor : (row : Row) → Within row → SumRounded t (d row) (floor_clamp (sum row +f 0f) lo)
  fitting_motor row v =
      let s =
      fitted l v (plus_zero (fitting_sum l ht.fits (hd row).fits v).inside.finite (add_rounded ht (hd row))) in
      rw s.kept s.rounded

  fitting_motors : (rows : List Row) → Each Within rows
      → EachMotor (SumRounded t) (map d rows) (shifted lo (unshifted lo t (map d rows)))
  fitting_motors rows w =
      rw (fitting_unshifted rows w, fitting_shifted rows w)
      (each_motor Within (SumRounded t) d (λ r. floor_clamp (sum r +f 0f) lo) fitting_motor rows w)

-- ---- the mix

pub airmode_fitting : (rows : List Row) (torque : List Float) (thrust idle : Float) → T (fits binary32 thrust)
    → T (fits binary32 idle)
    → Fits idle (limited thrust) (deltas rows torque)
    → EachMotor (SumRounded (limited thrust)) (deltas rows torque) (airmode_motors rows torque thrust idle)
unfolding deltas airmode_motors
airmode_fitting rows torque thrust idle ht hi w =
    let d = delta (roll torque) (pitch torque) (yaw torque) in
    fitting_motors (limited_floor idle hi) (limited_floor thrust ht).finite d
    (delta_finite (roll torque) (pitch torque) (yaw torque)) rows
    (each_of_map (SumWithin (limited idle) 1f (limited thrust)) d rows w)
