-- The Rust's `mix_airmode` is document 01's airmode, of every f32: its tests of the spread and of the scale change
-- nothing. Assumes nothing.
use mathlib.Core.Path.{◌≡◌, refl, ap, ◌∙◌}
use mathlib.Core.Bool.{Bool, true, false, not, ◌&&◌, ◌||◌, cond}
use mathlib.Core.List.{List, [], ◌∷◌, map, map-map}
use native.Mathlib.Omega.{arith}
use lib.Dec.{T}
use lib.ListN.{length, length-map}
use lib.Ieee.{Float, binary32, fits, lt}
use lib.Ieee.Bits.{is_true}
use lib.Ieee.Fits.{sub-fits}
use lib.Ieee.Scale.{finite}
use Rattle.general.proofs.Lists.{map_same}
use Rattle.binary32.specs.Arithmetic.{◌+f◌, ◌-f◌, ◌*f◌, 0f, 1f, small}
use Rattle.binary32.proofs.Magnitude.{finite_number}
use Rattle.binary32.proofs.Comparison.{units_le, le_refl, not_over}
use Rattle.binary32.proofs.Products.{Factor}
use Rattle.binary32.proofs.Range.{one_finite, zero_number, one_number, zero_over, zero_under, factor}
use Rattle.number.proofs.Choice.{by_test}
use Rattle.number.specs.Treat.{treated, limited}
use Rattle.rules.specs.Rows.{quad_rows}
use Rattle.rules.specs.Command.{roll, pitch, yaw, deltas}
use Rattle.rules.specs.Extremes.{larger, smaller, walked, best, largest, least}
use Rattle.rules.specs.Airmode.{spread, spread_scale, unshifted, shift, shifted, airmode_motors}
use Rattle.rules.proofs.Clamp.{Floor, zero_floor, limited_floor, treated_finite}
use Rattle.rust_text.specs.Forms.{◌!◌, ◌<f◌, ◌>f◌, for_each}
use Rattle.rust_text.specs.State.{Quad, answered, store_motors}
use Rattle.rust_text.specs.Airmode.{extremes, range_scale, shift_of, collective_added, shift_added, mix_airmode}
use Rattle.rust_text.specs.Numbers.{clamp_floor}
use Rattle.rust_text.proofs.Numbers.{sanitise_is, limited_is, clamp_floor_is}
use Rattle.rust_text.proofs.Loops.{by_places}
use Rattle.rust_text.proofs.ThrustFloor.{torque_deltas_are, four_deltas}
use Rattle.rust_text.proofs.Span.{span_between, factor_quotient}

-- ---- the least and the largest

abbrev both_ways : Float → Float × Float → Float × Float
both_ways x both = (cond (x <f both.0) x both.0, cond (x >f both.1) x both.1)

both_walked : (lo hi : Float) (xs : List Float)
    → for_each xs both_ways (lo, hi) ≡ (walked smaller lo xs, walked larger hi xs)
unfolding walked smaller larger
both_walked lo hi [] = refl
both_walked lo hi (x ∷ xs) = both_walked (smaller lo x) (larger hi x) xs

extremes_are : (x : Float) (xs : List Float) → extremes (x ∷ xs) ≡ (least (x ∷ xs), largest (x ∷ xs))
unfolding extremes best
extremes_are x xs = both_walked x x xs

-- ---- the scale

-- a number in 0..1 passes the Rust's last test
kept : {s : Float} → Factor binary32 s → cond (not (finite s) || lt s 0f) 0f s ≡ s
kept {s} k =
    let n = finite_number k.number in
    let order = units_le zero_number n (omega (arith, k.from, zero_over, zero_under)) in
    rw (is_true (finite s) k.number.finite, not_over zero_number n order)

both_hold : (p q : Bool) → p && q ≡ true → q ≡ true
both_hold true q e = e
both_hold false q e = cc

one_factor : Factor binary32 1f
one_factor = factor one_finite.fits (record { from = zero_floor.between.to; to = le_refl one_number })

range_scale_is : {idle : Float} → Floor idle → (dmin dmax : Float)
    → range_scale idle dmin dmax ≡ spread_scale idle (treated (dmax -f dmin))
unfolding range_scale spread_scale
range_scale_is {idle} h dmin dmax =
    let w = treated (dmax -f dmin) in
    let hw = treated_finite (dmax -f dmin) (sub-fits binary32 dmax dmin) in
    let span = factor (sub-fits binary32 1f idle) (span_between h) in
    rw (sanitise_is (dmax -f dmin), is_true (finite w) hw.finite)
    (kept (by_test (Factor binary32) (lt small w && lt (1f -f idle) w)
    (λ e. factor_quotient span hw (both_hold (lt small w) (lt (1f -f idle) w) e))
    (λ e. one_factor)))

-- ---- the motors

shift_is : (idle lo hi : Float) → shift_of idle lo hi ≡ shift idle lo hi
unfolding shift_of shift
shift_is idle lo hi = refl

collective_added_lem : (t s : Float) (d : List Float) → length d ≡ 4
    → collective_added t s d ≡ map (λ x. t +f x *f s) d
unfolding collective_added
collective_added_lem t s d e =
    by_places (λ x. t +f x) (map (λ x. x *f s) d) (length-map d (λ x. x *f s) ∙ e)
    ∙ map-map (λ x. t +f x) (λ x. x *f s) d

shift_added_lem : (idle : Float) (m : List Float) → shift_added idle m ≡ shifted idle m
unfolding shift_added shifted
shift_added_lem idle [] = refl
shift_added_lem idle (x ∷ m) =
    let by = shift idle (least (x ∷ m)) (largest (x ∷ m)) in
    let same : shift_of idle (extremes (x ∷ m)).0 (extremes (x ∷ m)).1 ≡ by =
    rw (extremes_are x m) (shift_is idle (least (x ∷ m)) (largest (x ∷ m))) in
    ap (λ (s : Float). map (λ y. clamp_floor (y +f s) idle) (x ∷ m)) same
    ∙ map_same (λ y. clamp_floor_is (y +f by) idle) (x ∷ m)

-- the least and the largest delta of the quad, and so the spread
deltas_spread : (torque : List Float)
    → extremes (deltas quad_rows torque) ≡ (least (deltas quad_rows torque), largest (deltas quad_rows torque))
unfolding deltas quad_rows
deltas_spread torque = extremes_are _ _

pub mix_airmode_is : (self : Quad) (torque : List Float) (thrust idle : Float) → T (fits binary32 idle)
    → mix_airmode self torque thrust idle ≡ answered (store_motors self (airmode_motors quad_rows torque thrust idle))
unfolding mix_airmode airmode_motors unshifted spread deltas
mix_airmode_is self torque thrust idle fi =
    let ds = deltas quad_rows torque in
    let low = limited idle in
    let s = spread_scale low (spread ds) in
    rw (
      limited_is thrust,
      limited_is idle,
      sanitise_is (torque ! 0),
      sanitise_is (torque ! 1),
      sanitise_is (torque ! 2),
      torque_deltas_are (roll torque) (pitch torque) (yaw torque),
      deltas_spread torque,
      range_scale_is (limited_floor idle fi) (least ds) (largest ds),
      collective_added_lem (limited thrust) s ds (four_deltas torque),
      shift_added_lem low (unshifted low (limited thrust) ds),
    )
