-- Document 01's claims on the plain mix ('The five quad mixes', 1), of any torque and thrust that binary32 holds: "Raw
-- sums are never NaN here", "One raw +infinity makes all four 0", and "A finite largest over 1 and up to 2^24 ends
-- exactly at 1". The last two are of any list of raw sums. Last, the motors lie in 0..1, and so do those of the mix of
-- a frame, which ends as plain does. Assumes nothing.
use mathlib.Core.Path.{◌≡◌, refl, sym, ap, ◌∙◌, subst}
use mathlib.Core.Bool.{true, false, not}
use mathlib.Core.List.{List, [], ◌∷◌, map, map-map}
use Prim.Native.Nat.{ℕ}
use lib.Dec.{T}
use lib.ListN.{get_or}
use lib.Ieee.{Float, nan, inf, fin, binary32, fits, is_nan, lt, le, neg, add, sub, of_bits}
use lib.Ieee.Fits.{add-fits, sub-fits}
use Rattle.binary32.specs.Arithmetic.{◌*f◌, 0f, 1f}
use Rattle.binary32.specs.Range.{Between}
use Rattle.binary32.proofs.Magnitude.{Number, Finite, finite_number}
use Rattle.binary32.proofs.Comparison.{less_le, le_number}
use Rattle.binary32.proofs.Operations.{add_number}
use Rattle.binary32.proofs.Products.{unit, one_is_unit, one_product_finite, minus_one_product_finite}
use Rattle.binary32.proofs.LessOne.{end_of, back_to_one}
use Rattle.number.specs.Treat.{treated, clamped, floor_clamp}
use Rattle.number.proofs.Choice.{by_test}
use Rattle.rules.specs.Rows.{Row, thrust_of, roll_of, pitch_of, yaw_of, -1f, quad_rows}
use Rattle.rules.specs.Command.{roll, pitch, yaw}
use Rattle.rules.specs.Extremes.{largest}
use Rattle.rules.specs.Plain.{raw_sum, raw_sums, lowered_by, lowered, lower_limited, plain_motors}
use Rattle.rules.specs.Frame.{frame_motors}
use Rattle.general.specs.Each.{Each}
use Rattle.rules.specs.Promises.{InUnit, OneOf, 2^24}
use Rattle.general.proofs.Lists.{each_mapped, each_map, map_at, map_fits, number_place}
use Rattle.rules.proofs.Clamp.{zero_floor, treated_finite}
use Rattle.rules.proofs.Extremes.{largest_is, NoNan, largest_infinite}
use Rattle.rules.proofs.Bounded.{each_clamped}

-- ---- a factor of a row, 1 or -1, keeps a finite number finite

record Steady (u : Float) : Type 0 where
  keeps : (x : Float) → Finite binary32 x → Finite binary32 (u *f x)

plus : Steady 1f
plus = record { keeps = λ x h. rw one_is_unit (one_product_finite h) }

minus_one_is : -1f ≡ neg unit
unfolding neg of_bits
minus_one_is = refl

minus : Steady -1f
minus = record { keeps = λ x h. rw minus_one_is (minus_one_product_finite h) }

record SteadyRow (row : Row) : Type 0 where
  thrust : Steady (thrust_of row)
  roll : Steady (roll_of row)
  pitch : Steady (pitch_of row)
  yaw : Steady (yaw_of row)

steady : {a b c d : Float} → Steady a → Steady b → Steady c → Steady d → SteadyRow (a ∷ b ∷ c ∷ d ∷ [])
steady a b c d = record { thrust = a; roll = b; pitch = c; yaw = d }

quad_steady : Each SteadyRow quad_rows
unfolding quad_rows
quad_steady = (
  steady plus minus plus minus,
  (steady plus minus minus plus, (steady plus plus minus minus, (steady plus plus plus plus, tt))),
)

-- ---- no raw sum is a NaN: the products are finite, and a finite number added to a number gives a number

sum_number : {t r p y : Float} (row : Row) → Finite binary32 t → Finite binary32 r → Finite binary32 p
    → Finite binary32 y → SteadyRow row
    → Number binary32 (raw_sum t r p y row)
unfolding raw_sum
sum_number {t} {r} {p} {y} row ht hr hp hy s =
    add_number (add_number (add_number (finite_number (s.thrust.keeps t ht)) (s.roll.keeps r hr))
    (s.pitch.keeps p hp)) (s.yaw.keeps y hy)

pub plain_no_nan : (torque : List Float) (thrust : Float) → ((k : ℕ) → T (fits binary32 (get_or torque k nan)))
    → T (fits binary32 thrust)
    → Each (λ x. T (not (is_nan x))) (raw_sums quad_rows torque thrust)
unfolding raw_sums
plain_no_nan torque thrust hs ht =
    let torque_finite : (k : ℕ) → Finite binary32 (treated (get_or torque k nan)) =
    λ k. treated_finite (get_or torque k nan) (hs k) in
    each_map SteadyRow NoNan (raw_sum (treated thrust) (roll torque) (pitch torque) (yaw torque))
    (λ row s. (sum_number row (treated_finite thrust ht) (torque_finite 0) (torque_finite 1) (torque_finite 2)
    s).number)
    quad_rows quad_steady

-- ---- one raw +infinity makes all of them 0: largest - 1 is +infinity, and what it is taken from is no longer finite

lowered_by_infinity : (x : Float) → floor_clamp (lowered_by (inf false) x) 0f ≡ 0f
unfolding lowered_by floor_clamp lt sub add neg of_bits
lowered_by_infinity nan = refl
lowered_by_infinity (inf true) = refl
lowered_by_infinity (inf false) = refl
lowered_by_infinity (fin s m e) = refl

-- of any raw sums, none a NaN
pub lowered_overflowed : (xs : List Float) → Each NoNan xs → (i : ℕ) → get_or xs i nan ≡ inf false
    → Each (λ m. m ≡ 0f) (lower_limited xs)
unfolding lower_limited lowered
lowered_overflowed xs w i e =
    rw (map-map (λ x. floor_clamp x 0f) (lowered_by (largest xs)) xs, largest_infinite xs w i e)
    (each_mapped (λ m. m ≡ 0f) (λ x. floor_clamp (lowered_by (inf false) x) 0f) lowered_by_infinity xs)

pub plain_overflowed : (torque : List Float) (thrust : Float) → ((k : ℕ) → T (fits binary32 (get_or torque k nan)))
    → T (fits binary32 thrust)
    → (i : ℕ) → get_or (raw_sums quad_rows torque thrust) i nan ≡ inf false
    → Each (λ m. m ≡ 0f) (plain_motors quad_rows torque thrust)
unfolding plain_motors
plain_overflowed torque thrust hs ht =
    lowered_overflowed (raw_sums quad_rows torque thrust) (plain_no_nan torque thrust hs ht)

-- ---- a largest over 1 and up to 2 ^ 24 ends at 1: 1 is taken from it exactly

end_is : 2^24 ≡ end_of binary32
unfolding of_bits
end_is = refl

over_one_up_to_end : {most : Float} → lt 1f most ≡ true → le most 2^24 ≡ true → Between unit (end_of binary32) most
over_one_up_to_end {most} l h = record {
  from = ap (λ (u : Float). le u most) (sym one_is_unit) ∙ less_le 1f most l;
  to = ap (le most) (sym end_is) ∙ h;
}

largest_lowered : (most : Float) → T (fits binary32 most) → lt 1f most ≡ true → le most 2^24 ≡ true
    → lowered_by most most ≡ 1f
unfolding lowered_by
largest_lowered most held l h = rw (l, one_is_unit) (back_to_one binary32 held (over_one_up_to_end l h))

one_kept : floor_clamp 1f 0f ≡ 1f
unfolding floor_clamp clamped lt of_bits
one_kept = refl

-- of any raw sums that binary32 holds: each that is the largest
pub lowered_to_one : (xs : List Float) → ((k : ℕ) → T (fits binary32 (get_or xs k nan))) → lt 1f (largest xs) ≡ true
    → le (largest xs) 2^24 ≡ true
    → (i : ℕ) → get_or xs i nan ≡ largest xs → get_or (lower_limited xs) i nan ≡ 1f
unfolding lower_limited lowered
lowered_to_one xs hs l h i e =
    let most = largest xs in
    let held : T (fits binary32 most) = subst (λ (x : Float). T (fits binary32 x)) e (hs i) in
    let place = number_place xs i (subst NoNan (sym e) (le_number most 2^24 h)) in
    rw (map-map, map_at (λ x. floor_clamp (lowered_by most x) 0f) nan nan xs i place, e, largest_lowered most held l h)
    one_kept

-- a raw sum is one of binary32's numbers, whatever is summed
sums_fit : (rows : List Row) (torque : List Float) (thrust : Float) (k : ℕ)
    → T (fits binary32 (get_or (raw_sums rows torque thrust) k nan))
unfolding raw_sums raw_sum
sums_fit rows torque thrust = map_fits _ (λ row. add-fits binary32 _ _) rows

pub plain_to_one : (torque : List Float) (thrust : Float)
    → lt 1f (largest (raw_sums quad_rows torque thrust)) ≡ true
    → le (largest (raw_sums quad_rows torque thrust)) 2^24 ≡ true
    → (i : ℕ) → get_or (raw_sums quad_rows torque thrust) i nan ≡ largest (raw_sums quad_rows torque thrust)
    → get_or (plain_motors quad_rows torque thrust) i nan ≡ 1f
unfolding plain_motors
plain_to_one torque thrust = lowered_to_one (raw_sums quad_rows torque thrust) (sums_fit quad_rows torque thrust)

-- the largest raw sum is that of some motor
pub plain_attained : (torque : List Float) (thrust : Float)
    → OneOf (raw_sums quad_rows torque thrust) (largest (raw_sums quad_rows torque thrust))
unfolding raw_sums quad_rows
plain_attained torque thrust =
    largest_is (OneOf (raw_sums quad_rows torque thrust)) _ _ (
      record { place = 0; there = refl },
      (
        record { place = 1; there = refl },
        (record { place = 2; there = refl }, (record { place = 3; there = refl }, tt)),
      ),
    )

-- ---- what is lowered and limited lies in 0..1, whatever it was

lowered_fits : (most x : Float) → T (fits binary32 x) → T (fits binary32 (lowered_by most x))
unfolding lowered_by
lowered_fits most x h = by_test (λ z. T (fits binary32 z)) (lt 1f most) (λ e. sub-fits binary32 x _) (λ e. h)

-- the limit after it is a clamp at +0, which is a floor: so for the plain mix, and for the mix of a frame, whose sums
-- are treated first
lower_limited_unit : {A : Type 0} (g : A → Float) → ((a : A) → T (fits binary32 (g a))) → (l : List A)
    → InUnit (lower_limited (map g l))
unfolding lower_limited lowered
lower_limited_unit g fg l = simp map-map (each_clamped _ (λ a. lowered_fits _ _ (fg a)) zero_floor l).unit

pub plain_unit : (rows : List Row) (torque : List Float) (thrust : Float) → InUnit (plain_motors rows torque thrust)
unfolding plain_motors raw_sums raw_sum
plain_unit rows torque thrust = lower_limited_unit _ (λ row. add-fits binary32 _ _) rows

pub frame_unit : (rows : List Row) (torque : List Float) (thrust : Float) → InUnit (frame_motors rows torque thrust)
unfolding frame_motors raw_sums raw_sum
frame_unit rows torque thrust =
    simp map-map (lower_limited_unit _ (λ row. (treated_finite _ (add-fits binary32 _ _)).fits) rows)
