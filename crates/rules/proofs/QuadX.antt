-- `quad_x` agrees with plain (document 01, 'Any airframe'): "`quad_x` agrees in its first four, by bits, with plain
-- whenever no raw sum of plain is +infinity." It is a law of any frame with further rows: no raw sum of the frame is a
-- NaN or +infinity, and the treated sum of no further row is over 1. Treating then changes -infinity alone, to +0, and
-- neither that nor the further sums change by how much all are lowered. Assumes nothing.
use mathlib.Core.Path.{◌≡◌, refl, sym, ap, ◌∙◌}
use mathlib.Core.Bool.{Bool, true, false}
use mathlib.Core.List.{List, [], ◌∷◌, ◌++◌, map, map-map}
use Prim.Native.Nat.{ℕ}
use native.Mathlib.Omega.{arith}
use lib.Dec.{T}
use lib.ListN.{length, get_or, take, replicate}
use lib.Ieee.{Float, nan, inf, fin, binary32, fits, is_nan, lt, le, neg, add, sub, of_bits}
use lib.Ieee.Fits.{add-fits}
use Rattle.binary32.specs.Arithmetic.{◌-f◌, 0f, 1f}
use Rattle.binary32.proofs.Magnitude.{Number, Finite, finite_number}
use Rattle.binary32.proofs.Comparison.{less_le, le_refl, le_trans, not_under, not_over, units_le}
use Rattle.binary32.proofs.Rounded.{Exactly}
use Rattle.binary32.proofs.Operations.{sub_rounded}
use Rattle.binary32.proofs.Range.{zero_finite, one_finite, zero_number, one_number, zero_over, zero_under}
use Rattle.binary32.proofs.Zero.{zero_product, zero_sum, difference_under, difference_over}
use Rattle.number.specs.Treat.{treated, floor_clamp}
use Rattle.number.proofs.Choice.{by_test}
use Rattle.rules.specs.Rows.{Row, no_row, quad_rows, quad_x_rows}
use Rattle.rules.specs.Command.{roll, pitch, yaw}
use Rattle.rules.specs.Extremes.{larger, walked, best, largest}
use Rattle.rules.specs.Plain.{raw_sum, raw_sums, lowered_by, lowered, lower_limited, plain_motors}
use Rattle.rules.specs.Frame.{frame_motors}
use Rattle.general.specs.Each.{Each}
use Rattle.rules.specs.Promises.{NotInfinity}
use Rattle.general.proofs.Lists.{each_mapped, each_of_map, each_map, each_same, take_mapped}
use Rattle.rules.proofs.Clamp.{zero_floor, treated_finite, treated_stays, clamp_under, clamp_stays}
use Rattle.rules.proofs.Extremes.{NoNan, largest_is, largest_with_first}
use Rattle.rules.proofs.Plain.{plain_no_nan}

-- ---- the raw sums: no NaN and not +infinity, so finite or -infinity

-- x is finite, or the least of all numbers
data FiniteOrLeast (x : Float) : Type 0 where
  is_finite : Finite binary32 x → FiniteOrLeast x
  is_least : x ≡ inf true → FiniteOrLeast x

finite_or_least : (x : Float) → T (fits binary32 x) → NoNan x → NotInfinity x → FiniteOrLeast x
unfolding is_nan
finite_or_least nan h n i = absurd n
finite_or_least (inf true) h n i = is_least refl
finite_or_least (inf false) h n i = absurd (i refl)
finite_or_least (fin s m e) h n i = is_finite (record { fits = h; finite = tt })

-- either way it is a number
least_number : Number binary32 (inf true)
unfolding fits is_nan
least_number = record { fits = tt; number = tt }

number_of : {x : Float} → FiniteOrLeast x → Number binary32 x
number_of (is_finite h) = finite_number h
number_of (is_least e) = rw e least_number

-- ---- 1 put first: only what is over 1 lowers, so that the numbers may be taken with 1 before them

-- one motor, given the largest
abbrev motor_of : Float → Float → Float
motor_of most x = floor_clamp (lowered_by most x) 0f

-- the larger of 1 and the largest lowers as the largest does
lowered_from_one : (most x : Float) → lowered_by (larger 1f most) x ≡ lowered_by most x
unfolding lowered_by larger
lowered_from_one most x = go (lt 1f most) refl
  where
    go : (b : Bool) → lt 1f most ≡ b → lowered_by (larger 1f most) x ≡ lowered_by most x
    go true e = rw (e, e)
    go false e = rw (e, not_over one_number one_number (le_refl one_number))

-- so the motors may be made with the largest of 1 and the numbers
limited_from_one : (xs : List Float) → Each (Number binary32) xs
    → lower_limited xs ≡ map (λ x. motor_of (largest (1f ∷ xs)) x) xs
unfolding lower_limited lowered
limited_from_one [] ns = refl
limited_from_one (x ∷ xs) ns =
    simp map-map
    (sym (ap (λ (most : Float). map (λ y. motor_of most y) (x ∷ xs)) (largest_with_first x xs one_number ns)
    ∙ from_one (largest (x ∷ xs)) (x ∷ xs)))
  where
    from_one : (most : Float) (l : List Float) → map (λ y. motor_of (larger 1f most) y) l ≡ map (λ y. motor_of most y) l
    from_one most l = simp lowered_from_one

-- ---- a walk from 1 holds 1 or more, which nothing that is not over 1 takes the place of

-- held is 1 or more
record FromOne (held : Float) : Type 0 where
  number : Number binary32 held
  from : le 1f held ≡ true

one_from_one : FromOne 1f
one_from_one = record { number = one_number; from = le_refl one_number }

-- a step of the walk keeps it so
larger_from_one : {held x : Float} → FromOne held → Number binary32 x → FromOne (larger held x)
unfolding larger
larger_from_one {held} {x} h n =
    by_test FromOne (lt held x)
    (λ e. record { number = n; from = le_trans one_number h.number n h.from (less_le held x e) }) (λ e. h)

-- and what is not over 1 changes nothing
kept : {held x : Float} → FromOne held → Number binary32 x → lt 1f x ≡ false → larger held x ≡ held
unfolding larger
kept {held} {x} h n e =
    rw (not_over n h.number (le_trans n one_number h.number (not_under one_number n e) h.from))

-- -infinity is not over 1, and is treated to +0
least_not_over_one : lt 1f (inf true) ≡ false
unfolding lt of_bits
least_not_over_one = refl

treated_least : treated (inf true) ≡ 0f
unfolding treated
treated_least = refl

-- so to a walk from 1 it is all one whether a raw sum is treated
same_step : {held x : Float} → FromOne held → FiniteOrLeast x → larger held (treated x) ≡ larger held x
same_step {held} h (is_finite k) = ap (larger held) (treated_stays k)
same_step {held} h (is_least e) =
    rw (e, treated_least) (kept h zero_number (not_over zero_number one_number zero_floor.between.to)
    ∙ sym (kept h least_number least_not_over_one))

-- ---- a motor is the same, too: -infinity gives +0, and so does the +0 that it is treated to

-- -infinity, whatever is taken from it, is not finite
least_clamped : (d : Float) → floor_clamp (inf true -f d) 0f ≡ 0f
unfolding floor_clamp sub add neg
least_clamped nan = refl
least_clamped (inf true) = refl
least_clamped (inf false) = refl
least_clamped (fin s m e) = refl

-- so a motor whose raw sum it is gets +0
least_motor : (most : Float) → motor_of most (inf true) ≡ 0f
unfolding lowered_by floor_clamp
least_motor most = by_test (λ x. floor_clamp x 0f ≡ 0f) (lt 1f most) (λ e. least_clamped (most -f 1f)) (λ e. refl)

-- what is over zero, taken from +0, leaves what is under the floor
less_clamped : (d : Float) → Number binary32 d → lt 0f d ≡ true → floor_clamp (0f -f d) 0f ≡ 0f
unfolding is_nan floor_clamp sub add neg of_bits
less_clamped nan n l = absurd n.number
less_clamped (inf s) n l = refl
less_clamped (fin s m e) n l =
    clamp_under _ 0f (difference_under zero_finite (record { fits = n.fits; finite = tt }) l)

-- so a motor whose treated sum is +0 gets +0, too
zero_motor : (most : Float) → FiniteOrLeast most → motor_of most 0f ≡ 0f
unfolding lowered_by
zero_motor most (is_finite h) =
    by_test (λ x. floor_clamp x 0f ≡ 0f) (lt 1f most)
    (λ e. less_clamped (most -f 1f) (sub_rounded h one_finite).number (difference_over h one_finite e))
    (λ e. clamp_stays zero_floor zero_floor)
zero_motor most (is_least e) = rw (e, least_not_over_one) (clamp_stays zero_floor zero_floor)

-- so to a motor it is all one as well
same_motor : {most x : Float} → FiniteOrLeast most → FiniteOrLeast x → motor_of most (treated x) ≡ motor_of most x
same_motor {most} hm (is_finite h) = ap (motor_of most) (treated_stays h)
same_motor {most} hm (is_least e) = rw (e, treated_least) (zero_motor most hm ∙ sym (least_motor most))

-- ---- a frame, and further rows: here of anything that has a sum

module _ {A : Type 0} (sum : A → Float) where
  abbrev treated_sum : A → Float
  treated_sum a = treated (sum a)

  module _ (held : (a : A) → T (fits binary32 (sum a))) where
    each_finite_or_least : (l : List A) → Each NoNan (map sum l) → Each NotInfinity (map sum l)
        → Each (λ a. FiniteOrLeast (sum a)) l
    each_finite_or_least [] n i = tt
    each_finite_or_least (a ∷ l) n i =
        (finite_or_least (sum a) (held a) n.0 i.0, each_finite_or_least l n.1 i.1)

    treated_number : (a : A) → Number binary32 (treated_sum a)
    treated_number a = finite_number (treated_finite (sum a) (held a))

    -- two walks that hold the same, 1 or more: over the treated sums of all, and over the raw sums of the frame
    same_walk : {h : Float} → FromOne h → (l m : List A) → Each (λ a. FiniteOrLeast (sum a)) l
        → Each (λ a. lt 1f (treated_sum a) ≡ false) m
        → walked larger h (map treated_sum (l ++ m)) ≡ walked larger h (map sum l)
    unfolding walked
    same_walk {h = k} h [] [] ls ms = refl
    same_walk {h = k} h [] (a ∷ m) ls ms =
        ap (λ (g : Float). walked larger g (map treated_sum m)) (kept h (treated_number a) ms.0)
        ∙ same_walk {h = k} h [] m tt ms.1
    same_walk {h = k} h (a ∷ l) m ls ms =
        ap (λ (g : Float). walked larger g (map treated_sum (l ++ m))) (same_step h ls.0)
        ∙ same_walk {h = larger k (sum a)} (larger_from_one h (number_of ls.0)) l m ls.1 ms

    -- so the frame's own motors are those of its raw sums
    same_motors : (l m : List A) → Each (λ a. FiniteOrLeast (sum a)) l → Each (λ a. lt 1f (treated_sum a) ≡ false) m
        → take (length l) (lower_limited (map treated_sum (l ++ m))) ≡ lower_limited (map sum l)
    unfolding best
    same_motors l m ls ms =
        let most = largest (1f ∷ map sum l) in
        let most_is : FiniteOrLeast most =
        largest_is FiniteOrLeast 1f (map sum l) (is_finite one_finite, each_map _ FiniteOrLeast sum (λ a h. h) l ls) in
        let raw = limited_from_one (map sum l) (each_map _ (Number binary32) sum (λ a h. number_of h) l ls) in
        let all =
        limited_from_one (map treated_sum (l ++ m))
        (each_mapped (Number binary32) treated_sum treated_number (l ++ m)) in
        rw (raw, all, same_walk one_from_one l m ls ms) (simp (map-map, take_mapped)
        (each_same _ (λ a. motor_of most (treated_sum a)) (λ a. motor_of most (sum a)) (λ a h. same_motor most_is h)
        l ls))

-- ---- the frame's mix, with further rows, agrees with plain on the frame

pub frame_agrees : (rows more : List Row) (torque : List Float) (thrust : Float)
    → Each NoNan (raw_sums rows torque thrust) → Each NotInfinity (raw_sums rows torque thrust)
    → Each (λ x. lt 1f (treated x) ≡ false) (raw_sums more torque thrust)
    → take (length rows) (frame_motors (rows ++ more) torque thrust) ≡ plain_motors rows torque thrust
unfolding frame_motors plain_motors raw_sums raw_sum
frame_agrees rows more torque thrust n i z =
    let sum : Row → Float = raw_sum (treated thrust) (roll torque) (pitch torque) (yaw torque) in
    let fit : (row : Row) → T (fits binary32 (sum row)) = λ row. add-fits binary32 _ _ in
    rw map-map (same_motors sum fit rows more (each_finite_or_least sum fit rows n i)
    (each_of_map (λ x. lt 1f (treated x) ≡ false) sum more z))

-- ---- a row of +0 has a sum of zeros, which is not over 1

-- the sum of a row of +0 is a zero, of either sign
zero_row : {t r p y : Float} → Finite binary32 t → Finite binary32 r → Finite binary32 p → Finite binary32 y
    → Exactly binary32 (raw_sum t r p y no_row) 0
unfolding raw_sum
zero_row t r p y = zero_sum (zero_sum (zero_sum (zero_product t) (zero_product r)) (zero_product p)) (zero_product y)

-- and a zero, treated, is not over 1
exact_zero_not_over_one : {z : Float} → Exactly binary32 z 0 → lt 1f (treated z) ≡ false
exact_zero_not_over_one {z} h =
    let n = finite_number h.finite in
    let low : le z 0f ≡ true = units_le n zero_number (omega (arith, zero_over, zero_under)) in
    rw (treated_stays h.finite)
    (not_over n one_number (le_trans n zero_number one_number low zero_floor.between.to))

-- ---- `quad_x`

pub quad_x_agrees : (torque : List Float) (thrust : Float) → ((k : ℕ) → T (fits binary32 (get_or torque k nan)))
    → T (fits binary32 thrust)
    → Each NotInfinity (raw_sums quad_rows torque thrust)
    → take 4 (frame_motors quad_x_rows torque thrust) ≡ plain_motors quad_rows torque thrust
unfolding quad_rows quad_x_rows raw_sums
quad_x_agrees torque thrust fs ft i =
    let torque_finite : (k : ℕ) → Finite binary32 (treated (get_or torque k nan)) =
    λ k. treated_finite (get_or torque k nan) (fs k) in
    let zeros =
    exact_zero_not_over_one
    (zero_row (treated_finite thrust ft) (torque_finite 0) (torque_finite 1) (torque_finite 2)) in
    frame_agrees quad_rows (replicate 4 no_row) torque thrust (plain_no_nan torque thrust fs ft) i
    (zeros, (zeros, (zeros, (zeros, tt))))
