-- The laws of `specs/Range.antt`. What lies between two finite numbers is finite; at binary32, a number that lies in
-- 0..1 is a factor by which a product gets no larger; and that an exact sum lies in a range, said over natural numbers.
-- Assumes nothing.
use mathlib.Core.Path.{◌≡◌, refl, ap, ◌∙◌}
use mathlib.Core.Bool.{Bool, true, false, false≢true}
use Prim.Native.Nat.{◌+◌, ◌^◌, ◌≤◌}
use native.Mathlib.Nat.{le_of_eq, le_trans}
use native.Mathlib.Omega.{arith}
use lib.Dec.{T}
use lib.Ieee.{Float, nan, inf, fin, Format, binary32, low, fits, is_nan, le, of_bits}
use lib.Ieee.Bits.{of_bits-fits}
use lib.Ieee.Scale.{finite}
use Rattle.binary32.specs.Arithmetic.{0f, 1f}
use Rattle.binary32.specs.Whole.{negative, magnitude, over, under}
use Rattle.binary32.specs.Range.{Between, exact_sum, SumWithin}
use Rattle.binary32.proofs.Magnitude.{Number, Finite, finite_number}
use Rattle.binary32.proofs.Comparison.{le_number, le_units}
use Rattle.binary32.proofs.RoundedSize.{over_negative, under_positive}
use Rattle.binary32.proofs.Integers.{Difference, whole_difference, sum_of, order_of}
use Rattle.binary32.proofs.Products.{Factor, one_is_unit, over_unit}

-- ---- the two ends

pub zero_finite : Finite binary32 0f
unfolding of_bits
zero_finite = record { fits = of_bits-fits binary32 0; finite = tt }

pub one_finite : Finite binary32 1f
unfolding of_bits
one_finite = record { fits = of_bits-fits binary32 0x3f80_0000; finite = tt }

pub zero_number : Number binary32 0f
zero_number = finite_number zero_finite

pub one_number : Number binary32 1f
one_number = finite_number one_finite

pub zero_over : over binary32 0f ≡ 0
unfolding over negative magnitude of_bits
zero_over = refl

pub zero_under : under binary32 0f ≡ 0
unfolding under negative of_bits
zero_under = refl

-- ---- what lies between two finite numbers is finite

over_minus_infinity : (x : Float) → T (finite x) → le x (inf true) ≡ true → ⊥
unfolding le
over_minus_infinity nan t h = absurd t
over_minus_infinity (inf s) t h = absurd t
over_minus_infinity (fin s m e) t h = false≢true h

under_infinity : (x : Float) → T (finite x) → le (inf false) x ≡ true → ⊥
unfolding le
under_infinity nan t h = absurd t
under_infinity (inf s) t h = absurd t
under_infinity (fin s m e) t h = false≢true h

pub between_finite : {lo hi x : Float} → T (finite lo) → T (finite hi) → Between lo hi x → T (finite x)
unfolding is_nan
between_finite {hi} {x = nan} tl th b = le_number nan hi b.to
between_finite {lo} {x = inf true} tl th b = over_minus_infinity lo tl b.from
between_finite {hi} {x = inf false} tl th b = under_infinity hi th b.to
between_finite {x = fin s m e} tl th b = tt

-- ---- what lies in 0..1 is a factor

not_negative : (f : Format) (s : Float) → under f s ≤ over f s → under f s ≡ 0
not_negative f s h = go (negative s) refl
  where
    go : (b : Bool) → negative s ≡ b → under f s ≡ 0
    go false n = under_positive f s n
    go true n = omega (arith, over_negative f s n)

pub factor : {s : Float} → T (fits binary32 s) → Between 0f 1f s → Factor binary32 s
factor {s} h b =
    let n : Number binary32 s = record { fits = h; number = le_number s 1f b.to } in
    let low_end : over binary32 0f + under binary32 s ≤ over binary32 s + under binary32 0f =
    le_units zero_number n b.from in
    let high_end : over binary32 s + under binary32 1f ≤ over binary32 1f + under binary32 s =
    le_units n one_number b.to in
    let from : under binary32 s ≡ 0 = not_negative binary32 s (omega (arith, zero_over, zero_under)) in
    let to : over binary32 s ≤ over binary32 1f = omega arith in
    let most : over binary32 s ≤ 2 ^ low binary32 =
    le_trans to (le_of_eq (ap (over binary32) one_is_unit ∙ over_unit binary32)) in
    record {
      number = record { fits = h; finite = between_finite zero_finite.finite one_finite.finite b };
      from = from;
      to = most;
    }

-- ---- the exact sum of two numbers lies in a range

sum_difference : (x y : Float)
    → Difference (exact_sum x y) (over binary32 x + over binary32 y) (under binary32 x + under binary32 y)
unfolding exact_sum
sum_difference x y = sum_of (whole_difference binary32 x) (whole_difference binary32 y)

pub sum_at_least : {lo hi x y : Float} → SumWithin lo hi x y
    → over binary32 lo + (under binary32 x + under binary32 y) ≤ over binary32 x + over binary32 y + under binary32 lo
sum_at_least {lo} {x} {y} w = order_of (whole_difference binary32 lo) (sum_difference x y) w.from

pub sum_at_most : {lo hi x y : Float} → SumWithin lo hi x y
    → over binary32 x + over binary32 y + under binary32 hi ≤ over binary32 hi + (under binary32 x + under binary32 y)
sum_at_most {hi} {x} {y} w = order_of (sum_difference x y) (whole_difference binary32 hi) w.to
