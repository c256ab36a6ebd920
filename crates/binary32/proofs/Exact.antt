-- The laws of this crate in the words of specs/, for a reader: `whole_of`, `rounding`, `RoundsTo` and the order of the
-- integers. The comparisons are those of whole numbers; rounding keeps the order; a value of the format is its own
-- rounding; and what each operation gives is what IEEE 754-2019, 4.3.1, has delivered for the exact result, a fraction
-- of the operands' whole numbers. A quotient's numerator and denominator are both multiplied by the divisor, so that
-- the denominator is over zero. Assumes nothing.
use mathlib.Core.Path.{◌≡◌, refl, sym, ap, ◌∙◌}
use Prim.Native.Nat.{ℕ, ◌+◌, ◌*◌, ◌^◌, ◌<◌}
use native.Mathlib.Nat.{mul-pos, mul_assoc, mul_right_comm, mul-zero, add-zero, zero-add}
use native.Mathlib.Omega.{arith}
use mathlib.Core.Bool.{Bool, true, false}
use borrow.Author.Tests.{eqb-true, le-leb}
use lib.Pow.{pow_pos}
use lib.IntN.{ℤ, pos, ◌+ℤ◌, ◌-ℤ◌, ◌*ℤ◌}
use lib.Signed.{◌≤ℤ◌, lt_z, le_z}
use lib.Ieee.{Float, Format, low, add, sub, mul, div, lt, le, eq}
use Rattle.binary32.specs.Whole.{negative, magnitude, over, under, whole_of}
use Rattle.binary32.specs.Rounding.{rounding}
use Rattle.binary32.specs.Nearest.{RoundsTo}
use Rattle.binary32.proofs.Magnitude.{Number, Finite}
use Rattle.binary32.proofs.Order.{lt_whole, le_whole, eq_whole}
use Rattle.binary32.proofs.RoundedSize.{over_positive, under_positive, over_negative, under_negative}
use Rattle.binary32.proofs.Rounded.{Rounded, by_fraction, rounded_order, own_rounding}
use Rattle.binary32.proofs.Integers.{own_pair, whole_difference, order_of, lt_test, le_test, same_integer}
use Rattle.binary32.proofs.Integers.{rounding_rounded, sum_of, negated_of, product_of, times_of, is_rounding}
use Rattle.binary32.proofs.Operations.{add_rounded, sub_rounded, mul_rounded, div_rounded}
use Rattle.binary32.proofs.Delivered.{rounds_to, determined, rounding_delivered}

-- ---- the comparisons are those of the whole numbers, and two numbers are equal where their whole numbers are

pub lt_exact : {f : Format} {x y : Float} → Number f x → Number f y → lt x y ≡ lt_z (whole_of f x) (whole_of f y)
lt_exact {f} {x} {y} hx hy = lt_whole hx hy ∙ lt_test (whole_difference f x) (whole_difference f y)

pub le_exact : {f : Format} {x y : Float} → Number f x → Number f y → le x y ≡ le_z (whole_of f x) (whole_of f y)
le_exact {f} {x} {y} hx hy = le_whole hx hy ∙ le_test (whole_difference f x) (whole_difference f y)

pub eq_exact : {f : Format} {x y : Float} → Number f x → Number f y → eq x y ≡ true → whole_of f x ≡ whole_of f y
eq_exact {f} {x} {y} hx hy e =
    same_integer (whole_difference f x) (whole_difference f y)
    (eqb-true (over f x + under f y) (over f y + under f x) (sym (eq_whole hx hy) ∙ e))

-- ---- rounding keeps the order, of fractions multiplied out, and a value of the format is its own rounding

pub rounding_order : (f : Format) (z w : ℤ) (c d : ℕ) → 0 < c → 0 < d → (z *ℤ pos d) ≤ℤ (w *ℤ pos c)
    → le (rounding f z c) (rounding f w d) ≡ true
rounding_order f z w c d C D h =
    let in_order = order_of (times_of (own_pair z) d) (times_of (own_pair w) c) h in
    let first = rounding_rounded f c (own_pair z) C in
    let second = rounding_rounded f d (own_pair w) D in
    le_whole first.number second.number ∙ le-leb _ _ (rounded_order first second C D (omega arith))

pub rounding_own : {f : Format} {x : Float} → Finite f x → eq x (rounding f (whole_of f x) 1) ≡ true
rounding_own {f} {x} h = is_rounding (own_rounding h) (whole_difference f x) (pow_pos 0)

-- ---- what is delivered for an exact result is its `rounding`

pub delivered_rounding : {f : Format} {z : Float} {w : ℤ} {c : ℕ} → 0 < c → RoundsTo f w c z
    → eq z (rounding f w c) ≡ true
delivered_rounding {f} {w} {c} C r = determined C r (rounding_delivered f w c C)

-- ---- sums, differences, products

pub add_delivered : {f : Format} {x y : Float} → Finite f x → Finite f y
    → RoundsTo f (whole_of f x +ℤ whole_of f y) 1 (add f x y)
add_delivered {f} {x} {y} hx hy =
    rounds_to (add_rounded hx hy) (sum_of (whole_difference f x) (whole_difference f y)) (pow_pos 0)

pub sub_delivered : {f : Format} {x y : Float} → Finite f x → Finite f y
    → RoundsTo f (whole_of f x -ℤ whole_of f y) 1 (sub f x y)
sub_delivered {f} {x} {y} hx hy =
    rounds_to (sub_rounded hx hy) (sum_of (whole_difference f x) (negated_of (whole_difference f y))) (pow_pos 0)

pub mul_delivered : {f : Format} {x y : Float} → Finite f x → Finite f y
    → RoundsTo f (whole_of f x *ℤ whole_of f y) (2 ^ low f) (mul f x y)
mul_delivered {f} {x} {y} hx hy =
    rounds_to (mul_rounded hx hy) (product_of (whole_difference f x) (whole_difference f y)) (pow_pos (low f))

-- ---- quotients

-- (a - b) * l over y is (a * y - b * y) * l over y * y
widened : (a b y l p n : ℕ) → p ≡ a * y → n ≡ b * y → a * l * (y * y) + n * l * y ≡ p * l * y + b * l * (y * y)
widened a b y l p n hp hn =
    let regroup : (c : ℕ) → c * y * l * y ≡ c * l * (y * y) =
    λ c. ap (λ (n : ℕ). n * y) (mul_right_comm c y l) ∙ mul_assoc (c * l) y y in
    simp (hp, hn) (omega (arith, regroup a, regroup b))

-- the divisor's sign chooses which part of the dividend counts over zero, and so does the product's
module _ {f : Format} {x y : Float} (hx : Finite f x) (hy : Finite f y) (h : 0 < magnitude f y) where
  quotient : (a b : ℕ) → Rounded f (div f x y) (a * 2 ^ low f) (b * 2 ^ low f) (magnitude f y)
      → over f x * over f y + under f x * under f y ≡ a * magnitude f y
      → over f x * under f y + under f x * over f y ≡ b * magnitude f y
      → RoundsTo f (whole_of f x *ℤ whole_of f y *ℤ pos (2 ^ low f)) (magnitude f y * magnitude f y) (div f x y)
  quotient a b r p n =
      let L = 2 ^ low f in
      let P = over f x * over f y + under f x * under f y in
      let N = over f x * under f y + under f x * over f y in
      let two = mul-pos h h in
      rounds_to
      (by_fraction r (P * L) (N * L) (magnitude f y * magnitude f y) h two (widened a b (magnitude f y) L P N p n))
      (times_of (product_of (whole_difference f x) (whole_difference f y)) L) two

  by_sign : (s : Bool) → negative y ≡ s
      → RoundsTo f (whole_of f x *ℤ whole_of f y *ℤ pos (2 ^ low f)) (magnitude f y * magnitude f y) (div f x y)
  by_sign false s =
      quotient (over f x) (under f x) (simp s at (div_rounded hx hy h))
      (simp (over_positive f y s, under_positive f y s, mul-zero, add-zero))
      (simp (over_positive f y s, under_positive f y s, mul-zero, zero-add))
  by_sign true s =
      quotient (under f x) (over f x) (simp s at (div_rounded hx hy h))
      (simp (over_negative f y s, under_negative f y s, mul-zero, zero-add))
      (simp (over_negative f y s, under_negative f y s, mul-zero, add-zero))

  pub div_delivered : RoundsTo f (whole_of f x *ℤ whole_of f y *ℤ pos (2 ^ low f))
      (magnitude f y * magnitude f y) (div f x y)
  div_delivered = by_sign (negative y) refl
