-- The results that IEEE 754-2019 asks of the four operations of 5.4.1, rounding to nearest, ties to even, with a row
-- for each case: `Addition f x y z` says that z is what is delivered for x + y, and so on. For finite operands the
-- exact result is a fraction of whole numbers of units, which 4.3.1 rounds; the rows of infinities and NaN follow 6.1,
-- 6.2 and 7, the rows of signs 6.3. There is one NaN here, with no sign (lib.Ieee). The standard's flags and a NaN's
-- payload are not spoken of. Definitions only.
use Rattle.std.specs.Prelude.{◌≡◌, Bool, not, ◌&&◌, ◌||◌, ◌*◌, ◌^◌, ◌<◌, T, pos, ◌+ℤ◌, ◌*ℤ◌, Float}
use Rattle.std.specs.Float.{nan, inf, fin, Format}
use Rattle.std.specs.Float.Ieee.{low, is_nan, neg, unlike}
use Rattle.std.specs.Float.Ieee.Scale.{finite}
use Rattle.binary32.specs.Whole.{negative, magnitude, whole_of}
use Rattle.binary32.specs.Nearest.{RoundsTo}

-- a zero of the sign s
abbrev pub zero_of : Bool → Float
zero_of s = fin s 0 (pos 0)

-- x + y
pub record Addition (f : Format) (x y z : Float) : Type 0 where
  -- 4.3.1: the exact sum is rounded
  pub rounded : T (finite x) → T (finite y) → RoundsTo f (whole_of f x +ℤ whole_of f y) 1 z
  -- 6.3: a sum that is exactly zero is +0, but -0 where both are negative
  pub zero : T (finite x) → T (finite y) → whole_of f x +ℤ whole_of f y ≡ pos 0 → negative z
      ≡ (negative x && negative y)
  -- 6.1: an infinity plus a finite number, or plus itself, is that infinity
  pub infinite_first : (s : Bool) → x ≡ inf s → T (finite y) → z ≡ inf s
  pub infinite_second : (s : Bool) → T (finite x) → y ≡ inf s → z ≡ inf s
  pub infinite_both : (s : Bool) → x ≡ inf s → y ≡ inf s → z ≡ inf s
  -- 7.2: infinities that cancel
  pub invalid : (s : Bool) → x ≡ inf s → y ≡ inf (not s) → z ≡ nan
  -- 6.2: what has a NaN
  pub not_a_number : T (is_nan x || is_nan y) → z ≡ nan

-- x - y, which 6.3 has as x + (-y)
abbrev pub Subtraction : Format → Float → Float → Float → Type 0
Subtraction f x y z = Addition f x (neg y) z

-- x * y
pub record Multiplication (f : Format) (x y z : Float) : Type 0 where
  -- 4.3.1: the exact product is rounded. A product of two whole numbers of units is over 2 ^ low: the unit is 2 ^ -low.
  pub rounded : T (finite x) → T (finite y) → RoundsTo f (whole_of f x *ℤ whole_of f y) (2 ^ low f) z
  -- 6.3: negative where one operand is and the other is not
  pub sign : T (finite x) → T (finite y) → negative z ≡ unlike (negative x) (negative y)
  -- 6.1: an infinity times what is not zero
  pub infinite_first : (s : Bool) → x ≡ inf s → 0 < magnitude f y → z ≡ inf (unlike s (negative y))
  pub infinite_second : (s : Bool) → 0 < magnitude f x → y ≡ inf s → z ≡ inf (unlike (negative x) s)
  -- 7.2: zero times an infinity
  pub invalid_first : (s t : Bool) → x ≡ inf s → y ≡ zero_of t → z ≡ nan
  pub invalid_second : (s t : Bool) → x ≡ zero_of s → y ≡ inf t → z ≡ nan
  -- 6.2: what has a NaN
  pub not_a_number : T (is_nan x || is_nan y) → z ≡ nan

-- x / y
pub record Division (f : Format) (x y z : Float) : Type 0 where
  -- 4.3.1: the exact quotient is rounded. It is multiplied by 2 ^ low, which makes it units again; and both parts of
  -- the fraction by the divisor, so that the lower one is over zero.
  pub rounded : T (finite x) → T (finite y) → 0 < magnitude f y
      → RoundsTo f (whole_of f x *ℤ whole_of f y *ℤ pos (2 ^ low f)) (magnitude f y * magnitude f y) z
  -- 6.3: negative where one operand is and the other is not
  pub sign : T (finite x) → T (finite y) → 0 < magnitude f y → negative z ≡ unlike (negative x) (negative y)
  -- 6.1: an infinity divided by a finite number, and a finite number by an infinity
  pub infinite_first : (s : Bool) → x ≡ inf s → T (finite y) → z ≡ inf (unlike s (negative y))
  pub infinite_second : (s : Bool) → T (finite x) → y ≡ inf s → z ≡ zero_of (unlike (negative x) s)
  -- 7.3: a finite number that is not zero, divided by zero
  pub by_zero : (s : Bool) → T (finite x) → 0 < magnitude f x → y ≡ zero_of s → z ≡ inf (unlike (negative x) s)
  -- 7.2: zero by zero, an infinity by an infinity
  pub invalid_zeros : (s t : Bool) → x ≡ zero_of s → y ≡ zero_of t → z ≡ nan
  pub invalid_infinities : (s t : Bool) → x ≡ inf s → y ≡ inf t → z ≡ nan
  -- 6.2: what has a NaN
  pub not_a_number : T (is_nan x || is_nan y) → z ≡ nan
