-- Comparison as IEEE 754-2019 has it: which of four relations holds of two operands, with a row for each case of 5.11
-- and of 6.1, and for each predicate of 5.6.1 the relations for which it is true. The standard's flags, in which alone
-- its quiet and its signaling predicates differ, are not spoken of. Definitions only.
use Rattle.std.specs.Prelude.{◌≡◌, Bool, true, false, ◌||◌, T, ◌<ℤ◌, Float}
use Rattle.std.specs.Float.{inf, Format}
use Rattle.std.specs.Float.Ieee.{is_nan}
use Rattle.std.specs.Float.Ieee.Scale.{finite}
use Rattle.binary32.specs.Whole.{whole_of}

-- 5.11: "four mutually exclusive relations"
pub data Relation : Type 0 where
  less equal greater unordered : Relation

-- x stands in the relation r to y
pub record Compares (f : Format) (x y : Float) (r : Relation) : Type 0 where
  -- 5.11: finite numbers by their exact values, in whole units: -0 and +0 are both 0, so the sign of a zero is ignored
  pub finite_less : T (finite x) → T (finite y) → whole_of f x <ℤ whole_of f y → r ≡ less
  pub finite_equal : T (finite x) → T (finite y) → whole_of f x ≡ whole_of f y → r ≡ equal
  pub finite_greater : T (finite x) → T (finite y) → whole_of f y <ℤ whole_of f x → r ≡ greater
  -- 5.11: infinities of the same sign are equal
  pub infinite_equal : (s : Bool) → x ≡ inf s → y ≡ inf s → r ≡ equal
  -- 6.1: -∞ is less than every finite number, and every finite number less than +∞
  pub minus_infinity_first : x ≡ inf true → T (finite y) → r ≡ less
  pub plus_infinity_second : T (finite x) → y ≡ inf false → r ≡ less
  pub minus_then_plus : x ≡ inf true → y ≡ inf false → r ≡ less
  pub plus_infinity_first : x ≡ inf false → T (finite y) → r ≡ greater
  pub minus_infinity_second : T (finite x) → y ≡ inf true → r ≡ greater
  pub plus_then_minus : x ≡ inf false → y ≡ inf true → r ≡ greater
  -- 5.11: a NaN is unordered with everything, itself included
  pub not_a_number : T (is_nan x || is_nan y) → r ≡ unordered

-- 5.6.1 and the tables of 5.11: the predicates by the relation. Of `unordered` only "not equal" holds.

-- x = y, Rust's `==`
unfoldable pub equal_holds : Relation → Bool
equal_holds less = false
equal_holds equal = true
equal_holds greater = false
equal_holds unordered = false

-- x ≠ y, Rust's `!=`
unfoldable pub not_equal_holds : Relation → Bool
not_equal_holds less = true
not_equal_holds equal = false
not_equal_holds greater = true
not_equal_holds unordered = true

-- x < y
unfoldable pub less_holds : Relation → Bool
less_holds less = true
less_holds equal = false
less_holds greater = false
less_holds unordered = false

-- x ≤ y, Rust's `<=`
unfoldable pub less_equal_holds : Relation → Bool
less_equal_holds less = true
less_equal_holds equal = true
less_equal_holds greater = false
less_equal_holds unordered = false

-- x > y
unfoldable pub greater_holds : Relation → Bool
greater_holds less = false
greater_holds equal = false
greater_holds greater = true
greater_holds unordered = false

-- x ≥ y, Rust's `>=`
unfoldable pub greater_equal_holds : Relation → Bool
greater_equal_holds less = false
greater_equal_holds equal = true
greater_equal_holds greater = true
greater_equal_holds unordered = false
