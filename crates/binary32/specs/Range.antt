-- What it means to lie in a range: for a number, and for the exact sum of two numbers at binary32. Definitions only.
use Rattle.std.specs.Prelude.{◌≡◌, true, T, ℤ, ◌+ℤ◌, ◌≤ℤ◌, Float}
use Rattle.std.specs.Float.{binary32}
use Rattle.std.specs.Float.Ieee.{le}
use Rattle.std.specs.Float.Ieee.Scale.{finite}
use Rattle.binary32.specs.Whole.{whole_of}

-- x lies from lo to hi, ends included, by the comparisons of IEEE 754-2019 (5.11): where lo and hi are finite, so is x,
-- and it is no NaN
pub record Between (lo hi x : Float) : Type 0 where
  pub from : le lo x ≡ true
  pub to : le x hi ≡ true

-- the sum of x and y, taken exactly: their whole numbers of 2 ^ -149 are added (document 01, its first paragraph)
unfoldable pub exact_sum : Float → Float → ℤ
exact_sum x y = whole_of binary32 x +ℤ whole_of binary32 y

-- x and y are finite, and their sum, taken exactly, lies from lo to hi, ends included (demand 3: "collective plus each
-- delta, taken exactly, lies in that range")
pub record SumWithin (lo hi x y : Float) : Type 0 where
  pub first : T (finite x)
  pub second : T (finite y)
  pub from : whole_of binary32 lo ≤ℤ exact_sum x y
  pub to : exact_sum x y ≤ℤ whole_of binary32 hi
