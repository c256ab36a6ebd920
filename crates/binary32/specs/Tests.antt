-- The tests for NaN and for finite of IEEE 754-2019, 5.7.2: into which class an operand falls, with a row for each, and
-- for each test the classes for which it is true. A number is subnormal or normal by its size in units of the smallest
-- value: under the least normal number 2 ^ emin, or from it on (3.3). Definitions only.
use Rattle.std.specs.Prelude.{◌≡◌, Bool, true, false, ◌≤◌, ◌<◌, Float}
use Rattle.std.specs.Float.{nan, inf, Format}
use Rattle.std.specs.Float.Ieee.Scale.{overflow}
use Rattle.binary32.specs.Whole.{magnitude}
use Rattle.binary32.specs.HalfUnit.{least_normal}
use Rattle.binary32.specs.Operations.{zero_of}

pub data Class : Type 0 where
  zeros subnormals normals infinities nans : Class

-- x falls into the class c. A size of the overflow bound, 2 ^ (emax + 1), is an infinity's, and no NaN has a size
-- (specs/Whole).
pub record FallsInto (f : Format) (x : Float) (c : Class) : Type 0 where
  pub zero : (s : Bool) → x ≡ zero_of s → c ≡ zeros
  pub subnormal : 0 < magnitude f x → magnitude f x < least_normal f → c ≡ subnormals
  pub normal : least_normal f ≤ magnitude f x → magnitude f x < overflow f → c ≡ normals
  pub infinite : (s : Bool) → x ≡ inf s → c ≡ infinities
  pub not_a_number : x ≡ nan → c ≡ nans

-- isFinite(x): "if and only if x is zero, subnormal or normal (not infinite or NaN)"
unfoldable pub finite_holds : Class → Bool
finite_holds zeros = true
finite_holds subnormals = true
finite_holds normals = true
finite_holds infinities = false
finite_holds nans = false

-- isNaN(x): "if and only if x is a NaN"
unfoldable pub nan_holds : Class → Bool
nan_holds zeros = false
nan_holds subnormals = false
nan_holds normals = false
nan_holds infinities = false
nan_holds nans = true
