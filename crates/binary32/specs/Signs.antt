-- The operations on signs of IEEE 754-2019, 5.5.1: negate reverses the sign and abs makes it positive, and neither
-- changes anything else. What is said of both is one record, with a row for each case: z is x with its sign s changed
-- to `change s`. There is one NaN here, with no sign (lib.Ieee). Definitions only.
use Rattle.std.specs.Prelude.{◌≡◌, Bool, false, not, T, Float}
use Rattle.std.specs.Float.{nan, inf, Format}
use Rattle.std.specs.Float.Ieee.{fits}
use Rattle.std.specs.Float.Ieee.Scale.{finite}
use Rattle.binary32.specs.Whole.{negative, magnitude}
use Rattle.binary32.specs.Operations.{zero_of}

pub record SignChanged (f : Format) (change : Bool → Bool) (x z : Float) : Type 0 where
  -- a zero has a sign like any other number
  pub zero : (s : Bool) → x ≡ zero_of s → z ≡ zero_of (change s)
  -- a finite number: z is finite, of the same size
  pub number : T (finite x) → T (finite z)
  pub size : T (finite x) → magnitude f z ≡ magnitude f x
  pub sign : T (finite x) → negative z ≡ change (negative x)
  pub infinite : (s : Bool) → x ≡ inf s → z ≡ inf (change s)
  pub not_a_number : x ≡ nan → z ≡ nan
  -- "in the same format": what holds x holds z
  pub held : T (fits f x) → T (fits f z)

-- negate(x), Rust's -x: the sign is reversed
abbrev pub Negation : Format → Float → Float → Type 0
Negation f x z = SignChanged f not x z

-- abs(x): the sign is made positive
abbrev pub AbsoluteValue : Format → Float → Float → Type 0
AbsoluteValue f x z = SignChanged f (λ s. false) x z
