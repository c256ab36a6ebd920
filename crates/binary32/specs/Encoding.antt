-- The encoding of the binary formats, IEEE 754-2019, 3.4: a bit pattern as a natural number b under 2 ^ k, its three
-- fields, and what it encodes, with a row for each case of 3.4. There is one NaN here, with no sign and no payload
-- (lib.Ieee). Definitions only.
use Rattle.std.specs.Prelude.{◌≡◌, Bool, ℕ, ◌+◌, ◌-◌, ◌*◌, ◌/◌, ◌%◌, ◌^◌, ◌<◌, T, eqb, Float}
use Rattle.std.specs.Float.{nan, inf, Format, binary32, binary64}
use Rattle.std.specs.Float.Ieee.{low, fits}
use Rattle.std.specs.Float.Ieee.Scale.{finite}
use Rattle.binary32.specs.Whole.{negative, magnitude}
use Rattle.binary32.specs.Operations.{zero_of}

-- Table 3.5: k, the width of the pattern in bits
unfoldable pub width : Format → ℕ
width binary32 = 32
width binary64 = 64

-- w, the width of the exponent's field
unfoldable pub exponent_width : Format → ℕ
exponent_width binary32 = 8
exponent_width binary64 = 11

-- t, the width of the trailing significand's field: p - 1, as the leading digit is not written
unfoldable pub trailing_width : Format → ℕ
trailing_width binary32 = 23
trailing_width binary64 = 52

-- bias, which is emax: the field E is the exponent e plus the bias
unfoldable pub bias : Format → ℕ
bias binary32 = 127
bias binary64 = 1023

-- the fields from the top: S of one bit, E of w bits, T of t bits
unfoldable pub sign_field : Format → ℕ → ℕ
sign_field f b = b / 2 ^ (exponent_width f + trailing_width f)

unfoldable pub exponent_field : Format → ℕ → ℕ
exponent_field f b = b / 2 ^ trailing_width f % 2 ^ exponent_width f

unfoldable pub trailing_field : Format → ℕ → ℕ
trailing_field f b = b % 2 ^ trailing_width f

-- whether (-1) ^ S is negative
unfoldable pub sign_set : Format → ℕ → Bool
sign_set f b = eqb (sign_field f b) 1

-- an E of all ones, 2 ^ w - 1: 255 at binary32, 2047 at binary64
unfoldable pub all_ones : Format → ℕ
all_ones f = 2 ^ exponent_width f - 1

-- x is the number of the format that has the sign s and the value n / (2 ^ bias * 2 ^ (p - 1)). The size of x is in
-- units of 2 ^ -low, so both sides are multiplied by 2 ^ low, and by the divisor.
pub record Value (f : Format) (s : Bool) (n : ℕ) (x : Float) : Type 0 where
  pub held : T (fits f x)
  pub number : T (finite x)
  pub sign : negative x ≡ s
  pub size : magnitude f x * (2 ^ bias f * 2 ^ trailing_width f) ≡ n * 2 ^ low f

-- the pattern b encodes x
pub record Encodes (f : Format) (b : ℕ) (x : Float) : Type 0 where
  -- a) E all ones, T not 0: a NaN
  pub not_a_number : exponent_field f b ≡ all_ones f → 0 < trailing_field f b → x ≡ nan
  -- b) E all ones, T 0: (-1) ^ S * ∞
  pub infinite : exponent_field f b ≡ all_ones f → trailing_field f b ≡ 0 → x ≡ inf (sign_set f b)
  -- c) E from 1 to 2 ^ w - 2: (-1) ^ S * 2 ^ (E - bias) * (1 + 2 ^ (1 - p) * T)
  pub normal : 0 < exponent_field f b → exponent_field f b < all_ones f
      → Value f (sign_set f b) (2 ^ exponent_field f b * (2 ^ trailing_width f + trailing_field f b)) x
  -- d) E 0, T not 0: (-1) ^ S * 2 ^ emin * (0 + 2 ^ (1 - p) * T), emin being 1 - bias
  pub subnormal : exponent_field f b ≡ 0 → 0 < trailing_field f b
      → Value f (sign_set f b) (2 ^ 1 * trailing_field f b) x
  -- e) E 0, T 0: (-1) ^ S * 0
  pub zero : exponent_field f b ≡ 0 → trailing_field f b ≡ 0 → x ≡ zero_of (sign_set f b)
