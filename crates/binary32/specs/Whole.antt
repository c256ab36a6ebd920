-- A number of a format as a whole number of the format's smallest value: 2 ^ -149 at binary32, where every finite
-- number is such a multiple (document 01, its first paragraph; IEEE 754-2019, 3.3). Definitions only.
use Rattle.std.specs.Prelude.{◌≡◌, ℕ, ◌-◌, ◌*◌, ◌/◌, ◌^◌, ◌≤◌, ◌<◌, Bool, false, cond, ℤ, Float}
use Rattle.std.proofs.Math.IntN.{sub_ℕ}
use Rattle.std.specs.Float.{nan, inf, fin, Format}
use Rattle.std.specs.Float.Ieee.{prec, emax, up, down, low}
use Rattle.std.specs.Float.Ieee.Scale.{overflow}

-- The sizes of the numbers of a format, in units of the smallest value, as 3.3 has them: a whole number of at most prec
-- binary digits, times a power of two from 2 ^ 0 to 2 ^ (emax - emin). emin is 1 - emax. No definition rests on this
-- one: proofs/Values shows that the numbers that the kit's `fits` accepts have just these sizes.
pub record Representable (f : Format) (n : ℕ) : Type 0 where
  pub digits : ℕ
  pub shift : ℕ
  pub few : digits < 2 ^ prec f
  pub reach : shift ≤ 2 * emax f - 1
  pub is : n ≡ digits * 2 ^ shift

-- whether the sign is a minus: -0 has one, a NaN has none
unfoldable pub negative : Float → Bool
negative nan = false
negative (inf s) = s
negative (fin s m e) = s

-- The size of x in units of the smallest value. An infinity counts as the overflow bound, 2 ^ (emax + 1), which lies
-- over every finite number; a NaN, which is no number, counts as nothing.
unfoldable pub magnitude : Format → Float → ℕ
magnitude f nan = 0
magnitude f (inf s) = overflow f
magnitude f (fin s m e) = m * up e * 2 ^ low f / down e

-- what x counts over zero, and what it counts under zero: one of the two is 0
unfoldable pub over : Format → Float → ℕ
over f x = cond (negative x) 0 (magnitude f x)

unfoldable pub under : Format → Float → ℕ
under f x = cond (negative x) (magnitude f x) 0

-- x as a signed whole number of units
unfoldable pub whole_of : Format → Float → ℤ
whole_of f x = sub_ℕ (over f x) (under f x)
