-- A fraction of whole numbers rounded to a format, to nearest, ties to even (IEEE 754-2019, 4.3.1), by the kit's
-- `round`: a way to find what `Nearest.antt` says in the standard's words (`rounding_delivered` in proofs/Delivered).
-- Definitions only.
use Rattle.std.specs.Prelude.{ℕ, suc, ◌*◌, ◌^◌, true, false, ℤ, pos, negsuc, Float}
use Rattle.std.specs.Float.{Format}
use Rattle.std.specs.Float.Ieee.{low, round}

-- The value of the format that z / c units round to, a unit being the format's smallest value and c over 0. At c = 1
-- it is a whole number of units rounded: an exact sum of two numbers, say. Products and quotients are fractions of
-- whole numbers, multiplied out.
unfoldable pub rounding : Format → ℤ → ℕ → Float
rounding f (pos n) c = round f false n (c * 2 ^ low f)
rounding f (negsuc n) c = round f true (suc n) (c * 2 ^ low f)
